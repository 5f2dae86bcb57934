-- An event that is read is spelled by its line.
use Rattle.std.proofs.Common.{ℕ, ◌≡◌, codes, List, ◌∷◌, ◌++◌}
use Rattle.std.proofs.Common.{Option, Some, None, ap, ◌∙◌, refl, subst, decimal}
use Rattle.std.specs.Option.{option_and_then, option_map}
use Rattle.std.specs.Str.{bytes_eq}
use Rattle.std.proofs.lemmas.Option.{cond_some}
use Rattle.std.proofs.lemmas.Slice.Eq.{bytes_eq-Decides}
use Rattle.script_grammar.specs.declared.names.Name.{Name}
use Rattle.script_grammar.specs.declared.names.Name.TheVariants as name
use Rattle.script_grammar.specs.declared.operands.Numbered.{Numbered}
use Rattle.script_grammar.specs.Caps.{caps_in}
use Rattle.script_grammar.specs.Events.{Event, Spawn, Line, Take, Deaf, Gone, Peer, Up, Down, Refresh, Cut, Drain}
use Rattle.script_grammar.specs.Events.{Control, Reload}
use Rattle.script_grammar.specs.Laws.{EventsAreSpelled, EventsHaveSlots, HasSlot}
use Rattle.script_grammar.specs.Reading.{event_from, event_in, helper_line, is_path, line_by, line_in, line_of}
use Rattle.script_grammar.specs.Reading.{named_event, neighbor_in, numbered_in, refresh_in, refresh_of, reload_in}
use Rattle.script_grammar.specs.Reading.{up_in, up_of}
use Rattle.script_grammar.specs.Spelling.{IsEvent, OfHelper, OfNeighbor}
use Rattle.script_grammar.specs.Words.{Parted, family_in, first_word, helpers, longs, name_in, name_word, neighbors}
use Rattle.script_grammar.specs.Words.{number_below}
use Rattle.script_grammar.proofs.CapLemmas.{caps_read}
use Rattle.script_grammar.proofs.NameLemmas.{family_is, name_is}
use Rattle.script_grammar.proofs.NumberLemmas.{number_is}
use Rattle.script_grammar.proofs.OperandLemmas.{numbered_is, path_is, text_is}
use Rattle.script_grammar.proofs.OptionLemmas.{both, mapped}
use Rattle.script_grammar.proofs.WordLemmas.{first_is}

-- an event of a helper slot with a number
helper_read : (line word rest : List ℕ) (of : ℕ → ℕ → Event) (event : Event) → line ≡ word ++ 32 ∷ rest
    → option_map (λ is. of is.h is.number) (numbered_in rest) ≡ Some event
    → ((h number : ℕ) → OfHelper word h number line → IsEvent line (of h number)) → IsEvent line event
helper_read line word rest of event line_is read spells =
    let found = mapped (λ (is : Numbered). of is.h is.number) (numbered_in rest) event read in
    let is = numbered_is rest found.value found.answer_is in
    subst (IsEvent line) found.gives (spells found.value.h found.value.number (record {
      slot = is.slot;
      small = is.small;
      line_is = line_is ∙ ap (λ (text : List ℕ). word ++ 32 ∷ text) is.text_is;
    }))

-- an event of a neighbour slot
neighbor_read : (line word rest : List ℕ) (of : ℕ → Event) (event : Event) → line ≡ word ++ 32 ∷ rest
    → option_map of (neighbor_in rest) ≡ Some event → ((n : ℕ) → OfNeighbor word n line → IsEvent line (of n))
    → IsEvent line event
unfolding neighbor_in
neighbor_read line word rest of event line_is read spells =
    let found = mapped of (number_below neighbors rest) event read in
    let is = number_is neighbors found.value rest found.answer_is in
    subst (IsEvent line) found.gives (spells found.value (record {
      slot = is.within;
      line_is = line_is ∙ ap (λ (text : List ℕ). word ++ 32 ∷ text) is.text_is;
    }))

line_read : (line rest : List ℕ) (event : Event) → line ≡ codes "line" ++ 32 ∷ rest → line_in rest ≡ Some event
    → IsEvent line event
unfolding line_in
line_read line rest event line_is read =
    let cut = both line_of (first_word rest) event read in
    let slot = both (λ h. option_and_then (line_by h) (first_word cut.value.rest))
    (number_below helpers cut.value.word) event cut.gives in
    let next = both (line_by slot.value) (first_word cut.value.rest) event slot.gives in
    let number = both (λ inc. option_map (Line slot.value inc) (helper_line next.value.rest))
    (number_below longs next.value.word) event next.gives in
    let told = mapped (Line slot.value number.value) (helper_line next.value.rest) event number.gives in
    let first = first_is rest cut.value cut.answer_is in
    let second = first_is cut.value.rest next.value next.answer_is in
    let h_is = number_is helpers slot.value cut.value.word slot.answer_is in
    let inc_is = number_is longs number.value next.value.word number.answer_is in
    subst (IsEvent line) told.gives (record {
      slot = h_is.within;
      small = inc_is.within;
      text = next.value.rest;
      text_is = text_is next.value.rest told.value told.answer_is;
      line_is = line_is
          ∙ ap (λ (text : List ℕ). codes "line" ++ 32 ∷ text)
          (first.text_is ∙ ap (λ (word : List ℕ). word ++ 32 ∷ cut.value.rest) h_is.text_is
          ∙ ap (λ (text : List ℕ). decimal slot.value ++ 32 ∷ text)
          (second.text_is ∙ ap (λ (word : List ℕ). word ++ 32 ∷ next.value.rest) inc_is.text_is));
    })

refresh_read : (line rest : List ℕ) (event : Event) → line ≡ codes "refresh" ++ 32 ∷ rest
    → refresh_in rest ≡ Some event → IsEvent line event
unfolding refresh_in
refresh_read line rest event line_is read =
    let cut = both refresh_of (first_word rest) event read in
    let slot = both (λ n. option_map (Refresh n) (family_in cut.value.rest)) (number_below neighbors cut.value.word)
    event cut.gives in
    let family = mapped (Refresh slot.value) (family_in cut.value.rest) event slot.gives in
    let first = first_is rest cut.value cut.answer_is in
    let n_is = number_is neighbors slot.value cut.value.word slot.answer_is in
    subst (IsEvent line) family.gives (record {
      slot = n_is.within;
      line_is = line_is
          ∙ ap (λ (text : List ℕ). codes "refresh" ++ 32 ∷ text)
          (first.text_is ∙ ap (λ (word : List ℕ). word ++ 32 ∷ cut.value.rest) n_is.text_is
          ∙ ap (λ (text : List ℕ). decimal slot.value ++ 32 ∷ text)
          (family_is cut.value.rest family.value family.answer_is));
    })

up_read : (line rest : List ℕ) (event : Event) → line ≡ codes "up" ++ 32 ∷ rest → up_in rest ≡ Some event
    → IsEvent line event
unfolding up_in
up_read line rest event line_is read =
    let cut = both up_of (first_word rest) event read in
    let slot = both (λ n. option_map (Up n) (caps_in cut.value.rest)) (number_below neighbors cut.value.word)
    event cut.gives in
    let caps = mapped (Up slot.value) (caps_in cut.value.rest) event slot.gives in
    let first = first_is rest cut.value cut.answer_is in
    let n_is = number_is neighbors slot.value cut.value.word slot.answer_is in
    let are = caps_read cut.value.rest caps.value caps.answer_is in
    subst (IsEvent line) caps.gives (record {
      slot = n_is.within;
      first = are.first;
      others = are.others;
      said = are.said;
      says = are.say;
      kept = are.kept;
      caps_are = are.caps_are;
      line_is = line_is
          ∙ ap (λ (text : List ℕ). codes "up" ++ 32 ∷ text)
          (first.text_is ∙ ap (λ (word : List ℕ). word ++ 32 ∷ cut.value.rest) n_is.text_is
          ∙ ap (λ (text : List ℕ). decimal slot.value ++ 32 ∷ text) are.text_is);
    })

reload_read : (line rest : List ℕ) (event : Event) → line ≡ codes "reload" ++ 32 ∷ rest
    → reload_in rest ≡ Some event → IsEvent line event
unfolding reload_in
reload_read line rest event line_is read =
    let parts = cond_some (is_path rest) (Reload rest) event read in
    let is = path_is rest parts.0 in
    subst (IsEvent line) parts.1 (record {
      filled = is.filled;
      one_word = is.one_word;
      is_text = is.is_text;
      line_is = line_is;
    })

named_read : (line rest : List ℕ) (which : Name) (event : Event) → line ≡ name_word which ++ 32 ∷ rest
    → named_event which rest ≡ Some event → IsEvent line event
named_read line rest name.Spawn event line_is read =
    helper_read line (codes "spawn") rest Spawn event line_is read (λ h number is. is)
named_read line rest name.Line event line_is read = line_read line rest event line_is read
named_read line rest name.Take event line_is read =
    helper_read line (codes "take") rest Take event line_is read (λ h number is. is)
named_read line rest name.Deaf event line_is read =
    helper_read line (codes "deaf") rest Deaf event line_is read (λ h number is. is)
named_read line rest name.Gone event line_is read =
    helper_read line (codes "gone") rest Gone event line_is read (λ h number is. is)
named_read line rest name.Peer event line_is read =
    neighbor_read line (codes "peer") rest Peer event line_is read (λ n is. is)
named_read line rest name.Up event line_is read = up_read line rest event line_is read
named_read line rest name.Down event line_is read =
    neighbor_read line (codes "down") rest Down event line_is read (λ n is. is)
named_read line rest name.Refresh event line_is read = refresh_read line rest event line_is read
named_read line rest name.Cut event line_is read =
    neighbor_read line (codes "cut") rest Cut event line_is read (λ n is. is)
named_read line rest name.Drain event line_is read =
    neighbor_read line (codes "drain") rest Drain event line_is read (λ n is. is)
named_read line rest name.Reload event line_is read = reload_read line rest event line_is read

event_read : (line : List ℕ) (found : Option Parted) (event : Event) → first_word line ≡ found
    → event_from line found ≡ Some event → IsEvent line event
event_read line None event is read =
    let parts = cond_some (bytes_eq line (codes "control")) Control event read in
    subst (IsEvent line) parts.1 ((bytes_eq-Decides line (codes "control")).0 parts.0)
event_read line (Some parts) event is read =
    let first = first_is line parts is in
    let named = both (λ one. named_event one parts.rest) (name_in parts.word) event read in
    named_read line parts.rest named.value event
    (first.text_is ∙ ap (λ (word : List ℕ). word ++ 32 ∷ parts.rest) (name_is parts.word named.value named.answer_is))
    named.gives

pub events_are_spelled : EventsAreSpelled
unfolding event_in
events_are_spelled line event read = event_read line (first_word line) event refl read

slot_of : (line : List ℕ) (event : Event) → IsEvent line event → HasSlot event
slot_of line (Spawn h now) is = is.slot
slot_of line (Line h inc told) is = is.slot
slot_of line (Take h inc) is = is.slot
slot_of line (Deaf h inc) is = is.slot
slot_of line (Gone h inc) is = is.slot
slot_of line (Peer n) is = is.slot
slot_of line (Up n caps) is = is.slot
slot_of line (Down n) is = is.slot
slot_of line (Refresh n family) is = is.slot
slot_of line (Cut n) is = is.slot
slot_of line (Drain n) is = is.slot
slot_of line Control is = tt
slot_of line (Reload path) is = tt

pub events_have_slots : EventsHaveSlots
events_have_slots line event read = slot_of line event (events_are_spelled line event read)
