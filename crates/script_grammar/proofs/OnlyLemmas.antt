-- An event that a line spells is read.
use Rattle.std.proofs.Common.{ℕ, ◌≡◌, codes, List, ◌∷◌, ◌++◌, map}
use Rattle.std.proofs.Common.{Some, None, ap, sym, ◌∙◌, refl, decimal, arith, if◌then◌else◌}
use Rattle.std.specs.Option.{option_and_then, option_map}
use Rattle.route_values.specs.declared.addr.Family.{Family}
use Rattle.route_values.specs.Caps.{Caps}
use Rattle.text_forms.specs.Lines.{Line as HelperLine}
use Rattle.script_grammar.specs.declared.names.Name.{Name}
use Rattle.script_grammar.specs.declared.names.Name.TheVariants as name
use Rattle.script_grammar.specs.declared.operands.Numbered.{Numbered}
use Rattle.script_grammar.specs.Caps.{cap_word, caps_in}
use Rattle.script_grammar.specs.Events.{Event, Spawn, Line, Take, Deaf, Gone, Peer, Up, Down, Refresh, Cut, Drain}
use Rattle.script_grammar.specs.Events.{Control, Reload}
use Rattle.script_grammar.specs.Laws.{SpelledEventsAreRead}
use Rattle.script_grammar.specs.Reading.{event_from, event_in, helper_line, line_by, line_in, line_of}
use Rattle.script_grammar.specs.Reading.{named_event, neighbor_in, numbered_in, refresh_in, refresh_of, reload_in}
use Rattle.script_grammar.specs.Reading.{up_in, up_of}
use Rattle.script_grammar.specs.Spelling.{OfHelper, OfLine, OfNeighbor, OfRefresh, OfReload, OfUp, joined}
use Rattle.script_grammar.specs.Words.{family_in, family_word, first_word, helpers, longs, name_word, neighbors}
use Rattle.script_grammar.proofs.CapLemmas.{caps_found}
use Rattle.script_grammar.proofs.NameLemmas.{family_found, named}
use Rattle.script_grammar.proofs.NumberLemmas.{number_found}
use Rattle.script_grammar.proofs.OperandLemmas.{number_lacks, numbered_found, path_found, text_found}
use Rattle.script_grammar.proofs.WordLemmas.{first_none, first_of, lacks_by}

-- an event of a helper slot with a number
helper_found : (line : List ℕ) (which : Name) (of : ℕ → ℕ → Event) (h number : ℕ)
    → OfHelper (name_word which) h number line
    → ((rest : List ℕ) → named_event which rest ≡ option_map (λ is. of is.h is.number) (numbered_in rest))
    → event_in line ≡ Some (of h number)
helper_found line which of h number is reads =
    named line which (decimal h ++ 32 ∷ decimal number) is.line_is ∙ reads (decimal h ++ 32 ∷ decimal number)
    ∙ ap (option_map (λ (found : Numbered). of found.h found.number)) (numbered_found h number is.slot is.small)

-- an event of a neighbour slot
neighbor_found : (line : List ℕ) (which : Name) (of : ℕ → Event) (n : ℕ) → OfNeighbor (name_word which) n line
    → ((rest : List ℕ) → named_event which rest ≡ option_map of (neighbor_in rest)) → event_in line ≡ Some (of n)
unfolding neighbor_in
neighbor_found line which of n is reads =
    named line which (decimal n) is.line_is ∙ reads (decimal n)
    ∙ ap (option_map of) (number_found neighbors n (decimal n) is.slot (omega arith) refl)

line_found : (line : List ℕ) (h inc : ℕ) (told : HelperLine) → OfLine h inc told line
    → event_in line ≡ Some (Line h inc told)
unfolding line_in
line_found line h inc told is =
    named line name.Line (decimal h ++ 32 ∷ (decimal inc ++ 32 ∷ is.text)) is.line_is
    ∙ ap (option_and_then line_of)
    (first_of (decimal h) (decimal inc ++ 32 ∷ is.text) (number_lacks h (omega (arith, is.slot))))
    ∙ ap (option_and_then (λ one. option_and_then (line_by one) (first_word (decimal inc ++ 32 ∷ is.text))))
    (number_found helpers h (decimal h) is.slot (omega arith) refl)
    ∙ ap (option_and_then (line_by h)) (first_of (decimal inc) is.text (number_lacks inc is.small))
    ∙ ap (option_and_then (λ one. option_map (Line h one) (helper_line is.text)))
    (number_found longs inc (decimal inc) is.small (omega arith) refl)
    ∙ ap (option_map (Line h inc)) (text_found is.text told is.text_is)

refresh_found : (line : List ℕ) (n : ℕ) (family : Family) → OfRefresh n family line
    → event_in line ≡ Some (Refresh n family)
unfolding refresh_in
refresh_found line n family is =
    named line name.Refresh (decimal n ++ 32 ∷ family_word family) is.line_is
    ∙ ap (option_and_then refresh_of)
    (first_of (decimal n) (family_word family) (number_lacks n (omega (arith, is.slot))))
    ∙ ap (option_and_then (λ one. option_map (Refresh one) (family_in (family_word family))))
    (number_found neighbors n (decimal n) is.slot (omega arith) refl)
    ∙ ap (option_map (Refresh n)) (family_found family)

up_found : (line : List ℕ) (n : ℕ) (caps : Caps) → OfUp n caps line → event_in line ≡ Some (Up n caps)
unfolding up_in
up_found line n caps is =
    let words = joined (map cap_word (is.first ∷ is.others)) in
    named line name.Up (decimal n ++ 32 ∷ words) is.line_is
    ∙ ap (option_and_then up_of) (first_of (decimal n) words (number_lacks n (omega (arith, is.slot))))
    ∙ ap (option_and_then (λ one. option_map (Up one) (caps_in words)))
    (number_found neighbors n (decimal n) is.slot (omega arith) refl)
    ∙ ap (option_map (Up n)) (caps_found words is.first is.others is.said refl is.says is.kept
    ∙ ap (λ (all : Caps). Some all) (sym is.caps_are))

reload_found : (line path : List ℕ) → OfReload path line → event_in line ≡ Some (Reload path)
unfolding reload_in
reload_found line path is =
    named line name.Reload path is.line_is
    ∙ ap (λ test. if test then Some (Reload path) else None) (path_found path is.filled is.one_word is.is_text)

control_found : (line : List ℕ) → line ≡ codes "control" → event_in line ≡ Some Control
unfolding event_in
control_found line is =
    ap (λ (text : List ℕ). event_from text (first_word text)) is
    ∙ ap (event_from (codes "control")) (first_none (codes "control") (lacks_by (codes "control") refl))

pub spelled_events_are_read : SpelledEventsAreRead
spelled_events_are_read line (Spawn h now) is = helper_found line name.Spawn Spawn h now is (λ rest. refl)
spelled_events_are_read line (Line h inc told) is = line_found line h inc told is
spelled_events_are_read line (Take h inc) is = helper_found line name.Take Take h inc is (λ rest. refl)
spelled_events_are_read line (Deaf h inc) is = helper_found line name.Deaf Deaf h inc is (λ rest. refl)
spelled_events_are_read line (Gone h inc) is = helper_found line name.Gone Gone h inc is (λ rest. refl)
spelled_events_are_read line (Peer n) is = neighbor_found line name.Peer Peer n is (λ rest. refl)
spelled_events_are_read line (Up n caps) is = up_found line n caps is
spelled_events_are_read line (Down n) is = neighbor_found line name.Down Down n is (λ rest. refl)
spelled_events_are_read line (Refresh n family) is = refresh_found line n family is
spelled_events_are_read line (Cut n) is = neighbor_found line name.Cut Cut n is (λ rest. refl)
spelled_events_are_read line (Drain n) is = neighbor_found line name.Drain Drain n is (λ rest. refl)
spelled_events_are_read line Control is = control_found line is
spelled_events_are_read line (Reload path) is = reload_found line path is
