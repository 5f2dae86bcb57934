-- A slot from which a message is cut.
use Rattle.std.proofs.Common.{◌≡◌, ℕ, ◌≤◌, Bool, true, false, not, List, [], ◌∷◌, ◌++◌, length, Some, None, refl}
use Rattle.std.proofs.Common.{sym, ap, ◌∙◌, subst, inl, inr}
use Rattle.std.specs.Prelude.{◌⊎◌, Option, MatchOption, is_some, if◌then◌else◌}
use Rattle.std.specs.Option.{option_map}
use Rattle.std.proofs.lemmas.Option.{same_Some}
use Rattle.route_values.specs.declared.addr.Family.{Family}
use Rattle.route_values.specs.declared.key.Key.{Key}
use Rattle.route_values.specs.Caps.{Caps}
use Rattle.update_grammar.specs.Head.{Head}
use Rattle.update_grammar.specs.Head as head
use Rattle.update_grammar.specs.Laws.{SpelledEffectsAreRead, HereIsNoMarker, GoneIsNoMarker}
use Rattle.update_grammar.specs.Laws.{HereIsSpelled, GoneIsSpelled, EndIsSpelled}
use Rattle.update_grammar.specs.Packed.{room}
use Rattle.update_grammar.specs.Written.{written}
use Rattle.batch_cutter.specs.Filling.{Fills, GoesOn, PassesEach, IsMadeOf}
use Rattle.batch_cutter.specs.Heads.{Fits}
use Rattle.batch_cutter.specs.Items as batch
use Rattle.batch_cutter.specs.Items.{keys_of, said_by, IsFor}
use Rattle.adj_rib_out.specs.State.{State, Session, route_at}
use Rattle.adj_rib_out.specs.Calls.{is_open, KeepsRoutes, PassesDue}
use Rattle.adj_rib_out.specs.Told.{items_left}
use Rattle.peer_history.specs.Batches.{opened, first_cut, NothingLeft}
use Rattle.peer_history.specs.Batches as history
use Rattle.peer_history.specs.Cuts.{MayCut, MayAnswer}
use Rattle.peer_history.specs.Messages.{said_each}
use Rattle.peer_history.specs.Sessions.{session, reset, live, peer}
use Rattle.peer_history.specs.Steps.{Step, Code}
use Rattle.peer_history.specs.Steps as step
use Rattle.peer_history.specs.Steps.Step.{Cut}
use Rattle.peer_book.specs.declared.cut.Cut.{Cut as Answer}
use Rattle.peer_book.specs.Cutting.{answered, MakesReady, GoesOnOrBegins, CutsNothing, CutsMessage}
use Rattle.peer_book.specs.Slot.{Slot, IsSound, IsKept}
use Rattle.peer_book.specs.Stands.{asked, LeavesBatch, session_kept, StandsLive, Stands}
use Rattle.peer_book.proofs.KeptLemmas.{slot_with, kept_with}
use Rattle.peer_book.proofs.StandsLemmas.{live_kept}
use Rattle.peer_book.proofs.SoundLemmas.{sound_freezes}
use Rattle.peer_book.proofs.PassLemmas.{Passing, NamesKeys, passes_session, passes_routes}
use Rattle.peer_book.proofs.ReadyLemmas.{IsReady, made_ready, made_nothing, nothing_by, closed_by}
use Rattle.peer_book.proofs.MessageLemmas.{Texts, IsSaid, said_keys}
use Rattle.peer_book.proofs.MarkerLemmas.{said_marker, marker_alone}

-- what a cut leaves of a table that is made ready
routes_by : (opens : Bool) (old new : State) → GoesOnOrBegins opens old new → KeepsRoutes old new
routes_by true old new made =
    record { side = ap (λ (s : State). s.side) made; routes = λ key. ap (λ (s : State). route_at s key) made }
routes_by false old new made = made.routes

pub ready_routes : (old new : State) → MakesReady old new → KeepsRoutes old new
ready_routes old new made = routes_by (is_open old) old new made

sound_by : (opens : Bool) (old new : State) → IsSound old → GoesOnOrBegins opens old new → IsSound new
sound_by true old new sound made = subst IsSound (sym made) sound
sound_by false old new sound made = sound_freezes old new sound made

-- a message by its head
record Made (caps : Caps) (steps : List Step) (new : State) (bytes : List ℕ) : Type 0 where
  h : Head
  keys : List Key
  is : IsSaid caps steps new bytes h keys

-- a head is for keys, or for a marker
which : (h : Head) → NamesKeys h ⊎ ((family : Family) × (h ≡ head.End family))
which (head.Gone family) = inl tt
which (head.Here family w) = inl tt
which (head.End family) = inr (family, refl)

-- a message of a marker
marker_made : (texts : Texts) (caps : Caps) (steps : List Step) (mid new : State) (bytes : List ℕ) (family : Family)
    (items : List batch.Item) → items ≡ batch.End family ∷ [] → IsReady caps steps mid
    → items_left mid ≡ items ++ items_left new → PassesEach Passing items mid new
    → bytes ≡ written caps (head.End family) (keys_of items) → Fits caps (head.End family) (keys_of items)
    → GoesOn caps (said_by items) (items_left new) (said_each caps (history.batch steps))
    → Made caps steps new bytes
marker_made texts caps steps mid new bytes family items only ready split passed text fits goes_on =
    let one = subst (λ its. PassesEach Passing its mid new) only passed in
    let due : PassesDue mid.left mid new = subst (PassesDue mid.left mid) (sym one.2) one.1.due in
    record {
      h = head.End family;
      keys = [];
      is = said_marker texts caps steps mid new bytes family ready
          (split ∙ ap (λ its. its ++ items_left new) only) due
          (text ∙ ap (λ its. written caps (head.End family) (keys_of its)) only)
          (subst (λ its. Fits caps (head.End family) (keys_of its)) only fits)
          (subst (λ its. GoesOn caps (said_by its) (items_left new) (said_each caps
          (history.batch steps))) only goes_on);
    }

made : (texts : Texts) (caps : Caps) (steps : List Step) (mid new : State) (bytes : List ℕ) → IsReady caps steps mid
    → IsSound mid → Fills items_left Passing caps mid new bytes → Made caps steps new bytes
made texts caps steps mid new bytes ready sound fills = elim (which fills.head) [
  | inl names ↦ record {
    h = fills.head;
    keys = keys_of fills.items;
    is = said_keys texts caps steps mid new bytes ready sound fills names;
  }
  | inr end ↦
      let message : IsMadeOf caps (head.End end.0) fills.items (items_left new) bytes =
      subst (λ h. IsMadeOf caps h fills.items (items_left new) bytes) end.1 fills.message in
      marker_made texts caps steps mid new bytes end.0 fills.items
      (marker_alone end.0 fills.items message.alone message.alike) ready fills.split fills.passed message.text
      message.fits (fills.packed (said_each caps (history.batch steps)) ready.leaves.follow)
]

-- whether something is left by whether the message is the last
pub open_so : (opens last : Bool) (start : List Step) → last ≡ not opens
    → opens ≡ is_some (if last then None else Some start)
open_so true true start is = cc
open_so true false start is = refl
open_so false true start is = refl
open_so false false start is = cc

not_open : (opens : Bool) → true ≡ not opens → opens ≡ false
not_open true is = cc
not_open false is = refl

module _ (caps : Caps) (steps : List Step) (mid new : State) (bytes : List ℕ) (last : Bool) (h : Head)
    (keys : List Key) (ready : IsReady caps steps mid) (session_same : new.session ≡ mid.session)
    (said : IsSaid caps steps new bytes h keys) (ends : last ≡ not (is_open new)) where
  pub may_cut : MayCut caps steps bytes last
  may_cut = record {
    head = h;
    keys = keys;
    text = said.text;
    fits = subst (λ b. length b ≤ room caps) (sym said.text) said.fits;
    spelled = said.spelled;
    due = said.due;
    packed = said.packed;
    ends = (
      (λ is. nothing_by caps (Cut (step.Message bytes false) ∷ steps) new said.leaves
          (not_open (is_open new) (sym is ∙ ends))),
      λ nothing. ends ∙ ap not (closed_by caps (Cut (step.Message bytes false) ∷ steps) new said.leaves nothing),
    );
  }

  leaves_open : (start : List Step) → (if last then None else Some (first_cut steps)) ≡ Some start
      → LeavesBatch caps start (if last then [] else bytes ∷ history.batch steps) new
  leaves_open start = elim last as (λ l. (if l then None else Some (first_cut steps)) ≡ Some start
      → LeavesBatch caps start (if l then [] else bytes ∷ history.batch steps) new) [
        | true ↦ λ at. absurd cc
        | false ↦ λ at. subst (λ s. LeavesBatch caps s (bytes ∷ history.batch steps) new) (same_Some _ _ at) said.leaves
      ]

  pub live_message : StandsLive caps (Cut (step.Message bytes last) ∷ steps) new
  live_message = record {
    session = session_same ∙ ready.session;
    told = said.told;
    open_so = open_so (is_open new) last (first_cut steps) ends;
    batch = leaves_open;
  }

-- a live session, by the slot
pub live_at : (steps : List Step) (slot : Slot) (caps : Caps) → Stands steps slot → slot.session ≡ Some caps
    → slot.reset ≡ None → live steps ≡ Some caps
live_at steps slot caps stands at none =
    ap (λ (code : Option Code). if is_some code then None else session steps) (sym stands.reset ∙ none)
    ∙ sym stands.session ∙ at

-- the slot behind a cut of a live session
stands_cut : (steps : List Step) (slot : Slot) (new : State) (caps : Caps) (answer : step.Answer)
    → Stands steps slot → KeepsRoutes slot.table new → live steps ≡ Some caps
    → session (Cut answer ∷ steps) ≡ session steps
    → reset (Cut answer ∷ steps) ≡ reset steps
    → StandsLive caps (Cut answer ∷ steps) new
    → Stands (Cut answer ∷ steps) (slot_with slot new slot.session slot.reset)
stands_cut steps slot new caps answer stands routes at session_same reset_same live_new = record {
  settings = stands.settings;
  routes = λ key. ap (option_map asked) (routes.routes key) ∙ stands.routes key;
  session = stands.session ∙ sym session_same;
  reset = stands.reset ∙ sym reset_same;
  live = λ other is. subst (λ c. StandsLive c (Cut answer ∷ steps) new)
      (same_Some _ _ (sym at ∙ is)) live_new;
}

pub cut_message : (texts : Texts) (steps : List Step) (slot : Slot) (new : State) (caps : Caps) (bytes : List ℕ)
    (last : Bool) → IsKept slot → Stands steps slot → slot.session ≡ Some caps → slot.reset ≡ None
    → CutsMessage caps slot.table new bytes last
    → MayAnswer steps (step.Message bytes last)
    × Stands (Cut (step.Message bytes last) ∷ steps) (slot_with slot new slot.session slot.reset)
cut_message texts steps slot new caps bytes last kept stands up none cuts =
    let at = live_at steps slot caps stands up none in
    let ready = made_ready caps steps slot cuts.mid kept stands (stands.live caps at) cuts.ready cuts.some in
    let sound = sound_by (is_open slot.table) slot.table cuts.mid kept.table cuts.ready in
    let message = made texts caps steps cuts.mid new bytes ready sound cuts.fills in
    let same = passes_session cuts.fills.items cuts.mid new cuts.fills.passed in
    let before = ready_routes slot.table cuts.mid cuts.ready in
    let behind = passes_routes cuts.fills.items cuts.mid new cuts.fills.passed in (
      (caps, at, may_cut caps steps cuts.mid new bytes last message.h message.keys ready same message.is cuts.ends),
      stands_cut steps slot new caps (step.Message bytes last) stands
          (record {
            side = behind.side ∙ before.side;
            routes = λ key. behind.routes key
                ∙ before.routes key;
          }) at refl refl
          (live_message caps steps cuts.mid new bytes last message.h message.keys ready same message.is cuts.ends),
    )

pub cut_nothing : (steps : List Step) (slot : Slot) (new : State) (caps : Caps) → IsKept slot → Stands steps slot
    → slot.session ≡ Some caps → slot.reset ≡ None → CutsNothing slot.table new
    → MayAnswer steps step.Nothing × Stands (Cut step.Nothing ∷ steps) (slot_with slot new slot.session slot.reset)
cut_nothing steps slot new caps kept stands up none cuts =
    let at = live_at steps slot caps stands up none in
    let nothing = made_nothing caps steps slot new kept stands (stands.live caps at) cuts in (
      (caps, at, nothing.closed, nothing.nothing),
      stands_cut steps slot new caps step.Nothing stands (ready_routes slot.table new cuts.ready) at refl refl
          nothing.live,
    )

-- a cut that answers before the table is looked at
same_live : (caps : Caps) (steps after : List Step) (state : State) → opened after ≡ opened steps
    → history.batch after ≡ history.batch steps → session_kept caps after ≡ session_kept caps steps
    → ((key : Key) → peer caps after key ≡ peer caps steps key) → StandsLive caps steps state
    → StandsLive caps after state
same_live caps steps after state opens cuts goes_on says stands =
    live_kept caps steps after state state opens cuts goes_on says (record { session = refl; told = λ key. refl })
    (record { left = refl; markers = refl }) stands

pub cut_none : (steps : List Step) (slot : Slot) → Stands steps slot → slot.session ≡ None
    → MayAnswer steps step.NoSession × Stands (Cut step.NoSession ∷ steps) slot
cut_none steps slot stands none = (
  sym stands.session ∙ none,
  record {
    settings = stands.settings;
    routes = stands.routes;
    session = stands.session;
    reset = stands.reset;
    live = λ caps is. same_live caps steps (Cut step.NoSession ∷ steps) slot.table refl refl refl (λ key. refl)
        (stands.live caps is);
  },
)

pub cut_reset : (steps : List Step) (slot : Slot) (caps : Caps) (code : Code) → Stands steps slot
    → slot.session ≡ Some caps → slot.reset ≡ Some code
    → MayAnswer steps (step.Reset code) × Stands (Cut (step.Reset code) ∷ steps) slot
cut_reset steps slot caps code stands up is = (
  (ap is_some (sym stands.session ∙ up), sym stands.reset ∙ is),
  record {
    settings = stands.settings;
    routes = stands.routes;
    session = stands.session;
    reset = stands.reset;
    live = λ other at. same_live other steps (Cut (step.Reset code) ∷ steps) slot.table refl refl refl (λ key. refl)
        (stands.live other at);
  },
)

-- what a cut keeps, whatever it answers
pub cuts_routes : (caps : Caps) (old new : State) (bytes : List ℕ) (result : Option Bool)
    → MatchOption result (CutsNothing old new) (λ last. CutsMessage caps old new bytes last) → KeepsRoutes old new
cuts_routes caps old new bytes None cuts = ready_routes old new cuts.ready
cuts_routes caps old new bytes (Some last) cuts =
    let before = ready_routes old cuts.mid cuts.ready in
    let behind = passes_routes cuts.fills.items cuts.mid new cuts.fills.passed in
    record { side = behind.side ∙ before.side; routes = λ key. behind.routes key ∙ before.routes key }

some_caps : (was : Option Session) (caps : Caps) → option_map (λ (s : Session). s.caps) was ≡ Some caps → was ≡ None → ⊥
some_caps None caps is none = cc
some_caps (Some before) caps is none = cc

pub kept_cut : (slot : Slot) (new : State) (caps : Caps) → IsKept slot → slot.session ≡ Some caps → slot.reset ≡ None
    → KeepsRoutes slot.table new → IsSound new → option_map (λ (s : Session). s.caps) new.session ≡ Some caps
    → IsKept (slot_with slot new slot.session slot.reset)
kept_cut slot new caps kept up none routes sound live =
    kept_with slot new slot.session slot.reset kept routes sound
    (λ none. absurd (some_caps new.session caps live none))
    (live ∙ sym (ap (λ (code : Option Code). if is_some code then None else slot.session) none ∙ up))

-- what the laws of the grammar give
pub texts_of : SpelledEffectsAreRead → HereIsNoMarker → GoneIsNoMarker → ((family : Family) → HereIsSpelled family)
    → ((family : Family) → GoneIsSpelled family) → ((family : Family) → EndIsSpelled family) → Texts
texts_of read here_no gone_no here gone end = record {
  grammar = record { read = read; here_is_no_marker = here_no; gone_is_no_marker = gone_no };
  here = here;
  gone = gone;
  end = end;
}

-- an answer that is another
pub cut_answer : (steps : List Step) (slot : Slot) (new : State) (bytes : List ℕ) (answer other : Answer)
    → answer ≡ other → MayAnswer steps (answered bytes other)
    × Stands (Cut (answered bytes other) ∷ steps) (slot_with slot new slot.session slot.reset)
    → MayAnswer steps (answered bytes answer)
    × Stands (Cut (answered bytes answer) ∷ steps) (slot_with slot new slot.session slot.reset)
cut_answer steps slot new bytes answer other same given =
    subst (λ a. MayAnswer steps (answered bytes a)
    × Stands (Cut (answered bytes a) ∷ steps) (slot_with slot new slot.session slot.reset)) (sym same) given
