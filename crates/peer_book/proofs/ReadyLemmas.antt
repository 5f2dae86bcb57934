-- The table right before a message: a batch is open in it, whether it was before or began just now.
use Rattle.std.proofs.Common.{◌≡◌, Bool, true, false, List, [], ◌∷◌, Some, None, refl, sym, ap, ◌∙◌, subst, inl, inr}
use Rattle.std.specs.Prelude.{◌&&◌, ◌||◌, ◌⊎◌, ◌↔◌, Option, unwrap_or, IsSome, IsTrue, is_some, if◌then◌else◌}
use Rattle.std.specs.Option.{option_map}
use Rattle.std.proofs.lemmas.Bool.{and_parts, or_cases, both_ways}
use Rattle.route_values.specs.declared.addr.Family.{Family}
use Rattle.route_values.specs.declared.addr.Family.TheVariants.{Ipv4, Ipv6}
use Rattle.route_values.specs.declared.attrs.WireAttrs.{WireAttrs}
use Rattle.route_values.specs.declared.key.Key.{Key}
use Rattle.route_values.specs.declared.settings.Settings.{Settings}
use Rattle.route_values.specs.Caps.{Caps}
use Rattle.route_values.specs.Key.{family_of_key}
use Rattle.route_values.proofs.KeyLemmas.{same_key-self}
use Rattle.route_values.specs.Sent.{sent}
use Rattle.route_values.specs.Settings.{side_of}
use Rattle.adj_rib_out.specs.State.{State, Session, Item, route_at, told_at, shown_at, shown_by}
use Rattle.adj_rib_out.specs.State as table
use Rattle.adj_rib_out.specs.Batch.{IsOwed, owes_marker, owed_markers, is_left}
use Rattle.adj_rib_out.specs.Calls.{begin, session_frozen, is_open, Freezes}
use Rattle.peer_history.specs.Batches.{opened, first_cut, batch, has_batch, is_refreshed, is_owed, is_marker_owed}
use Rattle.peer_history.specs.Batches.{is_marker_left, NothingLeft}
use Rattle.peer_history.specs.Same.{differ}
use Rattle.peer_history.specs.Sessions.{peer}
use Rattle.peer_history.specs.Steps.{Step}
use Rattle.peer_history.specs.Steps.Step.{Up, Down, Cut}
use Rattle.peer_history.specs.Steps.Answer.{Nothing, Message}
use Rattle.peer_history.specs.Table.{want, is_visible, route_sent, view}
use Rattle.peer_history.proofs.SessionLemmas.{no_message}
use Rattle.peer_book.specs.Cutting.{MakesReady, GoesOnOrBegins, CutsNothing}
use Rattle.peer_book.specs.Slot.{Slot, IsSound, IsKept}
use Rattle.peer_book.specs.Stands.{asked, families_where, LeavesBatch, session_kept, StandsLive, Stands}
use Rattle.peer_book.proofs.StandsLemmas.{some_left}
use Rattle.peer_book.proofs.DifferLemmas.{differ_so, so_differ}

-- the table right before a message
pub record IsReady (caps : Caps) (steps : List Step) (state : State) : Type 0 where
  pub session : state.session ≡ Some (session_kept caps (Cut (Message [] false) ∷ steps))
  pub told : (key : Key) → told_at state key ≡ peer caps steps key
  pub leaves : LeavesBatch caps (first_cut steps) (batch steps) state

-- ---- a batch that was open

opened_begun : (steps start : List Step) → opened steps ≡ Some start → has_batch steps ≡ true
opened_begun [] start h = cc
opened_begun (Up caps ∷ steps) start h = cc
opened_begun (Down ∷ steps) start h = cc
opened_begun (Cut (Message bytes last) ∷ steps) start h = refl
opened_begun (step ∷ steps) start h = opened_begun steps start h

pub ready_open : (caps : Caps) (steps start : List Step) (state : State) → StandsLive caps steps state
    → opened steps ≡ Some start → IsReady caps steps state
ready_open caps steps start state stands opens =
    let first : first_cut steps ≡ start = ap (λ q. unwrap_or q steps) opens in
    record {
      session = stands.session ∙ ap Some (goes_on caps steps start opens);
      told = stands.told;
      leaves = subst (λ s. LeavesBatch caps s (batch steps) state) (sym first) (stands.batch start opens);
    }
  where
    goes_on : (caps : Caps) (steps start : List Step) → opened steps ≡ Some start
        → session_kept caps steps ≡ session_kept caps (Cut (Message [] false) ∷ steps)
    goes_on caps steps start opens = rw (opens, opened_begun steps start opens) refl

-- ---- a batch that begins

-- a route of the table as it is sent
route_shown : (state : State) (settings : Option Settings) (key : Key) (route : Option table.Route)
    → route_at state key ≡ route → IsSound state → ((own : Settings) → settings ≡ Some own → state.side ≡ side_of own)
    → (settings ≡ None → route_at state key ≡ None)
    → option_map (λ (r : table.Route). r.attrs) route ≡ route_sent settings (option_map asked route)
route_shown state None key None at sound side vacant = refl
route_shown state None key (Some route) at sound side vacant = absurd (let none = vacant refl in cc)
route_shown state (Some own) key None at sound side vacant = refl
route_shown state (Some own) key (Some route) at sound side vacant =
    ap Some (sound.sent key route at ∙ ap (sent route.written) (side own refl))

-- what the session is to have is the view
pub shown_view : (caps : Caps) (steps : List Step) (slot : Slot) → IsKept slot → Stands steps slot → (key : Key)
    → shown_by (Some (session_kept caps steps)) slot.table key ≡ view caps steps key
shown_view caps steps slot kept stands key =
    let shown = route_shown slot.table slot.settings key (route_at slot.table key) refl kept.table kept.side
    (λ none. kept.vacant none key) in
    ap (λ (w : Option WireAttrs). if is_visible caps key then w else None)
    (shown ∙ ap (route_sent slot.settings) (stands.routes key)
    ∙ ap (λ (own : Option Settings). route_sent own (want steps key)) stands.settings)

-- the families that are to be sent again
refreshed_kept : (caps : Caps) (steps : List Step) (family : Family)
    → table.is_refreshed (Some (session_kept caps steps)) family ≡ is_refreshed steps family
refreshed_kept caps steps Ipv4 = refl
refreshed_kept caps steps Ipv6 = refl

-- two tests of what is owed
owed_alike : (was shown : Option WireAttrs) (again : Bool) → ((was ≡ shown → ⊥) ⊎ (IsSome shown × IsTrue again))
    ↔ IsTrue (differ was shown || (is_some shown && again))
owed_alike was shown again = (
  (λ owed. elim owed [
    | inl apart ↦ first_so (differ was shown) (is_some shown && again) (so_differ was shown apart)
    | inr sent ↦ second_so (differ was shown) (is_some shown) again sent.0 sent.1
  ]),
  λ owed. elim (or_cases (differ was shown) (is_some shown && again) owed) [
    | inl apart ↦ inl (differ_so was shown apart)
    | inr sent ↦ inr (and_parts (is_some shown) again sent)
  ],
)
  where
    first_so : (a b : Bool) → a ≡ true → (a || b) ≡ true
    first_so true b h = refl
    first_so false b h = cc

    second_so : (a b c : Bool) → b ≡ true → c ≡ true → (a || (b && c)) ≡ true
    second_so true b c h k = refl
    second_so false true true h k = refl
    second_so false true false h k = cc
    second_so false false c h k = cc

-- what the table owes is what the history owes
owes_owed : (caps : Caps) (steps : List Step) (slot : Slot) → IsKept slot → Stands steps slot
    → StandsLive caps steps slot.table → (key : Key) → IsOwed slot.table key ↔ IsTrue (is_owed caps steps key)
owes_owed caps steps slot kept stands live key =
    let shown : shown_at slot.table key ≡ view caps steps key =
    ap (λ (s : Option Session). shown_by s slot.table key) live.session ∙ shown_view caps steps slot kept stands key in
    let again : table.is_refreshed slot.table.session (family_of_key key) ≡ is_refreshed steps (family_of_key key) =
    ap (λ (s : Option Session). table.is_refreshed s (family_of_key key)) live.session
    ∙ refreshed_kept caps steps (family_of_key key) in
    let alike = owed_alike (told_at slot.table key) (shown_at slot.table key)
    (table.is_refreshed slot.table.session (family_of_key key)) in
    let same : (differ (told_at slot.table key) (shown_at slot.table key)
    || (is_some (shown_at slot.table key) && table.is_refreshed slot.table.session (family_of_key key)))
    ≡ is_owed caps steps key =
    ap (λ (w : Option WireAttrs). differ w (shown_at slot.table key)
    || (is_some (shown_at slot.table key) && table.is_refreshed slot.table.session (family_of_key key))) (live.told key)
    ∙ ap (λ (w : Option WireAttrs). differ (peer caps steps key) w
    || (is_some w && table.is_refreshed slot.table.session (family_of_key key))) shown
    ∙ ap (λ (b : Bool). differ (peer caps steps key) (view caps steps key)
    || (is_some (view caps steps key) && b)) again in
    ((λ owed. sym same ∙ alike.0 owed), λ owed. alike.1 (same ∙ owed))

and_true : (b : Bool) → b ≡ (b && true)
and_true true = refl
and_true false = refl

same_by : (a b : Bool) → (IsTrue a → IsTrue b) → (IsTrue b → IsTrue a) → a ≡ b
same_by true true to from = refl
same_by true false to from = sym (to refl)
same_by false true to from = from refl
same_by false false to from = refl

pub families_same : (p q : Family → Bool) → ((family : Family) → p family ≡ q family)
    → families_where p ≡ families_where q
families_same p q same = rw (same Ipv4, same Ipv6) refl

marker_alike : (caps : Caps) (steps : List Step) (family : Family)
    → owes_marker (Some (session_kept caps steps)) family ≡ (is_marker_owed caps steps family && true)
marker_alike caps steps family = and_true (is_marker_owed caps steps family)

-- what is left of a batch that begins now
frozen_leaves : (caps : Caps) (steps : List Step) (slot : Slot) (new : State) → IsKept slot → Stands steps slot
    → StandsLive caps steps slot.table → Freezes slot.table new → LeavesBatch caps steps [] new
frozen_leaves caps steps slot new kept stands live freezes = record {
  left = λ key.
      let owes = owes_owed caps steps slot kept stands live key in
      same_by (is_left new.left key) (is_owed caps steps key) (λ l. owes.0 ((freezes.opens.owed key).0 l))
      (λ o. (freezes.opens.owed key).1 (owes.1 o)) ∙ and_true (is_owed caps steps key);
  says = λ key item is. freezes.opens.says key item is
      ∙ ap (λ (s : Option Session). shown_by s slot.table key) live.session
      ∙ shown_view caps steps slot kept stands key;
  markers = freezes.opens.markers ∙ ap owed_markers live.session
      ∙ families_same (owes_marker (Some (session_kept caps steps))) _ (marker_alike caps steps);
  follow = tt;
}

first_leaves : (caps : Caps) (steps : List Step) (slot : Slot) (new : State) → IsKept slot → Stands steps slot
    → StandsLive caps steps slot.table → opened steps ≡ None → Freezes slot.table new
    → LeavesBatch caps (first_cut steps) (batch steps) new
first_leaves caps steps slot new kept stands live closed freezes =
    subst (λ s. LeavesBatch caps s (batch steps) new) (sym (ap (λ q. unwrap_or q steps) closed))
    (subst (λ ms. LeavesBatch caps steps ms new) (sym (no_message steps closed))
    (frozen_leaves caps steps slot new kept stands live freezes))

pub ready_frozen : (caps : Caps) (steps : List Step) (slot : Slot) (new : State) → IsKept slot → Stands steps slot
    → StandsLive caps steps slot.table → opened steps ≡ None → Freezes slot.table new → is_open new ≡ true
    → IsReady caps steps new
ready_frozen caps steps slot new kept stands live closed freezes opens = record {
  session = freezes.session ∙ ap (λ b. session_frozen b slot.table.session) opens
      ∙ ap (option_map begin) live.session ∙ ap Some (begins caps steps closed);
  told = λ key. freezes.told key ∙ live.told key;
  leaves = first_leaves caps steps slot new kept stands live closed freezes;
}
  where
    begins : (caps : Caps) (steps : List Step) → opened steps ≡ None
        → begin (session_kept caps steps) ≡ session_kept caps (Cut (Message [] false) ∷ steps)
    begins caps steps closed = rw closed refl

-- ---- either

none_opened : (o : Option (List Step)) → is_some o ≡ false → o ≡ None
none_opened None h = refl
none_opened (Some start) h = cc

some_opened : (o : Option (List Step)) → is_some o ≡ true → (start : List Step) × (o ≡ Some start)
some_opened None h = cc
some_opened (Some start) h = (start, refl)

ready_by : (caps : Caps) (steps : List Step) (slot : Slot) (new : State) (opens : Bool) → is_open slot.table ≡ opens
    → IsKept slot → Stands steps slot → StandsLive caps steps slot.table → GoesOnOrBegins opens slot.table new
    → is_open new ≡ true → IsReady caps steps new
ready_by caps steps slot new true at kept stands live made some =
    let start = some_opened (opened steps) (sym live.open_so ∙ at) in
    subst (IsReady caps steps) (sym made) (ready_open caps steps start.0 slot.table live start.1)
ready_by caps steps slot new false at kept stands live made some =
    ready_frozen caps steps slot new kept stands live (none_opened (opened steps) (sym live.open_so ∙ at)) made some

pub made_ready : (caps : Caps) (steps : List Step) (slot : Slot) (new : State) → IsKept slot → Stands steps slot
    → StandsLive caps steps slot.table → MakesReady slot.table new → is_open new ≡ true → IsReady caps steps new
made_ready caps steps slot new kept stands live made some =
    ready_by caps steps slot new (is_open slot.table) refl kept stands live made some

-- ---- nothing is owed

empty_by : (left : List Item) (markers : List Family) → some_left left markers ≡ false → (left ≡ []) × (markers ≡ [])
empty_by [] [] closed = (refl, refl)
empty_by [] (f ∷ fs) closed = cc
empty_by (i ∷ is) markers closed = cc

pub closed_empty : (state : State) → is_open state ≡ false → (state.left ≡ []) × (state.markers ≡ [])
closed_empty state closed = empty_by state.left state.markers closed

no_families : (test : Family → Bool) → families_where test ≡ [] → (family : Family) → test family ≡ false
no_families test none = each_family (λ f. test f ≡ false) (four (test Ipv4) (test Ipv6) none) (six (test Ipv4)
    (test Ipv6) none)
  where
    four : (a b : Bool) → (if a then Ipv4 ∷ (if b then Ipv6 ∷ [] else []) else (if b then Ipv6 ∷ [] else [])) ≡ []
        → a ≡ false
    four true b h = cc
    four false b h = refl

    six : (a b : Bool) → (if a then Ipv4 ∷ (if b then Ipv6 ∷ [] else []) else (if b then Ipv6 ∷ [] else [])) ≡ []
        → b ≡ false
    six true b h = cc
    six false true h = cc
    six false false h = refl

    each_family : (P : Family → Type 0) → P Ipv4 → P Ipv6 → (f : Family) → P f
    each_family P a b Ipv4 = a
    each_family P a b Ipv6 = b

-- what is left of a batch is nothing exactly where the batch isn't open in the table
pub nothing_by : (caps : Caps) (steps : List Step) (state : State)
    → LeavesBatch caps (first_cut steps) (batch steps) state → is_open state ≡ false → NothingLeft caps steps
nothing_by caps steps state leaves closed =
    let empty = closed_empty state closed in
    record {
      keys = λ key. sym (leaves.left key) ∙ ap (λ items. is_left items key) empty.0;
      markers = no_families (is_marker_left caps steps) (sym leaves.markers ∙ empty.1);
    }

none_left : (items : List Item) → ((key : Key) → is_left items key ≡ false) → items ≡ []
none_left [] none = refl
none_left (i ∷ is) none =
    absurd (both_ways (is_left (i ∷ is) i.key) (none i.key) (ap (λ b. b || is_left is i.key) (same_key-self i.key)))

pub closed_by : (caps : Caps) (steps : List Step) (state : State)
    → LeavesBatch caps (first_cut steps) (batch steps) state → NothingLeft caps steps → is_open state ≡ false
closed_by caps steps state leaves nothing =
    let left : state.left ≡ [] = none_left state.left (λ key. leaves.left key ∙ nothing.keys key) in
    let markers : state.markers ≡ [] = leaves.markers ∙ none_of (is_marker_left caps steps) nothing.markers in
    ap (λ l. some_left l state.markers) left ∙ ap (some_left []) markers
  where
    none_of : (test : Family → Bool) → ((family : Family) → test family ≡ false) → families_where test ≡ []
    none_of test none = rw (none Ipv4, none Ipv6) refl

-- what a cut that answers nothing leaves
pub record IsNothing (caps : Caps) (steps : List Step) (new : State) : Type 0 where
  pub closed : opened steps ≡ None
  pub nothing : NothingLeft caps steps
  pub live : StandsLive caps (Cut Nothing ∷ steps) new

nothing_frozen : (caps : Caps) (steps : List Step) (slot : Slot) (new : State) → IsKept slot → Stands steps slot
    → StandsLive caps steps slot.table → opened steps ≡ None → Freezes slot.table new → is_open new ≡ false
    → IsNothing caps steps new
nothing_frozen caps steps slot new kept stands live closed freezes none = record {
  closed = closed;
  nothing = nothing_by caps steps new (first_leaves caps steps slot new kept stands live closed freezes) none;
  live = record {
    session = freezes.session ∙ ap (λ b. session_frozen b slot.table.session) none ∙ live.session;
    told = λ key. freezes.told key ∙ live.told key;
    open_so = none ∙ sym (ap is_some closed);
    batch = λ start opens. absurd (let no_way = sym closed ∙ opens in cc);
  };
}

nothing_made : (caps : Caps) (steps : List Step) (slot : Slot) (new : State) (opens : Bool) → is_open slot.table ≡ opens
    → IsKept slot → Stands steps slot → StandsLive caps steps slot.table → GoesOnOrBegins opens slot.table new
    → is_open new ≡ false → IsNothing caps steps new
nothing_made caps steps slot new true at kept stands live made none =
    absurd (both_ways (is_open slot.table) (ap is_open (sym made) ∙ none) at)
nothing_made caps steps slot new false at kept stands live made none =
    nothing_frozen caps steps slot new kept stands live (none_opened (opened steps) (sym live.open_so ∙ at)) made none

pub made_nothing : (caps : Caps) (steps : List Step) (slot : Slot) (new : State) → IsKept slot → Stands steps slot
    → StandsLive caps steps slot.table → CutsNothing slot.table new → IsNothing caps steps new
made_nothing caps steps slot new kept stands live cuts =
    nothing_made caps steps slot new (is_open slot.table) refl kept stands live cuts.ready cuts.closed
