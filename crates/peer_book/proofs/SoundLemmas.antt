-- What holds of a table holds behind a freeze, and behind each item that is passed.
use Rattle.std.proofs.Common.{◌≡◌, Bool, true, false, List, [], ◌∷◌, Some, None, refl, sym, ap, ◌∙◌}
use Rattle.std.proofs.Common.{subst, eqb-true, inl, inr}
use Rattle.std.specs.Prelude.{◌||◌, ◌⊎◌, ◌==◌, Option, IsSome, is_some, if◌then◌else◌}
use Rattle.std.specs.Option.{option_map}
use Rattle.std.specs.List.{AllByRecursion}
use Rattle.std.proofs.lemmas.Bool.{and_parts, or_cases}
use Rattle.std.proofs.lemmas.Option.{same_Some}
use Rattle.route_values.specs.declared.attrs.WireAttrs.{WireAttrs}
use Rattle.route_values.specs.declared.key.Key.{Key}
use Rattle.route_values.specs.Caps.{Caps}
use Rattle.route_values.specs.Key.{family_of_key, same_key}
use Rattle.route_values.specs.Visible.{IsVisible, has_path}
use Rattle.route_values.proofs.KeyLemmas.{same_key_is, same_key-self}
use Rattle.update_grammar.specs.Written.{IsCarried}
use Rattle.batch_cutter.specs.Heads.{IsRoute}
use Rattle.adj_rib_out.specs.State.{State, Session, Route, Item, route_at, told_at, shown_at, is_visible}
use Rattle.adj_rib_out.specs.Batch.{IsOwed, attrs_said, item_at, is_left, AreOnce}
use Rattle.adj_rib_out.specs.Calls.{begin, session_frozen, is_open, Freezes}
use Rattle.peer_book.specs.Slot.{SaysRoute, IsSayable, IsSound}
use Rattle.peer_book.proofs.KeptLemmas.{StaysUp}

-- what the test passes is visible
visible_so : (caps : Caps) (key : Key) → is_visible caps key ≡ true → IsVisible key caps
visible_so caps key h =
    let both = and_parts _ _ h in
    let plain : (key.id == 0) ≡ true → IsVisible key caps = λ e. (both.0, inl (eqb-true key.id 0 e)) in
    let by_path : has_path caps (family_of_key key) ≡ true → IsVisible key caps = λ e. (both.0, inr e) in
    elim (or_cases (key.id == 0) (has_path caps (family_of_key key)) both.1) [
      | inl e ↦ plain e
      | inr e ↦ by_path e
    ]

-- what a session is to have of a key is a route that it carries
pub record IsShown (caps : Caps) (key : Key) (attrs : WireAttrs) : Type 0 where
  pub carried : IsCarried caps (family_of_key key) key
  pub route : IsRoute (family_of_key key) attrs

shown_route : (old : State) (caps : Caps) (key : Key) (attrs : WireAttrs) (route : Option Route) → IsSound old
    → route_at old key ≡ route → is_visible caps key ≡ true → option_map (λ (r : Route). r.attrs) route ≡ Some attrs
    → IsShown caps key attrs
shown_route old caps key attrs None sound at visible is = absurd cc
shown_route old caps key attrs (Some route) sound at visible is =
    let routable = sound.routes key route at in
    let same : route.attrs ≡ attrs = same_Some _ _ is in
    record {
      carried = record {
        of_family = refl;
        visible = visible_so caps key visible;
        prefix = routable.is_key.prefix;
        id = routable.is_key.id;
      };
      route = subst (IsRoute (family_of_key key)) same routable.route;
    }

pub shown_so : (old : State) (session : Session) (key : Key) (attrs : WireAttrs) → IsSound old
    → (if is_visible session.caps key then option_map (λ (r : Route). r.attrs)
    (route_at old key) else None) ≡ Some attrs
    → IsShown session.caps key attrs
shown_so old session key attrs sound is =
    elim (is_visible session.caps key) as (λ b. is_visible session.caps key ≡ b
    → (if b then option_map (λ (r : Route). r.attrs) (route_at old key) else None) ≡ Some attrs
    → IsShown session.caps key attrs) [
      | true ↦ λ visible at. shown_route old session.caps key attrs (route_at old key) sound refl visible at
      | false ↦ λ hidden at. absurd cc
    ] refl is

-- an item of the list is left
pub item_is_left : (items : List Item) (key : Key) (item : Item) → item_at items key ≡ Some item
    → is_left items key ≡ true
item_is_left [] key item is = cc
item_is_left (first ∷ items) key item is =
    elim (same_key first.key key) as (λ b. (elim b [ true ↦ Some first | false ↦ item_at items key ]) ≡ Some item
    → (b || is_left items key) ≡ true) [
      | true ↦ λ at. refl
      | false ↦ λ at. item_is_left items key item at
    ] is

-- an item is that of its key
pub item_key : (items : List Item) (key : Key) (item : Item) → item_at items key ≡ Some item → item.key ≡ key
item_key [] key item is = cc
item_key (first ∷ items) key item is =
    elim (same_key first.key key) as (λ b. same_key first.key key ≡ b
    → (elim b [ true ↦ Some first | false ↦ item_at items key ]) ≡ Some item → item.key ≡ key) [
      | true ↦ λ same at. ap (λ (i : Item). i.key) (sym (same_Some _ _ at)) ∙ same_key_is first.key key same
      | false ↦ λ other at. item_key items key item at
    ] refl is

-- an item behind the first is one of the whole list
pub item_later : (first : Item) (items : List Item) (key : Key) (item : Item) → is_left items first.key ≡ false
    → item_at items key ≡ Some item → item_at (first ∷ items) key ≡ Some item
item_later first items key item once is =
    elim (same_key first.key key) as (λ b. same_key first.key key ≡ b
    → (elim b [ true ↦ Some first | false ↦ item_at items key ]) ≡ Some item) [
      | true ↦ λ same.
          let left : is_left items first.key ≡ true =
          ap (is_left items) (same_key_is first.key key same) ∙ item_is_left items key item is in
          let no_way : true ≡ false = sym left ∙ once in cc
      | false ↦ λ other. is
    ] refl

pub item_first : (first : Item) (items : List Item) → item_at (first ∷ items) first.key ≡ Some first
item_first first items =
    ap (λ b. elim b [ true ↦ Some first | false ↦ item_at items first.key ]) (same_key-self first.key)

-- what holds of the item of each key holds of each item
pub all_items : (P : Item → Type 0) (items : List Item) → AreOnce items
    → ((key : Key) (item : Item) → item_at items key ≡ Some item → P item) → AllByRecursion P items
all_items P [] once holds = tt
all_items P (first ∷ items) once holds = (
  holds first.key first (item_first first items),
  all_items P items once.1 (λ key item is. holds key item (item_later first items key item once.0 is)),
)

pub all_at : (P : Item → Type 0) (items : List Item) (key : Key) (item : Item) → AllByRecursion P items
    → item_at items key ≡ Some item → P item
all_at P [] key item all is = absurd cc
all_at P (first ∷ items) key item all is =
    elim (same_key first.key key) as (λ b. (elim b [ true ↦ Some first | false ↦ item_at items key ]) ≡ Some item
    → P item) [
      | true ↦ λ at. subst P (same_Some _ _ at) all.0
      | false ↦ λ at. all_at P items key item all.1 at
    ] is

-- what a batch begins with can be said
says_shown : (key : Key) (says other : Option WireAttrs) (caps : Caps) → says ≡ other
    → ((attrs : WireAttrs) → other ≡ Some attrs → IsShown caps key attrs) → SaysRoute key says
says_shown key says None caps is shown = subst (SaysRoute key) (sym is) tt
says_shown key says (Some attrs) caps is shown = subst (SaysRoute key) (sym is) (shown attrs refl).route

-- an owed key is carried: it was told, or is shown
owed_carried : (caps : Caps) (key : Key) (was shown : Option WireAttrs) → (IsSome was
    → IsCarried caps (family_of_key key) key)
    → ((attrs : WireAttrs) → shown ≡ Some attrs → IsShown caps key attrs) → (was ≡ shown → ⊥) ⊎ IsSome shown
    → IsCarried caps (family_of_key key) key
owed_carried caps key was (Some attrs) told shows owed = (shows attrs refl).carried
owed_carried caps key (Some attrs) None told shows owed = told refl
owed_carried caps key None None told shows (inl apart) = absurd (apart refl)
owed_carried caps key None None told shows (inr shown) = cc

owed_either : (P Q R : Type 0) → (P ⊎ (Q × R)) → P ⊎ Q
owed_either P Q R (inl p) = inl p
owed_either P Q R (inr q) = inr q.0

frozen_sayable : (old new : State) (session : Session) → IsSound old → Freezes old new → old.session ≡ Some session
    → (key : Key) (item : Item) → item_at new.left key ≡ Some item → IsSayable session.caps item
frozen_sayable old new session sound freezes at key item is =
    let same = item_key new.left key item is in
    let shows : (attrs : WireAttrs) → shown_at old key ≡ Some attrs → IsShown session.caps key attrs =
    λ attrs shown. shown_so old session key attrs sound
    (sym (ap (λ (s : Option Session). Rattle.adj_rib_out.specs.State.shown_by s old key) at) ∙ shown) in
    let owed : IsOwed old key = (freezes.opens.owed key).0 (item_is_left new.left key item is) in
    let says = freezes.opens.says key item is in
    let carried = owed_carried session.caps key (told_at old key) (shown_at old key)
    (sound.told session key at) shows (owed_either _ _ _ owed) in
    subst (λ k. IsSayable session.caps (record { key = k; says = item.says })) (sym same) (record {
      carried = carried;
      says = says_shown key (attrs_said item.says) (shown_at old key) session.caps says shows;
    })

-- the session behind a freeze is the one before
frozen_caps : (opens : Bool) (was : Option Session) (session : Session) → session_frozen opens was ≡ Some session
    → (before : Session) × (was ≡ Some before) × (before.caps ≡ session.caps)
frozen_caps false was session is = (session, is, refl)
frozen_caps true None session is = absurd cc
frozen_caps true (Some before) session is =
    let same : begin before ≡ session = same_Some _ _ is in (before, refl, ap (λ (s : Session). s.caps) same)

pub sound_freezes : (old new : State) → IsSound old → Freezes old new → IsSound new
sound_freezes old new sound freezes =
    let up : StaysUp old new = λ session is. frozen_caps (is_open new) old.session session (sym freezes.session ∙ is) in
    record {
      routes = λ key route is. sound.routes key route (sym (freezes.routes.routes key) ∙ is);
      sent = λ key route is. sound.sent key route (sym (freezes.routes.routes key) ∙ is)
          ∙ ap (Rattle.route_values.specs.Sent.sent route.written) (sym freezes.routes.side);
      told = λ session key is there.
          let before = up session is in
          subst (λ caps. IsCarried caps (family_of_key key) key) before.2
          (sound.told before.0 key before.1 (sym (ap is_some (freezes.told key)) ∙ there));
      left = λ session is.
          let before = up session is in
          subst (λ caps. AllByRecursion (IsSayable caps) new.left) before.2
          (all_items (IsSayable before.0.caps) new.left freezes.opens.once
          (frozen_sayable old new before.0 sound freezes before.1));
      once = freezes.opens.once;
    }

-- the session's capabilities are the same behind a freeze
pub frozen_same : (opens : Bool) (was : Option Session)
    → option_map (λ (s : Session). s.caps) (session_frozen opens was) ≡ option_map (λ (s : Session). s.caps) was
frozen_same false was = refl
frozen_same true None = refl
frozen_same true (Some before) = refl
