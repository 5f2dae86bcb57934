-- A key is needed just where its place is kept.
use Rattle.std.proofs.Common.{◌≡◌, ℕ, Bool, true, false, Option, Some, None, refl, sym, ap, ◌∙◌}
use Rattle.std.specs.Prelude.{is_some, nat_lt, ◌||◌}
use Rattle.std.specs.Option.{option_and_then}
use Rattle.std.proofs.lemmas.Bool.{false≢true}
use Rattle.linked_pending.specs.Links.{link}
use Rattle.route_values.specs.declared.key.Key.{Key}
use Rattle.slot_batches.specs.Left.{value_left}
use Rattle.adj_rib_out.specs.State.{route_at, told_at}
use Rattle.adj_rib_out.specs.Batch.{is_left}
use Rattle.adj_rib_out.specs.Calls.{IsNeeded, By_table, By_session, By_batch}
use Rattle.adj_rib_out.specs.Kept.{Parts, Values, IsTable, seen, route_by, told_by, chosen_at, parity}
use Rattle.adj_rib_out.specs.Places.{place_of}
use Rattle.adj_rib_out.specs.Trimming.{is_kept_by}
use Rattle.adj_rib_out.proofs.RowLemmas.{found}
use Rattle.adj_rib_out.proofs.PartLemmas.{route_seen, told_seen, item_seen, none_seen, is_left_item, left_by}
use Rattle.adj_rib_out.proofs.AskedLemmas.{some_route, some_value}

one_of_two : (b c : Bool) → b ≡ true → (b || c) ≡ true
one_of_two b c is = ap (λ (t : Bool). t || c) is

second_of_two : (b c : Bool) → c ≡ true → (b || c) ≡ true
second_of_two true c is = refl
second_of_two false c is = is

left_some : (values : Values) (key : Key) (o : Option ℕ) → is_some (left_by values key o) ≡ is_some o
left_some values key None = refl
left_some values key (Some n) = refl

module _ (p : Parts) (table : IsTable p) (key : Key) where
  module _ (place : ℕ) (here : place_of p.keys key ≡ Some place) where
    has_route : is_some (route_at (seen p) key) ≡ is_some (chosen_at p.routes place)
    has_route = ap is_some (route_seen p key ∙ ap (option_and_then (route_by p)) here)
        ∙ some_route p table place (chosen_at p.routes place) refl

    was_told : is_some (told_at (seen p) key) ≡ nat_lt 1 (link p.slots.sents place)
    was_told = ap is_some (told_seen p key ∙ ap (option_and_then (told_by p)) here)
        ∙ some_value p.values (parity key) (link p.slots.sents place)
        (table.taken place key (found p.keys key place here)).sent

    is_said : is_left (seen p).left key ≡ is_some (value_left p.slots.left place)
    is_said = is_left_item (seen p).left key
        ∙ ap is_some (item_seen p.keys table.once p.values key place here p.slots.left table.left)
        ∙ left_some p.values key (value_left p.slots.left place)

    one_of : (route told left : Bool) → is_some (route_at (seen p) key) ≡ route
        → is_some (told_at (seen p) key) ≡ told → is_left (seen p).left key ≡ left
        → (route || (told || left)) ≡ true → IsNeeded (seen p) key
    one_of true told left is_route is_told is_left_is some = By_table is_route
    one_of false true left is_route is_told is_left_is some = By_session is_told
    one_of false false true is_route is_told is_left_is some = By_batch is_left_is
    one_of false false false is_route is_told is_left_is some = absurd (false≢true some)

    -- what is kept is needed
    pub needed : is_kept_by p.routes p.slots place ≡ true → IsNeeded (seen p) key
    needed = one_of (is_some (chosen_at p.routes place)) (nat_lt 1 (link p.slots.sents place))
        (is_some (value_left p.slots.left place)) has_route was_told is_said

    abbrev sent : Bool
    sent = nat_lt 1 (link p.slots.sents place)

    abbrev said : Bool
    said = is_some (value_left p.slots.left place)

    -- and the other way round
    pub kept_place : IsNeeded (seen p) key → is_kept_by p.routes p.slots place ≡ true
    kept_place (By_table some) = one_of_two (is_some (chosen_at p.routes place)) (sent || said) (sym has_route ∙ some)
    kept_place (By_session some) = second_of_two (is_some (chosen_at p.routes place)) (sent || said)
        (one_of_two sent said (sym was_told ∙ some))
    kept_place (By_batch left) = second_of_two (is_some (chosen_at p.routes place)) (sent || said)
        (second_of_two sent said (sym is_said ∙ left))

  -- a key that stands nowhere isn't needed
  pub not_needed : place_of p.keys key ≡ None → IsNeeded (seen p) key → ⊥
  not_needed none (By_table some) =
      false≢true (sym (ap is_some (route_seen p key ∙ ap (option_and_then (route_by p)) none)) ∙ some)
  not_needed none (By_session some) =
      false≢true (sym (ap is_some (told_seen p key ∙ ap (option_and_then (told_by p)) none)) ∙ some)
  not_needed none (By_batch left) =
      false≢true (sym (is_left_item (seen p).left key
      ∙ ap is_some (none_seen p.keys table.once p.values key none p.slots.left table.left)) ∙ left)
