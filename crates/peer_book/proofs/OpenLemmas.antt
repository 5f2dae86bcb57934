-- Whether something is left of a batch, by what is due.
use Rattle.std.proofs.Common.{◌≡◌, Bool, true, false, List, [], ◌∷◌, ◌++◌, refl, sym, ap, ◌∙◌}
use Rattle.std.specs.Prelude.{◌↔◌, map, IsTrue, is_some}
use Rattle.std.specs.Bool.{OnFalse}
use Rattle.route_values.specs.declared.addr.Family.{Family}
use Rattle.batch_cutter.specs.Items as batch
use Rattle.batch_cutter.specs.Items.{front}
use Rattle.adj_rib_out.specs.State.{State, Item}
use Rattle.adj_rib_out.specs.Calls.{is_open}
use Rattle.adj_rib_out.specs.Nodes.{Next, next_of}
use Rattle.adj_rib_out.specs.Nodes.Next.{Says, Ends, Nothing}
use Rattle.adj_rib_out.specs.Told.{items_left, batch_item}
use Rattle.peer_book.proofs.StandsLemmas.{some_left}

-- whether something is due
abbrev pub is_due : Next → Bool
is_due (Says item) = true
is_due (Ends family) = true
is_due Nothing = false

due_left : (left : List Item) (markers : List Family) → is_due (next_of left markers) ≡ some_left left markers
due_left [] [] = refl
due_left [] (f ∷ fs) = refl
due_left (i ∷ is) markers = refl

pub open_next : (state : State) (next : Next) → next ≡ next_of state.left state.markers → is_due next ≡ is_open state
open_next state next is = ap is_due is ∙ due_left state.left state.markers

front_left : (left : List Item) (markers : List Family)
    → is_some (front (map batch_item left ++ map batch.End markers)) ≡ some_left left markers
front_left [] [] = refl
front_left [] (f ∷ fs) = refl
front_left (i ∷ is) markers = refl

-- a batch is open where there is an item at the front
pub open_front : (state : State) → is_some (front (items_left state)) ≡ is_open state
open_front state = front_left state.left state.markers

pub told_false : {P : Type 0} (result : Bool) → result ≡ false → OnFalse result P → P
told_false true is holds = absurd cc
told_false false is holds = holds

pub false_front : (result some : Bool) → result ≡ false → IsTrue result ↔ (some ≡ true) → some ≡ false
false_front result true is both = sym (both.1 refl) ∙ is
false_front result false is both = refl
