-- What contracts see of a pass, and of a glimpse.
use Rattle.std.specs.Prelude.{◌≡◌, ℕ, false, true, List, [], length, Option, is_some}
pub use Rattle.atomic_table.specs.Seated.{TableId}
use Rattle.atomic_table.specs.declared.shared.Seat.{Seat}
use Rattle.book_gate.specs.declared.view.Signed.{Signed}
use Rattle.book_gate.specs.declared.view.View.{View}
use Rattle.book_gate.specs.Histories.{entries_by}
use Rattle.book_gate.specs.Views.{first_view, tickets_in}

-- A pass: its gate, what that was opened with, its name, how many names it gave out, what it has seen, the names that
-- it and the passes joined into it gave out, the names of those passes, and how many passes may still come from it
pub record Known (A E : Type 0) : Type 0 where
  pub gate : TableId
  pub start : Option A
  pub name : List ℕ
  pub next : ℕ
  pub seen : List (Signed E)
  pub split : List (List ℕ)
  pub joined : List (List ℕ)
  pub room : ℕ

-- A glimpse: its gate, and what was seen
pub record Glimpsed (E : Type 0) : Type 0 where
  pub gate : TableId
  pub seen : List (Signed E)

module _ {A E : Type 0} where
  -- The entries that the pass made itself
  abbrev pub mine : Known A E → List (Signed E)
  mine pass = entries_by pass.name pass.seen

  -- The pass that has a view of a table
  abbrev pub known_at : TableId → View A E → Known A E
  known_at gate view = record {
    gate = gate;
    start = view.start;
    name = view.name;
    next = view.next;
    seen = view.seen;
    split = view.split;
    joined = view.joined;
    room = view.room;
  }

  -- The first pass of a gate
  abbrev pub first_known : TableId → A → Known A E
  first_known gate start = known_at gate (first_view start)

module _ {S A E : Type 0} where
  -- The pass of a seat
  abbrev pub known : Seat S (View A E) → Known A E
  known seat = known_at seat.table_id seat.me.0

  -- The glimpse of a seat
  abbrev pub glimpsed : Seat S (View A E) → Glimpsed E
  glimpsed seat = record { gate = seat.table_id; seen = seat.me.0.seen }

  -- The seat holds nothing and waits for nothing
  pub record IsIdle (seat : Seat S (View A E)) : Type 0 where
    pub holds_none : length seat.me.1 ≡ 0
    pub has_no_ticket : tickets_in seat.me.0.ticket ≡ 0
    pub rests : seat.me.0.turn ≡ false

  -- An idle seat of a pass, of which this many passes may still come
  pub record IsAtRest (seat : Seat S (View A E)) (room : ℕ) : Type 0 where
    pub idle : IsIdle seat
    pub alive : is_some seat.me.0.start ≡ true
    pub room_is : room ≡ seat.me.0.room

  -- An idle seat of no pass
  pub record IsGlimpse (seat : Seat S (View A E)) : Type 0 where
    pub idle : IsIdle seat
    pub no_pass : is_some seat.me.0.start ≡ false

-- A name of no gate
abbrev pub no_gate : TableId
no_gate = record { words = 0; slots = 0; views_name = 0; atom = 0; block = 0; offset = 0; slot_names = [] }
