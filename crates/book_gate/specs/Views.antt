-- Views, and how each step changes them.
use Rattle.std.specs.Prelude.{◌≡◌, ℕ, ◌+◌, ◌-◌, ◌/◌, true, false, List, [], ◌∷◌, ◌++◌, length, Option, Some, None}
use Rattle.std.specs.Prelude.{is_some, cond, nat_lt, Contains}
use mathlib.Core.List.{IsPrefix}
use Rattle.book_gate.specs.declared.view.Signed.{Signed}
use Rattle.book_gate.specs.declared.view.Part.{Part}
use Rattle.book_gate.specs.declared.view.Lesson.{Lesson}
use Rattle.book_gate.specs.declared.view.View.{View}
use Rattle.book_gate.specs.Histories.{entries_by, signed}
use Rattle.book_gate.specs.Names.{Lineage, child_name}

-- How many passes may come from the first pass
abbrev pub first_room : ℕ
first_room = 4611686018427387903

-- How many passes may come from a pass that is split off one with this room
abbrev pub room_share : ℕ → ℕ
room_share room = room / 65536

-- 1 where there is a ticket
abbrev pub tickets_in : Option ℕ → ℕ
tickets_in None = 0
tickets_in (Some k) = 1

module _ {A E : Type 0} where
  -- The view of a glimpse: what was seen, and nothing else
  abbrev pub glimpse_view : List (Signed E) → View A E
  glimpse_view seen = record {
    start = None;
    name = [];
    seen = seen;
    ticket = None;
    turn = false;
    room = 0;
    next = 0;
    split = [];
    joined = [];
    lesson = None;
  }

  -- The view that a joined pass or a learned glimpse leaves
  abbrev pub spent_view : View A E
  spent_view = glimpse_view []

  -- The view of the first pass
  abbrev pub first_view : A → View A E
  first_view start = record (glimpse_view []) { start = Some start; room = first_room }

  -- The ticket that is out with the view
  abbrev pub ticket_of : View A E → Option ℕ
  ticket_of view = view.ticket

  -- How many tickets are out with the view
  abbrev pub tickets_of : View A E → ℕ
  tickets_of view = tickets_in view.ticket

  -- How many passes the view is or may become: a pass and those that may come from it
  abbrev pub places_of : View A E → ℕ
  places_of view = cond (is_some view.start) (view.room + 1) 0

  -- What the view says of names
  abbrev pub lineage : View A E → Lineage
  lineage view = record {
    live = is_some view.start;
    name = view.name;
    next = view.next;
    split = view.split;
    joined = view.joined;
  }

  -- The names of which the view has seen all entries: its own, and those joined into it
  abbrev pub own_names : View A E → List (List ℕ)
  own_names view = view.name ∷ view.joined

  -- What the view has seen, with those names
  abbrev pub part_of : View A E → Part E
  part_of view = record { seen = view.seen; names = own_names view }

  -- A ticket was taken
  abbrev pub with_ticket : View A E → ℕ → View A E
  with_ticket view k = record view { ticket = Some k }

  -- The turn has come, and the whole history is seen
  abbrev pub at_turn : View A E → List (Signed E) → View A E
  at_turn view history = record view { seen = history; turn = true; lesson = None }

  -- An entry of the view's own was counted
  abbrev pub with_entry : View A E → E → View A E
  with_entry view entry = record view { seen = view.seen ++ signed view.name entry ∷ []; lesson = None }

  -- The turn is over
  abbrev pub at_rest : View A E → View A E
  at_rest view = record view { ticket = None; turn = false }

  -- One more name was given out
  abbrev pub parent_view : View A E → View A E
  parent_view view = record view {
    next = view.next + 1;
    split = view.split ++ child_name view.name view.next ∷ [];
    room = view.room - (room_share view.room + 1);
  }

  -- The view of the pass that has the name
  abbrev pub child_view : View A E → View A E
  child_view view = record (glimpse_view view.seen) {
    start = view.start;
    name = child_name view.name view.next;
    room = room_share view.room;
  }

module _ {E : Type 0} where
  -- The longer of two lists of entries
  abbrev pub longer : List (Signed E) → List (Signed E) → List (Signed E)
  longer xs ys = cond (nat_lt (length xs) (length ys)) ys xs

  -- The list begins with the part's, and has no more entries of its names
  pub record IsWhole (seen : List (Signed E)) (part : Part E) : Type 0 where
    pub front : IsPrefix part.seen seen
    pub same : (name : List ℕ) → Contains part.names name → entries_by name seen ≡ entries_by name part.seen

module _ {A E : Type 0} where
  -- What a view is after another pass was joined into it
  abbrev pub joined_view : View A E → View A E → View A E
  joined_view view other = record view {
    seen = longer view.seen other.seen;
    room = view.room + (other.room + 1);
    split = view.split ++ other.split;
    joined = (view.joined ++ other.joined) ++ other.name ∷ [];
    lesson = Some record { own = part_of view; other = part_of other };
  }

  -- What a view is after it learned from a glimpse
  abbrev pub taught_view : View A E → View A E → View A E
  taught_view view glimpse = record view {
    seen = longer view.seen glimpse.seen;
    lesson = Some record { own = part_of view; other = record { seen = glimpse.seen; names = [] } };
  }

  -- What the last join or glimpse brought is seen, and each side's own entries are those that it had
  abbrev pub KeepsLesson : View A E → Type 0
  KeepsLesson view = (lesson : Lesson E) → view.lesson ≡ Some lesson
      → IsWhole view.seen lesson.own × IsWhole view.seen lesson.other
