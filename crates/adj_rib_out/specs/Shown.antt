-- How slots come to show on a session what their keys were given, one place after another.
use Rattle.std.specs.Prelude.{ℕ, ◌≡◌, ◌+◌, ◌*◌, ◌%◌, ◌<◌, List, Option, Some, None, length, slice_set}
use Rattle.linked_pending.specs.Links.{link}
use Rattle.route_values.specs.declared.key.Key.{Key}
use Rattle.route_values.specs.Caps.{Caps}
use Rattle.slot_batches.specs.Slots.{Slots}
use Rattle.adj_rib_out.specs.declared.chosen.Chosen.{Chosen}
use Rattle.adj_rib_out.specs.Kept.{Values, AreKept, parity, shown_number, chosen_at}
use Rattle.adj_rib_out.specs.Places.{key_at}

-- there is room for each number, and a slot has the parity of its key
pub record CanShow (keys : List (Option Key)) (values : Values) (slots : Slots) : Type 0 where
  pub kept : AreKept values
  pub room : (place : ℕ) (key : Key) → key_at keys place ≡ Some key → 2 * length values.wires + 1 < slots.room
  pub same_length : length slots.nows ≡ length keys
  pub parity_is : (place : ℕ) (key : Key) → key_at keys place ≡ Some key → link slots.nows place % 2 ≡ parity key

-- the slots where one shows what its key was given
abbrev pub show_by : Option Key → List (Option Chosen) → Values → Caps → Slots → ℕ → Slots
show_by None routes values caps slots place = slots
show_by (Some key) routes values caps slots place = record slots {
  nows = slice_set slots.nows place (shown_number (Some caps) values key (chosen_at routes place));
}

abbrev pub place_shown : List (Option Key) → List (Option Chosen) → Values → Caps → Slots → ℕ → Slots
place_shown keys routes values caps slots place = show_by (key_at keys place) routes values caps slots place

-- the places below a number show what their keys were given, and nothing else has changed
pub record HasShown (keys : List (Option Key)) (routes : List (Option Chosen)) (values : Values) (caps : Caps)
    (old new : Slots) (places : ℕ) : Type 0 where
  pub can : CanShow keys values new
  pub rest : new ≡ record old { nows = new.nows }
  pub shown : (place : ℕ) (key : Key) → place < places → key_at keys place ≡ Some key
      → link new.nows place ≡ shown_number (Some caps) values key (chosen_at routes place)
  pub free : (place : ℕ) → key_at keys place ≡ None → link new.nows place ≡ link old.nows place
