-- Numbered slots: the value that each is to have, the one that was sent of it, and what is left of the open batch. The
-- parity of a slot's values never changes, and 0 and 1 stand for no value.
use Rattle.std.specs.Prelude.{ℕ, ◌≡◌, ◌<◌, ◌%◌, ◌&&◌, ◌||◌, Bool, true, not, List, ◌==◌, nat_lt}
use Rattle.std.specs.Prelude.{if◌then◌else◌, Some, None, is_none, length}
use Rattle.linked_pending.specs.Links.{link}
use Rattle.linked_pending.specs.Listing.{has, AreApart}
use Rattle.slot_batches.specs.declared.slots.Item.{Item}
use Rattle.slot_batches.specs.Left.{value_left, slots_of, values_of, AreTogether}

-- what a contract sees: the numbers below room are values, and the last two flags tell which slots are owed again
pub record Slots : Type 0 where
  pub room : ℕ
  pub nows : List ℕ
  pub sents : List ℕ
  pub left : List Item
  pub even_again : Bool
  pub odd_again : Bool

-- whether a number stands for a value
abbrev pub is_value : ℕ → Bool
is_value number = nat_lt 1 number

-- whether a slot is owed: it has another value than was sent, or it has one and is to be sent again
abbrev pub owes : ℕ → ℕ → Bool → Bool
owes was now again = not (was == now) || (is_value now && again)

-- which of two flags is that of a value
abbrev pub flag_of : Bool → Bool → ℕ → Bool
flag_of even odd value = if value % 2 == 0 then even else odd

-- whether a batch that begins now owes the slot
abbrev pub is_owed : Slots → ℕ → Bool
is_owed slots slot = owes (link slots.sents slot) (link slots.nows slot)
    (flag_of slots.even_again slots.odd_again (link slots.nows slot))

-- A batch begins: of each owed slot there is left the value that it is to have, once, and of no other slot. Equal
-- values stand together.
pub record Opens (old : Slots) (left : List Item) : Type 0 where
  pub owed : (slot : ℕ) → slot < length old.nows
      → value_left left slot ≡ (if is_owed old slot then Some (link old.nows slot) else None)
  pub within : (slot : ℕ) → has slot (slots_of left) ≡ true → slot < length old.nows
  pub once : AreApart (slots_of left)
  pub together : AreTogether (values_of left)

-- nothing is kept of the slot: it has no value, none was sent, and the open batch doesn't speak of it
abbrev pub is_idle : Slots → ℕ → Bool
is_idle slots slot = not (is_value (link slots.nows slot)) && not (is_value (link slots.sents slot))
    && is_none (value_left slots.left slot)
