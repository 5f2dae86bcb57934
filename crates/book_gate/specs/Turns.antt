-- What waiting for a turn, and ending it, need and tell of a seat.
use Rattle.std.specs.Prelude.{◌≡◌, ℕ, ◌%◌, ◌^◌, true, false, List, [], ◌∷◌, ◌++◌, Some}
use Rattle.atomic_table.specs.declared.shared.Seat.{Seat}
use Rattle.book_gate.specs.declared.view.View.{View}
use Rattle.book_gate.specs.Histories.{entries}

module _ {S A E : Type 0} where
  -- Two states of one seat
  abbrev pub IsSameSeat : Seat S (View A E) → Seat S (View A E) → Type 0
  IsSameSeat seat later = (later.table_id ≡ seat.table_id) × (later.id ≡ seat.id)

module _ {A E : Type 0} where
  -- A pass has the ticket of this number, and its turn has not come
  pub record IsWaiting (view : View A E) (number : ℕ) : Type 0 where
    pub start : A
    pub started : view.start ≡ Some start
    pub rests : view.turn ≡ false
    pub ticket : ℕ
    pub has : view.ticket ≡ Some ticket
    pub shows : ticket % 2 ^ 64 ≡ number

module _ {T A E : Type 0} (stands : T → A → List E → Type 0) (law : A → List E → E → Type 0) where
  -- The turn has come, and the state stands for all that is seen and the entry, which the law allows there
  pub record IsReady (view : View A E) (state : T) (entry : E) : Type 0 where
    pub start : A
    pub started : view.start ≡ Some start
    pub turn : view.turn ≡ true
    pub allowed : law start (entries view.seen) entry
    pub stands_for : stands state start (entries view.seen ++ entry ∷ [])
