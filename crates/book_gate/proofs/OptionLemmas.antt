-- Options and booleans by their tests.
use Rattle.std.proofs.Common.{◌≡◌, ℕ, Bool, true, false, true≢false, refl, sym, ◌∙◌, arith, Option, Some, None, is_some}
use Rattle.book_gate.specs.Views.{tickets_in}

pub bool_not : (test : Bool) → (test ≡ true → ⊥) → test ≡ false
bool_not true not = absurd (not refl)
bool_not false not = refl

pub not_true : (test : Bool) → test ≡ false → test ≡ true → ⊥
not_true test off on = true≢false (sym on ∙ off)

module _ {X : Type 0} where
  pub no_value : (x : X) → None ≡ Some x → ⊥
  no_value x is = cc

  pub some_of : (value : Option X) → is_some value ≡ true → (x : X) × (value ≡ Some x)
  some_of None is = absurd (true≢false (sym is))
  some_of (Some x) is = (x, refl)

  pub none_of : (value : Option X) → is_some value ≡ false → (x : X) → value ≡ Some x → ⊥
  none_of None is x has = no_value x has
  none_of (Some y) is x has = true≢false is

  pub none_some : (value : Option X) (x : X) → value ≡ None → value ≡ Some x → ⊥
  none_some value x none some = cc

  pub some_same : (x y : X) → Some x ≡ Some y → x ≡ y
  some_same x y is = cc

pub no_ticket : (ticket : Option ℕ) → tickets_in ticket ≡ 0 → ticket ≡ None
no_ticket None is = refl
no_ticket (Some k) is = absurd (omega arith)
