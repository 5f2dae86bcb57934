-- What a contract sees of a pool: under each number a value with a tag, or nothing, and the numbers that are noted.
use Rattle.std.specs.Prelude.{ℕ, ◌≤◌, ◌≡◌, ◌==◌, ◌++◌, Bool, true, false, List, [], ◌∷◌, if◌then◌else◌, nat_lt}
use Rattle.std.specs.Prelude.{Option, Some, None, IsSome, length, slice_set, slice_index_or, refl}
use Rattle.std.specs.Coded.{Coded, code_by, coded×, coded_ℕ, coded_list, coded_option}
use Rattle.linked_pending.specs.Listing.{has, without}

-- the value and its tag under each number from 0 on, and the noted numbers in order
pub record Pool (T : Type 0) : Type 0 where
  pub items : List (Option (T × ℕ))
  pub idle : List ℕ

-- a pool is stored as the pair of its fields
abbrev pub pool_code : {T : Type 0} → Coded T → Coded (Pool T)
pool_code {T} code =
    code_by
    (List (Option (T × ℕ)) × List ℕ)
    (coded× (coded_list (coded_option (coded× code coded_ℕ))) (coded_list coded_ℕ))
    (λ pool. (pool.items, pool.idle))
    (λ pair. record { items = pair.0; idle = pair.1 })
    (λ _. refl)

-- the numbers after one is noted: it stands last
abbrev pub noted : ℕ → List ℕ → List ℕ
noted number idle = without number idle ++ number ∷ []

-- whether there is an item, and its value passes a test
abbrev pub passes : {T : Type 0} → (T → Bool) → Option (T × ℕ) → Bool
passes test None = false
passes test (Some item) = test item.0

module _ {T : Type 0} where
  -- the item under a number
  abbrev pub item_at : List (Option (T × ℕ)) → ℕ → Option (T × ℕ)
  item_at items number = slice_index_or items number None

  -- the items with one under a number, which is among theirs or the next
  abbrev pub with_item : List (Option (T × ℕ)) → ℕ → T × ℕ → List (Option (T × ℕ))
  with_item items number item =
      if nat_lt number (length items) then slice_set items number (Some item) else items ++ Some item ∷ []

  -- an item stands under a number that was free, and nothing else has changed
  pub record Adds (old new : Pool T) (number : ℕ) (item : T × ℕ) : Type 0 where
    pub free : item_at old.items number ≡ None
    pub next : number ≤ length old.items
    pub items : new.items ≡ with_item old.items number item
    pub others : (n : ℕ) → item_at new.items n ≡ (if n == number then Some item else item_at old.items n)
    pub idle : new.idle ≡ old.idle

  -- the item under a number is gone, the number isn't noted, and nothing else has changed
  pub record TakesOut (old new : Pool T) (number : ℕ) : Type 0 where
    pub items : new.items ≡ slice_set old.items number None
    pub others : (n : ℕ) → item_at new.items n ≡ (if n == number then None else item_at old.items n)
    pub idle : new.idle ≡ without number old.idle

  -- of two equal values both are one, and each noted number has an item
  pub record IsSound (eq : T → T → Bool) (pool : Pool T) : Type 0 where
    pub once : (a b : ℕ) (x y : T × ℕ) → item_at pool.items a ≡ Some x → item_at pool.items b ≡ Some y
        → eq x.0 y.0 ≡ true → a ≡ b
    pub held : (number : ℕ) → has number pool.idle ≡ true → IsSome (item_at pool.items number)
