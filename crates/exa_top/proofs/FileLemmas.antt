-- Files whose bytes aren't had.
use Rattle.std.proofs.Common.{ℕ, ◌≡◌, ◌<◌, ◌+◌, List, length, replicate, refl, arith}
use Rattle.std.specs.declared.option.Option.{Option}
use Rattle.std.proofs.lemmas.List.{length-replicate}
use Rattle.outside.specs.declared.reading.Unread.{Unread}
use Rattle.outside.specs.declared.reading.Unread.TheVariants as unread
use Rattle.outside.specs.Opening.{IsLonger}
use Rattle.exa_top.specs.Files.{IsLost, max_file, status_unread}

-- some list has more elements than a limit
pub more_than : (limit : ℕ) → (bytes : List ℕ) × (limit < length bytes)
more_than limit = (replicate (limit + 1) 0, omega (arith, length-replicate {A = ℕ} (limit + 1) 0))

-- a file that wasn't read whole
pub lost_is : (content : Option (List ℕ → List ℕ)) (path : List ℕ) (why : Unread)
    → (why ≡ unread.Long → IsLonger content path max_file) → IsLost content path (status_unread why)
lost_is content path unread.Memory long = tt
lost_is content path unread.Fault long = tt
lost_is content path unread.Long long = (long refl, refl)
