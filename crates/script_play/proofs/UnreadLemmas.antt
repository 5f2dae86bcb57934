-- Files that give no configuration.
use Rattle.std.proofs.Common.{ℕ, ◌≡◌, ◌<◌, ◌+◌, List, Option, Some, None, length, replicate, refl, inl, arith}
use Rattle.std.proofs.lemmas.List.{length-replicate}
use Rattle.outside.specs.Opening.{IsLonger}
use Rattle.outside.specs.declared.reading.Unread.{Unread}
use Rattle.outside.specs.declared.reading.Unread.TheVariants as unread
use Rattle.config_model.specs.declared.slots.Slots.{Slots}
use Rattle.config_reader.specs.Files.{too_long}
use Rattle.text_history.specs.Configured.{IsFaultAt}
use Rattle.script_play.specs.Status.{IsUnread, status_unread}

-- some list has more elements than a limit
more_than : (limit : ℕ) → (bytes : List ℕ) × (limit < length bytes)
more_than limit = (replicate (limit + 1) 0, omega (arith, length-replicate {A = ℕ} (limit + 1) 0))

-- a file that is too long is refused for that
long_at : (content : Option (List ℕ → List ℕ)) (path : List ℕ) (slots : Slots) → IsLonger content path 1048576
    → IsFaultAt content path slots too_long
long_at None path slots longer =
    let some = more_than 1048576 in record { bytes = some.0; are = tt; first = inl (some.1, refl) }
long_at (Some content) path slots longer =
    record { bytes = content path; are = refl; first = inl (longer, refl) }

-- a file that wasn't read whole gives none
pub unread_is : (content : Option (List ℕ → List ℕ)) (path : List ℕ) (slots : Slots) (why : Unread)
    → (why ≡ unread.Long → IsLonger content path 1048576) → IsUnread content path slots (status_unread why)
unread_is content path slots unread.Memory long = tt
unread_is content path slots unread.Fault long = tt
unread_is content path slots unread.Long long = long_at content path slots (long refl)
