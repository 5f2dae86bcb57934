-- What connecting to a peer does.
use Rattle.std.specs.Prelude.{ℕ, ◌≡◌, ◌+◌, List, Bool, false, ⊤}
use Rattle.std.specs.declared.option.Option.{Option}
use Rattle.std.specs.declared.option.Option.TheVariants.{Some, None}
use Rattle.outside.specs.declared.dialer.Dialled.{Dialled}
use Rattle.outside.specs.declared.dialer.Dialled.TheVariants.{Open, Failed}
use Rattle.outside.specs.Told.{GaveNothing, CountsOne}
use Rattle.outside.specs.Lent.{GoesBy}
use Rattle.outside.specs.Waiting.{TakesNext}
use Rattle.route_values.specs.declared.settings.Settings.{Settings}

-- where the settings are told, they are these
abbrev pub AreSettings : Option Settings → Settings → Type 0
AreSettings None to = ⊤
AreSettings (Some told) to = told ≡ to

module _ {L : Type 0} where
  -- failing to connect counts one fault, and connecting leaves the count
  abbrev pub DialCounts : ℕ → ℕ → Dialled L → Type 0
  DialCounts before now (Open link) = now ≡ before
  DialCounts before now Failed = CountsOne before now

  -- one more call has failed, or as many as before
  abbrev pub DialFails : Option ℕ → Option ℕ → Dialled L → Type 0
  DialFails old new (Open link) = GoesBy (λ count. count) old new
  DialFails old new Failed = GoesBy (λ count. count + 1) old new

  -- a link that came has given and taken nothing, hasn't ended and has no faults
  abbrev pub IsNewLink :
      (L → Option (List ℕ)) → (L → Option (List ℕ)) → (L → Bool) → (L → ℕ) → Dialled L → Type 0
  IsNewLink given taken ended faults (Open link) =
      GaveNothing (given link) × GaveNothing (taken link) × (ended link ≡ false) × (faults link ≡ 0)
  IsNewLink given taken ended faults Failed = ⊤

  -- a link that came was never quiet
  abbrev pub HasNoNotes : (L → Option (List ℕ)) → Dialled L → Type 0
  HasNoNotes quiets (Open link) = GaveNothing (quiets link)
  HasNoNotes quiets Failed = ⊤

  -- a link that came was dialled with these settings, where it tells them
  abbrev pub IsDialledWith : (L → Option Settings) → Settings → Dialled L → Type 0
  IsDialledWith dialled to (Open link) = AreSettings (dialled link) to
  IsDialledWith dialled to Failed = ⊤

  -- a link came that gives what comes next
  abbrev pub DialsNext :
      (L → List ℕ) → List (List ℕ) → List (List ℕ) → Dialled L → Type 0
  DialsNext left before after (Open link) = TakesNext before after (left link)
  DialsNext left before after Failed = ⊥
