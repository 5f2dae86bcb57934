-- What the calls of an object that opens files do.
use Rattle.std.specs.Prelude.{ℕ, ◌≡◌, ◌<◌, ◌≤◌, List, length, Bool, false, ⊤}
use Rattle.std.specs.declared.option.Option.{Option}
use Rattle.std.specs.declared.option.Option.TheVariants.{Some, None}
use Rattle.outside.specs.declared.files.Opened.{Opened}
use Rattle.outside.specs.declared.files.Opened.TheVariants as opened
use Rattle.outside.specs.Told.{GaveNothing, CountsOne, counted_with}

-- taking a source back counts one fault where the source has faults, and else leaves the count
abbrev pub CountsSource : ℕ → ℕ → ℕ → Type 0
CountsSource before now faults = (now ≡ counted_with faults before) × (before ≤ now)

-- where the content by path is told, that of a path is these bytes
abbrev pub IsContent : Option (List ℕ → List ℕ) → List ℕ → List ℕ → Type 0
IsContent None path bytes = ⊤
IsContent (Some content) path bytes = content path ≡ bytes

-- where the content by path is told, that of a path has more bytes than a limit
abbrev pub IsLonger : Option (List ℕ → List ℕ) → List ℕ → ℕ → Type 0
IsLonger None path limit = ⊤
IsLonger (Some content) path limit = limit < length (content path)

-- where the content by path is told, that of a path has at most as many bytes as a limit
abbrev pub IsWithin : Option (List ℕ → List ℕ) → List ℕ → ℕ → Type 0
IsWithin None path limit = ⊤
IsWithin (Some content) path limit = length (content path) ≤ limit

module _ {S : Type 0} where
  -- failing to open counts one fault, and opening leaves the count
  abbrev pub OpenCounts : ℕ → ℕ → Opened S → Type 0
  OpenCounts before now (opened.Open source) = now ≡ before
  OpenCounts before now opened.Failed = CountsOne before now

  -- a file was opened
  abbrev pub IsOpen : Opened S → Type 0
  IsOpen (opened.Open source) = ⊤
  IsOpen opened.Failed = ⊥

  -- what is opened has given nothing, hasn't ended and has no faults
  abbrev pub IsFresh : (S → Option (List ℕ)) → (S → Bool) → (S → ℕ) → Opened S → Type 0
  IsFresh given ended faults (opened.Open source) =
      GaveNothing (given source) × (ended source ≡ false) × (faults source ≡ 0)
  IsFresh given ended faults opened.Failed = ⊤

  -- where the content by path is told, what is opened has the content of its path left to give
  abbrev pub HasContent :
      Option (List ℕ → List ℕ) → List ℕ → (S → Option (List ℕ)) → Opened S → Type 0
  HasContent (Some content) path left (opened.Open source) = left source ≡ Some (content path)
  HasContent (Some content) path left opened.Failed = ⊤
  HasContent None path left answer = ⊤
