-- What receiving from a link does.
use Rattle.std.specs.Prelude.{ℕ, ◌≡◌, ◌<◌, ◌≤◌, List, [], ◌∷◌, length, take, Bool, true}
use Rattle.std.specs.declared.option.Option.{Option}
use Rattle.std.specs.declared.option.Option.TheVariants.{Some, None}
use Rattle.outside.specs.declared.link.Recv.{Recv}
use Rattle.outside.specs.declared.link.Recv.TheVariants.{Got, End, Quiet, Failed}
use Rattle.outside.specs.Told.{Grows, CountsOne}

-- `Got(n)` gives the n bytes that it put at the front of the buffer, each other answer none
abbrev pub Receives : Option (List ℕ) → Option (List ℕ) → List ℕ → Recv → Type 0
Receives old new into (Got n) = (0 < n) × (n ≤ length into) × Grows old new (take n into)
Receives old new into End = Grows old new []
Receives old new into Quiet = Grows old new []
Receives old new into Failed = Grows old new []

-- how many bytes an object has told, where it tells them
abbrev pub told_length : Option (List ℕ) → Option ℕ
told_length None = None
told_length (Some bytes) = Some (length bytes)

-- a quiet call notes how many bytes were given before it, and each other call notes nothing
abbrev pub Notes : Option (List ℕ) → Option ℕ → Option (List ℕ) → Recv → Type 0
Notes old (Some count) new Quiet = Grows old new (count ∷ [])
Notes old None new Quiet = new ≡ None
Notes old count new (Got n) = Grows old new []
Notes old count new End = Grows old new []
Notes old count new Failed = Grows old new []

-- whether a link has answered that there are no more bytes
abbrev pub Closes : Bool → Bool → Recv → Type 0
Closes was is (Got n) = is ≡ was
Closes was is End = is ≡ true
Closes was is Quiet = is ≡ was
Closes was is Failed = is ≡ was

-- a failed call counts one fault, and each other answer leaves the count
abbrev pub RecvCounts : ℕ → ℕ → Recv → Type 0
RecvCounts before now (Got n) = now ≡ before
RecvCounts before now End = now ≡ before
RecvCounts before now Quiet = now ≡ before
RecvCounts before now Failed = CountsOne before now
