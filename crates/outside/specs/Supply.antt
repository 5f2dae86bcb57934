-- What a source in memory gives.
use Rattle.std.specs.Prelude.{ℕ, ◌≡◌, ◌-◌, ◌^◌, List, length, take, drop, min, ◌==◌, if◌then◌else◌, ⊤}
use Rattle.outside.specs.declared.files.Opened.{Opened}
use Rattle.outside.specs.declared.files.Opened.TheVariants as opened
use Rattle.outside.specs.declared.memory.sure_source.SureSource.{SureSource}
use Rattle.outside.specs.declared.source.Read.{Read}
use Rattle.outside.specs.declared.source.Read.TheVariants.{Got, End}

-- how many bytes it gives at most in one call
abbrev pub step_of : SureSource → ℕ
step_of s = s.step

-- the bytes that it has still to give
abbrev pub rest_of : SureSource → List ℕ
rest_of s = drop s.at s.content.now

-- the bytes that it has given
abbrev pub given_of : SureSource → List ℕ
given_of s = take s.at s.content.now

-- as many bytes as a buffer, a step and the bytes left allow, or else the end
abbrev pub answer_of : ℕ → ℕ → List ℕ → Read
answer_of room step rest =
    let count = min (min room step) (length rest) in
    if count == 0 then End else Got count

-- a file that was opened gives all that the buffer holds
abbrev pub GivesAll : Opened SureSource → Type 0
GivesAll (opened.Open source) = step_of source ≡ 2 ^ 64 - 1
GivesAll opened.Failed = ⊤
