-- How bytes pass through a source over a reader, a sink over a writer and a link over a stream.
use Rattle.std.specs.Prelude.{ℕ, List, take, Result, MatchResult}
use Rattle.std.specs.declared.option.Option.{Option}
use Rattle.std.specs.Io.KnownBytes.{Keeps, Appends, Consumes, IsAtEnd}
use Rattle.outside.specs.declared.source.Read.{Read}
use Rattle.outside.specs.declared.source.Read.TheVariants as read
use Rattle.outside.specs.declared.link.Recv.{Recv}
use Rattle.outside.specs.declared.link.Recv.TheVariants as recv
use Rattle.outside.specs.declared.sink.Write.{Write}
use Rattle.outside.specs.declared.sink.Write.TheVariants as write

-- what a source gives is what its reader had left; the end comes only where that was nothing
abbrev pub Gives : Option (List ℕ) → Option (List ℕ) → List ℕ → Read → Type 0
Gives old new into (read.Got n) = Consumes old new (take n into)
Gives old new into read.End = Keeps old new × IsAtEnd new
Gives old new into read.Failed = Keeps old new

-- what a child's source gives is what its reader had left; the end may come before that, where the child is over
abbrev pub GivesFront : Option (List ℕ) → Option (List ℕ) → List ℕ → Read → Type 0
GivesFront old new into (read.Got n) = Consumes old new (take n into)
GivesFront old new into read.End = Keeps old new
GivesFront old new into read.Failed = Keeps old new

-- a read of so many bytes gave what the reader had left, and one of none or an error left that
abbrev pub ReadGivesFront : {E : Type 0} → Option (List ℕ) → Option (List ℕ) → Result ℕ E → List ℕ → Type 0
ReadGivesFront old new answer into = MatchResult answer (λ n. Consumes old new (take n into)) (λ _. Keeps old new)

-- what a link gives is what its stream had left; the end comes only where that was nothing
abbrev pub Hears : Option (List ℕ) → Option (List ℕ) → List ℕ → Recv → Type 0
Hears old new into (recv.Got n) = Consumes old new (take n into)
Hears old new into recv.End = Keeps old new × IsAtEnd new
Hears old new into recv.Quiet = Keeps old new
Hears old new into recv.Failed = Keeps old new

-- what a sink takes is what its writer holds more
abbrev pub Takes : Option (List ℕ) → Option (List ℕ) → List ℕ → Write → Type 0
Takes old new piece (write.Wrote n) = Appends old new (take n piece)
Takes old new piece write.Failed = Keeps old new
