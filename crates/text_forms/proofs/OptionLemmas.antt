-- Answers that may be None.
use Rattle.std.proofs.Common.{Option, Some, None}
use Rattle.std.specs.Option.{SomeIff, IfSome, IfNone}

-- what follows of an answer's value
pub some_map : {T : Type 0} (answer : Option T) (P Q : T → Type 0) → ((value : T) → P value → Q value)
    → IfSome answer P → IfSome answer Q
some_map None P Q follows holds = tt
some_map (Some value) P Q follows holds = follows value holds

-- what follows where there is none
pub none_map : {T : Type 0} (answer : Option T) (P Q : Type 0) → (P → Q) → IfNone answer P → IfNone answer Q
none_map None P Q follows holds = follows holds
none_map (Some value) P Q follows holds = tt

-- an answer that comes exactly where a fact holds is None only where that fails
pub none_from : {T : Type 0} (answer : Option T) (P : Type 0) (value : T) (Q : Type 0)
    → SomeIff answer P value → ((P → ⊥) → Q) → IfNone answer Q
none_from None P value Q says follows = follows says
none_from (Some found) P value Q says follows = tt
