-- What a call has answered that gives what a definition says, or finds no memory for it.
use Rattle.std.specs.Prelude.{◌≡◌, ⊤, Option, Some, None, Result, Ok, Err}

-- the fault that an error blames is the one that the definition gives; an error that blames none is want of memory,
-- which may come in place of anything
abbrev pub Blames : {Y F : Type 0} → Option F → Result Y F → Type 0
Blames (Some fault) defined = defined ≡ Err fault
Blames None defined = ⊤

-- The answer of a call, of which a contract sees what view gives, is what the definition says. blamed tells which
-- fault an error blames, and None of an error that is want of memory.
abbrev pub Gives : {X Y E F : Type 0} → (X → Y) → (E → Option F) → Result X E → Result Y F → Type 0
Gives view blamed (Ok x) defined = defined ≡ Ok (view x)
Gives view blamed (Err error) defined = Blames (blamed error) defined
