-- Which effects have a line: those of which a command can write the attributes.
use Rattle.std.specs.Prelude.{ℕ, ◌≡◌, ◌<◌, ⊤, List, IfSome, Result, Ok, Err}
use Rattle.std.specs.List.{AllByRecursion}
use Rattle.route_values.specs.declared.attrs.Aggregator.{Aggregator}
use Rattle.route_values.specs.declared.attrs.WireAttrs.{WireAttrs}
use Rattle.route_values.specs.declared.path.Segment.{Segment}
use Rattle.route_values.specs.Limits.{counts_sent, IsWithinLimits}
use Rattle.update_grammar.specs.declared.effect.Effect.{Effect}
use Rattle.update_grammar.specs.declared.effect.Effect.TheVariants.{Gone, Here}
use Rattle.text_printer.specs.declared.fault.NoPrint.{NoPrint}
use Rattle.text_printer.specs.declared.fault.NoPrint.TheVariants.{Unprintable, NoMemory}
use Rattle.text_printer.specs.Printing.{effect_text}

-- an AS number other than 0, which no command writes (RFC 7607)
abbrev pub IsAs : ℕ → Type 0
IsAs number = 0 < number

-- no AS number of the segment is 0
abbrev pub HasNoZero : Segment → Type 0
HasNoZero segment = AllByRecursion IsAs segment.numbers

-- the aggregator's isn't, where there is one
abbrev pub IsFormedByAs : Aggregator → Type 0
IsFormedByAs by = IsAs by.asn

-- attributes that a command can write: no AS number is 0, and no list is longer than it may be
pub record IsWritable (sent : WireAttrs) : Type 0 where
  pub path : AllByRecursion HasNoZero sent.path
  pub aggregator : IfSome sent.aggregator IsFormedByAs
  pub limits : IsWithinLimits (counts_sent sent)

-- a withdrawal has a line whatever its key
abbrev pub IsPrintable : Effect → Type 0
IsPrintable (Gone key) = ⊤
IsPrintable (Here key sent) = IsWritable sent

-- what printing an effect gives: its line where it has one; want of memory may come in place of it
abbrev pub Prints : Effect → Result (List ℕ) NoPrint → Type 0
Prints effect (Ok line) = IsPrintable effect × (line ≡ effect_text effect)
Prints effect (Err Unprintable) = ¬ (IsPrintable effect)
Prints effect (Err NoMemory) = ⊤
