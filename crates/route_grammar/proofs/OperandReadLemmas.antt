-- What an operand's reader answers, in the words of its item.
use Rattle.std.proofs.Common.{◌≡◌, List, Option, Result, Ok, Err, sym, subst}
use Rattle.std.specs.Result.{MatchResult, IsOkAnd}
use Rattle.route_values.specs.declared.addr.Family.{Family}
use Rattle.token_reader.specs.declared.token.Place.{Place}
use Rattle.token_reader.specs.Tokens.{Placed}
use Rattle.route_grammar.specs.declared.fault.ReadFault.{ReadFault}
use Rattle.route_grammar.specs.declared.items.Item.{Item}
use Rattle.route_grammar.specs.declared.kind.Kind.{Kind}
use Rattle.route_grammar.specs.Items.{Operand}
use Rattle.route_grammar.specs.Limits.{in_force}
use Rattle.route_grammar.specs.Productions.{Production, Saying, nothing_further}
use Rattle.route_grammar.specs.Answered.{Answers, Reads}
use Rattle.route_grammar.proofs.AnsweredLemmas.{saying_answers, saying_reads}

pub said_answers : {V : Type 0} (say : V → Item) (R : Production V) (tokens left : List Placed) (end : Place)
    (inner : Result V ReadFault) (result : Result Item ReadFault)
    → MatchResult inner (λ value. IsOkAnd result (λ item. item ≡ say value)) (λ fault. result ≡ Err fault)
    → Answers R nothing_further in_force tokens left end inner
    → Answers (Saying say R) nothing_further in_force tokens left end result
said_answers say R tokens left end (Ok value) (Ok item) says answers =
    subst (λ (one : Item). Reads (Saying say R) nothing_further in_force tokens left one) (sym says)
    (saying_reads say R nothing_further in_force tokens left value answers)
said_answers say R tokens left end (Ok value) (Err fault) says answers = absurd says
said_answers say R tokens left end (Err fault) result says answers =
    subst (λ (one : Result Item ReadFault). Answers (Saying say R) nothing_further in_force tokens left end one)
    (sym says) (saying_answers say R nothing_further in_force tokens left end fault answers)

pub at_kind : (family : Option Family) (kind one : Kind) (tokens left : List Placed) (end : Place)
    (result : Result Item ReadFault) → kind ≡ one
    → Answers (Operand family one) nothing_further in_force tokens left end result
    → Answers (Operand family kind) nothing_further in_force tokens left end result
at_kind family kind one tokens left end result is answers =
    subst (λ (which : Kind). Answers (Operand family which) nothing_further in_force tokens left end result) (sym is)
    answers
