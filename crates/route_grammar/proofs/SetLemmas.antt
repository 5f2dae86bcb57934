-- Sets of numbers within a path, behind so many numbers.
use Rattle.std.proofs.Common.{ℕ, ◌≡◌, ◌≢◌, ◌<◌, ◌≤◌, ◌+◌, List, [], ◌∷◌, ◌++◌, length, Option, Some, Err, ap, sym, ◌∙◌}
use Rattle.std.proofs.Common.{refl, subst, arith, inl, inr, length-append}
use Rattle.text_forms.specs.Numbers.{IsAsn}
use Rattle.token_reader.specs.declared.token.Place.{Place}
use Rattle.token_reader.specs.Tokens.{Token, Placed, front_token, behind_front}
use Rattle.route_grammar.specs.declared.fault.ReadFault.{ReadFault}
use Rattle.route_grammar.specs.Limits.{Numbers, Limits, in_force, raised}
use Rattle.route_grammar.specs.Productions.{OneWord, nothing_further}
use Rattle.route_grammar.specs.Answered.{Answers, Reads, IsNoRoom}
use Rattle.route_grammar.specs.Lists.{IsSet, SetBehind, opening_paren, closing_paren}
use Rattle.route_grammar.proofs.AnsweredLemmas.{fault_answers}
use Rattle.route_grammar.proofs.InsideLemmas.{IsInside, IsNext, inside_read, next_faults}
use Rattle.route_grammar.proofs.LimitLemmas.{raised_one}
use Rattle.route_grammar.proofs.ListLemmas.{word_further, words_start, words_grow, bad_full, many_full}
use Rattle.route_grammar.proofs.WordLemmas.{bad_answers, many_answers}

set_next : (before : ℕ) (values : List ℕ) (lead : Option Token) → before + length values < 255
    → IsNext (OneWord IsAsn) (OneWord IsAsn) (IsSet before) in_force values lead
set_next before values lead room = record {
  wider = λ held text value least read. (
    read,
    (
      omega (arith, length-append values (value ∷ [])),
      omega (arith, room, least Numbers, length-append values (value ∷ [])),
    ),
  );
  same = λ held text others value more at read fits. read;
}

-- a token that is no number
pub set_fault : (before : ℕ) (tokens mid left : List Placed) (end : Place) (values : List ℕ) (fault : ReadFault)
    → IsInside opening_paren (OneWord IsAsn) word_further in_force tokens mid values
    → (0 < length values → front_token mid ≢ Some closing_paren) → before + length values < 255
    → Answers {V = ℕ} (OneWord IsAsn) nothing_further in_force mid left end (Err fault)
    → Answers {V = List ℕ} (SetBehind before) nothing_further in_force tokens left end (Err fault)
set_fault before tokens mid left end values fault inside still room answers =
    fault_answers (OneWord IsAsn) (SetBehind before) nothing_further nothing_further in_force mid tokens left end fault
    (λ over faults. next_faults opening_paren closing_paren (OneWord IsAsn) (OneWord IsAsn) (IsSet before) word_further
    in_force tokens mid left over values (words_grow IsAsn) refl inside (λ held fits. still fits.0)
    (set_next before values (front_token mid) room) faults)
    answers

set_over : (before : ℕ) (values : List ℕ) (value : ℕ) → before + length values ≡ 255
    → IsSet before (raised Numbers in_force) (values ++ value ∷ [])
set_over before values value full = (
  omega (arith, length-append values (value ∷ [])),
  omega (arith, full, raised_one Numbers in_force, length-append values (value ∷ [])),
)

set_past : (before : ℕ) (values more : List ℕ) (said : ℕ) (held : Limits) → before + length values ≡ 255
    → held Numbers ≡ 255 → IsSet before held (values ++ said ∷ more) → ⊥
set_past before values more said held full same fits =
    omega (arith, full, same, fits.1, length-append values (said ∷ more))

-- no number has room
pub set_no_room : (before : ℕ) (tokens left : List Placed) (end : Place) (limit : ℕ) (values : List ℕ)
    (fault : ReadFault) → limit ≡ 255
    → IsInside opening_paren (OneWord IsAsn) word_further in_force tokens left values → 0 < length values
    → front_token left ≢ Some closing_paren → before + length values ≡ 255 → IsNoRoom IsAsn left end limit fault
    → Answers {V = List ℕ} (SetBehind before) nothing_further in_force tokens left end (Err fault)
set_no_room before tokens left end limit values fault is inside some still full (inl many) =
    many_answers (SetBehind before) nothing_further in_force tokens left end fault Numbers limit many.4 is
    (many_full opening_paren closing_paren IsAsn (IsSet before) in_force tokens left values Numbers many.0 many.1 refl
    inside still many.2 many.3 (some, omega (arith, full)) (set_over before values many.1 full)
    (λ held said more same fits. set_past before values more said held full same fits))
set_no_room before tokens left end limit values fault is inside some still full (inr bad) =
    bad_answers (SetBehind before) nothing_further in_force tokens left end fault bad.1
    (bad_full opening_paren closing_paren IsAsn (IsSet before) in_force tokens left values refl inside still bad.0
    (some, omega (arith, full)))

pub set_read : (before : ℕ) (tokens left behind : List Placed) (values : List ℕ)
    → IsInside opening_paren (OneWord IsAsn) word_further in_force tokens left values → 0 < length values
    → front_token left ≡ Some closing_paren → before + length values ≤ 255 → behind ≡ behind_front left
    → Reads (SetBehind before) nothing_further in_force tokens behind values
set_read before tokens left behind values inside some at few behind_is =
    subst (λ (rest : List Placed). Reads (SetBehind before) nothing_further in_force tokens rest values)
    (sym behind_is)
    (inside_read opening_paren closing_paren (OneWord IsAsn) (IsSet before) word_further in_force tokens left values
    (words_start IsAsn) refl inside at (some, few))

pub one_longer : (before : ℕ) (values all : List ℕ) (value : ℕ) → all ≡ values ++ value ∷ []
    → before + length values < 255 → (0 < length all) × (before + length all ≤ 255)
one_longer before values all value is room =
    let longer = ap length is ∙ length-append values (value ∷ []) in
    (omega (arith, longer), omega (arith, longer, room))
