-- Parts of a path that were read so far, and the answers of a path's reader.
use Rattle.std.proofs.Common.{ℕ, ◌≡◌, ◌≢◌, ◌<◌, ◌≤◌, ◌+◌, List, [], ◌∷◌, ◌++◌, Option, Some, Err}
use Rattle.std.proofs.Common.{ap, sym, ◌∙◌, refl, subst, arith, inl, inr}
use Rattle.route_values.specs.declared.path.Segment.{Segment}
use Rattle.text_forms.specs.Numbers.{IsAsn}
use Rattle.token_reader.specs.declared.token.Place.{Place}
use Rattle.token_reader.specs.Tokens.{Token, Mark, Word, Placed, front_token, behind_front}
use Rattle.route_grammar.specs.declared.fault.ReadFault.{ReadFault}
use Rattle.route_grammar.specs.declared.path.Part.{Part}
use Rattle.route_grammar.specs.declared.path.Part.TheVariants.{Number, Set}
use Rattle.route_grammar.specs.Limits.{Numbers, Limits, in_force}
use Rattle.route_grammar.specs.Productions.{Production, OneWord, Saying, Repeated, IsRead, front}
use Rattle.route_grammar.specs.Productions.{nothing_further}
use Rattle.route_grammar.specs.Answered.{Answers, Reads, IsNoRoom, tokens_of}
use Rattle.route_grammar.specs.Lists.{OnePath, OnePart, PartBehind, SetBehind, AreFewNumbers, AreJoined, joined, onto}
use Rattle.route_grammar.specs.Lists.{count_of, closed, opening_bracket, closing_bracket, opening_paren}
use Rattle.route_grammar.proofs.ProductionLemmas.{IsChosen}
use Rattle.route_grammar.proofs.AnsweredLemmas.{fault_answers, saying_answers, saying_reads}
use Rattle.route_grammar.proofs.GrowLemmas.{part_grows}
use Rattle.route_grammar.proofs.InsideLemmas.{IsInside, inside_more, inside_read, next_faults}
use Rattle.route_grammar.proofs.ListLemmas.{inside_begin}
use Rattle.route_grammar.proofs.PathLemmas.{InPath, part_further, parts_start, part_is_next, path_bad, path_many}
use Rattle.route_grammar.proofs.PathLemmas.{count_append, all_joined, part_some}
use Rattle.route_grammar.proofs.WordLemmas.{bad_answers, many_answers}

-- A PART, BEHIND OTHERS

-- words are read under any limits
words_any : (limits held : Limits) (tokens : List Token) (values : List ℕ)
    → Repeated (OneWord IsAsn) limits tokens values → Repeated (OneWord IsAsn) held tokens values
words_any limits held tokens [] read = read
words_any limits held tokens (value ∷ values) read =
    (read.0, read.1, read.2, read.3, words_any limits held read.1 values read.4)

more_of : ℕ → Limits → Limits
more_of before limits which = before + limits which

-- what a part is without others before it, it is behind some where the limit is so much higher
part_behind : (before : ℕ) (limits : Limits) (tokens : List Token) (part : Part) → OnePart limits tokens part
    → PartBehind before (more_of before limits) tokens part
unfolding more_of
part_behind before limits tokens part (inl one) = inl one
part_behind before limits tokens part (inr set) =
    inr (
      set.0,
      set.1,
      (
        set.2.0,
        set.2.1,
        words_any limits (more_of before limits) set.2.0 set.0 set.2.2,
        (set.2.3.0, omega (arith, set.2.3.1)),
      ),
    )

part_alone : (before : ℕ) (limits : Limits) (tokens : List Token) (part : Part) → PartBehind before limits tokens part
    → OnePart limits tokens part
part_alone before limits tokens part (inl one) = inl one
part_alone before limits tokens part (inr set) =
    inr (set.0, set.1, (set.2.0, set.2.1, set.2.2, (set.2.3.0, omega (arith, set.2.3.1))))

part_read : (before : ℕ) (text : List Token) (token : Option Token) (part : Part)
    → IsRead (PartBehind before) nothing_further in_force text token part
    → IsRead OnePart nothing_further in_force text token part
part_read before text token part is = record {
  found = part_alone before in_force text part is.found;
  ends = refl;
  only = λ held rest tokens others said at same read ends.
      is.only (more_of before held) rest tokens others said at same (part_behind before held tokens said read) ends;
}

pub part_reads : (before : ℕ) (mid left : List Placed) (part : Part)
    → Reads (PartBehind before) nothing_further in_force mid left part
    → Reads OnePart nothing_further in_force mid left part
part_reads before mid left part (text, is, read) =
    (text, is, part_read before (tokens_of text) (front_token left) part read)

pub part_number : (before : ℕ) (lead : Option Token) → lead ≢ Some opening_paren
    → IsChosen (Saying Number (OneWord IsAsn)) (PartBehind before) nothing_further lead
part_number before lead other = record {
  wider = λ limits tokens value read. inl read;
  same = λ limits tokens others value at ends read.
      elim read as (λ _. Saying Number (OneWord IsAsn) limits tokens value) [
        | inl one ↦ one
        | inr set ↦ absurd (other (sym at ∙ ap (λ (text : List Token). front (text ++ others)) set.2.1))
      ];
}

pub part_set : (before : ℕ)
    → IsChosen (Saying Set (SetBehind before)) (PartBehind before) nothing_further (Some opening_paren)
part_set before = record {
  wider = λ limits tokens value read. inr read;
  same = λ limits tokens others value at ends read.
      elim read as (λ _. Saying Set (SetBehind before) limits tokens value) [
        | inl one ↦ let same : Some (Word one.2.0) ≡ Some (Mark 40) =
            sym (ap (λ (text : List Token). front (text ++ others)) one.2.1) ∙ at in absurd cc
        | inr set ↦ set
      ];
}

-- PARTS SO FAR

pub record ArePartsRead (tokens left : List Placed) (whole : List Segment) (run : List ℕ) (count : ℕ) : Type 0 where
  pub parts : List Part
  pub inside : IsInside opening_bracket OnePart part_further in_force tokens left parts
  pub drawn : AreJoined whole run parts
  pub count_is : count ≡ count_of parts
  pub few : count ≤ 255

pub no_parts_read : (tokens left : List Placed) (whole : List Segment) (run : List ℕ) (count : ℕ)
    → front_token tokens ≡ Some opening_bracket → left ≡ behind_front tokens → AreJoined whole run [] → count ≡ 0
    → ArePartsRead tokens left whole run count
no_parts_read tokens left whole run count at left_is drawn count_is = record {
  parts = [];
  inside = inside_begin opening_bracket OnePart part_further tokens left [] at left_is refl;
  drawn = drawn;
  count_is = count_is;
  few = omega (arith, count_is);
}

within : (before : ℕ) (text : List Token) (part : Part) → before < 255 → PartBehind before in_force text part
    → before + count_of (part ∷ []) ≤ 255
within before text part room (inl one) =
    subst (λ (read : Part). before + count_of (read ∷ []) ≤ 255) (sym one.1) (omega (arith, room))
within before text part room (inr set) =
    subst (λ (read : Part). before + count_of (read ∷ []) ≤ 255) (sym set.1) (omega (arith, set.2.3.1))

-- how many numbers there are with a further part
pub part_fits : (before : ℕ) (mid left : List Placed) (part : Part) → before < 255
    → Reads (PartBehind before) nothing_further in_force mid left part
    → (0 < count_of (part ∷ [])) × (before + count_of (part ∷ []) ≤ 255)
part_fits before mid left part room (text, is, read) = (
  part_some in_force (tokens_of text) part (part_alone before in_force (tokens_of text) part read.found),
  within before (tokens_of text) part room read.found,
)

pub more_parts_read : (tokens mid left : List Placed) (whole also : List Segment) (run next : List ℕ)
    (count all : ℕ) (part : Part) → ArePartsRead tokens mid whole run count → count < 255
    → Reads (PartBehind count) nothing_further in_force mid left part → all ≡ count + count_of (part ∷ [])
    → ((parts : List Part) → AreJoined whole run parts → 0 < count_of (part ∷ [])
    → AreJoined also next (parts ++ part ∷ [])) → ArePartsRead tokens left also next all
more_parts_read tokens mid left whole also run next count all part are room read all_is drawn =
    let fits = part_fits count mid left part room read in
    record {
      parts = are.parts ++ part ∷ [];
      inside = inside_more opening_bracket OnePart part_further in_force tokens mid left are.parts part parts_start
          are.inside (part_reads count mid left part read);
      drawn = drawn are.parts are.drawn fits.0;
      count_is = omega (arith, all_is, are.count_is, count_append are.parts (part ∷ []));
      few = omega (arith, all_is, fits.1);
    }

pub part_fault : (tokens mid left : List Placed) (end : Place) (whole : List Segment) (run : List ℕ) (count : ℕ)
    (fault : ReadFault) → ArePartsRead tokens mid whole run count → front_token mid ≢ Some closing_bracket
    → count < 255 → Answers {V = Part} (PartBehind count) nothing_further in_force mid left end (Err fault)
    → Answers {V = List Segment} (Saying joined InPath) nothing_further in_force tokens left end (Err fault)
part_fault tokens mid left end whole run count fault are still room answers =
    let behind : Answers {V = Part} (PartBehind (count_of are.parts)) nothing_further in_force mid left end (Err
    fault) =
    subst (λ (n : ℕ). Answers {V = Part} (PartBehind n) nothing_further in_force mid left end (Err fault)) are.count_is
    answers in
    saying_answers joined InPath nothing_further in_force tokens left end fault
    (fault_answers (PartBehind (count_of are.parts)) InPath nothing_further nothing_further in_force mid tokens left
    end
    fault
    (λ over faults. next_faults opening_bracket closing_bracket (PartBehind (count_of are.parts)) OnePart AreFewNumbers
    part_further in_force tokens mid left over are.parts part_grows refl are.inside (λ held fits. still)
    (part_is_next in_force are.parts (front_token mid) (omega (arith, room, are.count_is))) faults)
    behind)

pub path_no_room : (tokens left : List Placed) (end : Place) (whole : List Segment) (run : List ℕ) (count limit : ℕ)
    (fault : ReadFault) → ArePartsRead tokens left whole run count → front_token left ≢ Some closing_bracket
    → 255 ≤ count → limit ≡ 255 → IsNoRoom IsAsn left end limit fault
    → Answers {V = List Segment} (Saying joined InPath) nothing_further in_force tokens left end (Err fault)
path_no_room tokens left end whole run count limit fault are still full limit_is (inl many) =
    saying_answers joined InPath nothing_further in_force tokens left end fault
    (many_answers InPath nothing_further in_force tokens left end fault Numbers limit many.4 limit_is
    (path_many in_force tokens left are.parts many.0 many.1 are.inside still many.2 many.3
    (omega (arith, full, are.few, are.count_is))))
path_no_room tokens left end whole run count limit fault are still full limit_is (inr bad) =
    saying_answers joined InPath nothing_further in_force tokens left end fault
    (bad_answers InPath nothing_further in_force tokens left end fault bad.1
    (path_bad in_force tokens left are.parts are.inside still bad.0 (omega (arith, full, are.few, are.count_is))))

pub path_read : (tokens left behind : List Placed) (whole path : List Segment) (run : List ℕ) (count : ℕ)
    → ArePartsRead tokens left whole run count → front_token left ≡ Some closing_bracket
    → behind ≡ behind_front left → path ≡ whole ++ closed run
    → Reads (Saying joined InPath) nothing_further in_force tokens behind path
path_read tokens left behind whole path run count are at behind_is path_is =
    subst (λ (segments : List Segment). Reads (Saying joined InPath) nothing_further in_force tokens behind segments)
    (sym (path_is ∙ all_joined whole run are.parts are.drawn))
    (subst (λ (rest : List Placed). Reads (Saying joined InPath) nothing_further in_force tokens rest (joined
    are.parts))
    (sym behind_is)
    (saying_reads joined InPath nothing_further in_force tokens (behind_front left) are.parts
    (inside_read opening_bracket closing_bracket OnePart AreFewNumbers part_further in_force tokens left are.parts
    parts_start refl are.inside at (omega (arith, are.few, are.count_is)))))

-- A PATH

pub path_bracketed : IsChosen (Saying joined InPath) OnePath nothing_further (Some opening_bracket)
path_bracketed = record {
  wider = λ limits tokens value read. inr read;
  same = λ limits tokens others value at ends read.
      elim read as (λ _. Saying joined InPath limits tokens value) [
        | inl one ↦ let same : Some (Word one.2.0) ≡ Some (Mark 91) =
            sym (ap (λ (text : List Token). front (text ++ others)) one.2.1) ∙ at in absurd cc
        | inr parts ↦ parts
      ];
}

abbrev pub Lone : Production (List Segment)
Lone = Saying (λ number. onto number []) (OneWord IsAsn)

pub path_lone : (lead : Option Token) → lead ≢ Some opening_bracket → IsChosen Lone OnePath nothing_further lead
path_lone lead other = record {
  wider = λ limits tokens value read. inl read;
  same = λ limits tokens others value at ends read.
      elim read as (λ _. Lone limits tokens value) [
        | inl one ↦ one
        | inr parts ↦ absurd (other (sym at ∙ ap (λ (text : List Token). front (text ++ others)) parts.2.1))
      ];
}

pub lone_read : (tokens left : List Placed) (number : ℕ) (whole path : List Segment) (run : List ℕ)
    → Reads (OneWord IsAsn) nothing_further in_force tokens left number → AreJoined whole run (Number number ∷ [])
    → path ≡ whole ++ closed run → Reads Lone nothing_further in_force tokens left path
lone_read tokens left number whole path run read drawn path_is =
    subst (λ (segments : List Segment). Reads Lone nothing_further in_force tokens left segments)
    (sym (path_is ∙ all_joined whole run (Number number ∷ []) drawn))
    (saying_reads (λ number. onto number []) (OneWord IsAsn) nothing_further in_force tokens left number read)
