-- Paths: numbers and sets between brackets, and the segments that they make.
use Rattle.std.proofs.Common.{ℕ, ◌≡◌, ◌≢◌, ◌<◌, ◌≤◌, ◌+◌, ◌==◌, true, false, List, [], ◌∷◌, ◌++◌, length, Option}
use Rattle.std.proofs.Common.{Some, None, ap, sym, ◌∙◌, refl, subst, arith, inl, inr, append-nil}
use Rattle.std.proofs.Common.{append_assoc, Result, Ok, Err, OnOk}
use Rattle.route_values.specs.declared.path.Segment.{Segment}
use Rattle.route_values.specs.Path.{AllFilled}
use Rattle.text_forms.specs.Numbers.{IsAsn}
use Rattle.token_reader.specs.Tokens.{Token, Mark, Word, Quoted, Unclosed, Placed, front_token}
use Rattle.route_grammar.specs.Limits.{Numbers, Limits}
use Rattle.route_grammar.specs.Productions.{Production, Further, nothing_further, front, Bracketed}
use Rattle.route_grammar.specs.Productions.{IsHeld}
use Rattle.route_grammar.specs.Answered.{Faults}
use Rattle.route_grammar.specs.declared.path.Part.{Part}
use Rattle.route_grammar.specs.declared.path.Part.TheVariants.{Number, Set}
use Rattle.route_grammar.specs.Lists.{OnePart, PartBehind, count_of, onto, joined, AreJoined}
use Rattle.route_grammar.specs.Lists.{AreFewNumbers, opening_bracket, closing_bracket, lead, closed}
use Rattle.route_grammar.proofs.LimitLemmas.{raised_one, held_one, held_at_sign}
use Rattle.route_grammar.proofs.RepeatedLemmas.{Starts}
use Rattle.route_grammar.proofs.InsideLemmas.{IsInside, IsNext, inside_faults}
use Rattle.route_grammar.proofs.GrowLemmas.{part_grows}
use Rattle.route_grammar.proofs.ListLemmas.{word_no_sign}

-- THE SEGMENTS OF PARTS

lead_more : (run : List ℕ) (number : ℕ) (segments : List Segment)
    → lead (run ++ number ∷ []) segments ≡ lead run (onto number segments)
lead_more [] number segments = refl
lead_more (first ∷ run) number segments = ap (onto first) (lead_more run number segments)

lead_set : (run numbers : List ℕ) (segments : List Segment)
    → lead run (record { set = true; numbers = numbers } ∷ segments)
    ≡ closed run ++ record { set = true; numbers = numbers } ∷ segments
lead_set [] numbers segments = refl
lead_set (first ∷ []) numbers segments = refl
lead_set (first ∷ second ∷ run) numbers segments = ap (onto first) (lead_set (second ∷ run) numbers segments)

lead_end : (run : List ℕ) → lead run [] ≡ closed run
lead_end [] = refl
lead_end (first ∷ []) = refl
lead_end (first ∷ second ∷ run) = ap (onto first) (lead_end (second ∷ run))

pub count_append : (parts more : List Part) → count_of (parts ++ more) ≡ count_of parts + count_of more
count_append [] more = omega arith
count_append (Number n ∷ parts) more = omega (arith, count_append parts more)
count_append (Set numbers ∷ parts) more = omega (arith, count_append parts more)

pub none_joined : AreJoined [] [] []
none_joined = record { joined_are = λ more. refl; filled = tt }

pub number_joined : (segments : List Segment) (run : List ℕ) (parts : List Part) (number : ℕ)
    → AreJoined segments run parts → AreJoined segments (run ++ number ∷ []) (parts ++ Number number ∷ [])
number_joined segments run parts number are = record {
  joined_are = λ more.
      ap joined (append_assoc parts (Number number ∷ []) more) ∙ are.joined_are (Number number ∷ more)
      ∙ ap (λ (others : List Segment). segments ++ others) (sym (lead_more run number (joined more)));
  filled = are.filled;
}

pub filled_append : (segments more : List Segment) → AllFilled segments → AllFilled more → AllFilled (segments ++ more)
filled_append [] more first second = second
filled_append (segment ∷ segments) more first second = (first.0, filled_append segments more first.1 second)

pub closed_filled : (run : List ℕ) → AllFilled (closed run)
closed_filled [] = tt
closed_filled (first ∷ run) = (omega arith, tt)

pub set_joined : (segments : List Segment) (run numbers : List ℕ) (parts : List Part) → 0 < length numbers
    → AreJoined segments run parts
    → AreJoined ((segments ++ closed run) ++ record { set = true; numbers = numbers } ∷ []) [] (parts ++ Set numbers ∷
    [])
set_joined segments run numbers parts some are =
    let set : Segment = record { set = true; numbers = numbers } in
    record {
      joined_are = λ more.
          ap joined (append_assoc parts (Set numbers ∷ []) more) ∙ are.joined_are (Set numbers ∷ more)
          ∙ ap (λ (others : List Segment). segments ++ others) (lead_set run numbers (joined more))
          ∙ sym (append_assoc segments (closed run) (set ∷ joined more))
          ∙ sym (append_assoc (segments ++ closed run) (set ∷ []) (joined more));
      filled = filled_append (segments ++ closed run) (set ∷ [])
          (filled_append segments (closed run) are.filled (closed_filled run)) (some, tt);
    }

pub all_joined : (segments : List Segment) (run : List ℕ) (parts : List Part) → AreJoined segments run parts
    → segments ++ closed run ≡ joined parts
all_joined segments run parts are =
    ap (λ (others : List Segment). segments ++ others) (sym (lead_end run)) ∙ sym (are.joined_are [])
    ∙ ap joined (append-nil parts)

pub all_filled : (segments : List Segment) (run : List ℕ) (parts : List Part) → AreJoined segments run parts
    → AllFilled (segments ++ closed run)
all_filled segments run parts are = filled_append segments (closed run) are.filled (closed_filled run)

-- PARTS, ONE BEHIND ANOTHER

-- a part goes on with a word or `(`
abbrev pub part_further : Further
part_further (Some (Word word)) = true
part_further (Some (Mark sign)) = sign == 40
part_further (Some (Quoted word)) = false
part_further (Some Unclosed) = false
part_further None = false

pub parts_start : Starts OnePart part_further
parts_start limits tokens others part (inl one) =
    ap (λ (text : List Token). part_further (front (text ++ others))) one.2.1
parts_start limits tokens others part (inr set) =
    ap (λ (text : List Token). part_further (front (text ++ others))) set.2.1

part_wider : (limits held : Limits) (parts : List Part) (text : List Token) (part : Part)
    → count_of parts < limits Numbers → limits Numbers ≤ held Numbers → PartBehind (count_of parts) held text part
    → OnePart held text part × AreFewNumbers held (parts ++ part ∷ [])
part_wider limits held parts text part room least (inl one) = (
  inl one,
  subst (λ (read : Part). count_of (parts ++ read ∷ []) ≤ held Numbers) (sym one.1)
      (omega (arith, room, least, count_append parts (Number one.0 ∷ []))),
)
part_wider limits held parts text part room least (inr set) = (
  inr (set.0, set.1, (set.2.0, set.2.1, set.2.2, (set.2.3.0, omega (arith, set.2.3.1)))),
  subst (λ (read : Part). count_of (parts ++ read ∷ []) ≤ held Numbers) (sym set.1)
      (omega (arith, set.2.3.1, count_append parts (Set set.0 ∷ []))),
)

part_same : (held : Limits) (parts more : List Part) (text : List Token) (part : Part) → OnePart held text part
    → AreFewNumbers held (parts ++ part ∷ more) → PartBehind (count_of parts) held text part
part_same held parts more text part (inl one) fits = inl one
part_same held parts more text part (inr set) fits =
    let few : count_of (parts ++ Set set.0 ∷ more) ≤ held Numbers =
    subst (λ (read : Part). count_of (parts ++ read ∷ more) ≤ held Numbers) set.1 fits in
    inr (
      set.0,
      set.1,
      (set.2.0, set.2.1, set.2.2, (set.2.3.0, omega (arith, few, count_append parts (Set set.0 ∷ more)))),
    )

-- behind fewer numbers than there may be, a part that the limit allows is the next one
pub part_is_next : (limits : Limits) (parts : List Part) (lead_token : Option Token)
    → count_of parts < limits Numbers
    → IsNext (PartBehind (count_of parts)) OnePart AreFewNumbers limits parts lead_token
part_is_next limits parts lead_token room = record {
  wider = λ held text part least read. part_wider limits held parts text part room (least Numbers) read;
  same = λ held text others part more at read fits. part_same held parts more text part read fits;
}

-- WHERE NO NUMBER HAS ROOM

abbrev pub InPath : Production (List Part)
InPath = Bracketed opening_bracket closing_bracket OnePart AreFewNumbers

-- a part has a number or more
pub part_some : (limits : Limits) (text : List Token) (part : Part) → OnePart limits text part → 0 < count_of (part ∷
    [])
part_some limits text part (inl one) =
    subst (λ (read : Part). 0 < count_of (read ∷ [])) (sym one.1) (omega arith)
part_some limits text part (inr set) =
    subst (λ (read : Part). 0 < count_of (read ∷ [])) (sym set.1) (omega (arith, set.2.3.0))

count_more : (parts more : List Part) (part : Part)
    → count_of (parts ++ part ∷ more) ≡ count_of parts + (count_of (part ∷ []) + count_of more)
count_more parts more part = count_append parts (part ∷ more)
    ∙ ap (λ n. count_of parts + n) (count_append (part ∷ []) more)

too_few : (limits : Limits) (parts more : List Part) (text : List Token) (part : Part) → limits Numbers ≤ count_of
    parts
    → OnePart limits text part → AreFewNumbers limits (parts ++ part ∷ more) → ⊥
too_few limits parts more text part full read fits =
    omega (arith, full, fits, count_more parts more part, part_some limits text part read)

front_of : (rest tokens others : List Token) (token : Option Token) → front rest ≡ token → [] ++ rest ≡ tokens ++
    others
    → token ≡ front (tokens ++ others)
front_of rest tokens others token at same = sym at ∙ ap front same

no_part : (limits held : Limits) (token : Option Token) (rest next tail others : List Token) (parts more : List Part)
    (part : Part) → ((word : List ℕ) (value : ℕ) → token ≡ Some (Word word) → IsAsn word value → ⊥)
    → limits Numbers ≤ count_of parts → IsHeld limits token None held → front rest ≡ token
    → [] ++ rest ≡ next ++ (tail ++ others) → OnePart held next part → AreFewNumbers held (parts ++ part ∷ more) → ⊥
no_part limits held token rest next tail others parts more part none full is_held at same (inl one) fits =
    none one.2.0 one.0
    (front_of rest next (tail ++ others) token at same
    ∙ ap (λ (text : List Token). front (text ++ (tail ++ others))) one.2.1) one.2.2
no_part limits held token rest next tail others parts more part none full is_held at same (inr set) fits =
    let sign : token ≡ Some (Mark 40) =
    front_of rest next (tail ++ others) token at same
    ∙ ap (λ (text : List Token). front (text ++ (tail ++ others))) set.2.1 in
    let in_force : held ≡ limits =
    held_at_sign limits held token None (λ word is. word_no_sign token word 40 is sign) is_held in
    too_few held parts more next part
    (subst (λ (all : Limits). all Numbers ≤ count_of parts) (sym in_force) full) (inr set) fits

pub path_bad : (limits : Limits) (tokens left : List Placed) (parts : List Part)
    → IsInside opening_bracket OnePart part_further limits tokens left parts → front_token left ≢ Some closing_bracket
    → ((word : List ℕ) (value : ℕ) → front_token left ≡ Some (Word word) → IsAsn word value → ⊥)
    → count_of parts ≡ limits Numbers → Faults InPath nothing_further limits tokens left None
path_bad limits tokens left parts inside still none full =
    inside_faults opening_bracket closing_bracket OnePart AreFewNumbers part_further limits tokens left left [] None
    parts
    part_grows refl inside refl (λ held fits. still) (
      [],
      [],
      refl,
      subst (λ (all : List Part). count_of all ≤ limits Numbers) (sym (append-nil parts)) (omega (
        arith,
        full,
      )),
    )
    tt
    (λ held rest next tail others part more is_held at same read_next read_tail fits.
    no_part limits held (front_token left) rest next tail others parts more part none (omega (arith, full)) is_held at
    same
    read_next fits)

pub path_many : (limits : Limits) (tokens left : List Placed) (parts : List Part) (word : List ℕ) (value : ℕ)
    → IsInside opening_bracket OnePart part_further limits tokens left parts → front_token left ≢ Some closing_bracket
    → front_token left ≡ Some (Word word) → IsAsn word value → count_of parts ≡ limits Numbers
    → Faults InPath nothing_further limits tokens left (Some Numbers)
path_many limits tokens left parts word value inside still at spelled full =
    inside_faults opening_bracket closing_bracket OnePart AreFewNumbers part_further limits tokens left left []
    (Some Numbers) parts part_grows refl inside refl (λ held fits. still) (
      [],
      [],
      refl,
      subst (λ (all : List Part). count_of all ≤ limits Numbers) (sym (append-nil parts)) (omega (
        arith,
        full,
      )),
    ) (
      word,
      at,
      (
        [],
        Number value ∷ [],
        (Word word ∷ [], [], refl, inl (value, refl, (word, refl, spelled)), refl),
        omega (arith, full, raised_one Numbers limits, count_append parts (Number value ∷ [])),
      ),
    )
    (λ held rest next tail others part more is_held at_rest same read_next read_tail fits.
    let in_force : held Numbers ≡ limits Numbers = held_one limits held (front_token left) Numbers is_held in
    too_few held parts more next part (omega (arith, full, in_force)) read_next fits)

-- WHAT A READER DREW OF PARTS

pub put_number : {E : Type 0} (whole : List Segment) (run next : List ℕ) (number : ℕ) (part : Part) (parts : List Part)
    (result : Result (Unit {0}) E) → AreJoined whole run parts → part ≡ Number number
    → OnOk result (next ≡ run ++ number ∷ []) → OnOk result (AreJoined whole next (parts ++ part ∷ []))
put_number whole run next number part parts (Ok done) drawn is next_is =
    subst (λ (one : Part). AreJoined whole next (parts ++ one ∷ [])) (sym is)
    (subst (λ (numbers : List ℕ). AreJoined whole numbers (parts ++ Number number ∷ [])) (sym next_is)
    (number_joined whole run parts number drawn))
put_number whole run next number part parts (Err error) drawn is next_is = tt

pub put_set : {E : Type 0} (whole also : List Segment) (run next numbers : List ℕ) (part : Part) (parts : List Part)
    (result : Result (Unit {0}) E) → AreJoined whole run parts → 0 < count_of (part ∷ []) → part ≡ Set numbers
    → OnOk result (also ≡ (whole ++ closed run) ++ record { set = true; numbers = numbers } ∷ [])
    → OnOk result (next ≡ []) → OnOk result (AreJoined also next (parts ++ part ∷ []))
put_set whole also run next numbers part parts (Ok done) drawn some is also_is next_is =
    let filled : 0 < length numbers =
    omega (arith, some, ap (λ (one : Part). count_of (one ∷ [])) is) in
    subst (λ (one : Part). AreJoined also next (parts ++ one ∷ [])) (sym is)
    (subst (λ (rest : List ℕ). AreJoined also rest (parts ++ Set numbers ∷ [])) (sym next_is)
    (subst (λ (segments : List Segment). AreJoined segments [] (parts ++ Set numbers ∷ [])) (sym also_is)
    (set_joined whole run numbers parts filled drawn)))
put_set whole also run next numbers part parts (Err error) drawn some is also_is next_is = tt

-- nothing is drawn
pub nothing_drawn : (whole : List Segment) (run : List ℕ) → whole ≡ [] → run ≡ [] → AreJoined whole run []
nothing_drawn whole run whole_is run_is =
    subst (λ (segments : List Segment). AreJoined segments run []) (sym whole_is)
    (subst (λ (numbers : List ℕ). AreJoined [] numbers []) (sym run_is) none_joined)
