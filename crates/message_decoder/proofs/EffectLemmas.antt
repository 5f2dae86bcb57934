-- The lines of effects, one after another; each effect has one.
use Rattle.std.proofs.Common.{ℕ, ◌≡◌, ◌⊎◌, ◌<◌, ◌≤◌, List, [], ◌∷◌, ◌++◌, length, Option, Some, None, ap, sym, ◌∙◌}
use Rattle.std.proofs.Common.{refl, arith}
use Rattle.std.proofs.Common.{◌+◌, map, take, drop, get_or, inl, inr, subst, append_assoc, append-nil, Result, Ok, Err}
use Rattle.std.specs.List.{flat_map, AllByRecursion}
use Rattle.std.specs.Prelude.{IfSome}
use Rattle.std.proofs.lemmas.Bool.{cases_lt}
use Rattle.std.proofs.lemmas.List.{take_all, take_more, take-append-drop}
use Rattle.std.proofs.lemmas.List.Concat.{flat_map-append}
use Rattle.outside.specs.Seen.{SinkSeen}
use Rattle.route_values.specs.declared.attrs.Aggregator.{Aggregator}
use Rattle.route_values.specs.declared.attrs.WireAttrs.{WireAttrs}
use Rattle.route_values.specs.declared.key.Key.{Key}
use Rattle.route_values.specs.Limits.{Counts, counts_sent}
use Rattle.update_grammar.specs.declared.effect.Effect.{Effect}
use Rattle.update_grammar.specs.declared.effect.Effect.TheVariants.{Gone, Here}
use Rattle.text_printer.specs.Printable.{IsAs, HasNoZero, IsFormedByAs, IsWritable, IsPrintable}
use Rattle.text_printer.specs.Printing.{effect_text}
use Rattle.text_printer.specs.Refusals.{unprintable_text}
use Rattle.message_decoder.specs.declared.halt.Halt.{Halt}
use Rattle.message_decoder.specs.Decoding.{ended, IsEffectLine, printed, unprintable, AreEffectLines}
use Rattle.message_decoder.specs.Streams.{Wrote, Broke, Writes}
use Rattle.message_decoder.proofs.WritingLemmas.{wrote_both, broke_behind}

-- ---- whether an effect can be printed

-- a fact, or that it doesn't hold
abbrev Either : Type 0 → Type 0
Either P = P ⊎ (¬ P)

both : (P Q : Type 0) → Either P → Either Q → Either (P × Q)
both P Q (inl p) (inl q) = inl (p, q)
both P Q (inl p) (inr never) = inr (λ pair. never pair.1)
both P Q (inr never) q = inr (λ pair. never pair.0)

all_or_not : {A : Type 0} (P : A → Type 0) → ((x : A) → Either (P x)) → (xs : List A) → Either (AllByRecursion P xs)
all_or_not P each [] = inl tt
all_or_not P each (x ∷ xs) = both (P x) (AllByRecursion P xs) (each x) (all_or_not P each xs)

as_or_not : (number : ℕ) → Either (IsAs number)
as_or_not number =
    elim (cases_lt 0 number) [
      | inl some ↦ inl some
      | inr none ↦ inr (λ some. omega (arith, some, none))
    ]

most_or_not : (count most : ℕ) → Either (count ≤ most)
most_or_not count most =
    elim (cases_lt most count) [
      | inl more ↦ inr (λ few. omega (arith, more, few))
      | inr few ↦ inl few
    ]

formed_or_not : (value : Option Aggregator) → Either (IfSome value IsFormedByAs)
formed_or_not None = inl tt
formed_or_not (Some by) = as_or_not by.asn

abbrev AreFew : Counts → Type 0
AreFew c = (c.numbers ≤ 255) × ((c.communities ≤ 200) × ((c.clusters ≤ 32) × ((c.extended ≤ 64) × (c.large ≤ 64))))

few_or_not : (c : Counts) → Either (AreFew c)
few_or_not c =
    both _ _ (most_or_not c.numbers 255) (both _ _ (most_or_not c.communities 200)
    (both _ _ (most_or_not c.clusters 32) (both _ _ (most_or_not c.extended 64) (most_or_not c.large 64))))

abbrev AreWritable : WireAttrs → Type 0
AreWritable sent =
    AllByRecursion HasNoZero sent.path × (IfSome sent.aggregator IsFormedByAs × AreFew (counts_sent sent))

parts_of : (sent : WireAttrs) → IsWritable sent → AreWritable sent
parts_of sent can =
    let limits = can.limits in (
      can.path,
      (
        can.aggregator,
        (
          limits.numbers,
          (
            limits.communities,
            (limits.clusters, (limits.extended, limits.large)),
          ),
        ),
      ),
    )

writable_if : (sent : WireAttrs) → Either (AreWritable sent) → Either (IsWritable sent)
writable_if sent (inl (path, (aggregator, (numbers, (communities, (clusters, (extended, large))))))) =
    inl (record {
      path = path;
      aggregator = aggregator;
      limits = record {
        numbers = numbers;
        communities = communities;
        clusters = clusters;
        extended = extended;
        large = large;
      };
    })
writable_if sent (inr never) = inr (λ can. never (parts_of sent can))

printable_or_not : (effect : Effect) → Either (IsPrintable effect)
printable_or_not (Gone key) = inl tt
printable_or_not (Here key sent) =
    writable_if sent (both _ _ (all_or_not HasNoZero (λ segment. all_or_not IsAs as_or_not segment.numbers) sent.path)
    (both _ _ (formed_or_not sent.aggregator) (few_or_not (counts_sent sent))))

-- ---- lines

line_if : (effect : Effect) → Either (IsPrintable effect) → (line : List ℕ) × IsEffectLine effect line
line_if effect (inl can) = (effect_text effect, printed can)
line_if effect (inr never) = (unprintable_text, unprintable never)

-- one effect's line, with its line feed
pub one_line : (effect : Effect) (line text : List ℕ) → IsEffectLine effect line → text ≡ ended line
    → AreEffectLines (effect ∷ []) text
one_line effect line text is text_is = (line, [], text_is ∙ sym (append-nil (ended line)), is, refl)

-- effects have lines
pub some_lines : (effects : List Effect) → (text : List ℕ) × AreEffectLines effects text
some_lines [] = ([], refl)
some_lines (effect ∷ effects) =
    let first = line_if effect (printable_or_not effect) in
    let rest = some_lines effects in
    (ended first.0 ++ rest.0, (first.0, rest.0, refl, first.1, rest.1))

-- the lines of effects, and then of others
pub lines_append : (effects more : List Effect) (text other : List ℕ) → AreEffectLines effects text
    → AreEffectLines more other → AreEffectLines (effects ++ more) (text ++ other)
lines_append [] more text other are others = subst (λ (front : List ℕ). AreEffectLines more (front ++ other)) (sym are)
    others
lines_append (effect ∷ effects) more text other (line, rest, text_is, is, are) others = (
  line,
  rest ++ other,
  ap (λ (front : List ℕ). front ++ other) text_is ∙ append_assoc (ended line) rest other,
  is,
  lines_append effects more rest other are others,
)

-- ---- lines that are written one after another

pub lines_wrote : (front next : List Effect) (sink mid sink' : SinkSeen) → Wrote (AreEffectLines front) sink mid
    → Wrote (AreEffectLines next) mid sink' → Wrote (AreEffectLines (front ++ next)) sink sink'
lines_wrote front next sink mid sink' before after =
    wrote_both (AreEffectLines front) (AreEffectLines next) (AreEffectLines (front ++ next)) sink mid sink'
    (λ one other are others. lines_append front next one other are others) before after

-- the front of lines goes on with further ones
front_longer : (next behind : List Effect) (part : List ℕ)
    → (part ≡ []) ⊎ ((rest : List ℕ) × AreEffectLines next (part ++ rest))
    → (part ≡ []) ⊎ ((rest : List ℕ) × AreEffectLines (next ++ behind) (part ++ rest))
front_longer next behind part (inl none) = inl none
front_longer next behind part (inr (rest, are)) =
    let some = some_lines behind in
    inr (
      rest ++ some.0,
      subst (λ (text : List ℕ). AreEffectLines (next ++ behind) text) (append_assoc part rest some.0)
          (lines_append next behind (part ++ rest) some.0 are some.1),
    )

pub lines_begun : (next behind : List Effect) (sink sink' : SinkSeen) (halted : Halt)
    → Broke (AreEffectLines next) sink sink' halted → Broke (AreEffectLines (next ++ behind)) sink sink' halted
lines_begun next behind sink sink' halted was = record {
  part = was.part;
  front = front_longer next behind was.part was.front;
  taken = was.taken;
  stops = was.stops;
}

pub lines_broke : (front next behind all : List Effect) (sink mid sink' : SinkSeen) (halted : Halt)
    → all ≡ front ++ (next ++ behind) → Wrote (AreEffectLines front) sink mid
    → Broke (AreEffectLines next) mid sink' halted → Broke (AreEffectLines all) sink sink' halted
lines_broke front next behind all sink mid sink' halted all_are before after =
    let rest : List Effect = next ++ behind in
    let some = some_lines rest in
    subst (λ (effects : List Effect). Broke (AreEffectLines effects) sink sink' halted) (sym all_are)
    (broke_behind (AreEffectLines front) (AreEffectLines rest) (AreEffectLines (front ++ rest)) sink mid sink' halted
    (λ one other are others. lines_append front rest one other are others) some.0 some.1 before
    (lines_begun next behind mid sink' halted after))

-- lines, and then what is left of them
pub lines_both : (front next all : List Effect) (sink mid sink' : SinkSeen) (result : Result (Unit {0}) Halt)
    → all ≡ front ++ next → Wrote (AreEffectLines front) sink mid → Writes (AreEffectLines next) mid sink' result
    → Writes (AreEffectLines all) sink sink' result
lines_both front next all sink mid sink' (Ok done) is before after =
    subst (λ (effects : List Effect). Wrote (AreEffectLines effects) sink sink') (sym is)
    (lines_wrote front next sink mid sink' before after)
lines_both front next all sink mid sink' (Err halted) is before after =
    lines_broke front next [] all sink mid sink' halted
    (is ∙ ap (λ (last : List Effect). front ++ last) (sym (append-nil next))) before after

-- ---- the lines of one effect

pub gone_line : (key : Key) (line text : List ℕ) → line ≡ effect_text (Gone key) → text ≡ ended line
    → AreEffectLines (Gone key ∷ []) text
gone_line key line text line_is is =
    one_line (Gone key) line text
    (subst (λ (some : List ℕ). IsEffectLine (Gone key) some) (sym line_is) (printed tt)) is

pub here_line : (key : Key) (sent : WireAttrs) (line text : List ℕ) → IsWritable sent
    → line ≡ effect_text (Here key sent) → text ≡ ended line → AreEffectLines (Here key sent ∷ []) text
here_line key sent line text can line_is is =
    one_line (Here key sent) line text
    (subst (λ (some : List ℕ). IsEffectLine (Here key sent) some) (sym line_is) (printed can)) is

pub no_line : (key : Key) (sent : WireAttrs) (text : List ℕ) → ¬ (IsWritable sent) → text ≡ ended unprintable_text
    → AreEffectLines (Here key sent ∷ []) text
no_line key sent text never is = one_line (Here key sent) unprintable_text text (unprintable never) is

-- ---- the effects of the first items, of the next one, and of the others

next_first : {A : Type 0} (make : A → List Effect) (items : List A) (i : ℕ) (other : A) → i < length items
    → flat_map make (take (i + 1) items) ≡ flat_map make (take i items) ++ make (get_or items i other)
next_first make items i other within =
    ap (flat_map make) (take_more items i other within)
    ∙ flat_map-append make (take i items) (get_or items i other ∷ [])
    ∙ ap (λ (last : List Effect). flat_map make (take i items) ++ last) (append-nil (make (get_or items i other)))

all_parts : {A : Type 0} (make : A → List Effect) (items : List A) (i : ℕ) (other : A) → i < length items
    → flat_map make items
    ≡ flat_map make (take i items) ++ (make (get_or items i other) ++ flat_map make (drop (i + 1) items))
all_parts make items i other within =
    ap (flat_map make) (sym (take-append-drop (i + 1) items))
    ∙ flat_map-append make (take (i + 1) items) (drop (i + 1) items)
    ∙ ap (λ (front : List Effect). front ++ flat_map make (drop (i + 1) items)) (next_first make items i other within)
    ∙ append_assoc (flat_map make (take i items)) (make (get_or items i other)) (flat_map make (drop (i + 1) items))

pub items_more : {A : Type 0} (make : A → List Effect) (items : List A) (i : ℕ) (item : A) (sink mid sink' : SinkSeen)
    → i < length items → item ≡ get_or items i item → Wrote (AreEffectLines (flat_map make (take i items))) sink mid
    → Wrote (AreEffectLines (make item)) mid sink'
    → Wrote (AreEffectLines (flat_map make (take (i + 1) items))) sink sink'
items_more make items i item sink mid sink' within is before after =
    subst (λ (effects : List Effect). Wrote (AreEffectLines effects) sink sink')
    (sym (next_first make items i item within))
    (lines_wrote (flat_map make (take i items)) (make (get_or items i item)) sink mid sink' before
    (subst (λ one. Wrote (AreEffectLines (make one)) mid sink') is after))

pub items_broke : {A : Type 0} (make : A → List Effect) (items : List A) (i : ℕ) (item : A)
    (sink mid sink' : SinkSeen) (halted : Halt) → i < length items → item ≡ get_or items i item
    → Wrote (AreEffectLines (flat_map make (take i items))) sink mid
    → Broke (AreEffectLines (make item)) mid sink' halted
    → Broke (AreEffectLines (flat_map make items)) sink sink' halted
items_broke make items i item sink mid sink' halted within is before after =
    lines_broke (flat_map make (take i items)) (make (get_or items i item)) (flat_map make (drop (i + 1) items))
    (flat_map make items) sink mid sink' halted (all_parts make items i item within) before
    (subst (λ one. Broke (AreEffectLines (make one)) mid sink' halted) is after)

pub items_all : {A : Type 0} (make : A → List Effect) (items : List A) (i : ℕ) (sink sink' : SinkSeen)
    → length items ≤ i → Wrote (AreEffectLines (flat_map make (take i items))) sink sink'
    → Wrote (AreEffectLines (flat_map make items)) sink sink'
items_all make items i sink sink' past was =
    subst (λ some. Wrote (AreEffectLines (flat_map make some)) sink sink') (take_all i items past) was

-- one effect an item
pub as_flat : {A : Type 0} (make : A → Effect) (items : List A) → map make items ≡ flat_map (λ one. make one ∷ []) items
as_flat make [] = refl
as_flat make (item ∷ items) = ap (λ (others : List Effect). make item ∷ others) (as_flat make items)

-- what was written of effects is the same where they are named otherwise
pub named_wrote : (effects others : List Effect) (sink sink' : SinkSeen) → effects ≡ others
    → Wrote (AreEffectLines effects) sink sink' → Wrote (AreEffectLines others) sink sink'
named_wrote effects others sink sink' same was =
    subst (λ (some : List Effect). Wrote (AreEffectLines some) sink sink') same was

pub named_broke : (effects others : List Effect) (sink sink' : SinkSeen) (halted : Halt) → effects ≡ others
    → Broke (AreEffectLines effects) sink sink' halted → Broke (AreEffectLines others) sink sink' halted
named_broke effects others sink sink' halted same was =
    subst (λ (some : List Effect). Broke (AreEffectLines some) sink sink' halted) same was
