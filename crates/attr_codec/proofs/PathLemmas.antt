-- The loop that reads the parts of a path.
use Rattle.std.proofs.Common.{ℕ, ◌≡◌, ◌<◌, Bool, true, false, not, ◌&&◌, ◌||◌, ◌==◌, List, [], ◌∷◌, ◌++◌, length, Some}
use Rattle.std.proofs.Common.{None, Result, Ok, Err, arith, append_assoc, ap, sym, ◌∙◌, refl}
use Rattle.std.specs.Prelude.{option_to_list, if◌then◌else◌}
use Rattle.std.proofs.lemmas.Bool.{eqb-false}
use Rattle.std.proofs.lemmas.List.{append-nil}
use Rattle.answers.specs.Gives.{Blames}
use Rattle.route_values.specs.declared.path.Segment.{Segment}
use Rattle.route_values.specs.Path.{AllFilled}
use Rattle.update_grammar.specs.Steps.{◌>>=◌, each}
use Rattle.update_grammar.specs.ReadValues.{Wrong, BadValue, Part, part_at, is_segment, segments_of, path_in}
use Rattle.update_grammar.proofs.BlamesLemmas.{blames_along}
use Rattle.update_grammar.proofs.StepsLemmas.{each_none, each_one, each_fault}
use Rattle.update_grammar.proofs.ShrinkLemmas.{parts_shrink}
use Rattle.attr_codec.specs.declared.fault.ValueFault.{ValueFault}
use Rattle.attr_codec.specs.Faults.{value_blame}
use Rattle.attr_codec.specs.Raws.{as_segment, IsTold}

-- what parts say behind the segments so far, where all parts so far were segments or not
abbrev pub parts_behind : Bool → List Segment → List Part → Result (List Segment) Wrong
parts_behind true front parts = segments_of parts >>= λ more. Ok (front ++ more)
parts_behind false front parts = Err BadValue

-- what is read from a place in the value on
abbrev pub path_so_far : Bool → List Segment → List ℕ → Result (List Segment) Wrong
path_so_far good front rest = each part_at tt rest >>= λ parts. parts_behind good front parts

-- no part is read yet
nothing_before : (read : Result (List Segment) Wrong) → (read >>= λ more. Ok ([] ++ more)) ≡ read
nothing_before (Ok more) = refl
nothing_before (Err e) = refl

all_behind : (read : Result (List Part) Wrong) → (read >>= λ parts. parts_behind true [] parts) ≡ (read >>= segments_of)
all_behind (Ok parts) = nothing_before (segments_of parts)
all_behind (Err e) = refl

path_begins : (value : List ℕ) → path_so_far true [] value ≡ path_in value
unfolding path_in
path_begins value = all_behind (each part_at tt value)

-- a segment goes before the others
regrouped : (front : List Segment) (segment : Segment) (read : Result (List Segment) Wrong)
    → ((read >>= λ others. Ok (segment ∷ others)) >>= λ more. Ok (front ++ more))
    ≡ (read >>= λ more. Ok ((front ++ segment ∷ []) ++ more))
regrouped front segment (Ok others) = ap (λ told. Ok told) (sym (append_assoc front (segment ∷ []) others))
regrouped front segment (Err e) = refl

-- a part is a segment or not
by_answer : (answer : Bool) (front : List Segment) (segment : Segment) (others : List Part)
    → ((if answer then (segments_of others >>= λ more. Ok (segment ∷ more)) else Err BadValue) >>= λ more.
    Ok (front ++ more))
    ≡ parts_behind answer (front ++ option_to_list (if answer then Some segment else None)) others
by_answer true front segment others = regrouped front segment (segments_of others)
by_answer false front segment others = refl

one_behind : (good : Bool) (front : List Segment) (part : Part) (others : List Part)
    → parts_behind good front (part ∷ others) ≡ parts_behind (good && is_segment part)
    (front ++ option_to_list (as_segment part)) others
one_behind true front part others = by_answer (is_segment part) front
    (record { set = part.kind == 1; numbers = part.numbers }) others
one_behind false front part others = refl

some_behind : (good : Bool) (front : List Segment) (part : Part) (read : Result (List Part) Wrong)
    → ((read >>= λ others. Ok (part ∷ others)) >>= λ parts. parts_behind good front parts)
    ≡ (read >>= λ parts. parts_behind (good && is_segment part) (front ++ option_to_list (as_segment part)) parts)
some_behind good front part (Ok others) = one_behind good front part others
some_behind good front part (Err e) = refl

-- the next part is read
pub path_goes_on : (good answer : Bool) (front after : List Segment) (part : Part) (rest behind : List ℕ)
    (total : Result (List Segment) Wrong) → part_at tt rest ≡ Ok (part, tt, behind) → IsTold answer front part after
    → path_so_far good front rest ≡ total → path_so_far (good && answer) after behind ≡ total
path_goes_on good answer front after part rest behind total is told so_far =
    let one = each_one part_at parts_shrink tt rest (part, tt, behind) is in
    let cut = ap (λ read. read >>= λ parts. parts_behind good front parts) one in
    rw (told.good, told.told) (sym (some_behind good front part (each part_at tt behind)) ∙ sym cut ∙ so_far)

pub path_shorter : (part : Part) (rest behind : List ℕ) → part_at tt rest ≡ Ok (part, tt, behind)
    → length behind < length rest
path_shorter part rest behind is = parts_shrink.less tt rest (part, tt, behind) is

-- bytes that are no part end the reading
pub path_stops : (e : ValueFault) (good : Bool) (front : List Segment) (rest : List ℕ)
    (total : Result (List Segment) Wrong)
    → 0 < length rest → Blames (value_blame e) (part_at tt rest) → path_so_far good front rest ≡ total
    → Blames (value_blame e) total
path_stops e good front rest total some is so_far =
    blames_along (value_blame e) (part_at tt rest) total
    (λ wrong fails. sym so_far
    ∙ ap (λ read. read >>= λ parts. parts_behind good front parts)
    (each_fault part_at parts_shrink tt rest wrong some fails))
    is

-- all parts are read
path_ends : (good : Bool) (front : List Segment) (rest : List ℕ) (total : Result (List Segment) Wrong) → length rest ≡ 0
    → path_so_far good front rest ≡ total → total ≡ parts_behind good front []
path_ends good front [] total none so_far = sym so_far ∙ ap (λ read. read >>= λ parts. parts_behind good front parts)
    (each_none part_at tt)
path_ends good front (byte ∷ rest) total none so_far = absurd (omega arith)

pub path_whole : (good : Bool) (front : List Segment) (rest : List ℕ) (total : Result (List Segment) Wrong)
    → length rest ≡ 0 → good ≡ true → path_so_far good front rest ≡ total → total ≡ Ok front
path_whole good front rest total none is so_far = path_ends good front rest total none so_far
    ∙ ap (λ b. parts_behind b front []) is ∙ ap (λ told. Ok told) (append-nil front)

pub path_bad : (good : Bool) (front : List Segment) (rest : List ℕ) (total : Result (List Segment) Wrong)
    → length rest ≡ 0 → good ≡ false → path_so_far good front rest ≡ total → total ≡ Err BadValue
path_bad good front rest total none is so_far = path_ends good front rest total none so_far
    ∙ ap (λ b. parts_behind b front []) is

-- the segments have numbers
filled_append : (front more : List Segment) → AllFilled front → AllFilled more → AllFilled (front ++ more)
filled_append [] more fronts mores = mores
filled_append (segment ∷ front) more fronts mores = (fronts.0, filled_append front more fronts.1 mores)

filled_if : (answer : Bool) (segment : Segment) → (answer ≡ true → 0 < length segment.numbers)
    → AllFilled (option_to_list (if answer then Some segment else None))
filled_if true segment filled = (filled refl, tt)
filled_if false segment filled = tt

not_none : (a b : Bool) → (a && not b) ≡ true → b ≡ false
not_none true true is = absurd cc
not_none true false is = refl
not_none false b is = absurd cc

segment_filled : (part : Part) → is_segment part ≡ true → 0 < length part.numbers
segment_filled part is =
    let some = eqb-false _ _ (not_none (part.kind == 1 || part.kind == 2) (length part.numbers == 0) is) in
    omega arith

pub filled_more : (answer : Bool) (front after : List Segment) (part : Part) → IsTold answer front part after
    → AllFilled front → AllFilled after
filled_more answer front after part told fronts =
    rw told.told (filled_append front (option_to_list (as_segment part)) fronts
    (filled_if (is_segment part) (record { set = part.kind == 1; numbers = part.numbers }) (segment_filled part)))

-- no segments have numbers
pub filled_none : (front : List Segment) → front ≡ [] → AllFilled front
filled_none front none = rw none tt

-- the invariant as the loop begins
pub path_first : (front : List Segment) (value : List ℕ) → front ≡ [] → path_so_far true front value ≡ path_in value
path_first front value none = rw none (path_begins value)
