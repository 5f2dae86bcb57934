-- The numbers and sets of a printed path are read as its segments, of which neighbouring sequences are one.
use Rattle.std.proofs.Common.{if◌then◌else◌, ℕ, ◌≡◌, ◌<◌, Bool, true, false, cond, List, [], ◌∷◌, ◌++◌, length, map, ap}
use Rattle.std.proofs.Common.{◌∙◌, refl}
use Rattle.std.proofs.Common.{arith}
use Rattle.std.specs.List.{flat_map}
use Rattle.route_values.specs.declared.path.Segment.{Segment}
use Rattle.route_values.specs.Path.{AllFilled}
use Rattle.route_grammar.specs.declared.path.Part.{Part}
use Rattle.route_grammar.specs.declared.path.Part.TheVariants.{Number, Set}
use Rattle.route_grammar.specs.Lists.{onto, joined, lead}
use Rattle.text_printer.specs.Plain.{before, merged}

-- the parts that a segment is printed as
abbrev pub parts_of : Bool → List ℕ → List Part
parts_of set numbers = if set then (Set numbers ∷ []) else map Number numbers

abbrev pub segment_parts : Segment → List Part
segment_parts segment = parts_of segment.set segment.numbers

-- those of a path
abbrev pub path_parts : List Segment → List Part
path_parts path = flat_map segment_parts path

-- a segment by its fields
abbrev segment_of : Bool → List ℕ → Segment
segment_of set numbers = record { set = set; numbers = numbers }

run_joined : (numbers : List ℕ) (more : List Part) → joined (map Number numbers ++ more) ≡ lead numbers (joined more)
run_joined [] more = refl
run_joined (number ∷ numbers) more = ap (onto number) (run_joined numbers more)

-- a number in front of a sequence, in front of segments
onto_before : (number : ℕ) (numbers : List ℕ) (set : Bool) (next : Segment) (others : List Segment)
    → onto number (cond set (segment_of false numbers ∷ next ∷ others)
    (segment_of false (numbers ++ next.numbers) ∷ others))
    ≡ cond set (segment_of false (number ∷ numbers) ∷ next ∷ others)
    (segment_of false (number ∷ (numbers ++ next.numbers)) ∷ others)
onto_before number numbers true next others = refl
onto_before number numbers false next others = refl

onto_sequence : (number : ℕ) (numbers : List ℕ) (segments : List Segment)
    → onto number (before (segment_of false numbers) segments) ≡ before (segment_of false (number ∷ numbers)) segments
onto_sequence number numbers [] = refl
onto_sequence number numbers (next ∷ others) = onto_before number numbers next.set next others

onto_alone : (number : ℕ) (segments : List Segment) → onto number segments ≡ before (segment_of false (number ∷ []))
    segments
onto_alone number [] = refl
onto_alone number (next ∷ others) = refl

lead_before : (number : ℕ) (numbers : List ℕ) (segments : List Segment)
    → lead (number ∷ numbers) segments ≡ before (segment_of false (number ∷ numbers)) segments
lead_before number [] segments = onto_alone number segments
lead_before number (next ∷ numbers) segments =
    ap (onto number) (lead_before next numbers segments) ∙ onto_sequence number (next ∷ numbers) segments

-- a set joins nothing
set_before : (numbers : List ℕ) (segments : List Segment)
    → segment_of true numbers ∷ segments ≡ before (segment_of true numbers) segments
set_before numbers [] = refl
set_before numbers (next ∷ others) = refl

segment_joined : (set : Bool) (numbers : List ℕ) (more : List Part) → 0 < length numbers
    → joined (parts_of set numbers ++ more) ≡ before (segment_of set numbers) (joined more)
segment_joined true numbers more filled = set_before numbers (joined more)
segment_joined false [] more filled = absurd (omega arith)
segment_joined false (number ∷ numbers) more filled =
    run_joined (number ∷ numbers) more ∙ lead_before number numbers (joined more)

pub path_joined : (path : List Segment) → AllFilled path → joined (path_parts path) ≡ merged path
path_joined [] filled = refl
path_joined (segment ∷ path) filled =
    segment_joined segment.set segment.numbers (path_parts path) filled.0
    ∙ ap (before segment) (path_joined path filled.1)
