-- What holds of all that a cutter answers.
use Rattle.std.proofs.Common.{ℕ, zero, suc, ◌≡◌, ◌-◌, ◌<◌, ◌≤◌, true, length, Option, Some, None, sym, ap, arith}
use Rattle.frame_cutter.specs.Front.{is_sized, Front, Whole, NotYet, Fault, IfWhole, OnNotYet}
use Rattle.frame_cutter.specs.Frames.{greatest}
use Rattle.frame_cutter.specs.Cutting.{Cutting, front_of, room_behind, room_of}
use Rattle.frame_cutter.proofs.FrontLemmas.{whole_sized, not_yet_short}

-- a message has a length that its type has
pub told_sized : (cutting : Cutting) (at : Front) → at ≡ front_of cutting
    → IfWhole at (λ frame. is_sized (greatest cutting.wide) frame ≡ true)
told_sized cutting (Whole frame) is = whole_sized (greatest cutting.wide) cutting.bytes frame (sym is)
told_sized cutting NotYet is = tt
told_sized cutting (Fault refusal) is = tt

greatest_between : (wide : Option ℕ) → (19 ≤ greatest wide) × (greatest wide ≤ 65535)
greatest_between None = (omega arith, omega arith)
greatest_between (Some zero) = (omega arith, omega arith)
greatest_between (Some (suc n)) = (omega arith, omega arith)

-- where no whole message stands in front there is room
pub told_room : (cutting : Cutting) (at : Front) → at ≡ front_of cutting → OnNotYet at (0 < room_of cutting)
told_room cutting (Whole frame) is = tt
told_room cutting NotYet is =
    let room : room_of cutting ≡ 65535 - length cutting.bytes =
    ap (λ (at : Front). room_behind at (length cutting.bytes)) (sym is) in
    let between = greatest_between cutting.wide in
    let short : length cutting.bytes < greatest cutting.wide =
    not_yet_short (greatest cutting.wide) cutting.bytes between.0 (sym is) in
    omega arith
told_room cutting (Fault refusal) is = tt
