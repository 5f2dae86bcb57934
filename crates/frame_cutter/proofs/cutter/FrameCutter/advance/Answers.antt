use Rattle.std.proofs.Common.{sym, ap, arith, length}
use Rattle.frame_cutter.specs.Cutting.{Cutting}
use Rattle.frame_cutter.proofs.FrontLemmas.{whole_fits}
use Rattle.frame_cutter.proofs.cutter.FrameCutter.advance.Goals as goal

pub skip-requires : goal.skip-requires
skip-requires c =
    omega (
      arith,
      whole_fits _ _ _ (sym (c.in-Frame.ensures.exact)),
      ap (λ (cutting : Cutting). length cutting.bytes) c.self.view_is,
    )
