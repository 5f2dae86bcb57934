-- From which message on, counted from the one in front, messages may be long.
use Rattle.std.specs.Prelude.{ℕ, Option, Some, None}
use Rattle.frame_cutter.specs.declared.cutter.Wide.{Wide}
use Rattle.frame_cutter.specs.declared.cutter.Wide.TheVariants.{Never, Behind, Now}

abbrev pub wide_of : Wide → Option ℕ
wide_of Never = None
wide_of Behind = Some 1
wide_of Now = Some 0
