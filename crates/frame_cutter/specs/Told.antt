-- What a cutter's answer tells, without where its bytes lie.
use Rattle.frame_cutter.specs.declared.next.Next.{Next}
use Rattle.frame_cutter.specs.declared.next.Next.TheVariants as next
use Rattle.frame_cutter.specs.Front.{Front, Whole, NotYet, Fault}

abbrev pub told : Next → Front
told (next.Frame kind body) = Whole (record { kind = kind; body = body.now })
told next.NotYet = NotYet
told (next.Fault refusal) = Fault refusal
