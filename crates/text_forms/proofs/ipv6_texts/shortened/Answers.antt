use Rattle.std.proofs.Common.{length, ap, arith}
use Rattle.text_forms.proofs.OptionLemmas.{none_map}
use Rattle.text_forms.proofs.Ipv6ReadLemmas.{no_room_for_zeros}
use Rattle.text_forms.proofs.ipv6_texts.shortened.Goals as goal

pub returns-clause-none : goal.returns-clause-none
returns-clause-none c =
    none_map c.filled.result _ _
    (λ many other is. no_room_for_zeros c.args.before.items c.args.back.now c.in_ok-behind.behind.items other
    c.in_ok-behind.ensures.found (omega (arith, many, ap length c.as_slice.ensures.value)) is)
    c.filled.ensures.none
