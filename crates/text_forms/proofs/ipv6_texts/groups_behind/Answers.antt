use Rattle.std.proofs.Common.{ℕ, ◌<◌, length, rules}
use Rattle.text_forms.proofs.OptionLemmas.{none_map}
use Rattle.text_forms.proofs.Ipv6ReadLemmas.{no_behind_coloned, no_behind_end}
use Rattle.text_forms.proofs.ipv6_texts.groups_behind.Goals as goal

pub returns-in_err-first-clause-none : goal.returns-in_err-first-clause-none
returns-in_err-first-clause-none c =
    let some : 0 < length c.args.back.now = search rules in
    rw c.from_residual.ensures (λ groups short are.
    no_behind_coloned c.args.back.now groups some c.in_err-first.ensures.none short are)

pub returns-clause-none : goal.returns-clause-none
returns-clause-none c =
    let some : 0 < length c.args.back.now = search rules in
    none_map c.ended.result _ _
    (λ none groups short are. no_behind_end c.args.back.now groups c.in_ok-first.first.items c.in_ok-first.rest.now some
    c.in_ok-first.ensures.found c.in_ok-first.ensures.stops none short are)
    c.ended.ensures.none
