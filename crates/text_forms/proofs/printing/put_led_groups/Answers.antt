use Rattle.std.proofs.Common.{ℕ, suc, ◌≡◌, ◌-◌, ◌++◌, arith, ap, sym, ◌∙◌, append-nil}
use Rattle.text_forms.specs.Printed.{led_groups}
use Rattle.text_forms.proofs.PrintedLemmas.{led_groups-none, led_next}
use Rattle.text_forms.proofs.printing.put_led_groups.Goals as goal

pub groups-preserved : goal.groups-preserved
groups-preserved g c =
    let left = c.groups.left - 1 in
    let one_more : suc left ≡ c.groups.left = omega arith in
    record {
      within = omega arith;
      text = led_next left c.args.number c.group.result c.groups.out.items c.put_led_group.new.out.items _
          c.group.ensures c.put_led_group.ensures.text
          (ap (λ k. c.groups.out.items ++ led_groups k c.args.number) one_more ∙ c.groups.invariant.text);
      short = omega arith;
    }

pub returns-clause-text : goal.returns-clause-text
returns-clause-text g c =
    let none : c.groups.left ≡ 0 = omega arith in
    sym (append-nil c.groups.out.items)
    ∙ ap (λ more. c.groups.out.items ++ more)
    (sym (ap (λ k. led_groups k c.args.number) none ∙ led_groups-none c.args.number))
    ∙ c.groups.invariant.text
