use Rattle.std.proofs.Common.{◌≡◌, ◌≤◌, ◌+◌, ◌*◌, ◌++◌}
use Rattle.arrayvec.specs.ArrayVec.{array_vec_len}
use Rattle.text_forms.specs.Printed.{led_groups}
use Rattle.text_forms.proofs.printing.put_led_groups.Given as goal

abbrev pub invariant-groups : goal.invariant-groups
invariant-groups g l = record {
  within : l.left ≤ l.count;
  text : l.out.items ++ led_groups l.left l.number ≡ l.initial.out.items ++ led_groups l.count l.number;
  short : array_vec_len l.out + 5 * l.left ≤ array_vec_len l.initial.out + 5 * l.count;
}

abbrev pub decreases-groups : goal.decreases-groups
decreases-groups g l = l.left
