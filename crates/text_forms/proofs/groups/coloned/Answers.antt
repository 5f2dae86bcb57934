use Rattle.std.proofs.Common.{ℕ, ◌<◌, ◌≤◌, List, length, sym, subst, rules}
use Rattle.text_forms.specs.Ipv6.{AreColoned}
use Rattle.text_forms.proofs.Ipv6Lemmas.{coloned_push, no_group_there, no_ninth_group}
use Rattle.text_forms.proofs.groups.coloned.Goals as goal

pub returns-in_default-group-clause-none : goal.returns-in_default-group-clause-none
returns-in_default-group-clause-none c = λ groups rest stops few also.
    let filled : 0 < length c.in-Some.front.now = search rules in
    no_group_there c.args.text.now c.groups.groups.items c.groups.rest.now c.in-Some.front.now c.in-Some.after.now
    c.groups.invariant c.in-Some.ensures.found c.in-Some.ensures.first filled c.in_default-group.ensures.none groups
    rest stops also

pub returns-then-is_full-clause-none : goal.returns-then-is_full-clause-none
returns-then-is_full-clause-none c = λ groups rest stops few also.
    let filled : 0 < length c.in-Some.front.now = search rules in
    let many : 8 ≤ length c.groups.groups.items = search rules in
    no_ninth_group c.args.text.now c.groups.groups.items c.groups.rest.now c.in-Some.front.now c.in-Some.after.now
    c.groups.invariant c.in-Some.ensures.found c.in-Some.ensures.first filled many groups rest stops few also

pub groups-preserved : goal.groups-preserved
groups-preserved c =
    subst (λ (groups : List ℕ). AreColoned c.args.text.now groups c.in-Some.after.now) (sym c.push.ensures.items)
    (coloned_push c.args.text.now c.groups.groups.items c.groups.rest.now c.in-Some.front.now c.in-Some.after.now
    c.in-Some-group.number c.groups.invariant c.in-Some.ensures.found c.in-Some-group.ensures.found)
