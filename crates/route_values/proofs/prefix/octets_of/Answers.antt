use Rattle.std.proofs.Common.{rules, ap, sym, ◌∙◌}
use Rattle.route_values.specs.Octets.{octets_of}
use Rattle.route_values.proofs.OctetsLemmas.{four_octets, sixteen_octets}
use Rattle.route_values.proofs.prefix.octets_of.Goals as goal

pub returns-in-V4 : goal.returns-in-V4
returns-in-V4 c = four_octets c.in-V4.number c.to_be_bytes.result (search rules) c.to_be_bytes.ensures
    ∙ ap octets_of (sym c.in-V4.is)

pub returns-in-V6 : goal.returns-in-V6
returns-in-V6 c = sixteen_octets c.in-V6.number c.to_be_bytes-in-V6.result (search rules) c.to_be_bytes-in-V6.ensures
    ∙ ap octets_of (sym c.in-V6.is)
