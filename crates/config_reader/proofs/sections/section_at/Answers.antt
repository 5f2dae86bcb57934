use Rattle.config_reader.proofs.FileLemmas.{section_goes}
use Rattle.config_reader.specs.declared.keywords.Section.TheVariants.{Process, Neighbor}
use Rattle.config_reader.proofs.sections.section_at.Goals as goal

pub returns-in-Process-clause-read : goal.returns-in-Process-clause-read
returns-in-Process-clause-read c =
    section_goes c.args.slots c.args.read c.in_ok-opened.field-0 Process c.args.words.now.end c.opened.new.words.end
    c.args.words.now.left c.opened.new.words.left c.process_section.new.words.left c.process_section.result
    c.in_ok-opened.ensures.read c.in_ok-opened.ensures.end c.in-Process.is c.process_section.ensures.read

pub returns-in-Neighbor-clause-read : goal.returns-in-Neighbor-clause-read
returns-in-Neighbor-clause-read c =
    section_goes c.args.slots c.args.read c.in_ok-opened.field-0 Neighbor c.args.words.now.end c.opened.new.words.end
    c.args.words.now.left c.opened.new.words.left c.neighbor_section.new.words.left c.neighbor_section.result
    c.in_ok-opened.ensures.read c.in_ok-opened.ensures.end c.in-Neighbor.is c.neighbor_section.ensures.read
