use Rattle.std.proofs.Common.{sym, subst}
use Rattle.std.specs.List.{AllByRecursion}
use Rattle.std.proofs.lemmas.List.{take_all}
use Rattle.config_model.specs.Drafts.{IsNeighbor}
use Rattle.peer_book.proofs.KnownLemmas.{all_next}
use Rattle.peer_book.proofs.StaticsLemmas.{all_get}
use Rattle.book_core.specs.Changing.{IsSection}
use Rattle.book_core.proofs.routes.known_sections.Goals as goal

pub sections-init : goal.sections-init
sections-init c = tt

pub known_section-requires : goal.known_section-requires
known_section-requires c =
    subst IsNeighbor (sym c.section-item.is)
    (all_get IsNeighbor c.args.sections.now c.sections.section-index c.section-item.result c.sections-test.true
    c.requires)

pub sections-preserved : goal.sections-preserved
sections-preserved c =
    all_next IsSection c.args.sections.now c.sections.section-index c.section-item.result c.sections-test.true
    c.sections.invariant (subst IsSection c.section-item.is c.known_section.ensures)

pub returns : goal.returns
returns c =
    subst (AllByRecursion IsSection)
    (take_all c.sections.section-index c.args.sections.now c.sections-test.false) c.sections.invariant
