use Rattle.std.proofs.Common.{[], subst}
use Rattle.std.specs.List.{AllByRecursion}
use Rattle.std.proofs.lemmas.List.{take_all}
use Rattle.update_grammar.specs.Values.{IsExt}
use Rattle.peer_book.proofs.KnownLemmas.{all_next}
use Rattle.peer_book.proofs.known.known_exts.Goals as goal

pub exts-init : goal.exts-init
exts-init c = tt

pub exts-preserved : goal.exts-preserved
exts-preserved c =
    all_next IsExt c.args.exts.now c.exts.ext-index [] c.exts-test.true
    c.exts.invariant c.known_ext.ensures

pub returns : goal.returns
returns c =
    subst (AllByRecursion IsExt)
    (take_all c.exts.ext-index c.args.exts.now c.exts-test.false) c.exts.invariant
