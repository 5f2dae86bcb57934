use Rattle.std.proofs.Common.{subst}
use Rattle.std.specs.List.{AllByRecursion}
use Rattle.std.proofs.lemmas.List.{take_all}
use Rattle.update_grammar.specs.Values.{IsLarge}
use Rattle.peer_book.proofs.KnownLemmas.{all_next}
use Rattle.peer_book.proofs.known.known_larges.Goals as goal

pub larges-init : goal.larges-init
larges-init c = tt

pub larges-preserved : goal.larges-preserved
larges-preserved c =
    all_next IsLarge c.args.larges.now c.larges.large-index (record { global = 0; first = 0; second = 0 })
    c.larges-test.true c.larges.invariant c.known_large.ensures

pub returns : goal.returns
returns c =
    subst (AllByRecursion IsLarge)
    (take_all c.larges.large-index c.args.larges.now c.larges-test.false) c.larges.invariant
