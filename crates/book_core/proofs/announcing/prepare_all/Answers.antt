use Rattle.std.proofs.Common.{◌<◌, ◌+◌, ◌∙◌, refl, sym, subst, arith}
use Rattle.std.proofs.lemmas.List.{length-set}
use Rattle.book_core.specs.Moves.{nothing}
use Rattle.book_core.proofs.AnnounceLemmas.{all_readied, slot_yet, some_ready}
use Rattle.book_core.proofs.EndLemmas.{none_moved}
use Rattle.book_core.proofs.announcing.prepare_all.Goals as goal

pub peers-init : goal.peers-init
peers-init c = record {
  moved = none_moved nothing c.args.peers.now.items;
  readied = λ n is less at so. absurd (omega (arith, less));
  many = refl;
}

pub prepare_at-requires-clause-place : goal.prepare_at-requires-clause-place
prepare_at-requires-clause-place c =
    let below = c.peers-test.true in
    let count = c.peers.invariant.moved.count in
    let all = c.requires.slots in
    omega (arith, below, count, all)

pub prepare_at-requires-clause-can : goal.prepare_at-requires-clause-can
prepare_at-requires-clause-can c = λ is at so.
    c.requires.take c.peers.n is
    (slot_yet c.peers.n nothing c.args.peers.now.items c.peers.peers.items is c.peers.invariant.moved at)
    (sym c.is_at.ensures ∙ so)

pub peers-preserved : goal.peers-preserved
peers-preserved c = record {
  moved = c.prepare_at.ensures.moved c.args.peers.now.items c.peers.invariant.moved;
  readied = c.in_ok-numbers.ensures.readied c.args.chosen.now c.peers.numbers c.is_at.ensures
      (subst (λ k. c.peers.n < k) (sym c.peers.invariant.many) c.peers-test.true) c.peers.invariant.readied;
  many = length-set c.peers.numbers c.peers.n _ ∙ c.peers.invariant.many;
}

pub returns-in_err-numbers-clause-moved : goal.returns-in_err-numbers-clause-moved
returns-in_err-numbers-clause-moved c =
    some_ready c.args.peers.now.items c.prepare_at.new.peers.items (c.peers.n + 1)
    (c.prepare_at.ensures.moved c.args.peers.now.items c.peers.invariant.moved)

pub returns : goal.returns
returns c =
    let over = c.peers-test.false in
    let within = c.peers.auto.n-end in
    record {
      moved = some_ready c.args.peers.now.items c.peers.peers.items c.peers.n c.peers.invariant.moved;
      readied = all_readied c.peers.n c.peers.peers.items c.args.chosen.now c.args.keys.now c.args.written.now
          c.peers.numbers (omega (arith, over, within)) c.peers.invariant.readied;
    }
