use Rattle.std.proofs.Common.{refl, ◌∙◌}
use Rattle.std.proofs.lemmas.Result.{err_from_is_err_and}
use Rattle.route_grammar.proofs.ReadingLemmas.{keyword_front, none_read, more_read, twice_answers, item_fault}
use Rattle.route_grammar.proofs.ReadingLemmas.{all_read, no_item}
use Rattle.route_grammar.proofs.reading.read_items.Goals as goal

pub items-init : goal.items-init
items-init g c = record {
  end = refl;
  read = none_read c.args.family (g.W.Words.left c.args.words.now) c.none-items.result c.new-seen.result
      c.none-items.ensures
      c.new-seen.ensures;
}

pub returns-then-has-clause-answers : goal.returns-then-has-clause-answers
returns-then-has-clause-answers g c =
    let at = keyword_front (g.W.Words.left c.items.words) c.in-Some.ensures.found.0 c.in-Some.kind
    c.in-Some.ensures.found.1 c.in-Some.ensures.found.2 in
    twice_answers c.args.family (g.W.Words.left c.args.words.now) (g.W.Words.left c.items.words)
    (g.W.Words.end c.items.words) c.items.items c.items.seen c.in-Some.kind c.has.result c.bad_token.result
    c.items.invariant.read at c.has.ensures c.if-has.true c.bad_token.ensures

pub returns-in_err-item-clause-answers : goal.returns-in_err-item-clause-answers
returns-in_err-item-clause-answers g c =
    let e = err_from_is_err_and c.from_residual.result c.from_residual.ensures.1 in
    let at = keyword_front (g.W.Words.left c.items.words) c.in-Some.ensures.found.0 c.in-Some.kind
    c.in-Some.ensures.found.1 c.in-Some.ensures.found.2 in
    rw (e.1, e.2) (item_fault c.args.family (g.W.Words.left c.args.words.now) (g.W.Words.left c.items.words)
    (g.W.Words.left c.read_item.new.words) (g.W.Words.end c.read_item.new.words) c.items.items c.items.seen
    c.in-Some.kind c.has.result _ c.items.invariant.read at c.has.ensures c.if-has.false
    c.in_err-item.ensures.answers)

pub items-preserved : goal.items-preserved
items-preserved g c =
    let at = keyword_front (g.W.Words.left c.items.words) c.in-Some.ensures.found.0 c.in-Some.kind
    c.in-Some.ensures.found.1 c.in-Some.ensures.found.2 in
    record {
      end = c.in_ok-item.ensures.end ∙ c.items.invariant.end;
      read = more_read c.args.family (g.W.Words.left c.args.words.now) (g.W.Words.left c.items.words)
          (g.W.Words.left c.read_item.new.words) (g.W.Words.end c.read_item.new.words) c.items.items c.put.new.self
          c.items.seen c.add.new.self c.in-Some.kind c.has.result c.in_ok-item.item c.items.invariant.read at
          c.has.ensures c.if-has.false c.in_ok-item.ensures.answers c.put.ensures c.add.ensures;
    }

pub returns-clause-answers : goal.returns-clause-answers
returns-clause-answers g c =
    all_read c.args.family (g.W.Words.left c.args.words.now) (g.W.Words.left c.items.words) c.items.items c.items.seen
    c.items.invariant.read (no_item (g.W.Words.left c.items.words) c.in_default.ensures.none)
