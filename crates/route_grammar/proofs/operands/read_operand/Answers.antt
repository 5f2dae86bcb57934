use Rattle.std.proofs.Common.{refl}
use Rattle.text_forms.specs.Addresses.{IsIpv4}
use Rattle.route_grammar.specs.declared.items.Item.TheVariants as item
use Rattle.route_grammar.specs.declared.kind.Kind.TheVariants as kind
use Rattle.route_grammar.specs.Limits as counted
use Rattle.route_grammar.specs.Productions.{OneWord}
use Rattle.route_grammar.specs.Numbers.{IsNumber, IsPathId, IsHop, IsOrigin}
use Rattle.route_grammar.specs.Communities.{IsCommunity, IsExtended, IsLarge, IsAggregator}
use Rattle.route_grammar.specs.Lists.{ListOf, AloneOrIn, OnePath}
use Rattle.route_grammar.proofs.OperandReadLemmas.{at_kind, said_answers}
use Rattle.route_grammar.proofs.operands.read_operand.Goals as goal

pub returns-in-NextHop-clause-answers : goal.returns-in-NextHop-clause-answers
returns-in-NextHop-clause-answers g c =
    at_kind c.args.family c.args.kind kind.NextHop (g.W.Words.left c.args.words.now) (g.W.Words.left
    c.read_word.new.words)
    (g.W.Words.end c.read_word.new.words) c.map.result c.in-NextHop.is
    (said_answers item.NextHop (OneWord (IsHop c.args.family)) (g.W.Words.left c.args.words.now)
    (g.W.Words.left c.read_word.new.words) (g.W.Words.end c.read_word.new.words) c.read_word.result c.map.result
    c.map.ensures.cases c.read_word.ensures.answers)

pub returns-in-Origin-clause-answers : goal.returns-in-Origin-clause-answers
returns-in-Origin-clause-answers g c =
    at_kind c.args.family c.args.kind kind.Origin (g.W.Words.left c.args.words.now) (g.W.Words.left
    c.read_word-in-Origin.new.words)
    (g.W.Words.end c.read_word-in-Origin.new.words) c.map-in-Origin.result c.in-Origin.is
    (said_answers item.Origin (OneWord IsOrigin) (g.W.Words.left c.args.words.now)
    (g.W.Words.left c.read_word-in-Origin.new.words) (g.W.Words.end c.read_word-in-Origin.new.words)
    c.read_word-in-Origin.result c.map-in-Origin.result
    c.map-in-Origin.ensures.cases c.read_word-in-Origin.ensures.answers)

pub returns-in-Path-clause-answers : goal.returns-in-Path-clause-answers
returns-in-Path-clause-answers g c =
    at_kind c.args.family c.args.kind kind.Path (g.W.Words.left c.args.words.now) (g.W.Words.left
    c.read_path.new.words)
    (g.W.Words.end c.read_path.new.words) c.map-in-Path.result c.in-Path.is
    (said_answers item.Path (OnePath) (g.W.Words.left c.args.words.now)
    (g.W.Words.left c.read_path.new.words) (g.W.Words.end c.read_path.new.words) c.read_path.result
    c.map-in-Path.result
    c.map-in-Path.ensures.cases c.read_path.ensures.answers)

pub returns-in-Med-clause-answers : goal.returns-in-Med-clause-answers
returns-in-Med-clause-answers g c =
    at_kind c.args.family c.args.kind kind.Med (g.W.Words.left c.args.words.now) (g.W.Words.left
    c.read_word-in-Med.new.words)
    (g.W.Words.end c.read_word-in-Med.new.words) c.map-in-Med.result c.in-Med.is
    (said_answers item.Med (OneWord IsNumber) (g.W.Words.left c.args.words.now)
    (g.W.Words.left c.read_word-in-Med.new.words) (g.W.Words.end c.read_word-in-Med.new.words)
    c.read_word-in-Med.result c.map-in-Med.result
    c.map-in-Med.ensures.cases c.read_word-in-Med.ensures.answers)

pub returns-in-LocalPref-clause-answers : goal.returns-in-LocalPref-clause-answers
returns-in-LocalPref-clause-answers g c =
    at_kind c.args.family c.args.kind kind.LocalPref (g.W.Words.left c.args.words.now) (g.W.Words.left
    c.read_word-in-LocalPref.new.words)
    (g.W.Words.end c.read_word-in-LocalPref.new.words) c.map-in-LocalPref.result c.in-LocalPref.is
    (said_answers item.LocalPref (OneWord IsNumber) (g.W.Words.left c.args.words.now)
    (g.W.Words.left c.read_word-in-LocalPref.new.words) (g.W.Words.end c.read_word-in-LocalPref.new.words)
    c.read_word-in-LocalPref.result c.map-in-LocalPref.result
    c.map-in-LocalPref.ensures.cases c.read_word-in-LocalPref.ensures.answers)

pub returns-in-Aggregator-clause-answers : goal.returns-in-Aggregator-clause-answers
returns-in-Aggregator-clause-answers g c =
    at_kind c.args.family c.args.kind kind.Aggregator (g.W.Words.left c.args.words.now) (g.W.Words.left
    c.read_alone_or_in.new.words)
    (g.W.Words.end c.read_alone_or_in.new.words) c.map-in-Aggregator.result c.in-Aggregator.is
    (said_answers item.Aggregator (AloneOrIn IsAggregator) (g.W.Words.left c.args.words.now)
    (g.W.Words.left c.read_alone_or_in.new.words) (g.W.Words.end c.read_alone_or_in.new.words)
    c.read_alone_or_in.result c.map-in-Aggregator.result
    c.map-in-Aggregator.ensures.cases c.read_alone_or_in.ensures.answers)

pub returns-in-Communities-clause-answers : goal.returns-in-Communities-clause-answers
returns-in-Communities-clause-answers g c =
    at_kind c.args.family c.args.kind kind.Communities (g.W.Words.left c.args.words.now) (g.W.Words.left
    c.read_list.new.words)
    (g.W.Words.end c.read_list.new.words) c.map-in-Communities.result c.in-Communities.is
    (said_answers item.Communities (ListOf counted.Communities IsCommunity) (g.W.Words.left c.args.words.now)
    (g.W.Words.left c.read_list.new.words) (g.W.Words.end c.read_list.new.words) c.read_list.result
    c.map-in-Communities.result
    c.map-in-Communities.ensures.cases (c.read_list.ensures.answers counted.Communities refl))

pub returns-in-Originator-clause-answers : goal.returns-in-Originator-clause-answers
returns-in-Originator-clause-answers g c =
    at_kind c.args.family c.args.kind kind.Originator (g.W.Words.left c.args.words.now) (g.W.Words.left
    c.read_word-in-Originator.new.words)
    (g.W.Words.end c.read_word-in-Originator.new.words) c.map-in-Originator.result c.in-Originator.is
    (said_answers item.Originator (OneWord IsIpv4) (g.W.Words.left c.args.words.now)
    (g.W.Words.left c.read_word-in-Originator.new.words) (g.W.Words.end c.read_word-in-Originator.new.words)
    c.read_word-in-Originator.result c.map-in-Originator.result
    c.map-in-Originator.ensures.cases c.read_word-in-Originator.ensures.answers)

pub returns-in-Clusters-clause-answers : goal.returns-in-Clusters-clause-answers
returns-in-Clusters-clause-answers g c =
    at_kind c.args.family c.args.kind kind.Clusters (g.W.Words.left c.args.words.now) (g.W.Words.left
    c.read_list-in-Clusters.new.words)
    (g.W.Words.end c.read_list-in-Clusters.new.words) c.map-in-Clusters.result c.in-Clusters.is
    (said_answers item.Clusters (ListOf counted.Clusters IsIpv4) (g.W.Words.left c.args.words.now)
    (g.W.Words.left c.read_list-in-Clusters.new.words) (g.W.Words.end c.read_list-in-Clusters.new.words)
    c.read_list-in-Clusters.result c.map-in-Clusters.result
    c.map-in-Clusters.ensures.cases (c.read_list-in-Clusters.ensures.answers counted.Clusters refl))

pub returns-in-Extended-clause-answers : goal.returns-in-Extended-clause-answers
returns-in-Extended-clause-answers g c =
    at_kind c.args.family c.args.kind kind.Extended (g.W.Words.left c.args.words.now) (g.W.Words.left
    c.read_list-in-Extended.new.words)
    (g.W.Words.end c.read_list-in-Extended.new.words) c.map-in-Extended.result c.in-Extended.is
    (said_answers item.Extended (ListOf counted.Extended IsExtended) (g.W.Words.left c.args.words.now)
    (g.W.Words.left c.read_list-in-Extended.new.words) (g.W.Words.end c.read_list-in-Extended.new.words)
    c.read_list-in-Extended.result c.map-in-Extended.result
    c.map-in-Extended.ensures.cases (c.read_list-in-Extended.ensures.answers counted.Extended refl))

pub returns-in-Large-clause-answers : goal.returns-in-Large-clause-answers
returns-in-Large-clause-answers g c =
    at_kind c.args.family c.args.kind kind.Large (g.W.Words.left c.args.words.now) (g.W.Words.left
    c.read_list-in-Large.new.words)
    (g.W.Words.end c.read_list-in-Large.new.words) c.map-in-Large.result c.in-Large.is
    (said_answers item.Large (ListOf counted.Large IsLarge) (g.W.Words.left c.args.words.now)
    (g.W.Words.left c.read_list-in-Large.new.words) (g.W.Words.end c.read_list-in-Large.new.words)
    c.read_list-in-Large.result c.map-in-Large.result
    c.map-in-Large.ensures.cases (c.read_list-in-Large.ensures.answers counted.Large refl))

pub returns-in-PathId-clause-answers : goal.returns-in-PathId-clause-answers
returns-in-PathId-clause-answers g c =
    at_kind c.args.family c.args.kind kind.PathId (g.W.Words.left c.args.words.now) (g.W.Words.left
    c.read_word-in-PathId.new.words)
    (g.W.Words.end c.read_word-in-PathId.new.words) c.map-in-PathId.result c.in-PathId.is
    (said_answers item.PathId (OneWord IsPathId) (g.W.Words.left c.args.words.now)
    (g.W.Words.left c.read_word-in-PathId.new.words) (g.W.Words.end c.read_word-in-PathId.new.words)
    c.read_word-in-PathId.result c.map-in-PathId.result
    c.map-in-PathId.ensures.cases c.read_word-in-PathId.ensures.answers)
