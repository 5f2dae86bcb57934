use Rattle.std.proofs.Common.{None}
use Rattle.std.proofs.lemmas.Result.{err_from_is_err_and}
use Rattle.route_grammar.specs.Numbers.{IsHop}
use Rattle.config_reader.specs.Rules.{saying, sign}
use Rattle.config_reader.specs.Words.{word_or}
use Rattle.config_reader.proofs.RuleLemmas.{second_stops}
use Rattle.health_core.specs.Prefixes.{hop_wrong}
use Rattle.health_core.proofs.prefixes.hop_at.Goals as goal

pub returns-in_err-sign-clause-read : goal.returns-in_err-sign-clause-read
returns-in_err-sign-clause-read c =
    let e = err_from_is_err_and c.from_residual-in_err-sign.result c.from_residual-in_err-sign.ensures.1 in
    rw (e.1, e.2)
    (second_stops (word_or (IsHop None) (hop_wrong c.args.keys.now)) (λ hop. sign 59) (λ hop ended. saying hop)
    c.args.words.now.end c.hop_like.new.words.end c.args.words.now.left c.hop_like.new.words.left
    c.sign.new.words.left c.sign.new.words.left c.in_ok-hop.hop c.in_err-sign.field-0.0 c.in_ok-hop.ensures.read
    c.in_ok-hop.ensures.end c.in_err-sign.ensures.read)
