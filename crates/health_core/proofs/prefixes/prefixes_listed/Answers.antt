use Rattle.std.proofs.Common.{List, [], subst}
use Rattle.route_values.specs.declared.key.Key.{Key}
use Rattle.config_reader.specs.Rules.{Gives}
use Rattle.config_reader.proofs.RuleLemmas.{goes_on}
use Rattle.health_core.specs.Prefixes.{prefix_more, prefixes_further}
use Rattle.health_core.proofs.prefixes.prefixes_listed.Goals as goal

pub returns-clause-read : goal.returns-clause-read
returns-clause-read c =
    goes_on (prefix_more c.args.hop []) (prefixes_further c.args.hop) c.args.words.now.end c.prefix_more.new.words.end
    c.args.words.now.left c.prefix_more.new.words.left c.prefixes_further.new.words.left c.in_ok-first.first
    c.prefixes_further.result
    (subst (λ (keys : List Key). prefix_more c.args.hop keys c.args.words.now.end c.args.words.now.left
    (Gives c.in_ok-first.first c.prefix_more.new.words.left)) c.new.ensures c.in_ok-first.ensures.read)
    c.in_ok-first.ensures.end c.prefixes_further.ensures.read
