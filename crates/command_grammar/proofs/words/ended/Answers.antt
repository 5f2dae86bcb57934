use Rattle.std.proofs.Common.{◌≡◌, [], rules}
use Rattle.command_grammar.proofs.FormLemmas.{ended_err}
use Rattle.command_grammar.proofs.words.ended.Goals as goal

pub returns-then-not-is_end : goal.returns-then-not-is_end
returns-then-not-is_end c =
    let some : c.args.words.now.left ≡ [] → ⊥ = search rules in
    ended_err _ c.args.words.now.left c.args.words.now.end c.bad_token.result c.bad_token.ensures some
