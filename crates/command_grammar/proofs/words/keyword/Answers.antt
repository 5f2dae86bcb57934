use Rattle.std.proofs.Common.{◌≡◌, Some, rules}
use Rattle.token_reader.specs.Tokens.{Word, front_token}
use Rattle.command_grammar.proofs.TokenLemmas.{token_passed}
use Rattle.command_grammar.proofs.words.keyword.Goals as goal

pub returns-clause-read : goal.returns-clause-read
returns-clause-read c =
    let at : front_token c.args.words.now.left ≡ Some (Word c.args.text.now) = search rules in
    token_passed (Word c.args.text.now) c.args.words.now.left c.advance.new.self.left c.advance.ensures.left at
