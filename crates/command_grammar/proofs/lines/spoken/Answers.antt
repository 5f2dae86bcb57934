use Rattle.std.proofs.Common.{◌≡◌, ◌≢◌, Some, codes, rules}
use Rattle.token_reader.specs.Tokens.{Word, front_token}
use Rattle.command_grammar.proofs.KindLemmas.{sole_answers, sole_passed, picked_answers, targeted_answers}
use Rattle.command_grammar.proofs.lines.spoken.Goals as goal

pub returns-in-Some-clause-read : goal.returns-in-Some-clause-read
returns-in-Some-clause-read c =
    let found = c.in-Some.ensures.found in
    sole_answers found.0 c.in-Some.command c.args.words.now.left c.advance.new.self.left c.advance.new.self.left
    c.advance.new.self.end c.ended.result found.1 found.2
    (sole_passed found.0 c.in-Some.command c.args.words.now.left c.advance.new.self.left c.advance.ensures.left found.1
    found.2) c.ended.ensures

pub returns-then-is_word-clause-read : goal.returns-then-is_word-clause-read
returns-then-is_word-clause-read c =
    let at : front_token c.args.words.now.left ≡ Some (Word (codes "neighbor")) = search rules in
    picked_answers c.args.words.now.left c.picked.new.words.left c.picked.new.words.end c.picked.result at
    c.picked.ensures.read

pub returns-clause-read : goal.returns-clause-read
returns-clause-read c =
    let never : front_token c.args.words.now.left ≢ Some (Word (codes "neighbor")) = search rules in
    targeted_answers c.new.result c.args.words.now.left c.targeted.new.words.left c.targeted.new.words.end
    c.targeted.result c.new.ensures c.in_default.ensures.none never c.targeted.ensures.read
