use Rattle.std.proofs.Common.{sym, ◌∙◌, Ok, Err}
use Rattle.std.proofs.lemmas.Bool.{false≢true}
use Rattle.std.proofs.lemmas.Result.{err_from_is_err_and}
use Rattle.token_reader.specs.Tokens.{Word}
use Rattle.command_grammar.specs.Keywords.{qualifier_word}
use Rattle.command_grammar.proofs.SelectorLemmas.{qualified_twice, qualified_err, qualified_more, qualified_done}
use Rattle.command_grammar.proofs.TokenLemmas.{token_passed}
use Rattle.command_grammar.proofs.selectors.qualified.Goals as goal

pub returns-then-is_written-clause-read : goal.returns-then-is_written-clause-read
returns-then-is_written-clause-read c =
    c.qualifiers.invariant.whole c.qualifiers.words.left c.qualifiers.words.end (Err c.bad_token.result)
    (qualified_twice c.in-Some.which c.qualifiers.pick c.qualifiers.words.left c.qualifiers.words.end c.bad_token.result
    c.bad_token.ensures c.in-Some.ensures.found
    (λ unwritten. false≢true (sym (c.is_written.ensures.1 unwritten) ∙ c.if-is_written.true)))

pub returns-in_err-pick-clause-read : goal.returns-in_err-pick-clause-read
returns-in_err-pick-clause-read c =
    let e = err_from_is_err_and c.from_residual.result c.from_residual.ensures.1 in
    let passed = token_passed (Word (qualifier_word c.in-Some.which)) c.qualifiers.words.left c.advance.new.self.left
    c.advance.ensures.left c.in-Some.ensures.found in
    rw (e.1, e.2)
    (c.qualifiers.invariant.whole c.qualifying.new.words.left c.qualifying.new.words.end (Err c.in_err-pick.field-0.0)
    (qualified_err c.in-Some.which c.qualifiers.pick c.qualifiers.words.left c.advance.new.self.left
    c.qualifying.new.words.left c.qualifying.new.words.end c.in_err-pick.field-0.0 c.in-Some.ensures.found
    (c.is_written.ensures.0 c.if-is_written.false) passed c.in_err-pick.ensures.read))

pub qualifiers-preserved : goal.qualifiers-preserved
qualifiers-preserved c =
    let passed = token_passed (Word (qualifier_word c.in-Some.which)) c.qualifiers.words.left c.advance.new.self.left
    c.advance.ensures.left c.in-Some.ensures.found in
    record {
      end = c.in_ok-pick.ensures.end ∙ c.advance.ensures.end ∙ c.qualifiers.invariant.end;
      whole = λ left end answer is.
          c.qualifiers.invariant.whole left end answer
          (qualified_more c.in-Some.which c.qualifiers.pick c.in_ok-pick.pick c.qualifiers.words.left
          c.advance.new.self.left c.qualifying.new.words.left left end answer c.in-Some.ensures.found
          (c.is_written.ensures.0 c.if-is_written.false) passed c.in_ok-pick.ensures.read is);
    }

pub returns-clause-read : goal.returns-clause-read
returns-clause-read c =
    c.qualifiers.invariant.whole c.qualifiers.words.left c.qualifiers.words.end (Ok c.qualifiers.pick)
    (qualified_done c.qualifiers.pick c.qualifiers.words.left c.qualifiers.words.end c.in_default.ensures.none)
