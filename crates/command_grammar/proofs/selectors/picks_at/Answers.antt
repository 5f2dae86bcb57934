use Rattle.std.proofs.Common.{◌≡◌, ◌≢◌, List, [], ◌∷◌, ◌++◌, Some, Ok, Err, ◌∙◌, subst, rules}
use Rattle.std.proofs.lemmas.Result.{err_from_is_err_and}
use Rattle.route_values.specs.declared.pick.Pick.{Pick}
use Rattle.token_reader.specs.Tokens.{Mark, front_token}
use Rattle.route_grammar.specs.Answered.{Answers}
use Rattle.route_grammar.specs.Limits.{in_force}
use Rattle.command_grammar.specs.Selectors.{FurtherPicks, further_picks}
use Rattle.command_grammar.proofs.PicksLemmas.{picks_first_err, picks_ok, picks_err, picks_more, picks_done}
use Rattle.command_grammar.proofs.TokenLemmas.{token_passed}
use Rattle.command_grammar.proofs.selectors.picks_at.Goals as goal

pub returns-in_err-first-clause-read : goal.returns-in_err-first-clause-read
returns-in_err-first-clause-read c =
    let e = err_from_is_err_and c.from_residual.result c.from_residual.ensures.1 in
    rw (e.1, e.2)
    (picks_first_err c.args.words.now.left c.pick_at.new.words.left c.pick_at.new.words.end c.in_err-first.field-0.0
    c.in_err-first.ensures.read)

pub returns-in_err-push-clause-read : goal.returns-in_err-push-clause-read
returns-in_err-push-clause-read c =
    let e = err_from_is_err_and c.from_residual-in_err-push.result c.from_residual-in_err-push.ensures.1 in rw (
      e.1,
      e.2,
    ) tt

pub returns-in_err-push-2-clause-read : goal.returns-in_err-push-2-clause-read
returns-in_err-push-2-clause-read c =
    let e = err_from_is_err_and c.from_residual-in_err-push-2.result c.from_residual-in_err-push-2.ensures.1 in rw
    (e.1, e.2) tt

pub picks-init : goal.picks-init
picks-init c =
    let first : c.push.new.self ≡ c.in_ok-first.first ∷ [] = search rules in
    record {
      end = c.in_ok-first.ensures.end;
      stops = c.in_ok-first.ensures.read.2.ends;
      whole = λ left end answer is.
          let goal : List Pick → Type 0 =
          λ picks. Answers (FurtherPicks picks) further_picks in_force c.pick_at.new.words.left left end answer in
          picks_ok c.in_ok-first.first c.args.words.now.left c.pick_at.new.words.left left end answer
          c.in_ok-first.ensures.read (subst goal first is);
    }

pub returns-in_err-pick-clause-read : goal.returns-in_err-pick-clause-read
returns-in_err-pick-clause-read c =
    let e = err_from_is_err_and c.from_residual-in_err-pick.result c.from_residual-in_err-pick.ensures.1 in
    let at : front_token c.picks.words.left ≡ Some (Mark 44) = search rules in
    let passed = token_passed (Mark 44) c.picks.words.left c.advance.new.self.left c.advance.ensures.left at in
    rw (e.1, e.2)
    (c.picks.invariant.whole c.pick_at-in-picks.new.words.left c.pick_at-in-picks.new.words.end
    (Err c.in_err-pick.field-0.0)
    (picks_err c.picks.picks c.picks.words.left c.advance.new.self.left c.pick_at-in-picks.new.words.left
    c.pick_at-in-picks.new.words.end c.in_err-pick.field-0.0 at passed c.in_err-pick.ensures.read))

pub picks-preserved : goal.picks-preserved
picks-preserved c =
    let at : front_token c.picks.words.left ≡ Some (Mark 44) = search rules in
    let passed = token_passed (Mark 44) c.picks.words.left c.advance.new.self.left c.advance.ensures.left at in
    let more : c.push-in-picks.new.self ≡ c.picks.picks ++ c.in_ok-pick.pick ∷ [] = search rules in
    record {
      end = c.in_ok-pick.ensures.end ∙ c.advance.ensures.end ∙ c.picks.invariant.end;
      stops = c.in_ok-pick.ensures.read.2.ends;
      whole = λ left end answer is.
          let goal : List Pick → Type 0 =
          λ picks. Answers (FurtherPicks picks) further_picks in_force c.pick_at-in-picks.new.words.left left end
          answer in
          c.picks.invariant.whole left end answer
          (picks_more c.picks.picks c.in_ok-pick.pick c.picks.words.left c.advance.new.self.left
          c.pick_at-in-picks.new.words.left left end answer at passed c.in_ok-pick.ensures.read (subst goal more is));
    }

pub returns-clause-read : goal.returns-clause-read
returns-clause-read c =
    let other : front_token c.picks.words.left ≢ Some (Mark 44) = search rules in
    c.picks.invariant.whole c.picks.words.left c.picks.words.end (Ok c.picks.picks)
    (picks_done c.picks.picks c.picks.words.left c.picks.words.end c.picks.invariant.stops other)
