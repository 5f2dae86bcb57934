use Rattle.std.proofs.Common.{◌≡◌, ◌+◌, ◌<◌, ◌≤◌, false, true, length, arith, Ok, Err, sym, ◌∙◌}
use Rattle.std.proofs.lemmas.Result.{err_from_is_err_and}
use Rattle.token_reader.specs.Tokens.{front_token}
use Rattle.config_reader.specs.Files.{section_at}
use Rattle.config_reader.specs.Rules.{is_end}
use Rattle.config_reader.proofs.FileLemmas.{section_counts, section_shrinks}
use Rattle.config_reader.proofs.RuleLemmas.{same_end, until_done, until_more, until_stops}
use Rattle.config_reader.proofs.sections.sections_read.Goals as goal

pub returns-in_err-read-clause-read : goal.returns-in_err-read-clause-read
returns-in_err-read-clause-read c =
    let e = err_from_is_err_and c.from_residual.result c.from_residual.ensures.1 in
    let on : is_end (front_token c.sections.words.left) ≡ false = sym c.is_end.ensures ∙
    c.sections-test.true in
    rw (e.1, e.2)
    (c.sections.invariant.whole c.section_at.new.words.left (Err c.in_err-read.field-0.0)
    (until_stops is_end (section_at c.args.slots) c.args.words.now.end c.sections.read c.sections.words.left
    c.section_at.new.words.left c.section_at.new.words.left c.in_err-read.field-0.0 on
    (same_end (section_at c.args.slots c.sections.read) c.args.words.now.end c.sections.words.end
    c.sections.words.left
    c.section_at.new.words.left (Err c.in_err-read.field-0.0) c.sections.invariant.end
    c.in_err-read.ensures.read)))

pub sections-preserved : goal.sections-preserved
sections-preserved c =
    let on : is_end (front_token c.sections.words.left) ≡ false = sym c.is_end.ensures ∙
    c.sections-test.true in
    record {
      end = c.in_ok-read.ensures.end ∙ c.sections.invariant.end;
      whole = λ left answer is.
          c.sections.invariant.whole left answer
          (until_more is_end (section_at c.args.slots) c.args.words.now.end c.sections.read c.in_ok-read.read
          c.sections.words.left c.section_at.new.words.left left answer on
          (same_end (section_at c.args.slots c.sections.read) c.args.words.now.end c.sections.words.end
          c.sections.words.left
          c.section_at.new.words.left (Ok c.in_ok-read.read) c.sections.invariant.end
          c.in_ok-read.ensures.read)
          is);
      room =
          omega (
            arith,
            c.sections.invariant.room,
            section_counts c.args.slots c.sections.read c.in_ok-read.read c.sections.words.end c.sections.words.left
                c.section_at.new.words.left c.in_ok-read.ensures.read,
          );
    }

pub returns-clause-read : goal.returns-clause-read
returns-clause-read c =
    let off : is_end (front_token c.sections.words.left) ≡ true = sym c.is_end.ensures ∙
    c.sections-test.false in
    c.sections.invariant.whole c.sections.words.left (Ok c.sections.read)
    (until_done is_end (section_at c.args.slots) c.args.words.now.end c.sections.read c.sections.words.left off)

pub sections-smaller : goal.sections-smaller
sections-smaller c =
    section_shrinks c.args.slots c.sections.read c.sections.words.end c.sections.words.left
    c.section_at.new.words.left c.in_ok-read.read c.in_ok-read.ensures.read
