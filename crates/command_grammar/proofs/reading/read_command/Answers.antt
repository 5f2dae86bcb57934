use Rattle.std.proofs.Common.{◌≤◌, length, ap, sym, ◌∙◌, arith}
use Rattle.token_reader.specs.Tokens.{front_token}
use Rattle.command_grammar.specs.Lines.{is_remark}
use Rattle.command_grammar.proofs.LineLemmas.{remark_says, spoken_says}
use Rattle.command_grammar.proofs.reading.read_command.Goals as goal

pub returns-then-begins_remark : goal.returns-then-begins_remark
returns-then-begins_remark c =
    let short : length c.args.line.now ≤ 65535 = omega arith in (
      λ fits. remark_says c.args.line.now
          (ap (λ left. is_remark (front_token left)) (sym c.new-words.ensures.left) ∙ sym c.begins_remark.ensures
          ∙ c.if-begins_remark.true),
      λ long. absurd (omega (arith, short, long)),
    )

pub returns : goal.returns
returns c =
    let short : length c.args.line.now ≤ 65535 = omega arith in (
      λ fits. spoken_says c.args.line.now c.new-words.result.left c.spoken.new.words.left c.spoken.new.words.end
          c.spoken.result c.new-words.ensures.left (c.spoken.ensures.end ∙ c.new-words.ensures.end)
          (sym c.begins_remark.ensures ∙ c.if-begins_remark.false) c.spoken.ensures.read,
      λ long. absurd (omega (arith, short, long)),
    )
