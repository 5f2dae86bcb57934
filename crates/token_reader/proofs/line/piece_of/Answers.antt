use Rattle.std.proofs.Common.{sym, ◌∙◌}
use Rattle.token_reader.proofs.LineLemmas.{line_piece-blank, line_piece-mark, line_piece-cut}
use Rattle.token_reader.proofs.line.piece_of.Goals as goal

pub returns-then-is_blank-clause-piece : goal.returns-then-is_blank-clause-piece
returns-then-is_blank-clause-piece c =
    line_piece-blank c.args.b c.args.others.now (sym c.is_blank.ensures ∙ c.if-is_blank.true)

pub returns-then-is_mark-clause-piece : goal.returns-then-is_mark-clause-piece
returns-then-is_mark-clause-piece c =
    line_piece-mark c.args.b c.args.others.now (sym c.is_blank.ensures ∙ c.if-is_blank.false)
    (sym c.is_mark.ensures ∙ c.if-is_mark.true)

pub returns-clause-piece : goal.returns-clause-piece
returns-clause-piece c =
    line_piece-cut c.args.text.now c.args.others.now c.args.b c.word_len-further.result c.requires
    (sym c.is_blank.ensures ∙ c.if-is_blank.false) (sym c.is_mark.ensures ∙ c.if-is_mark.false)
    c.word_len-further.ensures.len
