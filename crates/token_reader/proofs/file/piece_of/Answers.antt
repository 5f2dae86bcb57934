use Rattle.std.proofs.Common.{sym, ◌∙◌}
use Rattle.std.proofs.lemmas.Bool.{ne_eqb}
use Rattle.token_reader.proofs.FileLemmas.{file_piece-separator, file_piece-hash, file_piece-mark, file_piece-quote}
use Rattle.token_reader.proofs.FileLemmas.{file_piece-cut}
use Rattle.token_reader.proofs.file.piece_of.Goals as goal

pub returns-then-is_separator-clause-piece : goal.returns-then-is_separator-clause-piece
returns-then-is_separator-clause-piece c =
    file_piece-separator c.args.b c.args.others.now (sym c.is_separator.ensures ∙ c.if-is_separator.true)

pub returns-then-b-eq35-clause-piece : goal.returns-then-b-eq35-clause-piece
returns-then-b-eq35-clause-piece c =
    file_piece-hash c.args.b c.args.others.now c.line_len.result (sym c.is_separator.ensures ∙ c.if-is_separator.false)
    c.if-b-eq35.true c.line_len.ensures.len

pub returns-then-is_mark-clause-piece : goal.returns-then-is_mark-clause-piece
returns-then-is_mark-clause-piece c =
    file_piece-mark c.args.b c.args.others.now (sym c.is_separator.ensures ∙ c.if-is_separator.false)
    (ne_eqb c.args.b 35 c.if-b-eq35.false) (sym c.is_mark.ensures ∙ c.if-is_mark.true)

pub returns-then-b-eq34-clause-piece : goal.returns-then-b-eq34-clause-piece
returns-then-b-eq34-clause-piece c =
    c.quoted.ensures.piece
    ∙ file_piece-quote c.args.b c.args.others.now (sym c.is_separator.ensures ∙ c.if-is_separator.false)
    (ne_eqb c.args.b 35 c.if-b-eq35.false) (sym c.is_mark.ensures ∙ c.if-is_mark.false) c.if-b-eq34.true

pub returns-clause-piece : goal.returns-clause-piece
returns-clause-piece c =
    file_piece-cut c.args.text.now c.args.others.now c.args.b c.word_len-further.result c.requires
    (sym c.is_separator.ensures ∙ c.if-is_separator.false) (ne_eqb c.args.b 35 c.if-b-eq35.false)
    (sym c.is_mark.ensures ∙ c.if-is_mark.false) (ne_eqb c.args.b 34 c.if-b-eq34.false)
    c.word_len-further.ensures.len
