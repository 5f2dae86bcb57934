use Rattle.std.proofs.Common.{sym, ◌∙◌}
use Rattle.token_reader.proofs.QuoteLemmas.{quoted_piece-closed, quoted_piece-open}
use Rattle.token_reader.proofs.file.quoted.Goals as goal

pub returns-then-begins_quote-clause-piece : goal.returns-then-begins_quote-clause-piece
returns-then-begins_quote-clause-piece c =
    quoted_piece-closed c.args.text.now c.split_at.result.0.now c.split_at.result.1.now c.quotable_len-len.result
    c.quotable_len-len.ensures.len c.split_at.ensures.front c.split_at.ensures.back
    (sym c.begins_quote.ensures ∙ c.if-begins_quote.true)

pub returns-else-begins_quote-clause-piece : goal.returns-else-begins_quote-clause-piece
returns-else-begins_quote-clause-piece c =
    quoted_piece-open c.args.text.now c.split_at.result.1.now c.quotable_len-len.result c.quotable_len-len.ensures.len
    c.split_at.ensures.back (sym c.begins_quote.ensures ∙ c.if-begins_quote.false)
