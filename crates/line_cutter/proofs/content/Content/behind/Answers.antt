use Rattle.std.proofs.Common.{sym, ◌∙◌}
use Rattle.line_cutter.proofs.ContentLemmas.{filled_front}
use Rattle.line_cutter.proofs.content.Content.behind.Goals as goal

pub returns-in-Filled : goal.returns-in-Filled
returns-in-Filled c =
    c.in-Filled.is ∙ sym (filled_front c.args.self c.bytes.byte-index c.args.piece.now (sym c.bytes.invariant
    ∙ c.in-Filled.is))
