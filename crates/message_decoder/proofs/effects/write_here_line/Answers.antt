use Rattle.message_decoder.proofs.EffectLemmas.{here_line, no_line}
use Rattle.message_decoder.proofs.WritingLemmas.{broke_none, writes_wider}
use Rattle.message_decoder.proofs.effects.write_here_line.Goals as goal

pub returns-in-Ok : goal.returns-in-Ok
returns-in-Ok g c =
    writes_wider _ _ _ _ c.write_line.result
    (λ text is. here_line c.args.key.now c.args.sent.now c.in-Ok.line text c.in-Ok.ensures.0 c.in-Ok.ensures.1 is)
    c.write_line.ensures

pub returns-in-Err-Unprintable : goal.returns-in-Err-Unprintable
returns-in-Err-Unprintable g c =
    writes_wider _ _ _ _ c.write_unprintable.result
    (λ text is. no_line c.args.key.now c.args.sent.now text
    (rw c.in-Err-Unprintable.field-0-is at c.in-Err-Unprintable.ensures) is)
    c.write_unprintable.ensures

pub returns-in-Err-NoMemory : goal.returns-in-Err-NoMemory
returns-in-Err-NoMemory g c = broke_none _ _
