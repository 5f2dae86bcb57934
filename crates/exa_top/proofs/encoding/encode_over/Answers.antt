use Rattle.std.proofs.Common.{Err, ap, refl}
use Rattle.exa_top.proofs.EncodedLemmas.{heard_encodes, heard_read, unread_encodes}
use Rattle.exa_top.proofs.encoding.encode_over.Goals as goal

pub returns-in-Ok-clause-encodes : goal.returns-in-Ok-clause-encodes
returns-in-Ok-clause-encodes g c =
    heard_encodes (g.F.Files.content c.args.files.now) _ _ _ _ _ _ _ _ c.in-Ok.config _ (refl, refl)
    c.in-Ok.ensures.config (c.in-Ok.ensures.same (λ is. absurd (cc))) c.encode_heard.ensures.encodes

pub returns-in-Ok-clause-unread : goal.returns-in-Ok-clause-unread
returns-in-Ok-clause-unread g c is =
    absurd (heard_read c.in-Ok.config _ _ _ _ _ c.encode_heard.ensures.encodes is)

pub returns-in-Ok-clause-config : goal.returns-in-Ok-clause-config
returns-in-Ok-clause-config g c is =
    absurd (heard_read c.in-Ok.config _ _ _ _ _ c.encode_heard.ensures.encodes is)

pub returns-in-Err-clause-encodes : goal.returns-in-Err-clause-encodes
returns-in-Err-clause-encodes g c =
    unread_encodes (g.F.Files.content c.args.files.now) _ _ _ _ _ _ c.in-Err.status (refl, refl)
    c.in-Err.ensures.unread (λ is. c.in-Err.ensures.count (ap Err is))
    (λ other. c.in-Err.ensures.same (λ is. other (cc)))
