use Rattle.std.proofs.Common.{Err, ap, refl}
use Rattle.exa_top.proofs.PlayedLemmas.{played_over, unplayed}
use Rattle.exa_top.proofs.playing.play_over.Goals as goal

pub returns-in-Ok-clause-plays : goal.returns-in-Ok-clause-plays
returns-in-Ok-clause-plays g c =
    played_over (g.F.Files.content c.args.files.now) _ _ _ _ _ _ _ _ _ _ c.in-Ok.config _ (refl, refl)
    c.in-Ok.ensures.config c.in-Ok.ensures.content (c.in-Ok.ensures.same (λ is. absurd (cc))) c.play.ensures.plays

pub returns-in-Err-clause-plays : goal.returns-in-Err-clause-plays
returns-in-Err-clause-plays g c =
    unplayed (g.F.Files.content c.args.files.now) _ _ _ _ _ _ c.in-Err.status (refl, refl) c.in-Err.ensures.unread
    (λ is. c.in-Err.ensures.count (ap Err is)) (λ other. c.in-Err.ensures.same (λ is. other (cc)))
