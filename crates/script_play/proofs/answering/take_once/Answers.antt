use Rattle.std.proofs.Common.{◌∷◌, refl}
use Rattle.book_history.specs.Entries.Entry.{RepliesTaken}
use Rattle.script_play.proofs.AskedLemmas.{stands_behind}
use Rattle.script_play.proofs.RunLemmas.{took_once}
use Rattle.script_play.proofs.answering.take_once.Goals as goal

pub returns : goal.returns
returns g c = λ cfg H stands.
    let given = c.take-given.result in
    took_once given c.is_full-full.result cfg H _ _ _ c.is_full-full.ensures
    (c.write_replies.ensures.stands cfg (RepliesTaken 0 1 given ∷ H)
    (stands_behind c.args.player.now _ (RepliesTaken 0 1 given) (λ n H. refl)
    (λ cfg H is. (c.take-given.ensures cfg H is).1) refl refl cfg H stands))
    c.in_ok-write_replies.ensures.writes
