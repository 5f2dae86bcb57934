use Rattle.std.proofs.Common.{[], refl}
use Rattle.book_history.specs.Entries.Entry.{SpawnAsked}
use Rattle.script_play.proofs.AskedLemmas.{stands_behind}
use Rattle.script_play.proofs.encoding.spawn.Goals as goal

pub returns-in-Stopping : goal.returns-in-Stopping
returns-in-Stopping c = λ cfg stands.
    let given = c.spawn.result in (
      given,
      stands_behind c.args.player.now _ (SpawnAsked 0 0 given) (λ n H. refl)
          (λ cfg H is. (c.spawn.ensures cfg H is).1) refl refl cfg [] stands,
    )

pub returns-in-Go : goal.returns-in-Go
returns-in-Go c = λ cfg stands.
    let given = c.spawn.result in (
      given,
      stands_behind c.args.player.now _ (SpawnAsked 0 0 given) (λ n H. refl)
          (λ cfg H is. (c.spawn.ensures cfg H is).1) refl refl cfg [] stands,
    )
