use Rattle.std.proofs.Common.{refl}
use Rattle.book_history.specs.Entries.Entry.{SpawnAsked}
use Rattle.script_grammar.specs.Events.{Spawn}
use Rattle.script_play.proofs.AskedLemmas.{puts_asked, stands_behind}
use Rattle.script_play.proofs.player.Player.spawn.Goals as goal

pub returns : goal.returns
returns c =
    let entry = SpawnAsked c.args.h c.args.now c.spawn-given.result in
    puts_asked c.args.self.now _ (Spawn c.args.h c.args.now) entry c.put_spawn.result c.clear.new.self.items
    c.clear.ensures.items
    (λ content cfg H is known. (c.spawn-given.result, refl))
    (stands_behind c.args.self.now _ entry (λ n H. refl) (λ cfg H is. (c.spawn-given.ensures cfg H is).1) refl refl)
    c.put_spawn.ensures
