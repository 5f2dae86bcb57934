use Rattle.std.proofs.Common.{refl}
use Rattle.book_history.specs.Entries.Entry.{CameUp}
use Rattle.script_grammar.specs.Events.{Up}
use Rattle.script_play.proofs.AskedLemmas.{puts_asked, stands_behind}
use Rattle.script_play.proofs.KnownLemmas.{was_told}
use Rattle.script_play.proofs.player.Player.up.Goals as goal

pub returns : goal.returns
returns c =
    let settings = c.in-Some.settings in
    let entry = CameUp c.args.n settings c.args.caps c.up-given.result in
    puts_asked c.args.self.now _ (Up c.args.n c.args.caps) entry c.put_up.result c.clear.new.self.items
    c.clear.ensures.items
    (λ content cfg H is known. (
      settings,
      was_told H c.args.self.now.known c.args.n settings c.requires is.known c.in-Some.is,
      c.up-given.result,
      refl,
    ))
    (stands_behind c.args.self.now _ entry (λ n H. refl) (λ cfg H is. (c.up-given.ensures cfg H is).1) refl refl)
    c.put_up.ensures
