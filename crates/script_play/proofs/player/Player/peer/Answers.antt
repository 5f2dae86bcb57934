use Rattle.std.proofs.Common.{refl}
use Rattle.book_history.specs.Entries.Entry.{PeerAsked}
use Rattle.script_grammar.specs.Events.{Peer}
use Rattle.script_play.proofs.AskedLemmas.{puts_asked, stands_told}
use Rattle.script_play.proofs.player.Player.peer.Goals as goal

pub returns : goal.returns
returns c =
    let given = c.peer-given.result in
    puts_asked c.args.self.now _ (Peer c.args.n) (PeerAsked c.args.n given) c.put_peer.result c.clear.new.self.items
    c.clear.ensures.items
    (λ content cfg H is known. (given, refl))
    (stands_told c.args.self.now _ c.args.n given c.requires (λ cfg H is. (c.peer-given.ensures cfg H is).1)
    c.keep.ensures refl)
    c.put_peer.ensures
