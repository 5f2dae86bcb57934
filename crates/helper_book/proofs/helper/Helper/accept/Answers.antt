use Rattle.std.proofs.Common.{sym, subst}
use Rattle.helper_book.specs.Seen.{Seen}
use Rattle.helper_book.specs.Stands.{Stands}
use Rattle.helper_book.proofs.LineLemmas.{done_at}
use Rattle.helper_book.proofs.helper.Helper.accept.Goals as goal

pub returns : goal.returns
returns c = λ cfg H h inc line is runs asked.
    let parts : Seen = record {
      slot = c.self.inside.slot;
      process = c.self.inside.process;
      acks = c.self.inside.acks;
    } in
    let here : Stands cfg H h parts = subst (λ s. Stands cfg H h s) (sym c.self.view_is) is in
    done_at cfg H h inc line c.args.command.now parts c.args.routes.now c.tell.new.slot c.replied.result
    c.acks_after-self-inside.result c.tell.ensures c.replied.ensures c.acks_after-self-inside.ensures here runs asked
