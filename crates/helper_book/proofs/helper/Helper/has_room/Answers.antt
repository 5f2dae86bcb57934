use Rattle.std.proofs.Common.{◌-◌, sym, subst, ap, length}
use Rattle.helper_book.specs.Seen.{Seen}
use Rattle.helper_book.specs.Stands.{Stands}
use Rattle.helper_book.proofs.LineLemmas.{room_for, room_is}
use Rattle.helper_book.proofs.helper.Helper.has_room.Goals as goal

pub returns-clause-busy : goal.returns-clause-busy
returns-clause-busy c = λ cfg H h inc is runs few asked.
    let parts : Seen = record {
      slot = c.self.inside.slot;
      process = c.self.inside.process;
      acks = c.self.inside.acks;
    } in
    let here : Stands cfg H h parts = subst (λ s. Stands cfg H h s) (sym c.self.view_is) is in
    room_is cfg H h inc c.args.command.now parts c.args.routes.now c.is_within.result
    (room_for (length parts.slot.replies) parts.acks c.args.command.now c.args.routes.now c.is_within.result
    c.replied-own.result (1024 - c.queued.result) c.is_within.ensures c.replied-own.ensures
    (ap (λ n. 1024 - n) c.queued.ensures.value) c.queued.ensures.small) here runs few asked
