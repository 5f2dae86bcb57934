use Rattle.std.proofs.Common.{◌∷◌, ◌++◌, [], ◌∙◌, sym, subst, ap}
use Rattle.ack_queue.specs.declared.reply.Reply.{Reply}
use Rattle.helper_core.specs.Lending.{with_replies}
use Rattle.book_history.specs.Replies.{refusal, reply_if}
use Rattle.helper_book.specs.Seen.{Seen}
use Rattle.helper_book.specs.Stands.{Stands}
use Rattle.helper_book.proofs.LineLemmas.{refused_at}
use Rattle.helper_book.proofs.helper.Helper.refuse.Goals as goal

pub returns : goal.returns
returns c = λ cfg H h inc line reading is runs.
    let parts : Seen = record {
      slot = c.self.inside.slot;
      process = c.self.inside.process;
      acks = c.self.inside.acks;
    } in
    let here : Stands cfg H h parts = subst (λ s. Stands cfg H h s) (sym c.self.view_is) is in
    refused_at cfg H h inc line reading c.args.why parts c.put.new.slot
    (c.put.ensures
    ∙ ap (λ (given : Reply). with_replies parts.slot (parts.slot.replies ++ given ∷ [])) c.refusal.ensures
    ∙ sym (ap (λ on. with_replies parts.slot (parts.slot.replies ++ reply_if on (refusal c.args.why)))
    c.if-not-self.false)) here runs
