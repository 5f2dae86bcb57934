use Rattle.script_play.proofs.LoadingLemmas.{message_cut, message_uncounted}
use Rattle.script_play.proofs.loading.cut.Goals as goal

pub returns-in_err-message-in-Message : goal.returns-in_err-message-in-Message
returns-in_err-message-in-Message c = λ cfg H counted.
    message_uncounted cfg H c.bytes.result.now c.cut.new.self.bytes c.cut.result c.in-Message.last c.cut.new.book
    c.message.new.self c.from_residual.result c.from_residual.ensures.0 c.in-Message.is c.bytes.ensures
    (c.cut.ensures.stands cfg H counted.stands)

pub returns-in_ok-message-in-Message : goal.returns-in_ok-message-in-Message
returns-in_ok-message-in-Message c = λ cfg H counted.
    message_cut cfg H c.bytes.result.now c.cut.new.self.bytes c.cut.result c.in-Message.last c.cut.new.book
    c.message.new.self c.in-Message.is c.bytes.ensures (c.cut.ensures.stands cfg H counted.stands)
    (c.in_ok-message-in-Message.ensures H 0 c.in-Message.last counted.counts)
