use Rattle.std.proofs.Common.{refl}
use Rattle.script_play.proofs.CountingLemmas.{message_counted}
use Rattle.script_play.proofs.counting.Tally.message.Goals as goal

pub returns : goal.returns
returns c =
    message_counted c.args.bytes.now _ c.args.self.now _ c.count_said.new.self c.count_said.result c.in_ok-said.ensures
    c.in_ok-self.ensures c.in_ok-self-2.ensures refl refl refl refl refl refl c.count_said.ensures
