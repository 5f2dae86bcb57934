use Rattle.std.proofs.Common.{[], refl}
use Rattle.batch_cutter.specs.Heads.{head_told}
use Rattle.batch_cutter.proofs.SizeLemmas.{bare_fits}
use Rattle.batch_cutter.proofs.packer.Packer.begin.Goals as goal

pub returns-clause-holds : goal.returns-clause-holds
returns-clause-holds c = record {
  kind = c.kind_of.ensures;
  filled = refl;
  text = c.open.ensures.text c.args.caps;
  fits = bare_fits c.args.caps (head_told c.args.head) c.requires.begun;
  room = rw c.open.ensures.room c.requires.room;
  begun = c.requires.begun;
}

pub returns-clause-open : goal.returns-clause-open
returns-clause-open c = record {
  head = head_told c.args.head;
  keys = [];
  holds = returns-clause-holds c;
}
