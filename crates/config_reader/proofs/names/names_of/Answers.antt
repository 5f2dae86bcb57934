use Rattle.config_reader.proofs.NameLemmas.{names_more}
use Rattle.config_reader.proofs.names.names_of.Goals as goal

pub heard-preserved : goal.heard-preserved
heard-preserved c =
    names_more c.args.heard.now c.heard.one-index c.one-item.result c.heard.known.keys c.insert.new.self.keys
    c.copy.result c.heard-test.true c.one-item.is c.heard.invariant c.copy.ensures c.in_ok-insert.ensures.keys
