use Rattle.std.proofs.Common.{Err, Some, subst}
use Rattle.route_grammar.specs.Answered.{Answers}
use Rattle.route_grammar.specs.declared.fault.ReadFault.{ReadFault}
use Rattle.route_grammar.specs.Items.{ReadsItems, items_further}
use Rattle.route_grammar.specs.Limits.{in_force}
use Rattle.config_reader.proofs.StaticLemmas.{items_refused}
use Rattle.config_reader.proofs.statics.items_at.Goals as goal

pub returns-in-Err-Line-clause-read : goal.returns-in-Err-Line-clause-read
returns-in-Err-Line-clause-read c =
    items_refused c.args.family c.args.words.now.end c.read_items.new.words.end c.args.words.now.left
    c.read_items.new.words.left c.read_items.new.words.left c.in-Err-Line.line c.kind_of.result c.fault.result
    c.kind_of.ensures c.fault.ensures c.read_items.ensures.end
    (subst (λ (fault : ReadFault). Answers (ReadsItems (Some c.args.family)) items_further in_force
    c.args.words.now.left c.read_items.new.words.left c.read_items.new.words.end (Err fault))
    c.in-Err-Line.field-0-is c.in-Err-Line.ensures.answers)
