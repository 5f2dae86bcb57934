use Rattle.std.proofs.Common.{codes, ◌∙◌, subst}
use Rattle.text_forms.specs.Printed.{prefix_text}
use Rattle.text_printer.specs.Items.{named}
use Rattle.text_printer.specs.Printing.{id_tokens}
use Rattle.text_printer.specs.Spaced.{GoesOn}
use Rattle.text_printer.proofs.SpacedLemmas.{goes_then}
use Rattle.text_printer.proofs.printing.attributes.put_key.Goals as goal

pub returns : goal.returns
returns c =
    let key = c.args.key.now in
    goes_then (named (codes "route") (prefix_text key.prefix)) (id_tokens key.id) _ _ _
    (subst (λ operand. GoesOn (named (codes "route") operand) c.args.text.now.items c.put_named.new.text.items)
    (c.deref.ensures.0 ∙ c.prefix_word.ensures) c.in_ok-put_named.ensures)
    c.in_ok-put_id.ensures
