use Rattle.std.proofs.Common.{ℕ, List, ◌++◌, decimal, codes, ap, ◌∙◌, arith}
use Rattle.text_forms.specs.Printed.{prefix_text}
use Rattle.ack_queue.proofs.TextLemmas.{id_put}
use Rattle.ack_queue.proofs.printing.put_key.Goals as goal

pub returns-then-key-ne-NO_ID-clause-text : goal.returns-then-key-ne-NO_ID-clause-text
returns-then-key-ne-NO_ID-clause-text c =
    c.put_u32.ensures.text
    ∙ ap (λ (out : List ℕ). out ++ decimal c.args.key.now.id) (c.put.ensures.text
    ∙ ap (λ (out : List ℕ). out ++ codes " path-information ") c.put_prefix.ensures.text)
    ∙ id_put c.args.key.now.id c.args.out.now.items (prefix_text c.args.key.now.prefix) (omega arith)
