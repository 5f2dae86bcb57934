use Rattle.std.proofs.Common.{List, ◌++◌, codes, ◌∙◌, subst}
use Rattle.text_forms.specs.Printed.{addr_text}
use Rattle.token_reader.specs.Tokens.{Token}
use Rattle.text_printer.specs.Items.{named, origin_text, path_tokens}
use Rattle.text_printer.specs.Printing.{single_tokens, list_tokens}
use Rattle.text_printer.specs.Spaced.{GoesOn}
use Rattle.text_printer.proofs.SpacedLemmas.{goes_then}
use Rattle.text_printer.proofs.printing.attributes.put_attrs.Goals as goal

pub returns : goal.returns
returns c =
    let sent = c.args.sent.now in
    let hop : List Token = named (codes "next-hop") (addr_text sent.hop) in
    let origin : List Token = named (codes "origin") (origin_text sent.origin) in
    let path : List Token = path_tokens sent.path in
    goes_then (hop ++ origin ++ path ++ single_tokens sent) (list_tokens sent) _ _ _
    (goes_then (hop ++ origin ++ path) (single_tokens sent) _ _ _
    (goes_then (hop ++ origin) path _ _ _
    (goes_then hop origin _ _ _
    (subst (λ operand. GoesOn (named (codes "next-hop") operand) c.args.text.now.items c.put_named.new.text.items)
    (c.deref.ensures.0 ∙ c.addr_word.ensures) c.in_ok-put_named.ensures)
    (subst (λ operand. GoesOn (named (codes "origin") operand) c.put_named.new.text.items c.put_named-2.new.text.items)
    c.origin_word.ensures c.in_ok-put_named-2.ensures))
    c.in_ok-put_path.ensures) c.in_ok-put_singles.ensures) c.in_ok-put_lists.ensures
