use Rattle.std.proofs.Common.{◌++◌, ◌∷◌, [], ◌∙◌, ap, codes, decimal, append_assoc}
use Rattle.exa_top.proofs.parsing.put_bad_token.Goals as goal

pub returns : goal.returns
returns c =
    c.in_ok-put-2.ensures
    ∙ ap (λ text. text ++ 10 ∷ [])
    (c.in_ok-put_number.ensures ∙ ap (λ text. text ++ decimal c.args.place) c.in_ok-put.ensures)
    ∙ append_assoc (c.args.text.now.items ++ codes "error token ") (decimal c.args.place) (10 ∷ [])
    ∙ append_assoc c.args.text.now.items (codes "error token ") (decimal c.args.place ++ 10 ∷ [])
