-- Texts of keys.
use Rattle.std.proofs.Common.{ℕ, ◌≡◌, ◌<◌, cond, List, [], ◌++◌, codes, decimal, ap, sym, ◌∙◌, arith, append_assoc}
use Rattle.std.proofs.Common.{ne_eqb}
use Rattle.ack_queue.specs.Texts.{id_text}

-- a prefix is put, and then an identifier that isn't 0
pub id_put : (id : ℕ) (old prefix : List ℕ) → 0 < id
    → old ++ prefix ++ codes " path-information " ++ decimal id ≡ old ++ (prefix ++ id_text id)
id_put id old prefix some =
    append_assoc (old ++ prefix) (codes " path-information ") (decimal id)
    ∙ append_assoc old prefix (codes " path-information " ++ decimal id)
    ∙ ap (λ (text : List ℕ). old ++ (prefix ++ text))
    (sym (ap (λ t. cond t [] (codes " path-information " ++ decimal id)) (ne_eqb id 0 (λ none. omega arith))))
