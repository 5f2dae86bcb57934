use Rattle.std.proofs.Common.{List, ℕ, ◌∷◌, ◌∙◌, map, subst, sym, codes, ap}
use Rattle.std.proofs.lemmas.Bool.{eqb-true}
use Rattle.std.specs.Option.{IfNone}
use Rattle.exa_top.specs.declared.words.Ends.{Ends}
use Rattle.exa_top.specs.Words.{IsEncode}
use Rattle.exa_top.proofs.WordLemmas.{three_words}
use Rattle.exa_top.proofs.words.ends_of.Goals as goal

pub returns-clause-none : goal.returns-clause-none
returns-clause-none c =
    let none_reads : List (List ℕ) → Type 0 = λ words. IfNone c.ends_from.result
    ((ends : Ends) → IsEncode words ends → ⊥) in
    let words = three_words _ _ _ _ _ _ _ c.in_ok-local_as.ensures.cases.0 c.in_ok-peer_as.ensures.cases.0
    c.in_ok-local.ensures.cases.0
    (eqb-true _ 0 (sym c.is_empty.ensures ∙ c.if-not-is_empty.false)) in
    subst none_reads (sym (ap (λ ws. codes "encode" ∷ map (λ w. w.now) ws) words)) c.ends_from.ensures.none
