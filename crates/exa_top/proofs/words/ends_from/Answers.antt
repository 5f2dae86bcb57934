use Rattle.std.proofs.Common.{sym, subst, List, ℕ, ◌∙◌}
use Rattle.text_forms.specs.Addresses.{IsIpv4}
use Rattle.text_forms.specs.Numbers.{IsAsn}
use Rattle.exa_top.proofs.WordLemmas.{local_as_is, peer_as_is, local_is}
use Rattle.exa_top.proofs.words.ends_from.Goals as goal

pub returns-in_err-local_as-clause-none : goal.returns-in_err-local_as-clause-none
returns-in_err-local_as-clause-none c =
    rw c.from_residual.ensures (λ ends is.
    let spells : List ℕ → Type 0 = λ text. IsAsn text ends.local_as in
    let same = c.as_bytes.ensures.value ∙ local_as_is _ _ _ _ _ _ is.words_are in
    c.in_err-local_as.ensures.none ends.local_as (subst spells (sym same) is.local_as_is))

pub returns-in_err-peer_as-clause-none : goal.returns-in_err-peer_as-clause-none
returns-in_err-peer_as-clause-none c =
    rw c.from_residual-in_err-peer_as.ensures (λ ends is.
    let spells : List ℕ → Type 0 = λ text. IsAsn text ends.peer_as in
    let same = c.as_bytes-2.ensures.value ∙ peer_as_is _ _ _ _ _ _ is.words_are in
    c.in_err-peer_as.ensures.none ends.peer_as (subst spells (sym same) is.peer_as_is))

pub returns-in_err-local-clause-none : goal.returns-in_err-local-clause-none
returns-in_err-local-clause-none c =
    rw c.from_residual-in_err-local.ensures (λ ends is.
    let spells : List ℕ → Type 0 = λ text. IsIpv4 text ends.local in
    let same = c.as_bytes-3.ensures.value ∙ local_is _ _ _ _ _ _ is.words_are in
    c.in_err-local.ensures.none ends.local (subst spells (sym same) is.local_is))
