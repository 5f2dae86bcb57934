-- Names of passes: what is given out, and views that are no pass.
use Rattle.std.proofs.Common.{◌≡◌, ◌≢◌, ℕ, ◌+◌, ◌≤◌, true, false, true≢false, cond, List, []}
use Rattle.std.proofs.Common.{◌∷◌, ◌++◌, set, sym, ap, ◌∙◌, arith}
use Rattle.book_gate.specs.Histories.{is_name}
use Rattle.book_gate.specs.Names.{Lineage, child_name, IsGivenOut, IsTrueLine, AreApart, NamesAgree}
use Rattle.book_gate.proofs.ListLemmas.{prefix_self, each_set, each_end, pairs_set, pairs_end}
use Rattle.book_gate.proofs.HistoryLemmas.{is_name-self, is_name-apart}

-- The numbers of names given out, after one more of this name
abbrev pub gives_one : (List ℕ → ℕ) → List ℕ → List ℕ → ℕ
gives_one given name parent = given parent + cond (is_name parent name) 1 0

module _ (given : List ℕ → ℕ) (name : List ℕ) where
  pub still_given : (other : List ℕ) → IsGivenOut given other → IsGivenOut (gives_one given name) other
  still_given other out parent k front = let below = out parent k front in
      let more : given parent ≤ gives_one given name parent = omega arith in omega arith

  pub gives_here : gives_one given name name ≡ given name + 1
  gives_here = ap (λ same. given name + cond same 1 0) (is_name-self name)

  pub gives_else : (parent : List ℕ) → parent ≢ name → gives_one given name parent ≡ given parent
  gives_else parent apart = ap (λ same. given parent + cond same 1 0) (is_name-apart parent name apart) ∙ omega arith

-- What a pass says of names after it gave one out, and what the pass with that name says
abbrev pub parent_line : Lineage → Lineage
parent_line line = record line { next = line.next + 1; split = line.split ++ child_name line.name line.next ∷ [] }

abbrev pub child_line : Lineage → Lineage
child_line line = record { live = line.live; name = child_name line.name line.next; next = 0; split = []; joined = [] }

-- What a pass says after another was joined into it
abbrev pub joined_line : Lineage → Lineage → Lineage
joined_line line other = record line {
  split = line.split ++ other.split;
  joined =
      (line.joined ++ other.joined) ++ other.name ∷ [];
}

-- What a view says that is no pass
abbrev pub no_line : Lineage
no_line = record { live = false; name = []; next = 0; split = []; joined = [] }

-- Two views are apart where both are passes
abbrev pub AreFar : ℕ → ℕ → Lineage → Lineage → Type 0
AreFar i j line other = line.live ≡ true → other.live ≡ true → AreApart i j line other

-- The next name is not given out
pub next_is_new : (given : List ℕ → ℕ) (line : Lineage) → IsTrueLine given line
    → IsGivenOut given (child_name line.name line.next) → ⊥
next_is_new given line fits out = let below = out line.name line.next (prefix_self (child_name line.name line.next)) in
    let next = fits.next in omega arith

module _ (given : List ℕ → ℕ) (lines : List Lineage) (agree : NamesAgree given lines) where
  -- A view that becomes no pass
  pub names_drop : (i : ℕ) → NamesAgree given (set lines i no_line)
  names_drop i = record {
    each = each_set (λ _ (line : Lineage). line.live ≡ true → IsTrueLine given line) lines i no_line
        (λ dead. absurd (true≢false (sym dead))) (λ j line _ there live. agree.each j line there live);
    pairs = pairs_set AreFar lines i no_line (λ dead. absurd (true≢false (sym dead)))
        (λ j line _ _. ((λ dead. absurd (true≢false (sym dead))), (λ _ dead. absurd (true≢false (sym dead)))))
        (λ j k line other _ _ there there'. agree.pairs j k line other there there');
    unused = agree.unused;
  }

  -- A new view that is no pass
  pub names_more : (new : Lineage) → new.live ≡ false → NamesAgree given (lines ++ new ∷ [])
  names_more new dead = record {
    each = each_end (λ _ (line : Lineage). line.live ≡ true → IsTrueLine given line) lines new
        (λ live. absurd (true≢false (sym live ∙ dead))) (λ j line there live. agree.each j line there live);
    pairs = pairs_end AreFar lines new (λ live. absurd (true≢false (sym live ∙ dead)))
        (λ j line _. (
          (λ live. absurd (true≢false (sym live ∙ dead))),
          (λ _ live. absurd (true≢false (sym live ∙ dead))),
        ))
        (λ j k line other there there'. agree.pairs j k line other there there');
    unused = agree.unused;
  }
