-- Names of passes through a split.
use Rattle.std.proofs.Common.{◌≡◌, ◌≢◌, ◌⊎◌, ℕ, ◌+◌, ◌<◌, Bool, true, false, cond, List, []}
use Rattle.std.proofs.Common.{◌∷◌, ◌++◌, length, set, refl, sym, ap, subst, ◌∙◌, inl, ⊎_elim, arith, length-append}
use Rattle.std.specs.Prelude.{Contains}
use Rattle.std.proofs.lemmas.List.Elements.{Contains-append_left, Contains-append_cases}
use mathlib.Core.Option.{some}
use mathlib.Core.List.{IsPrefix}
use mathlib.Core.Logic.{dite}
use native.Mathlib.Decide.{ℕ_discrete}
use lib.ListN.{get_elem?}
use Rattle.book_gate.specs.Histories.{is_name}
use Rattle.book_gate.specs.Names.{Lineage, child_name, IsGivenOut, IsTrueLine, NamesAgree}
use Rattle.book_gate.proofs.ListLemmas.{prefix_push, each_set, each_end, pairs_set, pairs_end}
use Rattle.book_gate.proofs.ListLemmas.{contains_none, contains_one, contains_last}
use Rattle.book_gate.proofs.HistoryLemmas.{is_name-true}
use Rattle.book_gate.proofs.NameLemmas.{gives_one, still_given, gives_here, gives_else, parent_line, child_line}
use Rattle.book_gate.proofs.NameLemmas.{AreFar, next_is_new}

module _ (given : List ℕ → ℕ) (lines : List Lineage) (me : ℕ) (line : Lineage) (agree : NamesAgree given lines)
    (at : get_elem? lines me ≡ some line) (live : line.live ≡ true) where
  abbrev given_now : List ℕ → ℕ
  given_now = gives_one given line.name

  fits : IsTrueLine given line
  fits = agree.each me line at live

  new_is_new : IsGivenOut given (child_name line.name line.next) → ⊥
  new_is_new = next_is_new given line fits

  -- A name of another, or of one joined into it, is not this one's
  other_name : (j : ℕ) (other : Lineage) → j ≢ me → get_elem? lines j ≡ some other → other.live ≡ true
      → (parent : List ℕ) → (parent ≡ other.name) ⊎ Contains other.joined parent → parent ≢ line.name
  other_name j other else there alive parent is same =
      let apart = agree.pairs j me other line there at alive live in
      ⊎_elim (λ (own : parent ≡ other.name). else (apart.one (sym own ∙ same)))
      (λ (has : Contains other.joined parent). apart.gone (subst (Contains other.joined) same has)) is

  split_others : (j : ℕ) (other : Lineage) → j ≢ me → get_elem? lines j ≡ some other → other.live ≡ true
      → IsTrueLine given_now other
  split_others j other else there alive = let is = agree.each j other there alive in record {
    out = still_given given line.name other.name is.out;
    next = gives_else given line.name other.name (other_name j other else there alive other.name (inl refl)) ∙ is.next;
    split = λ parent k from below. is.split parent k from (let same =
        gives_else given line.name parent (other_name j other else there alive parent from) in omega arith);
    joined = λ name has. still_given given line.name name (is.joined name has);
    only = λ name has. let by = is.only name has in (by.0, by.1, by.2, (let below = by.3 in omega arith), by.4);
  }

  split_parent : IsTrueLine given_now (parent_line line)
  split_parent = record {
    out = still_given given line.name line.name fits.out;
    next = gives_here given line.name ∙ ap (λ (bound : ℕ). bound + 1) fits.next;
    split = λ parent k from below. by_name parent k from below (is_name parent line.name) refl;
    joined = λ name has. still_given given line.name name (fits.joined name has);
    only = λ name has. ⊎_elim (λ old. let by = fits.only name old in
        (by.0, by.1, by.2, (let below = by.3 in omega arith), by.4))
        (λ last. (
          line.name,
          line.next,
          sym (contains_one (child_name line.name line.next) name last),
          (let next = fits.next in let here = gives_here given line.name in omega arith),
          inl refl,
        ))
        (Contains-append_cases line.split (child_name line.name line.next ∷ []) name has);
  }
    where
      last_or : (parent : List ℕ) (k : ℕ) → parent ≡ line.name → k < given line.name + 1
          → Contains (line.split ++ child_name line.name line.next ∷ []) (child_name parent k)
      last_or parent k same below = dite (ℕ_discrete k line.next)
          (λ is. subst (Contains (line.split ++ child_name line.name line.next ∷ []))
          (λ i. child_name (sym same i) (sym is i)) (contains_last line.split (child_name line.name line.next)))
          (λ apart. Contains-append_left line.split (child_name line.name line.next ∷ []) (child_name parent k)
          (fits.split parent k (inl same) (let next = fits.next in let here = ap given same in
          omega (arith, apart))))

      by_name : (parent : List ℕ) (k : ℕ) → (parent ≡ line.name) ⊎ Contains line.joined parent
          → k < gives_one given line.name parent → (same : Bool) → is_name parent line.name ≡ same
          → Contains (line.split ++ child_name line.name line.next ∷ []) (child_name parent k)
      by_name parent k from below true is = last_or parent k (is_name-true parent line.name is)
          (let here = ap (gives_one given line.name) (is_name-true parent line.name is) in let one =
          gives_here given line.name in omega arith)
      by_name parent k from below false is = Contains-append_left line.split (child_name line.name line.next ∷ [])
          (child_name parent k) (fits.split parent k from (let none = ap (λ same. given parent + cond same 1 0) is in
          omega arith))

  child_longer : child_name line.name line.next ≢ line.name
  child_longer is = omega (arith, ap length is, length-append line.name (line.next ∷ []))

  split_child : IsTrueLine given_now (child_line line)
  split_child = record {
    out = λ parent k front. ⊎_elim (λ (old : IsPrefix (child_name parent k) line.name).
        still_given given line.name line.name fits.out parent k old)
        (λ (new : (parent ≡ line.name) × (k ≡ line.next)). let next = fits.next in let same = ap given_now new.0 in
        let here = gives_here given line.name in let last = new.1 in omega arith)
        (prefix_push parent line.name k line.next front);
    next = gives_else given line.name (child_name line.name line.next) child_longer
        ∙ agree.unused (child_name line.name line.next) new_is_new;
    split = λ parent k from below. ⊎_elim
        (λ (is : parent ≡ child_name line.name line.next).
        absurd (let same = ap given_now is in let else = gives_else given line.name (child_name line.name line.next)
        child_longer in let none = agree.unused (child_name line.name line.next) new_is_new in omega arith))
        (λ (has : Contains [] parent). absurd (contains_none parent has)) from;
    joined = λ name has. absurd (contains_none name has);
    only = λ name has. absurd (contains_none name has);
  }

  set_out : (j : ℕ) (other : Lineage) → get_elem? (set lines me (parent_line line)) j ≡ some other → other.live ≡ true
      → (IsGivenOut given other.name × ((name : List ℕ) → Contains other.joined name → IsGivenOut given name))
  set_out = each_set (λ _ (other : Lineage). other.live ≡ true
      → (IsGivenOut given other.name × ((name : List ℕ) → Contains other.joined name → IsGivenOut given name))) lines me
      (parent_line line) (λ _. (fits.out, fits.joined))
      (λ j other _ there alive. let is = agree.each j other there alive in (is.out, is.joined))

  pub names_split : NamesAgree given_now (set lines me (parent_line line) ++ child_line line ∷ [])
  names_split = record {
    each = each_end (λ _ (other : Lineage). other.live ≡ true → IsTrueLine given_now other)
        (set lines me (parent_line line)) (child_line line) (λ _. split_child)
        (each_set (λ _ (other : Lineage). other.live ≡ true → IsTrueLine given_now other) lines me (parent_line line)
        (λ _. split_parent) (λ j other else there alive. split_others j other else there alive));
    pairs = pairs_end AreFar (set lines me (parent_line line)) (child_line line)
        (λ _ _. record { one = λ _. refl; gone = λ has. contains_none _ has })
        (λ j other there. (
          (λ _ alive. record {
            one = λ is. absurd (new_is_new
                (subst (IsGivenOut given) (sym is) (set_out j other there alive).0));
            gone = λ has.
                contains_none _ has;
          }),
          (λ alive _. record {
            one = λ is. absurd (new_is_new
                (subst (IsGivenOut given) is (set_out j other there alive).0));
            gone = λ has.
                new_is_new ((set_out j other there alive).1 _ has);
          }),
        ))
        (pairs_set AreFar lines me (parent_line line) (λ _ _. let apart = agree.pairs me me line line at at live live in
        record { one = λ _. refl; gone = apart.gone })
        (λ j other else there. (
          (λ _ alive. let apart = agree.pairs me j line other at there live alive in
              record { one = apart.one; gone = apart.gone }),
          (λ alive _. let apart = agree.pairs j me other line there at alive live in
              record { one = apart.one; gone = apart.gone }),
        ))
        (λ i j first second _ _ there there'. agree.pairs i j first second there there'));
    unused = λ name not. gives_else given line.name name (λ is.
        not (subst (IsGivenOut given_now) (sym is) (still_given given line.name line.name fits.out)))
        ∙ agree.unused name (λ out. not (still_given given line.name name out));
  }
