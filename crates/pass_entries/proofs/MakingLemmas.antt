-- A pass that makes entries.
use Rattle.std.proofs.Common.{ℕ, List, [], ◌∷◌, ◌++◌, refl, ap, sym, subst, ◌∙◌, append_assoc, append-nil}
use Rattle.std.specs.Prelude.{Contains}
use Rattle.std.proofs.lemmas.List.{map-append}
use Rattle.book_gate.specs.Calls.{IsLater}
use Rattle.book_gate.specs.Histories.{entries, entries_by, signed}
use Rattle.book_gate.specs.Known.{Known}
use Rattle.book_gate.specs.declared.view.Signed.{Signed}
use Rattle.pass_entries.specs.Making.{MakesLearned, MakesMore, MakesNone, MakesOne, own}

module _ {A E : Type 0} where
  -- a pass that is the same later is the same later still
  later_again : (pass between later : Known A E) → IsLater pass between → IsLater between later → IsLater pass later
  later_again pass between later first second =
      second ∙ ap (λ (known : Known A E). record known { seen = later.seen }) first

  pub makes_none : MakesNone A E
  makes_none pass =
      record {
        same = refl;
        front = ([], append-nil pass.seen);
        own = sym (append-nil (own pass));
        joined = λ name is. refl;
      }

  pub makes_one : (law : A → List E → E → Type 0) → MakesOne law
  makes_one law pass later entry entered =
      record {
        same = entered.rest;
        front = (
          entered.between ++ signed pass.name entry ∷ [],
          sym (append_assoc pass.seen entered.between (signed pass.name entry ∷ [])) ∙ sym entered.seen,
        );
        own =
            ap (λ (name : List ℕ). entries (entries_by name later.seen))
            (ap (λ (known : Known A E). known.name) entered.rest)
            ∙ (ap entries entered.mine
            ∙ map-append (λ (made : Signed E). made.entry) (entries_by pass.name pass.seen)
            (signed pass.name entry ∷ []));
        joined = entered.joined;
      }

  pub makes_learned : (law : A → List E → E → Type 0) → MakesLearned law
  makes_learned law pass later glimpse learned =
      record {
        same =
            learned.becomes
            ∙ ap (λ seen. record pass { seen = seen }) (sym (ap (λ (known : Known A E). known.seen) learned.becomes));
        front = learned.own.front;
        own =
            ap (λ (name : List ℕ). entries (entries_by name later.seen))
            (ap (λ (known : Known A E). known.name) learned.becomes)
            ∙ (ap entries learned.own.mine ∙ sym (append-nil (own pass)));
        joined = learned.own.joined;
      }

  pub makes_more : MakesMore A E
  makes_more pass between later first second one other =
      record {
        same = later_again pass between later one.same other.same;
        front = (
          one.front.0 ++ other.front.0,
          sym (append_assoc pass.seen one.front.0 other.front.0)
              ∙ (ap (λ seen. seen ++ other.front.0) one.front.1 ∙ other.front.1),
        );
        own = other.own ∙ (ap (λ made. made ++ second) one.own ∙ append_assoc (own pass) first second);
        joined = λ name is.
            other.joined name
            (subst (λ (joined : List (List ℕ)). Contains joined name)
            (sym (ap (λ (known : Known A E). known.joined) one.same)) is)
            ∙ one.joined name is;
      }
