-- One helper after the other of a replier.
use Rattle.std.proofs.Common.{ℕ, ◌≡◌, ◌<◌, List, [], ◌∷◌, ◌++◌, inl, inr, refl, sym, subst, ◌∙◌}
use Rattle.std.proofs.Common.{append-nil, arith}
use Rattle.std.specs.List.{All, flat_map}
use Rattle.std.proofs.lemmas.List.Concat.{flat_map-append}
use Rattle.std.proofs.lemmas.List.Elements.{All-append, All-cons, All-nil}
use Rattle.book_history.specs.Entries.{Entry}
use Rattle.book_history.specs.Entries.Entry.{HelperDeaf, Stopped}
use Rattle.book_gate.specs.Known.{Known}
use Rattle.pass_entries.specs.Making.{Makes, own}
use Rattle.pass_entries.proofs.MakingLemmas.{makes_more, makes_none}
use Rattle.helper_worker.specs.Handing.{deaf_for, replies_for, text_for}
use Rattle.helper_worker.specs.Replies.{IsReplyOf}
use Rattle.helper_worker.specs.Serving.{CallsOff, IsFreshBehind, IsFreshFor, IsServed, Refuses, Rises, Served, Serves}
use Rattle.helper_worker.specs.Serving.{ServesOne, entries_in}
use Rattle.helper_worker.proofs.HandingLemmas.{any_none, deaf_more, deaf_other, flat_none, replies_more}
use Rattle.helper_worker.proofs.HandingLemmas.{replies_other, text_more}
use Rattle.helper_worker.proofs.HandingLemmas.{text_other}

rises_both : (last mid now : ℕ) (front back : List Served) → Rises last front mid → Rises mid back now
    → Rises last (front ++ back) now
rises_both last mid now [] back one other = subst (λ (from : ℕ). Rises from back now) one other
rises_both last mid now (served ∷ front) back one other =
    (one.0, rises_both served.inc mid now front back one.1 other)

pub fresh_none : (last : ℕ) (made : List Entry) → made ≡ [] → IsFreshBehind last made
fresh_none last made is inc below =
    subst (λ (made : List Entry). IsFreshFor inc made) (sym is) (refl, refl, refl)

module _ {A : Type 0} where
  -- behind the entries of an incarnation nothing was taken for a later one
  fresh_behind : (pass later : Known A Entry) (h last inc : ℕ) (made : List Entry) → IsFreshBehind last (own pass)
      → last < inc → All (IsReplyOf h inc) made → Makes pass made later → IsFreshBehind inc (own later)
  fresh_behind pass later h last inc made fresh above only makes other below = (
    text_more other (own pass) made (own later) makes.own (fresh other (omega (arith, above, below)))
        ∙ flat_none (IsReplyOf h inc) (text_for other) (text_other h inc other below) made only,
    deaf_more other (own pass) made (own later) makes.own (fresh other (omega (arith, above, below)))
        ∙ any_none (IsReplyOf h inc) (deaf_for other) (deaf_other h inc other below) made only,
    replies_more other (own pass) made (own later) makes.own (fresh other (omega (arith, above, below)))
        ∙ any_none (IsReplyOf h inc) (replies_for other) (replies_other h inc other below) made only,
  )

  fresh_same : (pass later : Known A Entry) (last : ℕ) → IsFreshBehind last (own pass) → Makes pass [] later
      → IsFreshBehind last (own later)
  fresh_same pass later last fresh makes =
      subst (λ (made : List Entry). IsFreshBehind last made) (sym (makes.own ∙ append-nil (own pass))) fresh

  pub serves_none : (pass : Known A Entry) (h last : ℕ) → Serves h last last pass pass
  serves_none pass h last =
      record { rounds = []; makes = makes_none pass; good = All-nil (IsServed h); rises = refl }

  pub serves_both : (pass between later : Known A Entry) (h last mid last' : ℕ) → Serves h last mid pass between
      → Serves h mid last' between later → Serves h last last' pass later
  serves_both pass between later h last mid last' one other =
      record {
        rounds = one.rounds ++ other.rounds;
        makes =
            subst (λ (made : List Entry). Makes pass made later)
            (sym (flat_map-append entries_in one.rounds other.rounds))
            (makes_more pass between later (flat_map entries_in one.rounds) (flat_map entries_in other.rounds)
            one.makes other.makes);
        good = All-append (IsServed h) one.rounds other.rounds one.good other.good;
        rises = rises_both last mid last' one.rounds other.rounds one.rises other.rises;
      }

  pub serves_served : (pass later : Known A Entry) (h last inc : ℕ) → last < inc → ServesOne h inc pass later
      → Serves h last inc pass later
  serves_served pass later h last inc above one =
      record {
        rounds = one.served ∷ [];
        makes =
            subst (λ (made : List Entry). Makes pass made later) (sym (append-nil one.served.entries)) one.makes;
        good = All-cons (IsServed h) one.served [] one.good (All-nil (IsServed h));
        rises = (subst (λ (inc : ℕ). last < inc) (sym one.inc_is) above, sym one.inc_is);
      }

  pub fresh_served : (pass later : Known A Entry) (h last inc : ℕ) → IsFreshBehind last (own pass) → last < inc
      → ServesOne h inc pass later → IsFreshBehind inc (own later)
  fresh_served pass later h last inc fresh above one =
      subst (λ (inc : ℕ). IsFreshBehind inc (own later)) one.inc_is
      (fresh_behind pass later h last one.served.inc one.served.entries fresh
      (subst (λ (inc : ℕ). last < inc) (sym one.inc_is) above) one.good.run.only one.makes)

  pub fresh_deaf : (pass later : Known A Entry) (h last inc : ℕ) → IsFreshBehind last (own pass) → last < inc
      → Makes pass (HelperDeaf h inc ∷ []) later → IsFreshBehind inc (own later)
  fresh_deaf pass later h last inc fresh above makes =
      fresh_behind pass later h last inc (HelperDeaf h inc ∷ []) fresh above
      (All-cons (IsReplyOf h inc) (HelperDeaf h inc) [] (inr refl) (All-nil (IsReplyOf h inc))) makes

  pub fresh_stopped : (pass later : Known A Entry) (last : ℕ) → IsFreshBehind last (own pass)
      → Makes pass (Stopped ∷ []) later → IsFreshBehind last (own later)
  fresh_stopped pass later last fresh makes inc below = (
    text_more inc (own pass) (Stopped ∷ []) (own later) makes.own (fresh inc below),
    deaf_more inc (own pass) (Stopped ∷ []) (own later) makes.own (fresh inc below),
    replies_more inc (own pass) (Stopped ∷ []) (own later) makes.own (fresh inc below),
  )

  pub calls_off : (pass between later : Known A Entry) (h last last' : ℕ) → Makes pass (Stopped ∷ []) between
      → Refuses h last last' between later → CallsOff h last last' pass later
  calls_off pass between later h last last' stops (inl none) =
      inl (makes_more pass between later (Stopped ∷ []) [] stops none.0, none.1)
  calls_off pass between later h last last' stops (inr one) =
      inr (makes_more pass between later (Stopped ∷ []) (HelperDeaf h last' ∷ []) stops one.0, one.1)
