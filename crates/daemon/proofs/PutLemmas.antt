-- The first of jobs that goes back into a stock, by its kind.
use Rattle.std.proofs.Common.{ℕ, ◌≡◌, List, [], ◌∷◌, ◌++◌, ap, sym, subst, ◌∙◌}
use Rattle.config_model.specs.Sections.{Sections}
use Rattle.config_model.specs.declared.slots.Slots.{Slots}
use Rattle.book_gate.specs.Known.{Known}
use Rattle.book_history.specs.Entries.{Entry}
use Rattle.crew.specs.Jobs.{Job}
use Rattle.crew.specs.Jobs.Job.{Keeps, Reads, Replies, Talks}
use Rattle.daemon.specs.declared.stock.Stock.{Stock}
use Rattle.daemon.specs.Laid.{AreWhole, Gains, HasRoom}
use Rattle.daemon.specs.Making.{PairMore, PassMore, Returns, SameRoom, TalkerMore}
use Rattle.daemon.proofs.ApartLemmas.{keeper_last, keeper_returns, pair_returns, talker_returns}

module _ {S D E : Type 0} (old new : Stock S D E) where
  -- what is the same is put back
  pub talker_more : (dialer given : D) (ear heard : E) (pass other : Known Sections Entry)
      → (dialer ≡ given) × (ear ≡ heard) × (pass ≡ other) → TalkerMore old dialer ear pass new
      → TalkerMore old given heard other new
  talker_more dialer given ear heard pass other (is, hears, passes) more =
      record {
        same_helpers = more.same_helpers;
        one_peer = more.one_peer ∙ ap (λ (one : D). old.peers.items ++ one ∷ []) is;
        one_ear = more.one_ear ∙ ap (λ (one : E). old.ears.items ++ one ∷ []) hears;
        one_pass = more.one_pass ∙ ap (λ (one : Known Sections Entry). old.passes.items ++ one ∷ []) passes;
      }

  pub pair_more : (spawner given : S) (reading read writing wrote : Known Sections Entry) → spawner ≡ given
      → (reading ≡ read) × (writing ≡ wrote) → PairMore old spawner reading writing new
      → PairMore old given read wrote new
  pair_more spawner given reading read writing wrote is (reads, writes) more =
      record {
        one_helper = more.one_helper ∙ ap (λ (one : S). old.helpers.items ++ one ∷ []) is;
        same_peers = more.same_peers;
        same_ears = more.same_ears;
        two_passes = more.two_passes
            ∙ (ap (λ (one : Known Sections Entry). old.passes.items ++ one ∷ writing ∷ []) reads
            ∙ ap (λ (one : Known Sections Entry). old.passes.items ++ read ∷ one ∷ []) writes);
      }

module _ {F S D E C : Type 0} (old new : Stock S D E) (all jobs : List (Job F S D E C)) (whole : AreWhole all) where
  as_room : (others : List (Job F S D E C)) → all ≡ others → HasRoom old all → HasRoom old others
  as_room others is room = subst (λ (some : List (Job F S D E C)). HasRoom old some) is room

  as_whole : (others : List (Job F S D E C)) → all ≡ others → AreWhole others
  as_whole others is = subst (λ (some : List (Job F S D E C)). AreWhole some) is whole

  pub talker_out : (n : ℕ) (dialer : D) (ear : E) (pass : Known Sections Entry) → all ≡ Talks n dialer ear pass ∷ jobs
      → HasRoom old all → TalkerMore old dialer ear pass new → SameRoom old new → Returns old all new jobs
  talker_out n dialer ear pass is room more same =
      subst (λ (some : List (Job F S D E C)). Returns old some new jobs) (sym is)
      (talker_returns old new jobs n dialer ear pass (as_whole (Talks n dialer ear pass ∷ jobs) is)
      (as_room (Talks n dialer ear pass ∷ jobs) is room) more same)

  module _ (files : F) (path : List ℕ) (slots : Slots) (pass : Known Sections Entry)
      (is : all ≡ Keeps files path slots pass ∷ jobs) where
    last_one : jobs ≡ []
    last_one = keeper_last files path slots pass jobs (as_whole (Keeps files path slots pass ∷ jobs) is)

    pub keeper_out : PassMore old pass new → Gains old all new
    keeper_out more =
        subst (λ (some : List (Job F S D E C)). Gains old some new) (sym is)
        (keeper_returns old new jobs files path slots pass last_one more)

module _ {F S D E C : Type 0} (old new : Stock S D E) (all jobs rest : List (Job F S D E C)) (whole : AreWhole all)
    (h slot last : ℕ) (spawner : S) (clock : C) (reading writing : Known Sections Entry)
    (first : all ≡ Reads h spawner clock reading ∷ jobs) (behind : jobs ≡ Replies slot last writing ∷ rest) where
  -- a reader, its replier, and the others
  abbrev pair_jobs : List (Job F S D E C)
  pair_jobs = Reads h spawner clock reading ∷ Replies slot last writing ∷ rest

  two_first : all ≡ pair_jobs
  two_first = first ∙ ap (λ (others : List (Job F S D E C)). Reads h spawner clock reading ∷ others) behind

  pub pair_out : HasRoom old all → PairMore old spawner reading writing new → SameRoom old new
      → Returns old all new rest
  pair_out room more same =
      subst (λ (some : List (Job F S D E C)). Returns old some new rest) (sym two_first)
      (pair_returns old new rest h slot last spawner clock reading writing
      (as_whole old new all jobs whole pair_jobs two_first)
      (as_room old new all jobs whole pair_jobs two_first room) more same)
