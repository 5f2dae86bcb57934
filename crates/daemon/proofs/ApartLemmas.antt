-- Jobs that go back into a stock, the first first.
use Rattle.std.proofs.Common.{ℕ, suc, ◌≡◌, ◌+◌, ◌≤◌, List, [], ◌∷◌, length, refl, ap, sym, subst, ◌∙◌, arith}
use Rattle.std.proofs.Common.{append-nil}
use Rattle.std.specs.Vec.{vec_capacity}
use Rattle.config_model.specs.Sections.{Sections}
use Rattle.config_model.specs.declared.slots.Slots.{Slots}
use Rattle.book_gate.specs.Known.{Known}
use Rattle.book_history.specs.Entries.{Entry}
use Rattle.crew.specs.Jobs.{Job}
use Rattle.crew.specs.Jobs.Job.{Keeps, Reads, Replies, Talks}
use Rattle.daemon.specs.declared.stock.Stock.{Stock}
use Rattle.daemon.specs.Laid.{AreWhole, Gains, HasRoom}
use Rattle.daemon.specs.Laid.{dialers, ears, passes, spawners}
use Rattle.daemon.specs.Making.{PairMore, PassMore, Returns, SameRoom, TalkerMore}
use Rattle.daemon.proofs.MakingLemmas.{one_longer, push_front, push_two, stays, two_longer}

module _ {F S D E C : Type 0} where
  -- behind the keeper is no job
  pub keeper_last : (files : F) (path : List ℕ) (slots : Slots) (pass : Known Sections Entry)
      (jobs : List (Job F S D E C)) → AreWhole (Keeps files path slots pass ∷ jobs) → jobs ≡ []
  keeper_last files path slots pass [] whole = refl
  keeper_last files path slots pass (job ∷ more) whole = absurd whole

module _ {F S D E C : Type 0} (old new : Stock S D E) (jobs : List (Job F S D E C)) where
  -- a talker went back
  pub talker_returns : (n : ℕ) (dialer : D) (ear : E) (pass : Known Sections Entry)
      → AreWhole (Talks n dialer ear pass ∷ jobs) → HasRoom old (Talks n dialer ear pass ∷ jobs)
      → TalkerMore old dialer ear pass new → SameRoom old new → Returns old (Talks n dialer ear pass ∷ jobs) new jobs
  talker_returns n dialer ear pass whole room more same =
      let h : length old.helpers.items + length (spawners jobs) ≤ vec_capacity old.helpers = room.for_helpers in
      let p : length old.peers.items + suc (length (dialers jobs)) ≤ vec_capacity old.peers = room.for_peers in
      let e : length old.ears.items + suc (length (ears jobs)) ≤ vec_capacity old.ears = room.for_ears in
      let q : length old.passes.items + suc (length (passes jobs)) ≤ vec_capacity old.passes = room.for_passes in
      let h' : length new.helpers.items ≡ length old.helpers.items = ap length more.same_helpers in
      record {
        carries = λ last gains. record {
          of_helpers = stays _ _ _ _ (sym more.same_helpers) gains.of_helpers;
          of_peers = push_front _ _ _ _ _ more.one_peer gains.of_peers;
          of_ears = push_front _ _ _ _ _ more.one_ear gains.of_ears;
          of_passes = push_front _ _ _ _ _ more.one_pass gains.of_passes;
        };
        whole = whole;
        room = record {
          for_helpers = omega (arith, h, h', same.room_helpers);
          for_peers = omega (arith, p, one_longer _ _ _ more.one_peer, same.room_peers);
          for_ears = omega (arith, e, one_longer _ _ _ more.one_ear, same.room_ears);
          for_passes = omega (arith, q, one_longer _ _ _ more.one_pass, same.room_passes);
        };
        files_stay = refl;
      }

  -- a reader and a replier went back
  pub pair_returns : (h slot last : ℕ) (spawner : S) (clock : C) (reading writing : Known Sections Entry)
      → AreWhole (Reads h spawner clock reading ∷ Replies slot last writing ∷ jobs)
      → HasRoom old (Reads h spawner clock reading ∷ Replies slot last writing ∷ jobs)
      → PairMore old spawner reading writing new → SameRoom old new
      → Returns old (Reads h spawner clock reading ∷ Replies slot last writing ∷ jobs) new jobs
  pair_returns h slot last spawner clock reading writing whole room more same =
      let s : length old.helpers.items + suc (length (spawners jobs)) ≤ vec_capacity old.helpers = room.for_helpers in
      let p : length old.peers.items + length (dialers jobs) ≤ vec_capacity old.peers = room.for_peers in
      let e : length old.ears.items + length (ears jobs) ≤ vec_capacity old.ears = room.for_ears in
      let q : length old.passes.items + suc (suc (length (passes jobs))) ≤ vec_capacity old.passes = room.for_passes in
      let p' : length new.peers.items ≡ length old.peers.items = ap length more.same_peers in
      let e' : length new.ears.items ≡ length old.ears.items = ap length more.same_ears in
      record {
        carries = λ last gains. record {
          of_helpers = push_front _ _ _ _ _ more.one_helper gains.of_helpers;
          of_peers = stays _ _ _ _ (sym more.same_peers) gains.of_peers;
          of_ears = stays _ _ _ _ (sym more.same_ears) gains.of_ears;
          of_passes = push_two _ _ _ _ _ _ more.two_passes gains.of_passes;
        };
        whole = whole;
        room = record {
          for_helpers = omega (arith, s, one_longer _ _ _ more.one_helper, same.room_helpers);
          for_peers = omega (arith, p, p', same.room_peers);
          for_ears = omega (arith, e, e', same.room_ears);
          for_passes = omega (arith, q, two_longer _ _ _ _ more.two_passes, same.room_passes);
        };
        files_stay = refl;
      }

  -- the keeper went back
  pub keeper_returns : (files : F) (path : List ℕ) (slots : Slots) (pass : Known Sections Entry) → jobs ≡ []
      → PassMore old pass new → Gains old (Keeps files path slots pass ∷ jobs) new
  keeper_returns files path slots pass none more =
      subst (λ (all : List (Job F S D E C)). Gains old (Keeps files path slots pass ∷ all) new) (sym none)
      (record {
        of_helpers = more.same_helpers ∙ sym (append-nil old.helpers.items);
        of_peers = more.same_peers ∙ sym (append-nil old.peers.items);
        of_ears = more.same_ears ∙ sym (append-nil old.ears.items);
        of_passes = more.one_pass;
      })

  -- nothing went back yet
  pub returns_none : AreWhole jobs → HasRoom old jobs → Returns old jobs old jobs
  returns_none whole room = record { carries = λ last gains. gains; whole = whole; room = room; files_stay = refl }

module _ {F S D E C : Type 0} (old mid new : Stock S D E) (before between after : List (Job F S D E C)) where
  -- one step behind another
  pub returns_on : Returns old before mid between → Returns mid between new after → Returns old before new after
  returns_on first second =
      record {
        carries = λ last gains. first.carries last (second.carries last gains);
        whole = second.whole;
        room = second.room;
        files_stay = second.files_stay ∙ first.files_stay;
      }
