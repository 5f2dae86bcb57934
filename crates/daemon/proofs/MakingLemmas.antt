-- One job more, of the last of each list of a stock.
use Rattle.std.proofs.Common.{ℕ, suc, ◌≡◌, ◌+◌, ◌<◌, List, [], ◌∷◌, ◌++◌, length, refl, ap, sym, subst, ◌∙◌}
use Rattle.std.proofs.Common.{append_assoc, length-append, arith}
use Rattle.std.specs.Prelude.{map, reverse}
use Rattle.std.proofs.lemmas.List.{get_or_append_left, get_or_at, map-append, reverse-append}
use Rattle.config_model.specs.Sections.{Sections}
use Rattle.book_gate.specs.Known.{Known, TableId}
use Rattle.book_history.specs.Entries.{Entry}
use Rattle.crew.specs.Jobs.{Job}
use Rattle.crew.specs.Jobs.Job.{Reads, Replies, Talks}
use Rattle.daemon.specs.declared.stock.Stock.{Stock}
use Rattle.daemon.specs.Laid.{AreFresh, HaveSame, HelpersLaid, IsFresh, TalkersLaid}
use Rattle.daemon.specs.Laid.{dialers, ears, passes, spawners}
use Rattle.daemon.specs.Making.{Moves, MovesHelpers, MovesPeers, PairMore, SameRoom, TalkerMore}

-- lists that have one or two more behind them
pub push_front : {A : Type 0} (base old new xs : List A) (x : A) → old ≡ new ++ x ∷ [] → base ≡ old ++ xs
    → base ≡ new ++ x ∷ xs
push_front base old new xs x more is =
    is ∙ (ap (λ (all : List _). all ++ xs) more ∙ append_assoc new (x ∷ []) xs)

pub push_two : {A : Type 0} (base old new xs : List A) (x y : A) → old ≡ new ++ x ∷ y ∷ [] → base ≡ old ++ xs
    → base ≡ new ++ x ∷ y ∷ xs
push_two base old new xs x y more is =
    is ∙ (ap (λ (all : List _). all ++ xs) more ∙ append_assoc new (x ∷ y ∷ []) xs)

pub stays : {A : Type 0} (base old new xs : List A) → new ≡ old → base ≡ old ++ xs → base ≡ new ++ xs
stays base old new xs same is = is ∙ ap (λ (all : List _). all ++ xs) (sym same)

pub one_longer : {A : Type 0} (less more : List A) (x : A) → more ≡ less ++ x ∷ [] → length more ≡ suc (length less)
one_longer less more x is =
    let e : length more ≡ length less + 1 = ap length is ∙ length-append less (x ∷ []) in
    omega (arith, e)

pub two_longer : {A : Type 0} (less more : List A) (x y : A) → more ≡ less ++ x ∷ y ∷ []
    → length more ≡ suc (suc (length less))
two_longer less more x y is =
    let e : length more ≡ length less + 2 = ap length is ∙ length-append less (x ∷ y ∷ []) in
    omega (arith, e)

-- a list that is seen from its end, and was pushed to
pub pushed : {X J : Type 0} (f : X → J) (old new : List X) (x : X) → new ≡ old ++ x ∷ []
    → reverse (map f new) ≡ f x ∷ reverse (map f old)
pushed f old new x is =
    ap (λ (all : List _). reverse (map f all)) is
    ∙ (ap reverse (map-append f old (x ∷ [])) ∙ reverse-append (map f old) (f x ∷ []))

-- passes in front of others
fresh_front : (gate : TableId) (front last : List (Known Sections Entry)) → AreFresh gate (front ++ last)
    → AreFresh gate front
fresh_front gate front last fresh k d small =
    let e : k < length (front ++ last) = omega (arith, length-append front last) in
    subst (λ (pass : Known Sections Entry). IsFresh gate k pass) (get_or_append_left front last d k small) (fresh k d e)

pub fresh_rest : (gate : TableId) (old new last : List (Known Sections Entry)) → old ≡ new ++ last
    → AreFresh gate old → AreFresh gate new
fresh_rest gate old new last is fresh =
    fresh_front gate new last (subst (λ (all : List (Known Sections Entry)). AreFresh gate all) is fresh)

pub fresh_one : (gate : TableId) (old new more : List (Known Sections Entry)) (pass : Known Sections Entry)
    → old ≡ new ++ pass ∷ more → AreFresh gate old → IsFresh gate (length new) pass
fresh_one gate old new more pass is fresh =
    let all : AreFresh gate (new ++ pass ∷ more) =
    subst (λ (all : List (Known Sections Entry)). AreFresh gate all) is fresh in
    let e : length new < length (new ++ pass ∷ more) = omega (arith, length-append new (pass ∷ more)) in
    subst (λ (one : Known Sections Entry). IsFresh gate (length new) one)
    (get_or_at new pass more pass (length new) refl) (all (length new) pass e)

module _ {F S D E C : Type 0} (old new : Stock S D E) (before : List (Job F S D E C)) where
  -- nothing was given
  same_moves : HaveSame old new → SameRoom old new → Moves old before new before
  same_moves same room =
      record {
        carries = λ base gains. record {
          of_helpers = stays _ _ _ _ same.same_helpers gains.of_helpers;
          of_peers = stays _ _ _ _ same.same_peers gains.of_peers;
          of_ears = stays _ _ _ _ same.same_ears gains.of_ears;
          of_passes = stays _ _ _ _ same.same_passes gains.of_passes;
        };
        room = room;
        whole = λ is. is;
        files_stay = refl;
        still_fresh = λ gate fresh.
            subst (λ (all : List (Known Sections Entry)). AreFresh gate all) (sym same.same_passes) fresh;
        counts = ap (λ (all : List (Known Sections Entry)). length all + length before) same.same_passes;
      }

  pub same_peers_moves : HaveSame old new → SameRoom old new → MovesPeers old before new before
  same_peers_moves same room =
      let p : length new.peers.items ≡ length old.peers.items = ap length same.same_peers in
      let q : length new.passes.items ≡ length old.passes.items = ap length same.same_passes in
      let r : length new.ears.items ≡ length old.ears.items = ap length same.same_ears in
      record {
        moves = same_moves same room;
        same_helpers = same.same_helpers;
        no_spawners = refl;
        an_ear_each = λ each. r ∙ (each ∙ sym p);
        a_pass_each = omega (arith, p, q);
        laid = λ files path slots laid.
            subst (λ (n : ℕ). TalkersLaid files path slots n (dialers before) (ears before) before (passes before))
            (sym p) laid;
      }

  pub same_helpers_moves : (clock : C) → HaveSame old new → SameRoom old new → MovesHelpers clock old before new before
  same_helpers_moves clock same room =
      let p : length new.helpers.items ≡ length old.helpers.items = ap length same.same_helpers in
      let q : length new.passes.items ≡ length old.passes.items = ap length same.same_passes in
      record {
        moves = same_moves same room;
        same_peers = same.same_peers;
        same_ears = same.same_ears;
        two_passes_each = omega (arith, p, q);
        laid = λ files path slots peers heard laid.
            subst (λ (h : ℕ). HelpersLaid files path slots clock peers heard h (spawners before) before (passes before))
            (sym p) laid;
      }

  -- a talker more
  talker_moves : (n : ℕ) (dialer : D) (ear : E) (pass : Known Sections Entry) → TalkerMore new dialer ear pass old
      → SameRoom old new → Moves old before new (Talks n dialer ear pass ∷ before)
  talker_moves n dialer ear pass more room =
      record {
        carries = λ base gains. record {
          of_helpers = stays _ _ _ _ (sym more.same_helpers) gains.of_helpers;
          of_peers = push_front _ _ _ _ _ more.one_peer gains.of_peers;
          of_ears = push_front _ _ _ _ _ more.one_ear gains.of_ears;
          of_passes = push_front _ _ _ _ _ more.one_pass gains.of_passes;
        };
        room = room;
        whole = λ is. is;
        files_stay = refl;
        still_fresh = λ gate. fresh_rest gate _ _ _ more.one_pass;
        counts = omega (arith, one_longer _ _ _ more.one_pass);
      }

  pub talker_peers_moves : (n : ℕ) (dialer : D) (ear : E) (pass : Known Sections Entry)
      → n ≡ length new.peers.items → TalkerMore new dialer ear pass old → SameRoom old new
      → MovesPeers old before new (Talks n dialer ear pass ∷ before)
  talker_peers_moves n dialer ear pass slot more room =
      let p : length old.peers.items ≡ suc (length new.peers.items) = one_longer _ _ _ more.one_peer in
      let q : length old.passes.items ≡ suc (length new.passes.items) = one_longer _ _ _ more.one_pass in
      let r : length old.ears.items ≡ suc (length new.ears.items) = one_longer _ _ _ more.one_ear in
      record {
        moves = talker_moves n dialer ear pass more room;
        same_helpers = sym more.same_helpers;
        no_spawners = refl;
        an_ear_each = λ each. omega (arith, p, r, each);
        a_pass_each = omega (arith, p, q);
        laid = λ files path slots laid. (
          ap (λ (k : ℕ). Talks k dialer ear pass) slot,
          subst (λ (k : ℕ). TalkersLaid files path slots k (dialers before) (ears before) before
              (passes before)) p laid,
        );
      }

  -- a reader and a replier more
  pair_moves : (h slot last : ℕ) (spawner : S) (clock : C) (reading writing : Known Sections Entry)
      → PairMore new spawner reading writing old → SameRoom old new
      → Moves old before new (Reads h spawner clock reading ∷ Replies slot last writing ∷ before)
  pair_moves h slot last spawner clock reading writing more room =
      record {
        carries = λ base gains. record {
          of_helpers = push_front _ _ _ _ _ more.one_helper gains.of_helpers;
          of_peers = stays _ _ _ _ (sym more.same_peers) gains.of_peers;
          of_ears = stays _ _ _ _ (sym more.same_ears) gains.of_ears;
          of_passes = push_two _ _ _ _ _ _ more.two_passes gains.of_passes;
        };
        room = room;
        whole = λ is. is;
        files_stay = refl;
        still_fresh = λ gate. fresh_rest gate _ _ _ more.two_passes;
        counts = omega (arith, two_longer _ _ _ _ more.two_passes);
      }

  pub pair_helpers_moves : (h slot last : ℕ) (spawner : S) (made clock : C) (reading writing : Known Sections Entry)
      → h ≡ length new.helpers.items → slot ≡ h → last ≡ 0 → made ≡ clock
      → PairMore new spawner reading writing old → SameRoom old new
      → MovesHelpers clock old before new (Reads h spawner made reading ∷ Replies slot last writing ∷ before)
  pair_helpers_moves h slot last spawner made clock reading writing is same none by more room =
      let p : length old.helpers.items ≡ suc (length new.helpers.items) = one_longer _ _ _ more.one_helper in
      let q : length old.passes.items ≡ suc (suc (length new.passes.items)) = two_longer _ _ _ _ more.two_passes in
      record {
        moves = pair_moves h slot last spawner made reading writing more room;
        same_peers = sym more.same_peers;
        same_ears = sym more.same_ears;
        two_passes_each = omega (arith, p, q);
        laid = λ files path slots peers heard laid. (
          ap (λ (k : ℕ). Reads k spawner made reading) is
              ∙ ap (λ (now : C). Reads (length new.helpers.items) spawner now reading) by,
          ap (λ (k : ℕ). Replies k last writing) (same ∙ is)
              ∙ ap (λ (k : ℕ). Replies (length new.helpers.items) k writing) none,
          subst (λ (k : ℕ). HelpersLaid files path slots clock peers heard k (spawners before) before (passes before))
              p laid,
        );
      }
