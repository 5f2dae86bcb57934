-- All jobs of a stock: the keeper, and the others in front of it.
use Rattle.std.proofs.Common.{ℕ, suc, ◌≡◌, ◌+◌, ◌≤◌, List, [], ◌∷◌, length, ap, sym, subst, ◌∙◌, arith}
use Rattle.std.specs.Prelude.{map, reverse}
use Rattle.config_model.specs.Limits.{max_helpers, max_peers}
use Rattle.config_model.specs.declared.slots.Slots.{Slots}
use Rattle.book_gate.specs.Known.{TableId}
use Rattle.crew.specs.Jobs.{Job}
use Rattle.daemon.specs.declared.stock.Stock.{Stock}
use Rattle.daemon.specs.Laid.{AreFresh, AreWhole, Gains, HasRoom, HaveSame, IsFull, IsLaid, files_of}
use Rattle.daemon.specs.Making.{IsKept, Lays, Moves, SameRoom}
use Rattle.daemon.proofs.MakingLemmas.{fresh_rest, one_longer}
use Rattle.daemon.proofs.LaysLemmas.{keeper_gains, room_back, room_on, same_again, same_files, turned}

module _ {F S D E C : Type 0} (files : F) (path : List ℕ) (slots : Slots) (base mid : Stock S D E)
    (jobs : List (Job F S D E C)) (kept : IsKept files path slots base jobs mid) where
  -- what is left of a stock behind the keeper
  pub left_helpers : (gate : TableId) → IsFull gate base → length mid.helpers.items ≤ max_helpers
  left_helpers gate full = subst (λ (n : ℕ). n ≤ max_helpers) (ap length kept.gave.same_helpers) full.few_helpers

  pub left_peers : (gate : TableId) → IsFull gate base → length mid.peers.items ≤ max_peers
  left_peers gate full = subst (λ (n : ℕ). n ≤ max_peers) (ap length kept.gave.same_peers) full.few_peers

  pub left_ears : (gate : TableId) → IsFull gate base → length mid.ears.items ≡ length mid.peers.items
  left_ears gate full =
      sym (ap length kept.gave.same_ears) ∙ (full.an_ear_each ∙ ap length kept.gave.same_peers)

  pub left_passes : (gate : TableId) → IsFull gate base → length mid.passes.items
      ≡ (length mid.helpers.items + length mid.helpers.items) + length mid.peers.items
  left_passes gate full =
      let h : length base.helpers.items ≡ length mid.helpers.items = ap length kept.gave.same_helpers in
      let p : length base.peers.items ≡ length mid.peers.items = ap length kept.gave.same_peers in
      let q : length base.passes.items ≡ suc (length mid.passes.items) = one_longer _ _ _ kept.gave.one_pass in
      let all : length base.passes.items
      ≡ length base.helpers.items + length base.helpers.items + length base.peers.items + 1 = full.a_pass_each in
      omega (arith, h, p, q, all)

  pub left_fresh : (gate : TableId) → IsFull gate base → AreFresh gate mid.passes.items
  left_fresh gate full = fresh_rest gate _ _ _ kept.gave.one_pass full.fresh

  -- the keeper has the last pass of the stock
  pub kept_gains : Gains mid jobs base
  kept_gains =
      subst (λ (all : List (Job F S D E C)). Gains mid all base) (sym kept.alone)
      (keeper_gains base mid files path slots kept.pass kept.gave)

  kept_whole : AreWhole jobs
  kept_whole = subst (λ (all : List (Job F S D E C)). AreWhole all) (sym kept.alone) tt

  kept_files : files_of jobs ≡ files ∷ []
  kept_files = ap (λ (all : List (Job F S D E C)). files_of all) kept.alone

module _ {F S D E C X : Type 0} (f : X → Job F S D E C) (files : F) (path : List ℕ) (slots : Slots)
    (base mid new : Stock S D E) (first more all : List X) (turn : all ≡ reverse more)
    (kept : IsKept files path slots base (reverse (map f first)) mid) where
  pub all_laid : (clock : C) → Lays clock mid (reverse (map f first)) new (reverse (map f more))
      → IsLaid files path slots clock base.peers.items base.ears.items base.helpers.items (map f all)
      base.passes.items
  all_laid clock lays =
      subst (λ (jobs : List (Job F S D E C)). IsLaid files path slots clock base.peers.items base.ears.items
      base.helpers.items jobs base.passes.items) (sym (turned f more all turn))
      (lays.laid base files path slots kept.pass kept.alone
      (kept_gains files path slots base mid (reverse (map f first)) kept))

  module _ (moves : Moves mid (reverse (map f first)) new (reverse (map f more))) where
    gains : Gains new (reverse (map f more)) base
    gains = moves.carries base (kept_gains files path slots base mid (reverse (map f first)) kept)

    pub all_room : SameRoom base mid → HasRoom new (map f all)
    all_room same =
        subst (λ (jobs : List (Job F S D E C)). HasRoom new jobs) (sym (turned f more all turn))
        (room_back new (reverse (map f more)) base gains (room_on base mid new same moves.room))

    pub all_whole : AreWhole (map f all)
    all_whole =
        subst (λ (jobs : List (Job F S D E C)). AreWhole jobs) (sym (turned f more all turn))
        (moves.whole (kept_whole files path slots base mid (reverse (map f first)) kept))

    pub all_back : (last : Stock S D E) → Gains new (map f all) last → HaveSame base last
    all_back last back =
        same_again base new last (reverse (map f more)) gains
        (subst (λ (jobs : List (Job F S D E C)). Gains new jobs last) (turned f more all turn) back)

    pub all_files : (given : F) → files_of (map f all) ≡ given ∷ [] → given ≡ files
    all_files given is =
        same_files (files_of (reverse (map f more))) files given
        (moves.files_stay ∙ kept_files files path slots base mid (reverse (map f first)) kept)
        (sym (ap (λ (jobs : List (Job F S D E C)). files_of jobs) (turned f more all turn)) ∙ is)
