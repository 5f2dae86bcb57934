-- Steps of making one behind the other, until a stock is used up.
use Rattle.std.proofs.Common.{ℕ, ◌≡◌, ◌+◌, ◌≤◌, List, [], ◌∷◌, ◌++◌, length, refl, ap, sym, subst, ◌∙◌, arith}
use Rattle.std.proofs.Common.{append-nil, length-append}
use Rattle.std.specs.Prelude.{map, reverse}
use Rattle.std.proofs.lemmas.List.{reverse-reverse}
use mathlib.Core.List.{reverse_aux}
use Rattle.config_model.specs.Sections.{Sections}
use Rattle.config_model.specs.declared.slots.Slots.{Slots}
use Rattle.book_gate.specs.Known.{Known}
use Rattle.book_history.specs.Entries.{Entry}
use Rattle.crew.specs.Jobs.{Job}
use Rattle.crew.specs.Jobs.Job.{Keeps}
use Rattle.daemon.specs.declared.stock.Stock.{Stock}
use Rattle.daemon.specs.Laid.{Gains, HasRoom, HaveSame, HelpersLaid, IsUsedUp, TalkersLaid}
use Rattle.daemon.specs.Laid.{dialers, ears, passes, spawners}
use Rattle.daemon.specs.Making.{Lays, Moves, MovesHelpers, MovesPeers, PassMore, SameRoom}
use Rattle.daemon.proofs.MakingLemmas.{same_helpers_moves, same_peers_moves}

-- a list in reverse, seen through a function
turned_onto : {X J : Type 0} (f : X → J) (xs ys : List X)
    → map f (reverse_aux xs ys) ≡ reverse_aux (map f xs) (map f ys)
turned_onto f [] ys = refl
turned_onto f (x ∷ xs) ys = turned_onto f xs (x ∷ ys)

pub turned : {X J : Type 0} (f : X → J) (old new : List X) → new ≡ reverse old → map f new ≡ reverse (map f old)
turned f old new is = ap (map f) is ∙ turned_onto f old []

pub turned_back : {X J : Type 0} (f : X → J) (old new : List X) → new ≡ reverse old → reverse (map f new) ≡ map f old
turned_back f old new is = ap reverse (turned f old new is) ∙ reverse-reverse (map f old)

-- a list of no length
pub no_length : {A : Type 0} (xs : List A) → length xs ≡ 0 → xs ≡ []
no_length [] is = refl
no_length (x ∷ xs) is = absurd (omega (arith, is))

-- a list's part and what came from it fit where the list did
fits : {A : Type 0} (items : List A) (len room room' : ℕ) (left xs : List A)
    → (len ≡ length items) × (len ≤ room) → items ≡ left ++ xs → room' ≡ room → length left + length xs ≤ room'
fits items len room room' left xs ok is same =
    let e : length items ≡ length left + length xs = ap length is ∙ length-append left xs in
    let f : len ≡ length items = ok.0 in
    let g : len ≤ room = ok.1 in
    omega (arith, e, f, g, same)

module _ {S D E : Type 0} where
  pub room_on : (old mid new : Stock S D E) → SameRoom old mid → SameRoom mid new → SameRoom old new
  room_on old mid new first second =
      record {
        room_helpers = second.room_helpers ∙ first.room_helpers;
        room_peers = second.room_peers ∙ first.room_peers;
        room_ears = second.room_ears ∙ first.room_ears;
        room_passes = second.room_passes ∙ first.room_passes;
      }

module _ {F S D E C : Type 0} (old mid new : Stock S D E) (before between after : List (Job F S D E C)) where
  pub moves_on : Moves old before mid between → Moves mid between new after → Moves old before new after
  moves_on first second =
      record {
        carries = λ base gains. second.carries base (first.carries base gains);
        room = room_on old mid new first.room second.room;
        whole = λ is. second.whole (first.whole is);
        files_stay = second.files_stay ∙ first.files_stay;
        still_fresh = λ gate fresh. second.still_fresh gate (first.still_fresh gate fresh);
        counts = second.counts ∙ first.counts;
      }

  pub peers_on : MovesPeers old before mid between → MovesPeers mid between new after → MovesPeers old before new after
  peers_on first second =
      record {
        moves = moves_on first.moves second.moves;
        same_helpers = second.same_helpers ∙ first.same_helpers;
        no_spawners = second.no_spawners ∙ first.no_spawners;
        an_ear_each = λ each. second.an_ear_each (first.an_ear_each each);
        a_pass_each = omega (arith, first.a_pass_each, second.a_pass_each);
        laid = λ files path slots laid. second.laid files path slots (first.laid files path slots laid);
      }

  pub helpers_on : (clock : C) → MovesHelpers clock old before mid between → MovesHelpers clock mid between new after
      → MovesHelpers clock old before new after
  helpers_on clock first second =
      record {
        moves = moves_on first.moves second.moves;
        same_peers = second.same_peers ∙ first.same_peers;
        same_ears = second.same_ears ∙ first.same_ears;
        two_passes_each = omega (arith, first.two_passes_each, second.two_passes_each);
        laid = λ files path slots peers heard laid.
            second.laid files path slots peers heard (first.laid files path slots peers heard laid);
      }

module _ {F S D E C : Type 0} (stock : Stock S D E) (jobs : List (Job F S D E C)) where
  same_stock : HaveSame stock stock
  same_stock = record { same_helpers = refl; same_peers = refl; same_ears = refl; same_passes = refl }

  same_room : SameRoom stock stock
  same_room = record { room_helpers = refl; room_peers = refl; room_ears = refl; room_passes = refl }

  pub peers_none : MovesPeers stock jobs stock jobs
  peers_none = same_peers_moves stock stock jobs same_stock same_room

  pub helpers_none : (clock : C) → MovesHelpers clock stock jobs stock jobs
  helpers_none clock = same_helpers_moves stock stock jobs clock same_stock same_room

  -- what a stock has gained fits where it came from
  pub room_back : (base : Stock S D E) → Gains stock jobs base → SameRoom base stock → HasRoom stock jobs
  room_back base gains room =
      record {
        for_helpers = fits _ _ _ _ _ _ base.helpers.ok gains.of_helpers room.room_helpers;
        for_peers = fits _ _ _ _ _ _ base.peers.ok gains.of_peers room.room_peers;
        for_ears = fits _ _ _ _ _ _ base.ears.ok gains.of_ears room.room_ears;
        for_passes = fits _ _ _ _ _ _ base.passes.ok gains.of_passes room.room_passes;
      }

module _ {F S D E C : Type 0} (clock : C) (old mid new : Stock S D E) (before between after : List
    (Job F S D E C)) where
  -- talkers for all neighbours, then readers and repliers for all helpers
  used_up : MovesPeers old before mid between → mid.peers.items ≡ [] → MovesHelpers clock mid between new after
      → new.helpers.items ≡ [] → length old.ears.items ≡ length old.peers.items
      → length old.passes.items
      ≡ (length old.helpers.items + length old.helpers.items) + length old.peers.items → IsUsedUp new
  used_up first none second empty each all =
      let p : length mid.peers.items ≡ 0 = ap length none in
      let e : length mid.ears.items ≡ length mid.peers.items = first.an_ear_each each in
      let h : length mid.helpers.items ≡ length old.helpers.items = ap length first.same_helpers in
      let n : length new.helpers.items ≡ 0 = ap length empty in
      let q : length new.passes.items ≡ 0 = omega (arith, p, h, n, first.a_pass_each, second.two_passes_each, all) in
      record {
        no_helpers = empty;
        no_peers = second.same_peers ∙ none;
        no_ears = second.same_ears ∙ no_length mid.ears.items (e ∙ p);
        no_passes = no_length new.passes.items q;
      }

  -- what is in front of nothing that is left
  all_there : {A : Type 0} (base left xs : List A) → left ≡ [] → base ≡ left ++ xs → base ≡ xs
  all_there base left xs none is = is ∙ ap (λ (all : List _). all ++ xs) none

  pub lays : MovesPeers old before mid between → mid.peers.items ≡ [] → MovesHelpers clock mid between new after
      → new.helpers.items ≡ [] → length old.ears.items ≡ length old.peers.items
      → length old.passes.items
      ≡ (length old.helpers.items + length old.helpers.items) + length old.peers.items
      → Lays clock old before new after
  lays first none second empty each all =
      let used : IsUsedUp new = used_up first none second empty each all in
      record {
        used = used;
        laid = λ base files path slots pass only gains.
            let g1 : Gains mid between base = first.moves.carries base gains in
            let g2 : Gains new after base = second.moves.carries base g1 in
            let t0 : TalkersLaid files path slots (length old.peers.items) (dialers before) (ears before) before
            (passes before) =
            subst (λ (jobs : List (Job F S D E C)). TalkersLaid files path slots (length old.peers.items)
            (dialers jobs) (ears jobs) jobs (passes jobs)) (sym only) (pass, refl, refl) in
            let t1 : TalkersLaid files path slots (length mid.peers.items) (dialers between) (ears between) between
            (passes between) = first.laid files path slots t0 in
            let t2 : TalkersLaid files path slots 0 (dialers between) (ears between) between (passes between) =
            subst (λ (n : ℕ). TalkersLaid files path slots n (dialers between) (ears between) between
            (passes between)) (ap length none) t1 in
            let peers : base.peers.items ≡ dialers between = all_there _ _ _ none g1.of_peers in
            let heard : base.ears.items ≡ ears between =
            all_there _ _ _ (sym second.same_ears ∙ used.no_ears) g1.of_ears in
            let t3 : TalkersLaid files path slots 0 base.peers.items (ears between) between (passes between) =
            subst (λ (given : List D). TalkersLaid files path slots 0 given (ears between) between (passes between))
            (sym peers) t2 in
            let t4 : TalkersLaid files path slots 0 base.peers.items base.ears.items between (passes between) =
            subst (λ (given : List E). TalkersLaid files path slots 0 base.peers.items given between
            (passes between)) (sym heard) t3 in
            let bare : spawners between ≡ [] =
            first.no_spawners ∙ ap (λ (jobs : List (Job F S D E C)). spawners jobs) only in
            let h1 : HelpersLaid files path slots clock base.peers.items base.ears.items (length mid.helpers.items)
            (spawners between) between (passes between) =
            subst (λ (given : List S). HelpersLaid files path slots clock base.peers.items base.ears.items
            (length mid.helpers.items) given between (passes between)) (sym bare) t4 in
            let h2 : HelpersLaid files path slots clock base.peers.items base.ears.items (length new.helpers.items)
            (spawners after) after (passes after) =
            second.laid files path slots base.peers.items base.ears.items h1 in
            let h3 : HelpersLaid files path slots clock base.peers.items base.ears.items 0 (spawners after) after
            (passes after) =
            subst (λ (h : ℕ). HelpersLaid files path slots clock base.peers.items base.ears.items h
            (spawners after) after (passes after)) (ap length empty) h2 in
            let helpers : base.helpers.items ≡ spawners after = all_there _ _ _ empty g2.of_helpers in
            let given : base.passes.items ≡ passes after = all_there _ _ _ used.no_passes g2.of_passes in
            let h4 : HelpersLaid files path slots clock base.peers.items base.ears.items 0 base.helpers.items after
            (passes after) =
            subst (λ (all : List S). HelpersLaid files path slots clock base.peers.items base.ears.items 0 all after
            (passes after)) (sym helpers) h3 in
            subst (λ (all : List (Known Sections Entry)). HelpersLaid files path slots clock base.peers.items
            base.ears.items 0 base.helpers.items after all) (sym given) h4;
      }

module _ {F S D E C : Type 0} (base rest : Stock S D E) (files : F) (path : List ℕ) (slots : Slots)
    (pass : Known Sections Entry) where
  -- the keeper alone has the last pass
  abbrev keeper_jobs : List (Job F S D E C)
  keeper_jobs = Keeps files path slots pass ∷ []

  pub keeper_gains : PassMore rest pass base → Gains rest keeper_jobs base
  keeper_gains more =
      record {
        of_helpers = more.same_helpers ∙ sym (append-nil rest.helpers.items);
        of_peers = more.same_peers ∙ sym (append-nil rest.peers.items);
        of_ears = more.same_ears ∙ sym (append-nil rest.ears.items);
        of_passes = more.one_pass;
      }

module _ {F S D E C : Type 0} (base mid last : Stock S D E) (jobs : List (Job F S D E C)) where
  -- what two stocks have gained by the same jobs is the same
  pub same_again : Gains mid jobs base → Gains mid jobs last → HaveSame base last
  same_again one other =
      record {
        same_helpers = other.of_helpers ∙ sym one.of_helpers;
        same_peers = other.of_peers ∙ sym one.of_peers;
        same_ears = other.of_ears ∙ sym one.of_ears;
        same_passes = other.of_passes ∙ sym one.of_passes;
      }

abbrev first_of : {A : Type 0} (fallback : A) → List A → A
first_of fallback [] = fallback
first_of fallback (x ∷ xs) = x

-- the files of the same jobs are the same
pub same_files : {A : Type 0} (all : List A) (files kept : A) → all ≡ files ∷ [] → all ≡ kept ∷ [] → kept ≡ files
same_files all files kept one other = ap (first_of files) (sym other ∙ one)
