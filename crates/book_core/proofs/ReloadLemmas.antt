-- Reloads: the book behind one that was done, and behind one that wasn't.
use Rattle.std.proofs.Common.{◌≡◌, ℕ, ◌<◌, ◌≤◌, ◌&&◌, Bool, true, false, List, [], ◌∷◌, ◌++◌, length, Some, None, refl}
use Rattle.std.proofs.Common.{sym, ap, ◌∙◌, subst, arith, inl, inr, eqb-true, eq-eqb}
use Rattle.std.proofs.lemmas.Bool.{and_parts, le-ltb, ltb-false}
use Rattle.std.proofs.lemmas.Option.{slice_get_within, slice_get-get_or}
use Rattle.std.specs.Prelude.{◌==◌, Option, get_or, slice_get, nat_lt, IsTrue, if◌then◌else◌}
use Rattle.route_values.specs.declared.settings.Settings.{Settings}
use Rattle.route_values.specs.Key.{same_addr}
use Rattle.route_values.proofs.KeyLemmas.{same_addr_is, same_addr-self}
use Rattle.config_model.specs.declared.sections.Neighbor.{Neighbor}
use Rattle.config_model.specs.declared.sections.Process.{Process}
use Rattle.config_model.specs.Checked.{IsConfig}
use Rattle.config_model.specs.Limits.{max_helpers, max_peers}
use Rattle.config_model.specs.Sections.{Sections, same_name}
use Rattle.helper_book.specs.Apart.{is_apart}
use Rattle.helper_book.specs.Seen.{Seen as Helper}
use Rattle.helper_book.specs.Stands as of_helper
use Rattle.peer_book.specs.Stands as of_peer
use Rattle.peer_history.specs.Steps.{Step}
use Rattle.peer_history.specs.Table.{settings_in}
use Rattle.book_history.specs.declared.outcomes.Reload.{Reload}
use Rattle.book_history.specs.declared.outcomes.Reload.TheVariants as reload
use Rattle.book_history.specs.Bounds.{max_nodes}
use Rattle.book_history.specs.Entries.{History}
use Rattle.book_history.specs.Entries.Entry.{Reloaded}
use Rattle.book_history.specs.Legal.{Allows, IsLegal, loaded}
use Rattle.book_history.specs.Nodes.{nodes}
use Rattle.book_history.specs.PeerSteps.{exchanged, steps_of}
use Rattle.book_history.specs.Slots.{helper_slots, neighbor_at, peer_slots}
use Rattle.book_history.proofs.StepLemmas.{steps_legal}
use Rattle.book_core.specs.declared.peering.Peering.{Peering}
use Rattle.book_core.specs.declared.placing.Places.{Places}
use Rattle.book_core.specs.Changing.{exchanged_by}
use Rattle.book_core.specs.Counting.{nodes_below, AreTold}
use Rattle.book_core.specs.Moves.{MovesAll, nothing}
use Rattle.book_core.specs.Quiet.{is_quiet}
use Rattle.book_core.specs.Seen.{Seen, IsWhole}
use Rattle.book_core.specs.Settling.{is_done, section_in, ArePlaces, Reloads, SettlesAll}
use Rattle.book_core.specs.Stands.{AreSlots, HelpersStand, PeersStand, Stands, names_heard}
use Rattle.book_core.proofs.ClosedLemmas.{closed_told}
use Rattle.book_core.proofs.HeldLemmas.{held_quiet}
use Rattle.book_core.proofs.HelperLemmas.{helpers_apart}
use Rattle.book_core.proofs.KeepLemmas.{keeps_stand, kept_then}
use Rattle.book_core.proofs.PeerLemmas.{settings_of, settings_told}
use Rattle.book_core.proofs.PlacedLemmas.{placed_told}
use Rattle.book_core.proofs.QuietLemmas.{nodes_by_steps, quiet_peers}
use Rattle.book_core.proofs.SettleLemmas.{then_moved}
use Rattle.book_core.proofs.SlotLemmas.{apart_reloaded, few_reloaded}

-- ---- the slots behind a reload

pub same_name_is : (a b : List ℕ) → same_name a b ≡ true → a ≡ b
same_name_is [] [] same = refl
same_name_is [] (y ∷ ys) same = absurd (let no_way : false ≡ true = same in cc)
same_name_is (x ∷ xs) [] same = absurd (let no_way : false ≡ true = same in cc)
same_name_is (x ∷ xs) (y ∷ ys) same =
    let both = and_parts (x == y) (same_name xs ys) same in
    ap (λ z. z ∷ xs) (eqb-true x y both.0) ∙ ap (λ zs. y ∷ zs) (same_name_is xs ys both.1)

pub same_name-self : (a : List ℕ) → same_name a a ≡ true
same_name-self [] = refl
same_name-self (x ∷ xs) = ap (λ so. so && same_name xs xs) (eq-eqb x x refl) ∙ same_name-self xs

pub slots_reloaded : (cfg : Sections) (H : History) (file : Sections) → IsConfig file → AreSlots cfg H
    → AreSlots cfg (Reloaded file reload.Ok ∷ H)
slots_reloaded cfg H file config are =
    let name : Process → List ℕ = λ process. process.name.items in
    let addr = λ (neighbor : Neighbor). neighbor.settings.peer in
    record {
      few_helpers = few_reloaded same_name name same_name_is same_name-self max_helpers file.processes
          (helper_slots cfg H) are.names are.few_helpers config.draft.few_processes;
      few_peers = few_reloaded same_addr addr same_addr_is same_addr-self max_peers file.neighbors (peer_slots cfg H)
          are.addrs are.few_peers config.draft.few_neighbors;
      names = apart_reloaded same_name name same_name_is same_name-self file.processes (helper_slots cfg H)
          config.draft.names are.names;
      addrs = apart_reloaded same_addr addr same_addr_is same_addr-self file.neighbors (peer_slots cfg H)
          config.draft.peers are.addrs;
    }

-- ---- the steps that a reload is to a slot

exchanged_is : (before after : Option Neighbor) → exchanged_by (settings_of before) after ≡ exchanged before after
exchanged_is None None = refl
exchanged_is None (Some new) = refl
exchanged_is (Some old) None = refl
exchanged_is (Some old) (Some new) = refl

heard_none : (held : Option Neighbor) → settings_of held ≡ None → names_heard held ≡ []
heard_none None none = refl
heard_none (Some neighbor) none =
    absurd (let no_way : ◌≡◌ {A = Option Settings} (Some neighbor.settings) None = none in cc)

module _ (cfg : Sections) (H : History) (file : Sections) (after : ℕ → Option Neighbor)
    (told : (n : ℕ) → after n ≡ neighbor_at cfg (Reloaded file reload.Ok ∷ H) n) where
  steps_reloaded : (n : ℕ) (own : Option Settings) → own ≡ settings_of (neighbor_at cfg H n)
      → exchanged_by own (after n) ++ steps_of cfg n H ≡ steps_of cfg n (Reloaded file reload.Ok ∷ H)
  steps_reloaded n own is =
      let steps = steps_of cfg n H in
      ap (λ (o : Option Settings). exchanged_by o (after n) ++ steps) is
      ∙ ap (λ (held : Option Neighbor). exchanged_by (settings_of (neighbor_at cfg H n)) held ++ steps) (told n)
      ∙ ap (λ (these : List Step). these ++ steps)
      (exchanged_is (neighbor_at cfg H n) (neighbor_at cfg (Reloaded file reload.Ok ∷ H) n))

  -- the route nodes behind it
  pub nodes_reloaded : nodes_below max_peers (λ n. steps_of cfg n H) after ≡ nodes cfg (Reloaded file reload.Ok ∷ H)
  nodes_reloaded =
      nodes_by_steps
      (λ n. exchanged_by (settings_in (steps_of cfg n H)) (after n) ++ steps_of cfg n H)
      (λ n. steps_of cfg n (Reloaded file reload.Ok ∷ H))
      (λ n. steps_reloaded n (settings_in (steps_of cfg n H)) (settings_told cfg n H))

  -- each slot of a book that stands is told of
  pub slots_told : (peers : List Peering) → IsLegal cfg H → PeersStand cfg H peers
      → AreTold (λ n. steps_of cfg n H) peers
  slots_told peers legal stand n is there = record {
    legal = steps_legal cfg n H legal;
    closed = closed_told cfg n H legal;
    stands = (stand n is there).slot;
  }

  -- the neighbour slots behind it
  pub peers_reloaded : (old new : List Peering) → IsLegal cfg H → SettlesAll after old new → PeersStand cfg H old
      → PeersStand cfg (Reloaded file reload.Ok ∷ H) new
  peers_reloaded old new legal settled stand = λ n peering at.
      let within : n < length old = subst (λ m. n < m) settled.count (slice_get_within new n peering at) in
      let was = get_or old n peering in
      let found : slice_get old n ≡ Some was = slice_get-get_or old n peering within in
      let before = stand n was found in
      let one = settled.each n was peering found at in
      let own = before.slot.settings ∙ settings_told cfg n H in
      record {
        slot = subst (λ steps. of_peer.Stands steps peering.slot) (steps_reloaded n was.slot.settings own)
            (one.slot (steps_of cfg n H) (closed_told cfg n H legal) before.slot);
        names = one.names (steps_of cfg n H) before.slot
            (λ none. before.names ∙ heard_none (neighbor_at cfg H n) (sym own ∙ none)) ∙ ap names_heard (told n);
      }

-- ---- what is answered

pub allowed_ok : (many : ℕ) → many ≤ max_nodes → reload.Ok ≡ loaded many
allowed_ok many within = ap (λ so. if so then reload.Full many else reload.Ok) (sym (le-ltb max_nodes many within))

pub allowed_full : (given many : ℕ) → max_nodes < given → given ≡ many → reload.Full given ≡ loaded many
allowed_full given many over is = ap (λ (k : ℕ). reload.Full k) is ∙ by_test (nat_lt max_nodes many) refl
  where
    by_test : (so : Bool) → nat_lt max_nodes many ≡ so
        → reload.Full many ≡ (if nat_lt max_nodes many then reload.Full many else reload.Ok)
    by_test true so = ap (λ b. if b then reload.Full many else reload.Ok) (sym so)
    by_test false so = absurd (let few = ltb-false max_nodes many so in omega (arith, few, over, is))

-- ---- the book

-- the helper slots, each of which was given the process that it has behind the reload
pub helpers_reloaded : (cfg : Sections) (H : History) (file : Sections) (old new : List Helper)
    → length new ≡ length old
    → ((h : ℕ) (was is : Helper) → slice_get old h ≡ Some was → slice_get new h ≡ Some is → of_helper.Stands cfg H h was
    → of_helper.Stands cfg (Reloaded file reload.Ok ∷ H) h is)
    → HelpersStand cfg H old → HelpersStand cfg (Reloaded file reload.Ok ∷ H) new
helpers_reloaded cfg H file old new count each stand = λ h helper at.
    let within : h < length old = subst (λ m. h < m) count (slice_get_within new h helper at) in
    let was = get_or old h helper in
    let found : slice_get old h ≡ Some was = slice_get-get_or old h helper within in
    each h was helper found at (stand h was found)

-- the book behind a reload that is done
pub reload_done : (cfg : Sections) (H : History) (file : Sections) (old new : Seen) (after : ℕ → Option Neighbor)
    → ((n : ℕ) → after n ≡ neighbor_at cfg (Reloaded file reload.Ok ∷ H) n) → IsConfig file
    → ((steps : ℕ → List Step) → AreTold steps old.peers → nodes_below max_peers steps after ≤ max_nodes)
    → HelpersStand cfg (Reloaded file reload.Ok ∷ H) new.helpers → SettlesAll after old.peers new.peers
    → new.stopping ≡ old.stopping → new.reload_due ≡ false → Stands cfg H old
    → Allows cfg H (Reloaded file reload.Ok) × Stands cfg (Reloaded file reload.Ok ∷ H) new
reload_done cfg H file old new after told config few helpers settled on due stands =
    let legal = stands.held.legal in
    let within : nodes cfg (Reloaded file reload.Ok ∷ H) ≤ max_nodes =
    subst (λ k. k ≤ max_nodes) (nodes_reloaded cfg H file after told)
    (few (λ n. steps_of cfg n H) (slots_told cfg H file after told old.peers legal stands.peers)) in
    let allowed : Allows cfg H (Reloaded file reload.Ok) =
    inl (allowed_ok (nodes cfg (Reloaded file reload.Ok ∷ H)) within) in (
      allowed,
      record {
        helpers = helpers;
        peers = peers_reloaded cfg H file after told old.peers new.peers legal settled stands.peers;
        daemon = record { stopping = on ∙ stands.daemon.stopping; reload_due = due };
        held = record {
          legal = (allowed, legal);
          bounded = within;
          slots = slots_reloaded cfg H file config stands.held.slots;
        };
      },
    )

-- the book behind a reload that isn't done: no reload is due any longer, and nothing else changes
pub reload_undone : (cfg : Sections) (H : History) (file : Sections) (given : Reload) (book : Seen)
    → is_quiet (Reloaded file given) ≡ true → ((h : ℕ) → IsTrue (is_apart h (Reloaded file given)))
    → Allows cfg H (Reloaded file given) → Stands cfg H book
    → Stands cfg (Reloaded file given ∷ H) (record book { reload_due = false })
reload_undone cfg H file given book quiet apart allowed stands = record {
  helpers = helpers_apart cfg H (Reloaded file given) book.helpers apart stands.helpers;
  peers = quiet_peers cfg H (Reloaded file given) book.peers quiet stands.peers;
  daemon = record { stopping = stands.daemon.stopping; reload_due = refl };
  held = held_quiet cfg H (Reloaded file given) quiet allowed stands.held;
}

-- in whose tables static routes may stand ready
pub reload_kept : (cfg : Sections) (H : History) (file : Sections) (given : Reload) (book : Seen)
    (peers : List Peering) → is_quiet (Reloaded file given) ≡ true
    → ((h : ℕ) → IsTrue (is_apart h (Reloaded file given))) → Allows cfg H (Reloaded file given)
    → MovesAll nothing book.peers peers → Stands cfg H book
    → Stands cfg (Reloaded file given ∷ H) (record book { peers = peers; reload_due = false })
reload_kept cfg H file given book peers quiet apart allowed moved stands =
    let after : Seen = record book { peers = peers } in
    reload_undone cfg H file given after quiet apart allowed
    (keeps_stand cfg H book after (record { helpers = refl; peers = moved; stopping = refl; reload_due = refl }) stands)

-- the book behind a reload, by what is answered
pub reloads : (cfg : Sections) (H : History) (file : Sections) (old : Seen) (places : Places) (mid peers : List Peering)
    (helpers : List Helper) (given : Reload) → IsWhole old → IsConfig file → ArePlaces file.neighbors old.peers places
    → Reloads (section_in file.neighbors places) old.peers mid given → MovesAll nothing mid peers
    → (is_done given ≡ true → HelpersStand cfg (Reloaded file reload.Ok ∷ H) helpers)
    → (is_done given ≡ false → helpers ≡ old.helpers) → Stands cfg H old
    → Allows cfg H (Reloaded file given) × Stands cfg (Reloaded file given ∷ H)
    (record old { helpers = helpers; peers = peers; reload_due = false })
reloads cfg H file old places mid peers helpers reload.Ok whole config are done trimmed stood kept stands =
    let after = section_in file.neighbors places in
    let told = placed_told cfg H file old.peers places stands.peers stands.held.slots.few_peers whole.peers
    config.draft.few_neighbors are in
    let new : Seen = record old { helpers = helpers; peers = peers; reload_due = false } in
    reload_done cfg H file old new after told config done.1 (stood refl)
    (then_moved after old.peers mid peers done.0 trimmed) refl refl stands
reloads cfg H file old places mid peers helpers (reload.Full many) whole config are full trimmed stood kept stands =
    let after = section_in file.neighbors places in
    let told = placed_told cfg H file old.peers places stands.peers stands.held.slots.few_peers whole.peers
    config.draft.few_neighbors are in
    let is : many ≡ nodes cfg (Reloaded file reload.Ok ∷ H) =
    full.2 (λ n. steps_of cfg n H) (slots_told cfg H file after told old.peers stands.held.legal stands.peers)
    ∙ nodes_reloaded cfg H file after told in
    let allowed : Allows cfg H (Reloaded file (reload.Full many)) =
    inl (allowed_full many (nodes cfg (Reloaded file reload.Ok ∷ H)) full.1 is) in (
      allowed,
      subst (λ (hs : List Helper). Stands cfg (Reloaded file (reload.Full many) ∷ H)
          (record old { helpers = hs; peers = peers; reload_due = false })) (sym (kept refl))
          (reload_kept cfg H file (reload.Full many) old peers refl (λ h. refl) allowed
          (kept_then old.peers mid peers nothing full.0 trimmed) stands),
    )
reloads cfg H file old places mid peers helpers reload.NoMemory whole config are none trimmed stood kept stands =
    let allowed : Allows cfg H (Reloaded file reload.NoMemory) = inr refl in (
      allowed,
      subst (λ (hs : List Helper). Stands cfg (Reloaded file reload.NoMemory ∷ H)
          (record old { helpers = hs; peers = peers; reload_due = false })) (sym (kept refl))
          (reload_kept cfg H file reload.NoMemory old peers refl (λ h. refl) allowed
          (kept_then old.peers mid peers nothing none trimmed) stands),
    )
