-- One more slot, and a slot that is used anew.
use Rattle.std.proofs.Common.{◌≡◌, ℕ, zero, suc, ◌+◌, ◌-◌, ◌*◌, ◌%◌, ◌^◌, ◌<◌, ◌≤◌, ◌⊎◌, Bool, true, false, Some}
use Rattle.std.proofs.Common.{None, cond, List, [], ◌∷◌, ◌++◌, length, set, eqb, refl, sym, ap, ap₂, subst, ◌∙◌, inl}
use Rattle.std.proofs.Common.{inr, arith}
use Rattle.std.proofs.lemmas.Grind.{common_steps}
use Rattle.std.proofs.lemmas.Bool.{cases_eq, eq-eqb}
use Rattle.linked_pending.specs.Links.{link}
use Rattle.linked_pending.specs.Group.{Group, group_of, nodes_of}
use Rattle.linked_pending.specs.Layout.{has_node, AreFull}
use Rattle.linked_pending.specs.Listing.{AreApart}
use Rattle.linked_pending.specs.Pending.{Queues}
use Rattle.linked_pending.proofs.CrossedLemmas.{link-set_same, link-set_other}
use Rattle.linked_pending.proofs.GroupLemmas.{no_group_from_absent}
use Rattle.slot_batches.specs.Slots.{owes, flag_of}
use Rattle.slot_batches.specs.Owing.{node_of, or_else, expected, IsNode, IsKept, Waits, AllWait, HasMarked}

pub link_front : (values : List ℕ) (last place : ℕ) → place < length values
    → link (values ++ last ∷ []) place ≡ link values place
link_front [] last place below = absurd (omega arith)
link_front (first ∷ rest) last zero below = refl
link_front (first ∷ rest) last (suc place) below = link_front rest last place (omega arith)

pub link_last : (values : List ℕ) (last : ℕ) → link (values ++ last ∷ []) (length values) ≡ last
link_last [] last = refl
link_last (first ∷ rest) last = link_last rest last

pub length_more : (values : List ℕ) (last : ℕ) → length (values ++ last ∷ []) ≡ length values + 1
length_more values last = grind (arith, common_steps)

-- the same lists with more room
abbrev pub roomier : Queues → ℕ → Queues
roomier queues room = record { room = room; waiting = queues.waiting; frozen = queues.frozen }

node_more : (side slots node : ℕ) → IsNode side slots node → IsNode side (slots + 1) node
node_more side slots node is =
    let below = is.slot in
    record { above = is.above; parity = is.parity; slot = omega arith }

module _ (nows sents : List ℕ) (queues : Queues) (side room parity : ℕ) (kept : IsKept nows sents queues side)
    (small : parity ≤ 1) (fits : room < 2 ^ 63) (more : queues.room ≤ room) (enough : 2 * length nows + 4 ≤ room) where
  -- the new slot's nodes are in no group
  absent_of : (s : ℕ) (groups : List Group) → s ≤ 1
      → ((node : ℕ) → has_node node groups ≡ true → (node < 2) ⊎ IsNode s (length nows) node)
      → group_of (node_of s (length nows)) groups ≡ None
  absent_of s groups low within = no_group_from_absent (node_of s (length nows)) groups
      (elim (has_node (node_of s (length nows)) groups) as
      (λ test. has_node (node_of s (length nows)) groups ≡ test → test ≡ false) [
        | true ↦ λ there. elim (within (node_of s (length nows)) there) [
          | inl below ↦ absurd (omega arith)
          | inr is ↦ let below = is.slot in absurd (omega arith)
        ]
        | false ↦ λ absent. refl
      ] refl)

  new_waiting : group_of (node_of side (length nows)) queues.waiting ≡ None
  new_waiting = absent_of side queues.waiting kept.sides kept.waiting_in

  new_frozen : group_of (node_of (1 - side) (length nows)) queues.frozen ≡ None
  new_frozen = absent_of (1 - side) queues.frozen (omega arith) (λ node there. inr (kept.frozen_in node there))

  -- a place of the longer list: one of the shorter, or the last
  last_is : (slot : ℕ) → slot < length (nows ++ parity ∷ []) → (slot < length nows) ⊎ (slot ≡ length nows)
  last_is slot within =
      let len = length_more nows parity in
      elim (cases_eq slot (length nows)) [
        | inl same ↦ inr same
        | inr differs ↦ inl (omega arith)
      ]

  now_last : link (nows ++ parity ∷ []) (length nows) ≡ parity
  now_last = link_last nows parity

  sent_last : link (sents ++ parity ∷ []) (length nows) ≡ parity
  sent_last = subst (λ n. link (sents ++ parity ∷ []) n ≡ parity) kept.same_length (link_last sents parity)

  sent_front : (slot : ℕ) → slot < length nows → link (sents ++ parity ∷ []) slot ≡ link sents slot
  sent_front slot within = link_front sents parity slot (subst (λ n. slot < n) (sym kept.same_length) within)

  pub grown_kept : IsKept (nows ++ parity ∷ []) (sents ++ parity ∷ []) (roomier queues room) side
  grown_kept = record {
    fits = fits;
    sides = kept.sides;
    same_length = length_more sents parity ∙ ap (λ n. n + 1) kept.same_length ∙ sym (length_more nows parity);
    nodes = λ slot within. elim (last_is slot within) [
      | inl before ↦ let was = kept.nodes slot before in omega arith
      | inr last ↦ omega arith
    ];
    values = λ slot within. elim (last_is slot within) [
      | inl before ↦
          let was = kept.values slot before in
          let is = link_front nows parity slot before in
          omega arith
      | inr last ↦
          let is = ap (link (nows ++ parity ∷ [])) last ∙ now_last in
          omega arith
    ];
    parity = λ slot within. elim (last_is slot within) [
      | inl before ↦ ap (λ n. n % 2) (sent_front slot before) ∙ kept.parity slot before
          ∙ sym (ap (λ n. n % 2) (link_front nows parity slot before))
      | inr last ↦ ap (λ n. n % 2) (ap (link (sents ++ parity ∷ [])) last ∙ sent_last ∙ sym now_last
          ∙ sym (ap (link (nows ++ parity ∷ [])) last))
    ];
    frozen_parity = λ slot number within is. elim (last_is slot within) [
      | inl before ↦ kept.frozen_parity slot number before is
          ∙ sym (ap (λ n. n % 2) (link_front nows parity slot before))
      | inr last ↦
          let none : None ≡ Some number = sym new_frozen
          ∙ subst (λ s. group_of (node_of (1 - side) s) queues.frozen ≡ Some number) last is in
          absurd (cc)
    ];
    waiting_in = λ node there. elim (kept.waiting_in node there) [
      | inl below ↦ inl below
      | inr is ↦ inr (subst (λ n. IsNode side n node) (sym (length_more nows parity))
          (node_more side (length nows) node is))
    ];
    frozen_in = λ node there. subst (λ n. IsNode (1 - side) n node) (sym (length_more nows parity))
        (node_more (1 - side) (length nows) node (kept.frozen_in node there));
    waiting_full = kept.waiting_full;
    frozen_full = kept.frozen_full;
    waiting_apart = kept.waiting_apart;
    frozen_apart = kept.frozen_apart;
  }

  alone : (again : Bool) → owes parity parity again ≡ false
  alone again =
      let same : eqb parity parity ≡ true = eq-eqb parity parity refl in
      grind (arith, common_steps, same)

  pub grown_waits : (even odd : Bool) → AllWait nows sents queues side even odd
      → AllWait (nows ++ parity ∷ []) (sents ++ parity ∷ []) (roomier queues room) side even odd
  grown_waits even odd were slot within = elim (last_is slot within) [
    | inl before ↦
        let now = link_front nows parity slot before in
        let sent = sent_front slot before in
        were slot before ∙ sym (ap₂ (λ (now sent : ℕ). cond (owes (or_else
        (group_of (node_of (1 - side) slot) queues.frozen) sent) now (flag_of even odd now)) (Some now) None) now sent)
    | inr last ↦
        let now = ap (link (nows ++ parity ∷ [])) last ∙ now_last in
        let sent = ap (link (sents ++ parity ∷ [])) last ∙ sent_last in
        let frozen = ap (λ s. group_of (node_of (1 - side) s) queues.frozen) last ∙ new_frozen in
        let is : expected (sents ++ parity ∷ []) queues.frozen side slot ≡ parity =
        ap (λ o. or_else o (link (sents ++ parity ∷ []) slot)) frozen ∙ sent in
        let off = ap₂ (λ (was now : ℕ). owes was now (flag_of even odd now)) is now
        ∙ alone (flag_of even odd parity) in
        ap (λ s. group_of (node_of side s) queues.waiting) last ∙ new_waiting
        ∙ sym (ap (λ test. cond test (Some (link (nows ++ parity ∷ []) slot)) None) off)
  ]

-- nodes 0 and 1 may wait besides
pub marked_kept : (nows sents : List ℕ) (old new : Queues) (side : ℕ) → HasMarked old new
    → IsKept nows sents old side → IsKept nows sents new side
marked_kept nows sents old new side mark kept = record {
  fits = subst (λ n. n < 2 ^ 63) (sym mark.room) kept.fits;
  sides = kept.sides;
  same_length = kept.same_length;
  nodes = λ slot within. subst (λ n. 2 * slot + 3 < n) (sym mark.room) (kept.nodes slot within);
  values = λ slot within. subst (λ n. link nows slot < n) (sym mark.room) (kept.values slot within);
  parity = kept.parity;
  frozen_parity = λ slot number within is. kept.frozen_parity slot number within
      (sym (ap (group_of (node_of (1 - side) slot)) mark.frozen) ∙ is);
  waiting_in = λ node there. elim (mark.nodes node there) [
    | inl below ↦ inl below
    | inr before ↦ kept.waiting_in node before
  ];
  frozen_in = λ node there. kept.frozen_in node (sym (ap (has_node node) mark.frozen) ∙ there);
  waiting_full = mark.full kept.waiting_full;
  frozen_full = subst AreFull (sym mark.frozen) kept.frozen_full;
  waiting_apart = mark.apart kept.waiting_apart;
  frozen_apart = subst (λ (groups : List Group). AreApart (nodes_of groups)) (sym mark.frozen) kept.frozen_apart;
}

pub marked_waits : (nows sents : List ℕ) (old new : Queues) (side : ℕ) (even odd : Bool) → HasMarked old new
    → AllWait nows sents old side even odd → AllWait nows sents new side even odd
marked_waits nows sents old new side even odd mark were slot within =
    mark.groups (node_of side slot) (omega arith) ∙ were slot within
    ∙ sym (ap (λ (frozen : List Group). cond (owes (expected sents frozen side slot) (link nows slot)
    (flag_of even odd (link nows slot))) (Some (link nows slot)) None) mark.frozen)

-- nodes 0 and 1 are never frozen
pub none_low : (nows sents : List ℕ) (queues : Queues) (side node : ℕ) → IsKept nows sents queues side → node < 2
    → group_of node queues.frozen ≡ None
none_low nows sents queues side node kept below = no_group_from_absent node queues.frozen
    (elim (has_node node queues.frozen) as (λ test. has_node node queues.frozen ≡ test → test ≡ false) [
      | true ↦ λ there. let above = (kept.frozen_in node there).above in absurd (omega arith)
      | false ↦ λ absent. refl
    ] refl)

-- a slot was added
pub record HasGrown (nows sents : List ℕ) (queues : Queues) (side : ℕ) (even odd : Bool) : Type 0 where
  pub kept : IsKept nows sents queues side
  pub waits : AllWait nows sents queues side even odd

pub has_grown : (nows sents later sent_later : List ℕ) (old new : Queues) (side parity room : ℕ) (even odd : Bool)
    → IsKept nows sents old side → AllWait nows sents old side even odd → parity ≤ 1 → room < 2 ^ 63
    → old.room ≤ room → 2 * length nows + 4 ≤ room → later ≡ nows ++ parity ∷ [] → sent_later ≡ sents ++ parity ∷ []
    → new ≡ roomier old room → HasGrown later sent_later new side even odd
has_grown nows sents later sent_later old new side parity room even odd kept waits small fits more enough is sent_is
    queues_is =
    subst (λ q. HasGrown later sent_later q side even odd) (sym queues_is)
    (subst (λ ss. HasGrown later ss (roomier old room) side even odd) (sym sent_is)
    (subst (λ ns. HasGrown ns (sents ++ parity ∷ []) (roomier old room) side even odd) (sym is) (record {
      kept = grown_kept nows sents old side room parity kept small fits more enough;
      waits = grown_waits nows sents old side room parity kept small fits more enough even odd waits;
    })))

-- a slot of which nothing is kept is used anew
module _ (nows sents : List ℕ) (queues : Queues) (side slot parity : ℕ) (kept : IsKept nows sents queues side)
    (slot_in : slot < length nows) (small : parity ≤ 1) (no_value : link nows slot < 2)
    (none_sent : link sents slot < 2)
    (none_left : group_of (node_of (1 - side) slot) queues.frozen ≡ None) where
  sents_in : slot < length sents
  sents_in = subst (λ n. slot < n) (sym kept.same_length) slot_in

  now_here : link (set nows slot parity) slot ≡ parity
  now_here = link-set_same nows slot parity slot_in

  sent_here : link (set sents slot parity) slot ≡ parity
  sent_here = link-set_same sents slot parity sents_in

  set_length : length (set nows slot parity) ≡ length nows
  set_length = grind (arith, common_steps)

  pub claimed_kept : IsKept (set nows slot parity) (set sents slot parity) queues side
  claimed_kept = record {
    fits = kept.fits;
    sides = kept.sides;
    same_length = grind (arith, common_steps, kept.same_length);
    nodes = λ s within. kept.nodes s (subst (λ n. s < n) set_length within);
    values = λ s within. elim (cases_eq s slot) [
      | inl same ↦
          let is = ap (link (set nows slot parity)) same ∙ now_here in
          let room = kept.nodes slot slot_in in
          omega arith
      | inr differs ↦
          let is = link-set_other nows slot parity s differs in
          let room = kept.values s (subst (λ n. s < n) set_length within) in
          omega arith
    ];
    parity = λ s within. elim (cases_eq s slot) [
      | inl same ↦ ap (λ n. n % 2) (ap (link (set sents slot parity)) same ∙ sent_here ∙ sym now_here
          ∙ sym (ap (link (set nows slot parity)) same))
      | inr differs ↦ ap (λ n. n % 2) (link-set_other sents slot parity s differs)
          ∙ kept.parity s (subst (λ n. s < n) set_length within)
          ∙ sym (ap (λ n. n % 2) (link-set_other nows slot parity s differs))
    ];
    frozen_parity = λ s number within is. elim (cases_eq s slot) [
      | inl same ↦
          let none : None ≡ Some number = sym none_left
          ∙ subst (λ n. group_of (node_of (1 - side) n) queues.frozen ≡ Some number) same is in
          absurd (cc)
      | inr differs ↦ kept.frozen_parity s number (subst (λ n. s < n) set_length within) is
          ∙ sym (ap (λ n. n % 2) (link-set_other nows slot parity s differs))
    ];
    waiting_in = λ node there. subst (λ n. (node < 2) ⊎ IsNode side n node) (sym set_length)
        (kept.waiting_in node there);
    frozen_in = λ node there. subst (λ n. IsNode (1 - side) n node) (sym set_length) (kept.frozen_in node there);
    waiting_full = kept.waiting_full;
    frozen_full = kept.frozen_full;
    waiting_apart = kept.waiting_apart;
    frozen_apart = kept.frozen_apart;
  }

  same_owed : (value : ℕ) (again : Bool) → value < 2 → owes value value again ≡ false
  same_owed value again below =
      let same : eqb value value ≡ true = eq-eqb value value refl in
      grind (arith, common_steps, same, below)

  pub claimed_waits : (even odd : Bool) → AllWait nows sents queues side even odd
      → AllWait (set nows slot parity) (set sents slot parity) queues side even odd
  claimed_waits even odd were s within = elim (cases_eq s slot) [
    | inl same ↦
        let equal : link sents slot ≡ link nows slot =
        let parities = kept.parity slot slot_in in
        omega arith in
        let was : expected sents queues.frozen side slot ≡ link nows slot =
        ap (λ o. or_else o (link sents slot)) none_left ∙ equal in
        let off = ap (λ w. owes w (link nows slot) (flag_of even odd (link nows slot))) was
        ∙ same_owed (link nows slot) (flag_of even odd (link nows slot)) no_value in
        let none : group_of (node_of side slot) queues.waiting ≡ None = were slot slot_in
        ∙ ap (λ test. cond test (Some (link nows slot)) None) off in
        let is : expected (set sents slot parity) queues.frozen side slot ≡ parity =
        ap (λ o. or_else o (link (set sents slot parity) slot)) none_left ∙ sent_here in
        let small_value : parity < 2 = omega arith in
        let still = ap₂ (λ (w now : ℕ). owes w now (flag_of even odd now)) is now_here
        ∙ same_owed parity (flag_of even odd parity) small_value in
        subst (λ n. Waits (set nows slot parity) (set sents slot parity) queues side n
        (flag_of even odd (link (set nows slot parity) n))) (sym same)
        (none ∙ sym (ap (λ test. cond test (Some (link (set nows slot parity) slot)) None) still))
    | inr differs ↦
        let now = link-set_other nows slot parity s differs in
        let sent = link-set_other sents slot parity s differs in
        were s (subst (λ n. s < n) set_length within) ∙ sym (ap₂ (λ (now sent : ℕ). cond (owes (or_else
        (group_of (node_of (1 - side) s) queues.frozen) sent) now (flag_of even odd now)) (Some now) None) now sent)
  ]
