-- All slots lose their values and leave all groups.
use Rattle.std.proofs.Common.{◌≡◌, ℕ, ◌+◌, ◌-◌, ◌*◌, ◌/◌, ◌%◌, ◌<◌, ◌≤◌, ◌⊎◌, ◌||◌, true, false, Some, None, cond}
use Rattle.std.proofs.Common.{List, [], ◌∷◌, length, set, eqb, refl, sym, ap, subst, ◌∙◌, inl, inr, arith}
use Rattle.std.proofs.lemmas.Grind.{common_steps}
use Rattle.std.proofs.lemmas.Bool.{cases_eq, eq-eqb, false≢true}
use Rattle.linked_pending.specs.Links.{link}
use Rattle.linked_pending.specs.Listing.{has, AreApart}
use Rattle.linked_pending.specs.Group.{Group, without_node, group_of, nodes_of}
use Rattle.linked_pending.specs.Layout.{has_node, is_empty, AreFull}
use Rattle.linked_pending.specs.Pending.{Queues}
use Rattle.linked_pending.proofs.CrossedLemmas.{link-set_same, link-set_other}
use Rattle.linked_pending.proofs.GroupLemmas.{has_node-without_node, full-without_node, apart-without_node}
use Rattle.linked_pending.proofs.GroupLemmas.{group_of-without_node, group_of_left, absent_from_no_group}
use Rattle.slot_batches.specs.Slots.{owes, flag_of}
use Rattle.slot_batches.specs.Owing.{node_of, or_else, expected, IsNode, IsKept, IsOut, AllWait, HasEmptied}

-- the groups without two nodes
abbrev pub without_two : ℕ → List Group → List Group
without_two slot groups = without_node (2 * slot + 3) (without_node (2 * slot + 2) groups)

abbrev pub emptied : Queues → ℕ → Queues
emptied queues slot = record {
  room = queues.room;
  waiting = without_two slot queues.waiting;
  frozen = without_two slot queues.frozen;
}

none_stays : (node gone : ℕ) (groups : List Group) → group_of node groups ≡ None
    → group_of node (without_node gone groups) ≡ None
none_stays node gone groups none = grind (arith, common_steps, group_of-without_node node gone groups, none)

none_stays_two : (node slot : ℕ) (groups : List Group) → group_of node groups ≡ None
    → group_of node (without_two slot groups) ≡ None
none_stays_two node slot groups none =
    none_stays node (2 * slot + 3) (without_node (2 * slot + 2) groups) (none_stays node (2 * slot + 2) groups none)

none_even : (slot : ℕ) (groups : List Group) → group_of (node_of 0 slot) (without_two slot groups) ≡ None
none_even slot groups =
    let is : 2 * slot + 2 ≡ node_of 0 slot = omega arith in
    subst (λ node. group_of node (without_two slot groups) ≡ None) is
    (none_stays (2 * slot + 2) (2 * slot + 3) (without_node (2 * slot + 2) groups)
    (group_of_left (2 * slot + 2) groups))

none_odd : (slot : ℕ) (groups : List Group) → group_of (node_of 1 slot) (without_two slot groups) ≡ None
none_odd slot groups =
    let is : 2 * slot + 3 ≡ node_of 1 slot = omega arith in
    subst (λ node. group_of node (without_two slot groups) ≡ None) is
    (group_of_left (2 * slot + 3) (without_node (2 * slot + 2) groups))

some_before : (node gone number : ℕ) (groups : List Group) → group_of node (without_node gone groups) ≡ Some number
    → group_of node groups ≡ Some number
some_before node gone number groups is = elim (eqb node gone) as
    (λ test. cond test None (group_of node groups) ≡ Some number → group_of node groups ≡ Some number) [
      | true ↦ λ none. absurd (cc)
      | false ↦ λ some. some
    ] (sym (group_of-without_node node gone groups) ∙ is)

some_before_two : (node slot number : ℕ) (groups : List Group) → group_of node (without_two slot groups) ≡ Some number
    → group_of node groups ≡ Some number
some_before_two node slot number groups is = some_before node (2 * slot + 2) number groups
    (some_before node (2 * slot + 3) number (without_node (2 * slot + 2) groups) is)

was_there : (node gone : ℕ) (groups : List Group) → has_node node (without_node gone groups) ≡ true
    → has_node node groups ≡ true
was_there node gone groups there = grind (arith, common_steps, has_node-without_node node gone groups, there)

was_there_two : (node slot : ℕ) (groups : List Group) → has_node node (without_two slot groups) ≡ true
    → has_node node groups ≡ true
was_there_two node slot groups there = was_there node (2 * slot + 2) groups
    (was_there node (2 * slot + 3) (without_node (2 * slot + 2) groups) there)

full_two : (slot : ℕ) (groups : List Group) → AreFull groups → AreFull (without_two slot groups)
full_two slot groups full = full-without_node (2 * slot + 3) (without_node (2 * slot + 2) groups)
    (full-without_node (2 * slot + 2) groups full)

apart_two : (slot : ℕ) (groups : List Group) → AreApart (nodes_of groups)
    → AreApart (nodes_of (without_two slot groups))
apart_two slot groups apart = apart-without_node (2 * slot + 3) (without_node (2 * slot + 2) groups)
    (apart-without_node (2 * slot + 2) groups apart)

twice : (number : ℕ) → (number % 2) % 2 ≡ number % 2
twice number = omega arith

-- one slot loses its values
pub one_kept : (nows sents : List ℕ) (queues : Queues) (side slot : ℕ) → IsKept nows sents queues side
    → slot < length nows → IsKept (set nows slot (link nows slot % 2)) (set sents slot (link nows slot % 2))
    (emptied queues slot) side
one_kept nows sents queues side slot kept slot_in =
    let sent_in : slot < length sents = subst (λ n. slot < n) (sym kept.same_length) slot_in in
    let len : length (set nows slot (link nows slot % 2)) ≡ length nows = grind (arith, common_steps) in
    let here = link-set_same nows slot (link nows slot % 2) slot_in in
    let sent_here = link-set_same sents slot (link nows slot % 2) sent_in in
    record {
      fits = kept.fits;
      sides = kept.sides;
      same_length = grind (arith, common_steps, kept.same_length);
      nodes = λ s within. kept.nodes s (subst (λ n. s < n) len within);
      values = λ s within. elim (cases_eq s slot) [
        | inl same ↦
            let is = ap (link (set nows slot (link nows slot % 2))) same ∙ here in
            let room = kept.nodes slot slot_in in
            omega arith
        | inr differs ↦
            let is = link-set_other nows slot (link nows slot % 2) s differs in
            let room = kept.values s (subst (λ n. s < n) len within) in
            omega arith
      ];
      parity = λ s within. elim (cases_eq s slot) [
        | inl same ↦ ap (λ n. n % 2) (ap (link (set sents slot (link nows slot % 2))) same ∙ sent_here
            ∙ sym here ∙ sym (ap (link (set nows slot (link nows slot % 2))) same))
        | inr differs ↦ ap (λ n. n % 2) (link-set_other sents slot (link nows slot % 2) s differs)
            ∙ kept.parity s (subst (λ n. s < n) len within)
            ∙ sym (ap (λ n. n % 2) (link-set_other nows slot (link nows slot % 2) s differs))
      ];
      frozen_parity = λ s number within is.
          let was = kept.frozen_parity s number (subst (λ n. s < n) len within)
          (some_before_two (node_of (1 - side) s) slot number queues.frozen is) in
          elim (cases_eq s slot) [
            | inl same ↦ was ∙ ap (λ n. link nows n % 2) same ∙ sym (twice (link nows slot))
                ∙ sym (ap (λ n. n % 2) (ap (link (set nows slot (link nows slot % 2))) same ∙ here))
            | inr differs ↦ was ∙ sym (ap (λ n. n % 2) (link-set_other nows slot (link nows slot % 2) s differs))
          ];
      waiting_in = λ node there. subst (λ n. (node < 2) ⊎ IsNode side n node) (sym len)
          (kept.waiting_in node (was_there_two node slot queues.waiting there));
      frozen_in = λ node there. subst (λ n. IsNode (1 - side) n node) (sym len)
          (kept.frozen_in node (was_there_two node slot queues.frozen there));
      waiting_full = full_two slot queues.waiting kept.waiting_full;
      frozen_full = full_two slot queues.frozen kept.frozen_full;
      waiting_apart = apart_two slot queues.waiting kept.waiting_apart;
      frozen_apart = apart_two slot queues.frozen kept.frozen_apart;
    }

out_here : (queues : Queues) (slot : ℕ) → IsOut (emptied queues slot) slot
out_here queues slot = record {
  even_waiting = none_even slot queues.waiting;
  odd_waiting = none_odd slot queues.waiting;
  even_frozen = none_even slot queues.frozen;
  odd_frozen = none_odd slot queues.frozen;
}

out_still : (queues : Queues) (slot other : ℕ) → IsOut queues other → IsOut (emptied queues slot) other
out_still queues slot other out = record {
  even_waiting = none_stays_two (node_of 0 other) slot queues.waiting out.even_waiting;
  odd_waiting = none_stays_two (node_of 1 other) slot queues.waiting out.odd_waiting;
  even_frozen = none_stays_two (node_of 0 other) slot queues.frozen out.even_frozen;
  odd_frozen = none_stays_two (node_of 1 other) slot queues.frozen out.odd_frozen;
}

-- one more slot has lost its values
pub emptied_more : (nows later sents sent_later : List ℕ) (old new : Queues) (slot : ℕ)
    → HasEmptied nows later sents sent_later old new slot → slot < length nows
    → HasEmptied nows (set later slot (link later slot % 2)) sents (set sent_later slot (link later slot % 2)) old
    (emptied new slot) (slot + 1)
emptied_more nows later sents sent_later old new slot was slot_in =
    let later_in : slot < length later = subst (λ n. slot < n) (sym was.same_length) slot_in in
    let sent_in : slot < length sent_later = subst (λ n. slot < n) (sym was.sent_length) slot_in in
    let before : link later slot ≡ link nows slot = was.others slot (omega arith) in
    record {
      same_length = grind (arith, common_steps, was.same_length);
      sent_length = grind (arith, common_steps, was.sent_length);
      room = was.room;
      values = λ s below. elim (cases_eq s slot) [
        | inl same ↦ ap (link (set later slot (link later slot % 2))) same
            ∙ link-set_same later slot (link later slot % 2) later_in ∙ ap (λ n. n % 2) before
            ∙ sym (ap (λ n. link nows n % 2) same)
        | inr differs ↦ link-set_other later slot (link later slot % 2) s differs ∙ was.values s (omega arith)
      ];
      nothing_sent = λ s below. elim (cases_eq s slot) [
        | inl same ↦ ap (link (set sent_later slot (link later slot % 2))) same
            ∙ link-set_same sent_later slot (link later slot % 2) sent_in ∙ ap (λ n. n % 2) before
            ∙ sym (ap (λ n. link nows n % 2) same)
        | inr differs ↦ link-set_other sent_later slot (link later slot % 2) s differs
            ∙ was.nothing_sent s (omega arith)
      ];
      others = λ s above. link-set_other later slot (link later slot % 2) s (λ same. absurd (omega arith))
          ∙ was.others s (omega arith);
      out = λ s below. elim (cases_eq s slot) [
        | inl same ↦ subst (IsOut (emptied new slot)) (sym same) (out_here new slot)
        | inr differs ↦ out_still new slot s (was.out s (omega arith))
      ];
      kept = λ side kept. one_kept later sent_later new side slot (was.kept side kept) later_in;
    }

-- no group is left where no node is in one
no_node : (groups : List Group) → AreFull groups → ((node : ℕ) → has_node node groups ≡ false) → groups ≡ []
no_node [] full none = refl
no_node (first ∷ rest) full none = by first.nodes refl
  where
    by : (nodes : List ℕ) → first.nodes ≡ nodes → first ∷ rest ≡ []
    by [] empty = absurd (false≢true (sym full.0 ∙ ap is_empty empty))
    by (node ∷ nodes) some =
        let absent = none node in
        let there : has node first.nodes ≡ true =
        ap (has node) some ∙ grind (arith, common_steps, eq-eqb node node refl) in
        absurd (false≢true (sym absent ∙ ap (λ test. test || has_node node rest) there))

module _ (nows later sents sent_later : List ℕ) (old new : Queues) (side : ℕ)
    (was : HasEmptied nows later sents sent_later old new (length nows)) (kept : IsKept nows sents old side) where
  now_kept : IsKept later sent_later new side
  now_kept = was.kept side kept

  none_of : (s slot : ℕ) (groups : List Group) → s ≤ 1 → group_of (node_of 0 slot) groups ≡ None
      → group_of (node_of 1 slot) groups ≡ None → group_of (node_of s slot) groups ≡ None
  none_of s slot groups small even odd = elim (cases_eq s 0) [
    | inl same ↦ subst (λ n. group_of (node_of n slot) groups ≡ None) (sym same) even
    | inr differs ↦
        let is : 1 ≡ s = omega arith in
        subst (λ n. group_of (node_of n slot) groups ≡ None) is odd
  ]

  pub nothing_frozen : new.frozen ≡ []
  nothing_frozen = no_node new.frozen now_kept.frozen_full (λ node.
      elim (has_node node new.frozen) as (λ test. has_node node new.frozen ≡ test → test ≡ false) [
        | true ↦ λ there.
            let is = now_kept.frozen_in node there in
            let above = is.above in
            let below = is.slot in
            let parity = is.parity in
            let len = was.same_length in
            let out = was.out (node / 2 - 1) (omega arith) in
            let small : 1 - side ≤ 1 = omega arith in
            let none = none_of (1 - side) (node / 2 - 1) new.frozen small out.even_frozen out.odd_frozen in
            let sides = kept.sides in
            let node_is : node_of (1 - side) (node / 2 - 1) ≡ node = omega arith in
            let gone : group_of node new.frozen ≡ None = subst (λ n. group_of n new.frozen ≡ None) node_is none in
            sym there ∙ absent_from_no_group node new.frozen gone
        | false ↦ λ absent. refl
      ] refl)

  alone : (value : ℕ) → owes value value (flag_of false false value) ≡ false
  alone value = grind (arith, common_steps)

  pub nothing_waits : AllWait later sent_later new side false false
  nothing_waits slot within =
      let in_nows : slot < length nows = subst (λ n. slot < n) was.same_length within in
      let out = was.out slot in_nows in
      let waiting = none_of side slot new.waiting kept.sides out.even_waiting out.odd_waiting in
      let small : 1 - side ≤ 1 = omega arith in
      let frozen = none_of (1 - side) slot new.frozen small out.even_frozen out.odd_frozen in
      let same : link sent_later slot ≡ link later slot =
      was.nothing_sent slot in_nows ∙ sym (was.values slot in_nows) in
      let is : expected sent_later new.frozen side slot ≡ link later slot =
      ap (λ o. or_else o (link sent_later slot)) frozen ∙ same in
      let off = ap (λ was. owes was (link later slot) (flag_of false false (link later slot))) is
      ∙ alone (link later slot) in
      waiting ∙ sym (ap (λ test. cond test (Some (link later slot)) None) off)

-- nothing has lost its values yet
pub emptied_none : (nows sents : List ℕ) (queues : Queues) → length sents ≡ length nows
    → HasEmptied nows nows sents sents queues queues 0
emptied_none nows sents queues len = record {
  same_length = refl;
  sent_length = len;
  room = refl;
  values = λ slot below. absurd (omega arith);
  nothing_sent = λ slot below. absurd (omega arith);
  others = λ slot above. refl;
  out = λ slot below. absurd (omega arith);
  kept = λ side kept. kept;
}

pub emptied_next : (nows later sents sent_later : List ℕ) (old new : Queues) (slot : ℕ)
    → HasEmptied nows later sents sent_later old new slot → slot < length nows → (next sent_next : List ℕ)
    (queues : Queues) → next ≡ set later slot (link later slot % 2)
    → sent_next ≡ set sent_later slot (link later slot % 2) → queues ≡ emptied new slot
    → HasEmptied nows next sents sent_next old queues (slot + 1)
emptied_next nows later sents sent_later old new slot was slot_in next sent_next queues is sent_is queues_is =
    subst (λ q. HasEmptied nows next sents sent_next old q (slot + 1)) (sym queues_is)
    (subst (λ ss. HasEmptied nows next sents ss old (emptied new slot) (slot + 1)) (sym sent_is)
    (subst (λ ns. HasEmptied nows ns sents (set sent_later slot (link later slot % 2)) old (emptied new slot)
    (slot + 1)) (sym is) (emptied_more nows later sents sent_later old new slot was slot_in)))
