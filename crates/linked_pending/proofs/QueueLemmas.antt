-- Chains of groups beside a table of groups, after a node has joined, has left, and where the table has grown.
use Rattle.std.proofs.Common.{◌≡◌, ℕ, ◌+◌, ◌*◌, ◌%◌, ◌<◌, ◌≤◌, ◌^◌, true, false, List, [], ◌∷◌, length, set, eqb, refl}
use Rattle.std.proofs.Common.{sym, ap, ◌∙◌, subst, arith}
use Rattle.std.proofs.lemmas.Grind.{common_steps}
use Rattle.std.proofs.lemmas.Bool.{eqb-true, eq-eqb, ne_eqb}
use Rattle.linked_pending.specs.Listing.{Listing, has, AreApart, without, put_before, before_from}
use Rattle.linked_pending.specs.Links.{link}
use Rattle.linked_pending.specs.Group.{Group, with_node, without_node, nodes_of}
use Rattle.linked_pending.specs.Layout.{node_place, end_place, flat, opened, parse, has_group, has_node, AreFull}
use Rattle.linked_pending.specs.Layout.{AreMembers}
use Rattle.linked_pending.specs.Pending.{Queues, IsQueue, AreQueues}
use Rattle.linked_pending.proofs.GrowthLemmas.{IsGrown}
use Rattle.linked_pending.proofs.GroupLemmas.{has_group-with_node, has_node-with_node, full-with_node}
use Rattle.linked_pending.proofs.GroupLemmas.{members-with_node, apart-with_node, has_group_before}
use Rattle.linked_pending.proofs.GroupLemmas.{has_node-without_node, full-without_node, members-without_node}
use Rattle.linked_pending.proofs.GroupLemmas.{apart-without_node, group_of_there, members_set, without_node_absent}
use Rattle.linked_pending.proofs.LayoutLemmas.{parse-flat, has_end, has_place, flat-with_node, opened_there}
use Rattle.linked_pending.proofs.LayoutLemmas.{opened_absent}
use Rattle.linked_pending.proofs.LeavingLemmas.{is_empty_at, drop_node, even_before, flat-drop_node}
use Rattle.linked_pending.proofs.LeavingLemmas.{has_group-drop_node, drop_node_kept, drop_node_gone}

-- the two lists of groups, with this room
abbrev pub queues : ℕ → List Group → List Group → Queues
queues room waiting frozen = record { room = room; waiting = waiting; frozen = frozen }

-- a chain that is a list of these groups, which the table gives
pub record IsStored (table : List ℕ) (chain : Listing) (groups : List Group) : Type 0 where
  pub queue : IsQueue table chain
  pub items : parse chain.items ≡ groups

pub stored : (table : List ℕ) (chain : Listing) (groups : List Group) → chain.items ≡ flat groups
    → ((number : ℕ) → number < length table → 2 * number + 2 < chain.room) → AreFull groups → AreApart (nodes_of groups)
    → AreMembers table groups → ((number : ℕ) → has_group number groups ≡ true → number < length table)
    → ((node : ℕ) → has_node node groups ≡ true → node < length table) → IsStored table chain groups
stored table chain groups are_flat room full apart members groups_in nodes_in =
    let items_are : parse chain.items ≡ groups = ap parse are_flat ∙ parse-flat groups in
    let back : groups ≡ parse chain.items = sym items_are in
    record {
      items = items_are;
      queue = record {
        room = room;
        is_flat = are_flat ∙ ap flat back;
        full = subst AreFull back full;
        apart = subst (λ these. AreApart (nodes_of these)) back apart;
        members = subst (AreMembers table) back members;
        groups_in = subst (λ these. (number : ℕ) → has_group number these ≡ true → number < length table) back
            groups_in;
        nodes_in = subst (λ these. (node : ℕ) → has_node node these ≡ true → node < length table) back nodes_in;
      };
    }

module _ (table : List ℕ) (chain : Listing) (queue : IsQueue table chain) (node : ℕ)
    (node_in : node < length table) where
  pub node_listed : (other : ℕ) → has (2 * other + 1) chain.items ≡ has_node other (parse chain.items)
  node_listed other = ap (has (node_place other)) queue.is_flat ∙ has_place other (parse chain.items)

  -- the node isn't in the chain, and its group's end is there or was put behind all others
  module _ (absent : has_node node (parse chain.items) ≡ false) (number_in : link table node < length table)
      (mid : Listing) (mid_is : mid ≡ record chain { items = opened (2 * link table node + 2) chain.items }) where
    pub end_opened : has (2 * link table node + 2) mid.items ≡ true
    end_opened = ap (λ (listing : Listing). has (end_place (link table node)) listing.items) mid_is
        ∙ opened_there (end_place (link table node)) chain.items

    pub node_off : has (2 * node + 1) mid.items ≡ false
    node_off =
        ap (λ (listing : Listing). has (node_place node) listing.items) mid_is
        ∙ opened_absent (end_place (link table node)) (node_place node) chain.items (λ same. absurd (omega arith))
        (node_listed node ∙ absent)

    pub joined : (new : Listing) → new ≡ record mid {
      items =
          put_before (2 * link table node + 2) (2 * node + 1) mid.items;
    }
        → IsStored table new (with_node (link table node) node (parse chain.items))
    joined new new_is =
        let items_are : new.items ≡ put_before (end_place (link table node)) (node_place node)
        (opened (end_place (link table node)) chain.items) =
        ap (λ (listing : Listing). listing.items) new_is ∙ ap
        (λ (listing : Listing). put_before (end_place (link table node)) (node_place node) listing.items) mid_is in
        let room_is : new.room ≡ chain.room = ap (λ (listing : Listing). listing.room) new_is
        ∙ ap (λ (listing : Listing). listing.room) mid_is in
        stored table new _
        (items_are ∙ ap (λ places. put_before (end_place (link table node)) (node_place node)
        (opened (end_place (link table node)) places)) queue.is_flat
        ∙ flat-with_node (link table node) node (parse chain.items))
        (λ number inside. subst (λ room. 2 * number + 2 < room) (sym room_is) (queue.room number inside))
        (full-with_node (link table node) node _ queue.full)
        (apart-with_node (link table node) node _ queue.apart absent)
        (members-with_node table (link table node) node _ refl queue.members)
        (λ number there. grind (
          arith,
          common_steps,
          has_group-with_node number (link table node) node
              (parse chain.items),
          queue.groups_in number,
          eqb-true number (link table node),
        ))
        (λ other there. grind (
          arith,
          common_steps,
          has_node-with_node other (link table node) node (parse chain.items),
          queue.nodes_in other,
          eqb-true other node,
        ))

  pub left_absent : has (2 * node + 1) chain.items ≡ false → parse chain.items ≡ without_node node (parse chain.items)
  left_absent absent = sym (without_node_absent node _ queue.full (sym (node_listed node) ∙ absent))

  left_stored : (new : Listing) → new.room ≡ chain.room → new.items ≡ flat (without_node node (parse chain.items))
      → IsStored table new (without_node node (parse chain.items))
  left_stored new room_is are_flat =
      stored table new _ are_flat
      (λ number inside. subst (λ room. 2 * number + 2 < room) (sym room_is) (queue.room number inside))
      (full-without_node node _ queue.full)
      (apart-without_node node (parse chain.items) queue.apart)
      (members-without_node table node _ queue.members)
      (λ number there. queue.groups_in number (has_group_before number node _ there))
      (λ other there. queue.nodes_in other (grind (
        arith,
        common_steps,
        has_node-without_node other node (parse chain.items),
      )))

  -- the node was in the chain, and has been taken out
  module _ (there : has (2 * node + 1) chain.items ≡ true) (mid : Listing)
      (mid_is : mid ≡ record chain { items = without (2 * node + 1) chain.items }) where
    mid_flat : mid.items ≡ flat (drop_node node (parse chain.items))
    mid_flat = ap (λ (listing : Listing). listing.items) mid_is ∙ ap (without (node_place node)) queue.is_flat
        ∙ flat-drop_node node (parse chain.items)

    group_found : has_group (link table node) (parse chain.items) ≡ true
    group_found = group_of_there table node _ queue.members (sym (node_listed node) ∙ there)

    pub end_there : has (2 * link table node + 2) mid.items ≡ true
    end_there = ap (has (end_place (link table node))) mid_flat ∙ has_end (link table node) _
        ∙ has_group-drop_node (link table node) node _ ∙ group_found

    pub group_in : link table node < length table
    group_in = queue.groups_in _ group_found

    pub end_in : 2 * link table node + 2 < mid.room
    end_in = subst (λ room. 2 * link table node + 2 < room) (sym (ap (λ (listing : Listing). listing.room) mid_is))
        (queue.room _ group_in)

    even_is : eqb (before_from 0 (2 * link table node + 2) mid.items % 2) 0
        ≡ is_empty_at (link table node) (drop_node node (parse chain.items))
    even_is =
        ap (λ places. eqb (before_from 0 (end_place (link table node)) places % 2) 0) mid_flat
        ∙ even_before 0 (link table node) _ refl (has_group-drop_node (link table node) node _ ∙ group_found)

    pub left_empty : (new : Listing) → before_from 0 (2 * link table node + 2) mid.items % 2 ≡ 0
        → new ≡ record mid { items = without (2 * link table node + 2) mid.items }
        → IsStored table new (without_node node (parse chain.items))
    left_empty new even new_is =
        left_stored new (ap (λ (listing : Listing). listing.room) new_is
        ∙ ap (λ (listing : Listing). listing.room) mid_is)
        (ap (λ (listing : Listing). listing.items) new_is ∙ ap (without (end_place (link table node))) mid_flat
        ∙ drop_node_gone table node _ queue.full queue.members group_found (sym even_is ∙ eq-eqb _ _ even))

    pub left_some : (before_from 0 (2 * link table node + 2) mid.items % 2 ≡ 0 → ⊥)
        → IsStored table mid (without_node node (parse chain.items))
    left_some odd =
        left_stored mid (ap (λ (listing : Listing). listing.room) mid_is)
        (mid_flat ∙ ap flat (drop_node_kept table node _ queue.full queue.members (sym even_is ∙ ne_eqb _ _ odd)))

-- a chain without the node, where the table gives the node another group
pub queue_set : (table : List ℕ) (chain : Listing) (node number : ℕ) → IsQueue table chain
    → has_node node (parse chain.items) ≡ false → IsQueue (set table node number) chain
queue_set table chain node number queue absent = record {
  room = λ other inside. queue.room other (grind (arith, common_steps));
  is_flat = queue.is_flat;
  full = queue.full;
  apart = queue.apart;
  members = members_set table node number _ absent queue.members;
  groups_in = λ other there. grind (arith, common_steps, queue.groups_in other);
  nodes_in = λ other there. grind (arith, common_steps, queue.nodes_in other);
}

pub queues_joined : (table : List ℕ) (waiting frozen new : Listing) (node number : ℕ) → AreQueues table waiting frozen
    → has_node node (parse frozen.items) ≡ false → IsQueue (set table node number) new → (groups : List Group)
    → groups ≡ parse waiting.items → parse new.items ≡ with_node number node groups
    → AreQueues (set table node number) new frozen
queues_joined table waiting frozen new node number queues absent queue groups groups_are new_are = record {
  fits = grind (arith, common_steps, queues.fits);
  first = queue;
  second = queue_set table frozen node number queues.second absent;
  once = λ other there. grind (
    arith,
    common_steps,
    queues.once other,
    has_node-with_node other number node groups,
    eqb-true other node,
  );
}

pub queues_left : (table : List ℕ) (waiting frozen new_waiting new_frozen : Listing) (node : ℕ)
    → AreQueues table waiting frozen → IsQueue table new_waiting → IsQueue table new_frozen
    → parse new_waiting.items ≡ without_node node (parse waiting.items)
    → parse new_frozen.items ≡ without_node node (parse frozen.items) → AreQueues table new_waiting new_frozen
queues_left table waiting frozen new_waiting new_frozen node queues first second waiting_are frozen_are = record {
  fits = queues.fits;
  first = first;
  second = second;
  once = λ other there. grind (
    arith,
    common_steps,
    queues.once other,
    has_node-without_node other node (parse waiting.items),
    has_node-without_node other node (parse frozen.items),
  );
}

-- the table and the chain have grown
members_grown : (table new : List ℕ) (groups : List Group) → ((place : ℕ) → place < length table
    → link new place ≡ link table place) → ((node : ℕ) → has_node node groups ≡ true → node < length table)
    → AreMembers table groups → AreMembers new groups
members_grown table new [] kept within members = tt
members_grown table new (first ∷ rest) kept within members = (
  λ node there. kept node (within node (grind (arith, common_steps))) ∙ members.0 node there,
  members_grown table new rest kept (λ node there. within node (grind (arith, common_steps))) members.1,
)

queue_grown : (table new : List ℕ) (chain more : Listing) (room : ℕ) → IsQueue table chain → more.items ≡ chain.items
    → length table ≤ room → 2 * room + 1 ≤ more.room → IsGrown table new room → IsQueue new more
queue_grown table new chain more room queue same_items grows space grown =
    let groups_are : parse chain.items ≡ parse more.items = ap parse (sym same_items) in
    let len = grown.length_is in
    record {
      room = λ number inside. omega arith;
      is_flat = same_items ∙ queue.is_flat ∙ ap flat groups_are;
      full = subst AreFull groups_are queue.full;
      apart = subst (λ groups. AreApart (nodes_of groups)) groups_are queue.apart;
      members = subst (AreMembers new) groups_are (members_grown table new _ grown.kept queue.nodes_in queue.members);
      groups_in = λ number there. let bound = queue.groups_in number (ap (has_group number) groups_are ∙ there) in
          omega arith;
      nodes_in = λ node there. let bound = queue.nodes_in node (ap (has_node node) groups_are ∙ there) in omega arith;
    }

pub queues_grown : (table new : List ℕ) (waiting frozen more_waiting more_frozen : Listing) (room : ℕ)
    → AreQueues table waiting frozen → more_waiting.items ≡ waiting.items → more_frozen.items ≡ frozen.items
    → length table ≤ room → 2 * room < 2 ^ 32 → 2 * room + 1 ≤ more_waiting.room → 2 * room + 1 ≤ more_frozen.room
    → IsGrown table new room → AreQueues new more_waiting more_frozen
queues_grown table new waiting frozen more_waiting more_frozen room queues same_waiting same_frozen grows fits
    space_waiting space_frozen grown =
    let len = grown.length_is in
    record {
      fits = omega arith;
      first = queue_grown table new waiting more_waiting room queues.first same_waiting grows space_waiting grown;
      second = queue_grown table new frozen more_frozen room queues.second same_frozen grows space_frozen grown;
      once = λ node there. ap (λ places. has_node node (parse places)) same_frozen
          ∙ queues.once node (ap (λ places. has_node node (parse places)) (sym same_waiting) ∙ there);
    }

-- a node past the table is in no group
pub absent_above : (table : List ℕ) (chain : Listing) (node : ℕ) → IsQueue table chain → length table ≤ node
    → has_node node (parse chain.items) ≡ false
absent_above table chain node queue above =
    elim (has_node node (parse chain.items)) as (λ test. has_node node (parse chain.items) ≡ test → test ≡ false) [
      | true ↦ λ there. let inside = queue.nodes_in node there in absurd (omega arith)
      | false ↦ λ absent. refl
    ] refl
