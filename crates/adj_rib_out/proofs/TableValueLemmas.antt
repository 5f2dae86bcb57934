-- The table's calls that make a written value ready, and that trim values.
use Rattle.std.proofs.Common.{◌≡◌, ◌↔◌, ℕ, ◌+◌, ◌<◌, ◌≤◌, ◌^◌, ◌*◌, List, [], Option, Some, None, Result, Ok, Err}
use Rattle.std.proofs.Common.{false, length, max}
use Rattle.std.proofs.Common.{refl, sym, ap, ap₂, subst, ◌∙◌, inl, inr, arith}
use Rattle.std.specs.Prelude.{IfOk, IsNone, IsSome, OnErr, is_some}
use Rattle.std.proofs.lemmas.Grind.{common_steps}
use Rattle.std.proofs.lemmas.Bool.{false≢true}
use Rattle.linked_pending.specs.Links.{link}
use Rattle.route_values.specs.declared.attrs.Attrs.{Attrs}
use Rattle.route_values.specs.Sent.{sent}
use Rattle.slot_batches.specs.Slots.{Slots}
use Rattle.adj_rib_out.specs.Calls.{Readies, ReadiesSome}
use Rattle.adj_rib_out.specs.Counts.{IsWhole}
use Rattle.adj_rib_out.specs.Kept.{Parts, seen, written_under}
use Rattle.adj_rib_out.specs.Nodes.{nodes}
use Rattle.adj_rib_out.specs.Readied.{ReadiesNone, ReadiesValue}
use Rattle.adj_rib_out.specs.State.{State}
use Rattle.adj_rib_out.specs.Stock.{AddsWireAtMost, Stock}
use Rattle.adj_rib_out.specs.Trimmed.{LosesValues, LosesWires, TrimsValues}
use Rattle.adj_rib_out.proofs.ColumnLemmas.{link_widened}
use Rattle.adj_rib_out.proofs.ReadyValueLemmas as ready
use Rattle.adj_rib_out.proofs.ReadyValueLemmas.{stocked}
use Rattle.adj_rib_out.proofs.RevaluedLemmas.{StaysUsed, nodes_stay, revalued}
use Rattle.adj_rib_out.proofs.TallyLemmas.{uses_small}
use Rattle.adj_rib_out.proofs.TrimValuesLemmas as trim

room_enough : (a b : ℕ) → b ≤ max a b
room_enough a b = grind (arith, common_steps)

module _ (p : Parts) (old : Stock) (noted : List ℕ) (whole : IsWhole (stocked p old) noted old.routes old.uses) where
  -- no count of uses overflows
  pub uses_fit : length p.routes < 2 ^ 63 → length old.seen.written < 2 ^ 63 → (wire : ℕ)
      → link old.uses wire + 1 < 2 ^ 64
  uses_fit routes written wire =
      let most = uses_small old.seen.written p.slots.sents old.uses whole.uses_counted wire in
      let sents = whole.table.sents_length in
      let places = whole.table.routes_length in
      omega arith

  module _ (state : State) (view : seen (stocked p old) ≡ state) (new : Stock) (slots : Slots) (written : Attrs) where
    abbrev later : Parts
    later = record p { values = new.seen; slots = slots }

    -- what is shown of the parts before and behind the call
    abbrev Behind : (State → State → Type 0) → Type 0
    Behind R = R state (seen later)

    moved : (R : State → State → Type 0) (room : ℕ) → slots ≡ record p.slots { room = room }
        → R (seen (stocked p old)) (seen (revalued (stocked p old) new.seen room)) → Behind R
    moved R room is shown = subst (λ (s : State). R s (seen later)) view
        (subst (λ (s : Slots). R (seen (stocked p old)) (seen (record p { values = new.seen; slots = s }))) (sym is)
        shown)

    unchanged : (R : State → State → Type 0) → new ≡ old → slots ≡ p.slots
        → R (seen (stocked p old)) (seen (stocked p old)) → Behind R
    unchanged R same same_slots shown = subst (λ (s : State). R s (seen later)) view
        (subst (λ (q : Parts). R (seen (stocked p old)) (seen q))
        (sym (ap₂ (λ (stock : Stock) (s : Slots). record p { values = stock.seen; slots = s }) same same_slots)) shown)

    whole_moved : (room : ℕ) → slots ≡ record p.slots { room = room }
        → IsWhole (revalued (stocked p old) new.seen room) noted new.routes new.uses
        → IsWhole later noted new.routes new.uses
    whole_moved room is shown = subst (λ (s : Slots). IsWhole (record p { values = new.seen; slots = s }) noted
        new.routes
        new.uses) (sym is) shown

    whole_same : new ≡ old → slots ≡ p.slots → IsWhole later noted new.routes new.uses
    whole_same same same_slots = subst (λ (s : Slots). IsWhole (record p { values = new.seen; slots = s }) noted
        new.routes new.uses) (sym same_slots)
        (subst (λ (s : Stock). IsWhole (stocked p s) noted s.routes s.uses) (sym same) whole)

    abbrev room : ℕ
    room = max p.slots.room (2 * length old.seen.wires + 4)

    roomy : 2 * length old.seen.wires + 4 ≤ room
    roomy = room_enough p.slots.room (2 * length old.seen.wires + 4)

    -- ---- the value stands

    module _ (number : ℕ) where
      pub value_readies : ReadiesValue old new p.slots slots written number
          → Readies state (seen later) [] written number
      value_readies (inl finds) = unchanged (λ s t. Readies s t [] written number) finds.stock finds.room
          (ready.found_readies (stocked p old) whole.table.kept written number finds.stands)
      value_readies (inr stands) = moved (λ s t. Readies s t [] written number) room stands.room
          (ready.readies p old new written number stands.adds whole.table room stands.absent)

      pub value_whole : ReadiesValue old new p.slots slots written number → IsWhole later noted new.routes new.uses
      value_whole (inl finds) = whole_same finds.stock finds.room
      value_whole (inr stands) = whole_moved room stands.room
          (ready.whole_stays p old new written number stands.adds whole.table room noted whole roomy)

      pub value_nodes : ReadiesValue old new p.slots slots written number → nodes (seen later) ≡ nodes state
      value_nodes (inl finds) = unchanged (λ s t. nodes t ≡ nodes s) finds.stock finds.room refl
      value_nodes (inr stands) = moved (λ s t. nodes t ≡ nodes s) room stands.room
          (nodes_stay (stocked p old) new.seen room
          (ready.value_stays p old new written number stands.adds whole.table room))

    -- ---- memory was wanting

    -- wire attributes may stand besides, and no value
    record IsBare : Type 0 where
      pub used : StaysUsed (stocked p old) new.seen
      pub same : new.seen.written ≡ old.seen.written
      pub routes : (v : ℕ) → link new.routes v ≡ link old.routes v
      pub uses : (w : ℕ) → link new.uses w ≡ link old.uses w
      pub most : length new.seen.wires ≤ length old.seen.wires + 1

    is_bare : AddsWireAtMost old new (sent written old.seen.side) → IsBare
    is_bare (inl same) = record {
      used = subst (λ (s : Stock). StaysUsed (stocked p old) s.seen) (sym same)
          (ready.all_stays (stocked p old) whole.table);
      same = ap (λ (s : Stock). s.seen.written) same;
      routes = λ v. ap (λ (s : Stock). link s.routes v) same;
      uses = λ w. ap (λ (s : Stock). link s.uses w) same;
      most = let lengths = ap (λ (s : Stock). length s.seen.wires) same in omega arith;
    }
    is_bare (inr (wire, adds)) = record {
      used = ready.wire_stays p old new (sent written old.seen.side) wire adds whole.table;
      same = ap (λ (s : Stock). s.seen.written) adds.rest;
      routes = λ v. ap (λ (s : Stock). link s.routes v) adds.rest;
      uses = λ w. ap (λ (s : Stock). link s.uses w) adds.rest ∙ link_widened old.uses wire w;
      most = adds.most;
    }

    pub none_readies : ReadiesNone old new p.slots slots written → ReadiesSome state (seen later) []
    none_readies (inl same) = unchanged (λ s t. ReadiesSome s t []) same.0 same.1
        (ready.none_readied (seen (stocked p old)))
    none_readies (inr more) =
        let bare = is_bare more.0 in
        moved (λ s t. ReadiesSome s t []) room more.1 (ready.some_readied p old new bare.used bare.same room)

    pub none_whole : ReadiesNone old new p.slots slots written → IsWhole later noted new.routes new.uses
    none_whole (inl same) = whole_same same.0 same.1
    none_whole (inr more) =
        let bare = is_bare more.0 in
        whole_moved room more.1 (ready.room_whole p old new bare.used bare.same room noted whole bare.routes bare.uses
        bare.most roomy)

    pub none_nodes : ReadiesNone old new p.slots slots written → nodes (seen later) ≡ nodes state
    none_nodes (inl same) = unchanged (λ s t. nodes t ≡ nodes s) same.0 same.1 refl
    none_nodes (inr more) = moved (λ s t. nodes t ≡ nodes s) room more.1
        (nodes_stay (stocked p old) new.seen room (is_bare more.0).used)

    -- ---- as the call answers

    module _ {E : Type 0} where
      pub whole_by : (result : Result ℕ E) → IfOk result (λ n. ReadiesValue old new p.slots slots written n)
          → OnErr result (ReadiesNone old new p.slots slots written) → IsWhole later noted new.routes new.uses
      whole_by (Ok number) ok err = value_whole number ok
      whole_by (Err error) ok err = none_whole err

      pub nodes_by : (result : Result ℕ E) → IfOk result (λ n. ReadiesValue old new p.slots slots written n)
          → OnErr result (ReadiesNone old new p.slots slots written) → nodes (seen later) ≡ nodes state
      nodes_by (Ok number) ok err = value_nodes number ok
      nodes_by (Err error) ok err = none_nodes err

      pub readies_by : (result : Result ℕ E) → IfOk result (λ n. ReadiesValue old new p.slots slots written n)
          → IfOk result (λ n. Readies state (seen later) [] written n)
      readies_by (Ok number) ok = value_readies number ok
      readies_by (Err error) ok = tt

      pub none_by : (result : Result ℕ E) → OnErr result (ReadiesNone old new p.slots slots written)
          → OnErr result (ReadiesSome state (seen later) [])
      none_by (Ok number) err = tt
      none_by (Err error) err = none_readies err

-- ---- trim

pub closed_by : {X P : Type 0} (o : Option X) → is_some o ≡ false → IsNone o ↔ P → P
closed_by None none closed = closed.0 refl
closed_by (Some x) none closed = absurd (false≢true (sym none))

module _ (p : Parts) (old mid : Stock) (noted : List ℕ) (whole : IsWhole (stocked p old) noted old.routes old.uses)
    (state : State) (view : seen (stocked p old) ≡ state) where
  module _ (loses : LosesValues old mid) where
    pub mid_whole : IsWhole (stocked p mid) noted mid.routes mid.uses
    mid_whole = trim.whole_trimmed p old mid whole.table whole.routes_counted loses noted whole

    pub mid_trims : ((value : ℕ) → IsSome (written_under mid.seen value) → 0 < link mid.routes value)
        → TrimsValues state (seen (stocked p mid))
    mid_trims given = subst (λ (s : State). TrimsValues s (seen (stocked p mid))) view
        (trim.trims p old mid whole.table whole.routes_counted loses given)

    pub mid_nodes : nodes (seen (stocked p mid)) ≡ nodes state
    mid_nodes = trim.nodes_trimmed p old mid whole.table whole.routes_counted loses ∙ ap nodes view

    module _ (new : Stock) (closed : p.slots.left ≡ []) (loses_wires : LosesWires mid new) where
      same : seen (stocked p new) ≡ seen (stocked p mid)
      same = trim.seen_same p mid new mid_whole.table mid_whole.uses_counted closed loses_wires

      pub new_whole : IsWhole (stocked p new) noted new.routes new.uses
      new_whole = trim.whole_without_wires p mid new mid_whole.table mid_whole.uses_counted closed loses_wires noted
          mid_whole

      pub new_trims : ((value : ℕ) → IsSome (written_under mid.seen value) → 0 < link mid.routes value)
          → TrimsValues state (seen (stocked p new))
      new_trims given = subst (TrimsValues state) (sym same) (mid_trims given)

      pub new_nodes : nodes (seen (stocked p new)) ≡ nodes state
      new_nodes = ap nodes same ∙ mid_nodes
