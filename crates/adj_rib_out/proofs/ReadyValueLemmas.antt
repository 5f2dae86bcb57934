-- A written value stands ready in a table, with wire attributes that stood or that are new.
use Rattle.std.proofs.Common.{◌≡◌, ◌≢◌, ◌==◌, ℕ, ◌+◌, ◌*◌, ◌≤◌, Bool, true, false, List, [], cond}
use Rattle.std.proofs.Common.{Option, Some, None, length, refl, sym, ap, subst, ◌∙◌, inl, inr, arith}
use Rattle.std.specs.Prelude.{slice_index_or}
use Rattle.std.specs.Option.{option_map}
use Rattle.std.specs.List.{sum_by}
use Rattle.std.proofs.lemmas.Bool.{cases_eq, eqb-true}
use Rattle.linked_pending.specs.Links.{link}
use Rattle.route_values.specs.declared.attrs.Attrs.{Attrs}
use Rattle.route_values.specs.declared.attrs.WireAttrs.{WireAttrs}
use Rattle.route_values.specs.Sent.{sent}
use Rattle.adj_rib_out.specs.State.{State, is_ready, value_at}
use Rattle.adj_rib_out.specs.Calls.{Readies, ReadiesSome}
use Rattle.adj_rib_out.specs.Counts.{with_wire, for_wire, UsesCounted, IsWhole}
use Rattle.adj_rib_out.specs.Kept.{Parts, AreKept, IsTable, seen, wire_under, written_under}
use Rattle.adj_rib_out.specs.Stock.{Stock, AddsValue, AddsWire, value_under}
use Rattle.adj_rib_out.proofs.KeptLemmas.{elsewhere, at_number, stays, kept_with_wire}
use Rattle.adj_rib_out.proofs.PartLemmas.{value_seen}
use Rattle.adj_rib_out.proofs.RevaluedLemmas.{StaysUsed, revalued, seen_stays, routes_stay, session_stays, batch_stays}
use Rattle.adj_rib_out.proofs.RevaluedLemmas.{table_stays}
use Rattle.adj_rib_out.proofs.RowLemmas.{none_some, some_is}
use Rattle.adj_rib_out.proofs.StayLemmas.{more_stays}
use Rattle.adj_rib_out.proofs.UseLemmas.{sum_with}

-- a table with the values of a stock
abbrev pub stocked : Parts → Stock → Parts
stocked p stock = record p { values = stock.seen }

abbrev text : Option (Attrs × ℕ) → Option Attrs
text value = option_map (λ (v : Attrs × ℕ). v.0) value

-- ---- a value that stands ready already

module _ (p : Parts) (kept : AreKept p.values) (written : Attrs) (number : ℕ)
    (here : value_under p.values number ≡ Some written) where
  at_value : value_at (seen p) number ≡ Some written
  at_value = value_seen p number ∙ here

  once : (o q : Option (Attrs × ℕ)) (n : ℕ) → written_under p.values number ≡ o → written_under p.values n ≡ q
      → text o ≡ Some written → text q ≡ Some written → number ≡ n
  once None q n is other_is same other = absurd (none_some same)
  once (Some v) None n is other_is same other = absurd (none_some other)
  once (Some v) (Some u) n is other_is same other = kept.written_once number n v.1 u.1 written
      (is ∙ ap (λ (a : Attrs). Some (a, v.1)) (some_is same)) (other_is ∙ ap (λ (a : Attrs). Some (a, u.1))
      (some_is other))

  pub found_readies : Readies (seen p) (seen p) [] written number
  found_readies = record {
    keys = λ key. refl;
    value = λ n. elim (n == number) as (λ (t : Bool). (n == number) ≡ t
        → value_at (seen p) n ≡ cond t (Some written) (value_at (seen p) n)) [
          | true ↦ λ same. ap (value_at (seen p)) (eqb-true n number same) ∙ at_value
          | false ↦ λ differs. refl
        ] refl;
    fresh = inr at_value;
    found = λ n is. once (written_under p.values number) (written_under p.values n) n refl refl here
        (sym (value_seen p n) ∙ is);
    routes = record { side = refl; routes = λ key. refl };
    session = record { session = refl; told = λ key. refl };
    batch = record { left = refl; markers = refl };
  }

-- ---- nothing new

pub none_readied : (state : State) → ReadiesSome state state []
none_readied state = record {
  kept = λ key is. is;
  named = λ key is. is;
  values = λ number written is. is;
  routes = record { side = refl; routes = λ key. refl };
  session = record { session = refl; told = λ key. refl };
  batch = record { left = refl; markers = refl };
}

-- ---- a value more

module _ (p : Parts) (old new : Stock) (written : Attrs) (number : ℕ) (adds : AddsValue old new written number) where
  attrs_stay : (w : ℕ) (attrs : WireAttrs) → wire_under old.seen w ≡ Some attrs → wire_under new.seen w ≡ Some attrs
  attrs_stay w attrs is = elim (cases_eq w adds.wire) [
    | inl same ↦ ap (wire_under new.seen) same
        ∙ at_number (wire_under old.seen) (wire_under new.seen) adds.wire (Some (sent written old.seen.side)) adds.wires
        ∙ elim adds.fresh [
          | inl none ↦ absurd (none_some (sym none ∙ ap (wire_under old.seen) (sym same) ∙ is))
          | inr stood ↦ sym stood ∙ ap (wire_under old.seen) (sym same) ∙ is
        ]
    | inr differs ↦ elsewhere (wire_under old.seen) (wire_under new.seen) adds.wire (Some (sent written old.seen.side))
        adds.wires w differs ∙ is
  ]

  module _ (table : IsTable (stocked p old)) (room : ℕ) where
    pub value_stays : StaysUsed (stocked p old) new.seen
    value_stays = more_stays (stocked p old) table new.seen adds.kept adds.side
        (stays (written_under old.seen) (written_under new.seen) number (written, adds.wire) adds.values adds.free)
        attrs_stay

    abbrev later : Parts
    later = revalued (stocked p old) new.seen room

    pub readies : ((n : ℕ) → value_under old.seen n ≢ Some written)
        → Readies (seen (stocked p old)) (seen later) [] written number
    readies absent = record {
      keys = λ key. ap (λ (s : State). is_ready s key) (seen_stays (stocked p old) new.seen room value_stays);
      value = λ n. value_seen later n ∙ ap text (adds.values n)
          ∙ elim (n == number) as (λ (t : Bool). text (cond t (Some (written, adds.wire)) (written_under old.seen n))
          ≡ cond t (Some written) (value_at (seen (stocked p old)) n)) [
            | true ↦ refl
            | false ↦ sym (value_seen (stocked p old) n)
          ];
      fresh = inl (value_seen (stocked p old) number ∙ ap text adds.free);
      found = λ n is. absurd (absent n (sym (value_seen (stocked p old) n) ∙ is));
      routes = routes_stay (stocked p old) new.seen room value_stays;
      session = session_stays (stocked p old) new.seen room value_stays;
      batch = batch_stays (stocked p old) new.seen room value_stays;
    }

    pub uses_stay : UsesCounted old.seen.written p.slots.sents old.uses
        → UsesCounted new.seen.written p.slots.sents new.uses
    uses_stay counted w =
        let was = counted w in
        let one = adds.uses w in
        let whole = ap (sum_by (with_wire w)) adds.list
        ∙ sum_with (with_wire w) refl old.seen.written number (written, adds.wire) adds.free in
        omega arith

    pub whole_stays : (noted : List ℕ) → IsWhole (stocked p old) noted old.routes old.uses
        → 2 * length old.seen.wires + 4 ≤ room → IsWhole later noted new.routes new.uses
    whole_stays noted whole roomy = record {
      table = table_stays (stocked p old) new.seen room value_stays table
          (λ place key here. let most = adds.most in omega arith);
      keys = whole.keys;
      routes_counted = λ v. adds.routes v ∙ whole.routes_counted v;
      uses_counted = uses_stay whole.uses_counted;
    }

-- ---- no value more

module _ (p : Parts) (old new : Stock) (used : StaysUsed (stocked p old) new.seen)
    (same : new.seen.written ≡ old.seen.written) (room : ℕ) where
  abbrev with_room : Parts
  with_room = revalued (stocked p old) new.seen room

  pub some_readied : ReadiesSome (seen (stocked p old)) (seen with_room) []
  some_readied = record {
    kept = λ key is. ap (λ (s : State). is_ready s key) (seen_stays (stocked p old) new.seen room used) ∙ is;
    named = λ key is. ap (λ (s : State). is_ready s key) (sym (seen_stays (stocked p old) new.seen room used)) ∙ is;
    values = λ n written is. value_seen with_room n
        ∙ ap (λ (xs : List (Option (Attrs × ℕ))). text (slice_index_or xs n None)) same
        ∙ sym (value_seen (stocked p old) n) ∙ is;
    routes = routes_stay (stocked p old) new.seen room used;
    session = session_stays (stocked p old) new.seen room used;
    batch = batch_stays (stocked p old) new.seen room used;
  }

  pub room_whole : (noted : List ℕ) → IsWhole (stocked p old) noted old.routes old.uses
      → ((v : ℕ) → link new.routes v ≡ link old.routes v) → ((w : ℕ) → link new.uses w ≡ link old.uses w)
      → length new.seen.wires ≤ length old.seen.wires + 1 → 2 * length old.seen.wires + 4 ≤ room
      → IsWhole with_room noted new.routes new.uses
  room_whole noted whole routes uses most roomy = record {
    table = table_stays (stocked p old) new.seen room used whole.table (λ place key here. omega arith);
    keys = whole.keys;
    routes_counted = λ v. routes v ∙ whole.routes_counted v;
    uses_counted = λ w. uses w ∙ whole.uses_counted w
        ∙ ap (λ (xs : List (Option (Attrs × ℕ))). sum_by (with_wire w) xs + sum_by (for_wire w) p.slots.sents)
        (sym same);
  }

-- wire attributes may stand besides
pub wire_stays : (p : Parts) (old new : Stock) (attrs : WireAttrs) (wire : ℕ) → AddsWire old new attrs wire
    → IsTable (stocked p old) → StaysUsed (stocked p old) new.seen
wire_stays p old new attrs wire adds table =
    let kept : AreKept new.seen = subst AreKept (sym (ap (λ (s : Stock). s.seen) adds.rest))
    (kept_with_wire old.seen table.kept new.seen.wires attrs wire adds.absent adds.free adds.others) in
    more_stays (stocked p old) table new.seen kept (ap (λ (s : Stock). s.seen.side) adds.rest)
    (λ n value is. ap (λ (s : Stock). written_under s.seen n) adds.rest ∙ is)
    (stays (wire_under old.seen) (wire_under new.seen) wire attrs adds.others adds.free)

pub all_stays : (p : Parts) → IsTable p → StaysUsed p p.values
all_stays p table = more_stays p table p.values table.kept refl (λ n value is. is) (λ w attrs is. is)
