-- A written value is added to a stock, behind its wire attributes.
use Rattle.std.proofs.Common.{◌≡◌, ◌==◌, ℕ, ◌+◌, ◌≤◌, Bool, List, cond, Option, Some, None, Result, Ok, Err, length}
use Rattle.std.proofs.Common.{sym, ap, subst, ◌∙◌, inl, inr, arith}
use Rattle.std.specs.Prelude.{IfOk, slice_index_or}
use Rattle.std.proofs.lemmas.Bool.{cases_eq, eq-eqb, ne_eqb}
use Rattle.linked_pending.specs.Links.{link}
use Rattle.linked_pending.specs.Listing.{without}
use Rattle.route_values.specs.declared.attrs.Attrs.{Attrs}
use Rattle.route_values.specs.Sent.{sent}
use Rattle.value_pool.specs.Pool.{noted, with_item}
use Rattle.adj_rib_out.specs.Kept.{wire_under}
use Rattle.adj_rib_out.specs.Stock.{AddsValue, AddsWritten, StandsWire, Stock}
use Rattle.adj_rib_out.proofs.ColumnLemmas.{link_widened, without_noted}

module _ (old mid new : Stock) (written : Attrs) (wire number : ℕ)
    (stands : StandsWire old mid (sent written old.seen.side) wire) (adds : AddsWritten mid new written wire number)
  where
    same_list : mid.seen.written ≡ old.seen.written
    same_list = elim stands.change [
      | inl same ↦ ap (λ (s : Stock). s.seen.written) same
      | inr wires ↦ ap (λ (s : Stock). s.seen.written) wires.rest
    ]

    same_side : mid.seen.side ≡ old.seen.side
    same_side = elim stands.change [
      | inl same ↦ ap (λ (s : Stock). s.seen.side) same
      | inr wires ↦ ap (λ (s : Stock). s.seen.side) wires.rest
    ]

    same_routes : mid.routes ≡ old.routes
    same_routes = elim stands.change [
      | inl same ↦ ap (λ (s : Stock). s.routes) same
      | inr wires ↦ ap (λ (s : Stock). s.routes) wires.rest
    ]

    same_idle : mid.idle_values ≡ old.idle_values
    same_idle = elim stands.change [
      | inl same ↦ ap (λ (s : Stock). s.idle_values) same
      | inr wires ↦ ap (λ (s : Stock). s.idle_values) wires.rest
    ]

    mid_uses : (v : ℕ) → link mid.uses v ≡ link old.uses v
    mid_uses v = elim stands.change [
      | inl same ↦ ap (λ (s : Stock). link s.uses v) same
      | inr wires ↦ ap (λ (s : Stock). link s.uses v) wires.rest ∙ link_widened old.uses wire v
    ]

    mid_idle : without wire mid.idle_wires ≡ without wire old.idle_wires
    mid_idle = elim stands.change [
      | inl same ↦ ap (λ (s : Stock). without wire s.idle_wires) same
      | inr wires ↦ ap (λ (s : Stock). without wire s.idle_wires) wires.rest ∙ without_noted wire old.idle_wires
    ]

    mid_most : length mid.seen.wires ≤ length old.seen.wires + 1
    mid_most = elim stands.change [
      | inl same ↦ let lengths = ap (λ (s : Stock). length s.seen.wires) same in omega arith
      | inr wires ↦ wires.most
    ]

    mid_wires : (v : ℕ) → wire_under mid.seen v
        ≡ cond (v == wire) (Some (sent written old.seen.side)) (wire_under old.seen v)
    mid_wires v = elim stands.change [
      | inl same ↦ elim (cases_eq v wire) [
        | inl here ↦ ap (wire_under mid.seen) here ∙ stands.stands
            ∙ ap (λ (t : Bool). cond t (Some (sent written old.seen.side)) (wire_under old.seen v))
            (sym (eq-eqb v wire here))
        | inr differs ↦ ap (λ (s : Stock). wire_under s.seen v) same
            ∙ ap (λ (t : Bool). cond t (Some (sent written old.seen.side)) (wire_under old.seen v))
            (sym (ne_eqb v wire differs))
      ]
      | inr wires ↦ wires.others v
    ]

    pub added : AddsValue old new written number
    added = record {
      wire = wire;
      kept = adds.kept;
      side = ap (λ (s : Stock). s.seen.side) adds.rest ∙ same_side;
      free = ap (λ (xs : List (Option (Attrs × ℕ))). slice_index_or xs number None) (sym same_list) ∙ adds.free;
      next = subst (λ (xs : List (Option (Attrs × ℕ))). number ≤ length xs) same_list adds.next;
      list = adds.list ∙ ap (λ (xs : List (Option (Attrs × ℕ))). with_item xs number (written, wire)) same_list;
      values = λ n. adds.others n ∙ ap (λ (xs : List (Option (Attrs × ℕ))). cond (n == number) (Some (written, wire))
          (slice_index_or xs n None)) same_list;
      fresh = elim stands.change [
        | inl same ↦ inr (ap (λ (s : Stock). wire_under s.seen wire) (sym same) ∙ stands.stands)
        | inr wires ↦ inl wires.free
      ];
      wires = λ v. ap (λ (s : Stock). wire_under s.seen v) adds.rest ∙ mid_wires v;
      most = subst (λ (n : ℕ). n ≤ length old.seen.wires + 1) (sym (ap (λ (s : Stock). length s.seen.wires) adds.rest))
          mid_most;
      routes = λ v. ap (λ (s : Stock). link s.routes v) adds.rest ∙ link_widened mid.routes number v
          ∙ ap (λ (ns : List ℕ). link ns v) same_routes;
      uses = λ v. adds.counts v ∙ ap (λ (n : ℕ). n + cond (wire == v) 1 0) (mid_uses v);
      idle_values = ap (λ (s : Stock). s.idle_values) adds.rest ∙ ap (noted number) same_idle;
      idle_wires = ap (λ (s : Stock). s.idle_wires) adds.rest ∙ mid_idle;
    }

pub added_if : {E : Type 0} (old mid new : Stock) (written : Attrs) (wire : ℕ)
    → StandsWire old mid (sent written old.seen.side) wire → (result : Result ℕ E)
    → IfOk result (λ number. AddsWritten mid new written wire number)
    → IfOk result (λ number. AddsValue old new written number)
added_if old mid new written wire stands (Ok number) adds = added old mid new written wire number stands adds
added_if old mid new written wire stands (Err error) adds = tt
