-- A route of the table is shown by what two pools have under its numbers.
use Rattle.std.proofs.Common.{◌≡◌, ℕ, List, Option, Some, None, refl, sym, ap, ap₂, ◌∙◌}
use Rattle.std.specs.Prelude.{slice_index_or}
use Rattle.std.specs.Option.{option_map}
use Rattle.pooled_attrs.specs.declared.wire.Wire.{Wire}
use Rattle.pooled_attrs.specs.declared.written.Written.{Written}
use Rattle.route_values.specs.declared.attrs.Attrs.{Attrs}
use Rattle.route_values.specs.declared.attrs.WireAttrs.{WireAttrs}
use Rattle.route_values.specs.declared.settings.Side.{Side}
use Rattle.route_values.specs.Sent.{sent}
use Rattle.value_pool.specs.Pool.{item_at}
use Rattle.adj_rib_out.specs.declared.entry.Owner.{Owner}
use Rattle.adj_rib_out.specs.Kept.{AreKept, chosen_of, route_in, values_of}
use Rattle.adj_rib_out.specs.State.{route_of}
use Rattle.adj_rib_out.specs.Stock.{wires_in, written_in}
use Rattle.adj_rib_out.proofs.PooledLemmas.{attrs_of_item, tagged, value_of_item, wire_at, written_at}
use Rattle.adj_rib_out.proofs.RowLemmas.{none_some, some_is}

first_of : (o : Option (Written × ℕ)) (v : Written) (value : Attrs × ℕ)
    → option_map (λ (item : Written × ℕ). item.0) o ≡ Some v → option_map value_of_item o ≡ Some value
    → v.attrs ≡ value.0
first_of None v value is shows = absurd (none_some is)
first_of (Some item) v value is shows = ap (λ (w : Written). w.attrs) (sym (some_is is))
    ∙ ap (λ (u : Attrs × ℕ). u.0) (some_is shows)

wire_of : (o : Option (Wire × ℕ)) → option_map attrs_of_item o
    ≡ option_map (λ (w : Wire). w.attrs) (option_map (λ (item : Wire × ℕ). item.0) o)
wire_of None = refl
wire_of (Some item) = refl

module _ (side : Side) (written : List (Option (Written × ℕ))) (wires : List (Option (Wire × ℕ)))
    (kept : AreKept (values_of side (written_in written) (wires_in wires))) (n wire : ℕ)
    (tag : option_map (λ (item : Written × ℕ). item.1) (item_at written n) ≡ Some wire) where
  abbrev text : Attrs
  text = (tagged written n wire tag).0

  here : slice_index_or (written_in written) n None ≡ Some (text, wire)
  here = (tagged written n wire tag).1

  wired : option_map (λ (w : Wire). w.attrs) (option_map (λ (item : Wire × ℕ). item.0) (item_at wires wire))
      ≡ Some (sent text side)
  wired = sym (wire_of (item_at wires wire)) ∙ sym (wire_at wires wire) ∙ kept.wired n wire text here

  -- its wire attributes stand
  pub not_missing : None ≡ option_map (λ (item : Wire × ℕ). item.0) (item_at wires wire) → ⊥
  not_missing none = none_some (ap (option_map (λ (w : Wire). w.attrs)) none ∙ wired)

  pub entry_shown : (v : Written) (w : Wire) (owner : Owner)
      → Some v ≡ option_map (λ (item : Written × ℕ). item.0) (item_at written n)
      → Some w ≡ option_map (λ (item : Wire × ℕ). item.0) (item_at wires wire)
      → Some (record { written = v.attrs; attrs = w.attrs; owner = owner })
      ≡ route_in (values_of side (written_in written) (wires_in wires)) (Some (chosen_of n owner))
  entry_shown v w owner value_is wire_is =
      ap₂ (λ (a : Attrs) (b : WireAttrs). Some (record { written = a; attrs = b; owner = owner }))
      (first_of (item_at written n) v (text, wire) (sym value_is) (sym (written_at written n) ∙ here))
      (some_is (ap (option_map (λ (u : Wire). u.attrs)) wire_is ∙ wired))
      ∙ sym (ap (option_map (λ (value : Attrs × ℕ). route_of side value.0 owner)) here)
