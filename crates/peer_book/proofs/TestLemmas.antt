-- What the calls of a slot ask for, as the tests see to it.
use Rattle.std.proofs.Common.{◌≡◌, ℕ, ◌≤◌, Bool, true, false, [], ◌∷◌, Some, refl, subst, arith}
use Rattle.std.specs.Prelude.{◌||◌, if◌then◌else◌}
use Rattle.route_values.specs.declared.attrs.Attrs.{Attrs}
use Rattle.route_values.specs.declared.key.Key.{Key}
use Rattle.route_values.specs.declared.settings.Settings.{Settings}
use Rattle.route_values.specs.Caps.{Caps}
use Rattle.route_values.specs.Key.{family_of_key, same_key}
use Rattle.route_values.specs.Sent.{sent}
use Rattle.route_values.specs.Settings.{side_of}
use Rattle.route_values.proofs.KeyLemmas.{same_key_is}
use Rattle.update_grammar.specs.Packed.{room}
use Rattle.batch_cutter.specs.Heads.{IsRoute}
use Rattle.adj_rib_out.specs.Calls.{Readies}
use Rattle.adj_rib_out.specs.State.{State}
use Rattle.peer_book.specs.Slot.{Slot}
use Rattle.peer_book.specs.Tables.{CanAnnounce}
use Rattle.peer_book.proofs.StaticsLemmas.{key_ready, ready_value}

-- a buffer with this room takes each message
pub room_fits : (caps : Caps) (most : ℕ) → 65535 ≤ most → room caps ≤ most
room_fits caps most wide = by_length caps.extended
  where
    by_length : (long : Bool) → (if long then 65535 else 4096) ≤ most
    by_length true = wide
    by_length false = omega (arith, wide)

-- a key that was made ready with a value of its family may be announced
pub can_announce : (old : State) (slot : Slot) (own : Settings) (key : Key) (written : Attrs) (number : ℕ)
    → slot.settings ≡ Some own → Readies old slot.table (key ∷ []) written number
    → IsRoute (family_of_key key) (sent written (side_of own)) → CanAnnounce slot (key ∷ []) number
can_announce old slot own key written number placed ready fits = record {
  own = own;
  written = written;
  placed = placed;
  value = ready_value old slot.table (key ∷ []) written number ready;
  ready = key_ready old slot.table key written number ready;
  routes = λ other named. by_same other (same_key key other) refl named;
}
  where
    by_same : (other : Key) (b : Bool) → same_key key other ≡ b → (b || false) ≡ true
        → IsRoute (family_of_key other) (sent written (side_of own))
    by_same other true same there =
        subst (λ (k : Key). IsRoute (family_of_key k) (sent written (side_of own))) (same_key_is key other same) fits
    by_same other false differs there = absurd (let no_way : false ≡ true = there in cc)
