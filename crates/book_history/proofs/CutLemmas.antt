-- Messages that may be cut: what is left is looked up by tests that compute.
use Rattle.std.proofs.Common.{◌≡◌, ℕ, ◌<◌, ◌≤◌, Bool, true, false, List, [], ◌∷◌, length, Some, None, refl, arith, inl}
use Rattle.std.specs.Prelude.{◌^◌, ◌↔◌, Option, IfSome, IsTrue}
use Rattle.route_values.specs.declared.addr.Family.TheVariants.{Ipv4, Ipv6}
use Rattle.route_values.specs.declared.attrs.Attrs.{Attrs}
use Rattle.route_values.specs.declared.attrs.Hop.{Hop}
use Rattle.route_values.specs.declared.key.Key.{Key}
use Rattle.route_values.specs.Attrs.{unwritten}
use Rattle.route_values.specs.Caps.{Caps}
use Rattle.route_values.specs.Sent.{hop_sent}
use Rattle.route_values.specs.Settings.{side_of}
use Rattle.update_grammar.specs.Head as head
use Rattle.update_grammar.specs.Laws.{HereIsSpelled, EndIsSpelled}
use Rattle.update_grammar.specs.Packed.{IsPackedBehind}
use Rattle.update_grammar.specs.Values.{IsNumber}
use Rattle.update_grammar.specs.Written.{IsHop, IsSendable, IsCarried}
use Rattle.peer_history.specs.Batches.{first_cut, batch, is_left, is_marker_left, NoKeyLeft, NothingLeft}
use Rattle.peer_history.specs.Cuts.{MayCut}
use Rattle.peer_history.specs.Messages.{said, said_each}
use Rattle.peer_history.specs.Steps.{Step}
use Rattle.peer_history.specs.Steps.Step.{Cut}
use Rattle.peer_history.specs.Steps.Answer.{Message}
use Rattle.peer_history.specs.Table.{view}
use Rattle.peer_history.proofs.MessageLemmas.{Grammar}
use Rattle.book_history.specs.Samples.{settings, first, second, with_med, bare, wire, only_ipv4, here, marker}
use Rattle.book_history.specs.ReloadExamples.{own}

-- what the grammar's laws give
pub record Texts : Type 0 where
  pub grammar : Grammar
  pub here : HereIsSpelled Ipv4
  pub end : EndIsSpelled Ipv4

-- attributes of which a next hop and perhaps a MED are written have a text
sendable_of : (hop : Hop) (med : Option ℕ) → IsHop Ipv4 (hop_sent hop (side_of (settings 2))) → IfSome med IsNumber
    → IsSendable Ipv4 (wire (record (unwritten hop) { med = med }))
sendable_of hop med is_hop small = record {
  hop = is_hop;
  path = (record { filled = omega arith; short = omega arith; numbers = (omega arith, tt) }, tt);
  med = small;
  local_pref = tt;
  aggregator = tt;
  communities = tt;
  originator = tt;
  clusters = tt;
  extended = tt;
  large = tt;
}

pub med_sendable : (med : ℕ) → med < 2 ^ 32 → IsSendable Ipv4 (wire (with_med med))
med_sendable med small = sendable_of bare.hop (Some med) (record { of_family = refl; fits = omega arith }) small

pub bare_sendable : IsSendable Ipv4 (wire bare)
bare_sendable = sendable_of bare.hop None (record { of_family = refl; fits = omega arith }) tt

pub own_sendable : IsSendable Ipv4 (wire own)
own_sendable = sendable_of own.hop None (record { of_family = refl; fits = omega arith }) tt

pub first_carried : IsCarried only_ipv4 Ipv4 first
first_carried = record {
  of_family = refl;
  visible = (refl, inl refl);
  prefix = record { fits = omega arith; short = omega arith; zeros = refl };
  id = omega arith;
}

pub second_carried : IsCarried only_ipv4 Ipv4 second
second_carried = record {
  of_family = refl;
  visible = (refl, inl refl);
  prefix = record { fits = omega arith; short = omega arith; zeros = refl };
  id = omega arith;
}

-- a message of 54 bytes or fewer, by what its length computes to
pub is_short : (n m : ℕ) → n ≡ m → m ≤ 54 → n ≤ 4096
is_short n m e h = omega (arith, e, h)

-- something is left
pub marker_stays : (caps : Caps) (steps : List Step) → is_marker_left caps steps Ipv4 ≡ true
    → IsTrue false ↔ NothingLeft caps steps
marker_stays caps steps left = (λ e. cc, λ none. let no = none.markers Ipv4 in cc)

pub key_stays : (caps : Caps) (steps : List Step) (key : Key) → is_left caps steps key ≡ true
    → IsTrue false ↔ NothingLeft caps steps
key_stays caps steps key left = (λ e. cc, λ none. let no = none.keys key in cc)

-- nothing is left
pub none_stays : (caps : Caps) (steps : List Step) → NoKeyLeft caps steps → is_marker_left caps steps Ipv4 ≡ false
    → is_marker_left caps steps Ipv6 ≡ false → NothingLeft caps steps
none_stays caps steps keys four six =
    record {
      keys = keys;
      markers = λ family. elim family as (λ f. is_marker_left caps steps f ≡ false) [
        | Ipv4 ↦ four
        | Ipv6 ↦ six
      ];
    }

pub at_last : (caps : Caps) (steps : List Step) → NothingLeft caps steps → IsTrue true ↔ NothingLeft caps steps
at_last caps steps none = (λ e. none, λ n. refl)

module _ (texts : Texts) (steps : List Step) where
  -- a message of one key
  pub may_send : (attrs : Attrs) (key : Key) (final : Bool) → IsSendable Ipv4 (wire attrs)
      → IsCarried only_ipv4 Ipv4 key → length (here attrs (key ∷ [])) ≤ 4096 → is_left only_ipv4 steps key ≡ true
      → view only_ipv4 (first_cut steps) key ≡ Some (wire attrs)
      → IsPackedBehind only_ipv4 (said only_ipv4 (here attrs (key ∷ []))) (said_each only_ipv4 (batch steps))
      → (IsTrue final ↔ NothingLeft only_ipv4 (Cut (Message (here attrs (key ∷ [])) false) ∷ steps))
      → MayCut only_ipv4 steps (here attrs (key ∷ [])) final
  may_send attrs key final sendable carried small left value packed ends = record {
    head = head.Here Ipv4 (wire attrs);
    keys = key ∷ [];
    text = refl;
    fits = small;
    spelled = texts.here only_ipv4 (wire attrs) (key ∷ []) sendable (carried, tt) (omega (arith, small));
    due = record {
      some = omega arith;
      left = (left, tt);
      of_family = (carried.of_family, tt);
      of_value = (value, tt);
    };
    packed = packed;
    ends = ends;
  }

  -- the marker of IPv4 as the last message
  pub may_end : is_marker_left only_ipv4 steps Ipv4 ≡ true → NoKeyLeft only_ipv4 steps
      → length marker ≤ 4096
      → IsPackedBehind only_ipv4 (said only_ipv4 marker) (said_each only_ipv4 (batch steps))
      → NothingLeft only_ipv4 (Cut (Message marker false) ∷ steps) → MayCut only_ipv4 steps marker true
  may_end left keys small packed none = record {
    head = head.End Ipv4;
    keys = [];
    text = refl;
    fits = small;
    spelled = texts.end only_ipv4;
    due = record { none = refl; left = left; no_key = keys; first = λ other. cc };
    packed = packed;
    ends = at_last only_ipv4 (Cut (Message marker false) ∷ steps) none;
  }
