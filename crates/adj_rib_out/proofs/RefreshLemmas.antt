-- A family is to be sent again.
use Rattle.std.proofs.Common.{◌≡◌, ◌==◌, ℕ, Option, Some, None, refl, sym, ap, subst, ◌∙◌}
use Rattle.std.specs.Option.{option_map}
use Rattle.std.specs.Prelude.{◌||◌}
use Rattle.route_values.specs.declared.addr.Family.{Family}
use Rattle.route_values.specs.declared.addr.Family.TheVariants.{Ipv4, Ipv6}
use Rattle.route_values.specs.Caps.{Caps}
use Rattle.slot_batches.specs.Slots.{Slots}
use Rattle.adj_rib_out.specs.State.{State, Session}
use Rattle.adj_rib_out.specs.Calls.{Refreshes, again}
use Rattle.adj_rib_out.specs.Nodes.{nodes}
use Rattle.adj_rib_out.specs.Kept.{Parts, IsTable, seen, session_of, parity_of}
use Rattle.adj_rib_out.proofs.KeepLemmas.{ready_kept, routes_kept, told_kept}
use Rattle.adj_rib_out.proofs.SeenNodeLemmas.{nodes_seen}

-- the slots with a parity that is to be sent again
abbrev pub slots_again : ℕ → Slots → Slots
slots_again parity slots = record slots {
  even_again = parity == 0 || slots.even_again;
  odd_again = parity == 1 || slots.odd_again;
}

module _ (p : Parts) (table : IsTable p) (family : Family) where
  abbrev pub refreshed : Parts
  refreshed = record p { slots = slots_again (parity_of family) p.slots }

  pub refreshed_kept : IsTable refreshed
  refreshed_kept = record {
    once = table.once;
    kept = table.kept;
    room = table.room;
    nows_length = table.nows_length;
    sents_length = table.sents_length;
    routes_length = table.routes_length;
    vacant = λ i none. record {
      now = (table.vacant i none).now;
      sent = (table.vacant i none).sent;
      chosen = (table.vacant i none).chosen;
    };
    taken = λ i k here. record { now = (table.taken i k here).now; sent = (table.taken i k here).sent };
    chosen = table.chosen;
    left = table.left;
    left_once = table.left_once;
    left_together = table.left_together;
    down = table.down;
    ipv4_stale = table.ipv4_stale;
    ipv6_stale = table.ipv6_stale;
  }

  session_again : (f : Family) (caps : Caps)
      → session_of (record p { slots = slots_again (parity_of f) p.slots }) caps ≡ again f (session_of p caps)
  session_again Ipv4 caps = refl
  session_again Ipv6 caps = refl

  session_is : (caps : Option Caps) → option_map (session_of refreshed) caps
      ≡ option_map (again family) (option_map (session_of p) caps)
  session_is None = refl
  session_is (Some caps) = ap (λ (s : Session). Some s) (session_again family caps)

  pub refreshed_refreshes : Refreshes (seen p) (seen refreshed) family
  refreshed_refreshes = record {
    session = session_is p.caps;
    told = told_kept p refreshed refl refl refl;
    routes = routes_kept p refreshed refl refl refl;
    ready = ready_kept p refreshed refl refl;
    batch = record { left = refl; markers = refl };
  }

  pub refreshed_nodes : nodes (seen refreshed) ≡ nodes (seen p)
  refreshed_nodes = nodes_seen refreshed refreshed_kept ∙ sym (nodes_seen p table)

  module _ (state : State) (view : seen p ≡ state) where
    pub nothing_refreshed : p.caps ≡ None → Refreshes state state family
    nothing_refreshed none = subst (λ (s : State). Refreshes s s family) view (record {
      session = ap (option_map (session_of p)) none ∙ ap (λ (o : Option Session). option_map (again family) o)
          (sym (ap (option_map (session_of p)) none));
      told = λ key. refl;
      routes = routes_kept p p refl refl refl;
      ready = ready_kept p p refl refl;
      batch = record { left = refl; markers = refl };
    })

    module _ (parity : ℕ) (is : parity ≡ parity_of family) (slots : Slots) (set : slots ≡ slots_again parity p.slots)
      where
        abbrev pub made : Parts
        made = record p { slots = slots }

        made_is : refreshed ≡ made
        made_is = ap (λ (s : Slots). record p { slots = s }) (sym (set ∙ ap (λ (n : ℕ). slots_again n p.slots) is))

        pub made_kept : IsTable made
        made_kept = subst IsTable made_is refreshed_kept

        pub made_refreshes : Refreshes state (seen made) family
        made_refreshes = subst (λ (s : State). Refreshes s (seen made) family) view
            (subst (λ (q : Parts). Refreshes (seen p) (seen q) family) made_is refreshed_refreshes)

        pub made_nodes : nodes (seen made) ≡ nodes state
        made_nodes = sym (ap (λ (q : Parts). nodes (seen q)) made_is) ∙ refreshed_nodes ∙ ap nodes view
