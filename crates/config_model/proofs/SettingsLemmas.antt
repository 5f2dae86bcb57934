-- The derived test of settings is the definition's.
use Rattle.std.proofs.Common.{◌≡◌, ◌==◌, ◌&&◌, Bool, refl, ap, ◌∙◌}
use Rattle.std.proofs.Math.Bool.{and_assoc, beq}
use Rattle.route_values.specs.declared.addr.Addr.{Addr}
use Rattle.route_values.specs.declared.addr.Addr.TheVariants.{V4, V6}
use Rattle.route_values.specs.declared.settings.Settings.{Settings}
use Rattle.route_values.specs.contracts.addr.AddrPartialEq.TheImpl.{ghosts as addr_test}
use Rattle.route_values.specs.contracts.settings.SettingsPartialEq.TheImpl.{ghosts as settings_test}
use Rattle.route_values.specs.Key.{same_addr}
use Rattle.config_model.specs.Plan.{same_settings}

addr_tested : (a b : Addr) → addr_test.eq a b ≡ same_addr a b
addr_tested (V4 m) (V4 n) = refl
addr_tested (V4 m) (V6 n) = refl
addr_tested (V6 m) (V4 n) = refl
addr_tested (V6 m) (V6 n) = refl

pub addr_tests : addr_test.eq ≡ same_addr
addr_tests = λ i a b. addr_tested a b i

-- the tests of the fields, as the derived one joins them
abbrev joined : (Addr → Addr → Bool) → Settings → Settings → Bool
joined same a b =
    same a.peer b.peer && (same a.local b.local && (a.port == b.port && (a.local_as == b.local_as
    && (a.peer_as == b.peer_as && (a.router_id == b.router_id && (a.hold == b.hold && (beq a.ipv4 b.ipv4
    && (beq a.ipv6 b.ipv6 && (beq a.ipv4_send b.ipv4_send && (beq a.ipv6_send b.ipv6_send
    && (beq a.ipv4_receive b.ipv4_receive && (beq a.ipv6_receive b.ipv6_receive && (beq a.refresh b.refresh
    && beq a.extended b.extended)))))))))))))

-- however tests are grouped
regrouped : (peer local port own_as peer_as id hold a b c d e f g h : Bool)
    → peer && (local && (port && (own_as && (peer_as && (id && (hold && (a && (b && (c && (d && (e && (f && (g
    && h))))))))))))) ≡ (peer && local && port && own_as && peer_as && id && hold
    && (a && b && c && d && e && f && g && h))
regrouped peer local port own_as peer_as id hold a b c d e f g h = simp and_assoc

pub settings_tested : (a b : Settings) → settings_test.eq a b ≡ same_settings a b
settings_tested a b =
    let same : settings_test.eq a b ≡ joined same_addr a b =
    ap (λ (same : Addr → Addr → Bool). joined same a b) addr_tests in
    same ∙ regrouped (same_addr a.peer b.peer) (same_addr a.local b.local) (a.port == b.port)
    (a.local_as == b.local_as) (a.peer_as == b.peer_as) (a.router_id == b.router_id) (a.hold == b.hold)
    (beq a.ipv4 b.ipv4) (beq a.ipv6 b.ipv6) (beq a.ipv4_send b.ipv4_send) (beq a.ipv6_send b.ipv6_send)
    (beq a.ipv4_receive b.ipv4_receive) (beq a.ipv6_receive b.ipv6_receive) (beq a.refresh b.refresh)
    (beq a.extended b.extended)
