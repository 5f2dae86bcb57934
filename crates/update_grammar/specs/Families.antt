-- The values of MP_REACH_NLRI and MP_UNREACH_NLRI (RFC 4760, sections 3 and 4).
use Rattle.std.specs.Prelude.{ℕ, ◌≡◌, ◌≢◌, ◌⊎◌, ◌^◌, ◌<◌, IsTrue, List, [], ◌∷◌, ◌++◌, length}
use Rattle.std.specs.Int.{w32, w128, to_be_bytes}
use Rattle.route_values.specs.declared.addr.Addr.{Addr}
use Rattle.route_values.specs.declared.addr.Addr.TheVariants.{V4, V6}
use Rattle.route_values.specs.declared.addr.Family.{Family}
use Rattle.route_values.specs.declared.addr.Family.TheVariants.{Ipv4, Ipv6}
use Rattle.route_values.specs.Caps.{Caps}
use Rattle.route_values.specs.declared.key.Key.{Key}
use Rattle.route_values.specs.Visible.{has_family, has_path}
use Rattle.update_grammar.specs.Codes.{afi_ipv4, afi_ipv6, safi_unicast, family_len}
use Rattle.update_grammar.specs.declared.effect.Reached.{Reached}
use Rattle.update_grammar.specs.Pieces.{SpellsEach}
use Rattle.update_grammar.specs.Prefixes.{SpellsKey}

-- a family's AFI in two bytes and its SAFI, which is 1 for unicast
abbrev pub family_text : Family → List ℕ
family_text Ipv4 = 0 ∷ afi_ipv4 ∷ safi_unicast ∷ []
family_text Ipv6 = 0 ∷ afi_ipv6 ∷ safi_unicast ∷ []

-- a value that begins with an AFI and a SAFI of no family of the session; the rest isn't looked at
pub record IsElsewhere (caps : Caps) (value : List ℕ) : Type 0 where
  pub family : List ℕ
  pub rest : List ℕ
  pub text : value ≡ family ++ rest
  pub three : length family ≡ family_len
  pub other : (f : Family) → IsTrue (has_family caps f) → family ≢ family_text f

-- a next hop: 4 bytes for IPv4; 16 for IPv6, or 32 of which the first 16 count
abbrev pub SpellsHop : Family → List ℕ → Addr → Type 0
SpellsHop Ipv4 text hop = (n : ℕ) × (n < 2 ^ 32) × (hop ≡ V4 n) × (text ≡ to_be_bytes w32 n)
SpellsHop Ipv6 text hop = (n : ℕ) × (n < 2 ^ 128) × (hop ≡ V6 n) × (more : List ℕ) ×
    ((length more ≡ 0) ⊎ (length more ≡ 16)) × (text ≡ to_be_bytes w128 n ++ more)

-- family, length of the next hop, next hop, a reserved byte that isn't looked at, prefixes
pub record SpellsReach (caps : Caps) (value : List ℕ) (reached : Reached) : Type 0 where
  pub family : Family
  pub agreed : IsTrue (has_family caps family)
  pub hop_text : List ℕ
  pub reserved : ℕ
  pub prefixes : List ℕ
  pub text : value ≡ family_text family ++ (length hop_text ∷ (hop_text ++ reserved ∷ prefixes))
  pub hop : SpellsHop family hop_text reached.hop
  pub spelled : SpellsEach (SpellsKey (has_path caps family) family) prefixes reached.keys

-- family, prefixes
pub record SpellsUnreach (caps : Caps) (value : List ℕ) (keys : List Key) : Type 0 where
  pub family : Family
  pub agreed : IsTrue (has_family caps family)
  pub prefixes : List ℕ
  pub text : value ≡ family_text family ++ prefixes
  pub spelled : SpellsEach (SpellsKey (has_path caps family) family) prefixes keys
