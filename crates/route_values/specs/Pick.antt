-- Which neighbours a selector means.
use Rattle.std.specs.Prelude.{◌≡◌, ◌⊎◌, List, [], Any, IfSome}
use Rattle.route_values.specs.declared.pick.Pick.{Pick}
use Rattle.route_values.specs.declared.settings.Settings.{Settings}

-- the neighbour's address is the pick's, and each written qualifier equals its setting
pub record IsMatch (pick : Pick) (settings : Settings) : Type 0 where
  pub peer : pick.peer ≡ settings.peer
  pub local : IfSome pick.local (λ written. written ≡ settings.local)
  pub local_as : IfSome pick.local_as (λ written. written ≡ settings.local_as)
  pub peer_as : IfSome pick.peer_as (λ written. written ≡ settings.peer_as)
  pub router_id : IfSome pick.router_id (λ written. written ≡ settings.router_id)

-- the empty selector means every neighbour
abbrev pub IsPicked : List Pick → Settings → Type 0
IsPicked selector settings = (selector ≡ []) ⊎ Any (λ pick. IsMatch pick settings) selector
