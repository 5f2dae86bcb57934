-- What the tests are made of.
use Rattle.std.proofs.Common.{◌≡◌, ◌+◌, ◌≤◌, ℕ, List, [], length, sym, subst, arith}
use Rattle.std.specs.List.{IsDistinct}
use Rattle.arrayvec.specs.ArrayVec.{ArrayVec}
use Rattle.route_values.specs.declared.settings.Settings.{Settings}
use Rattle.route_values.specs.Addr.{family_of}
use Rattle.config_model.specs.declared.sections.StaticRoute.{StaticRoute}
use Rattle.config_model.specs.declared.sections.Process.{Process}
use Rattle.config_model.specs.Drafts.{with_process, IsNeighbor}
use Rattle.config_model.specs.Limits.{max_routes}
use Rattle.config_model.specs.Sections.{routes_in, sections, Sections}

-- a neighbour without static routes is one where its addresses have one family
pub is_neighbor : (settings : Settings) (statics : List StaticRoute) (processes : List (ArrayVec ℕ)) → statics ≡ []
    → family_of settings.local ≡ family_of settings.peer
    → IsNeighbor (record { settings = settings; statics = statics; processes = processes })
unfolding IsDistinct
is_neighbor settings statics processes none family =
    subst (λ (s : List StaticRoute). IsNeighbor (record { settings = settings; statics = s; processes = processes }))
    (sym none) (record { family = family; keys = tt; routes = tt })

-- a draft of one process has room for a neighbour without static routes
pub has_room : (before after : Sections) (process : Process) (statics : List StaticRoute) → before ≡ sections [] []
    → after ≡ with_process before process → statics ≡ [] → routes_in after.neighbors + length statics ≤ max_routes
has_room before after process statics none one bare =
    let few : 0 ≤ max_routes = omega arith in
    subst (λ (s : List StaticRoute). routes_in after.neighbors + length s ≤ max_routes) (sym bare)
    (subst (λ (a : Sections). routes_in a.neighbors + 0 ≤ max_routes) (sym one)
    (subst (λ (b : Sections). routes_in (with_process b process).neighbors + 0 ≤ max_routes) (sym none) few))
