-- Keys go, and then values.
use Rattle.std.proofs.Common.{◌≡◌, sym, ◌∙◌, inl, inr}
use Rattle.route_values.specs.declared.attrs.Attrs.{Attrs}
use Rattle.route_values.specs.declared.key.Key.{Key}
use Rattle.adj_rib_out.specs.State.{State, route_at}
use Rattle.adj_rib_out.specs.Calls.{KeepsRoutes, KeepsSession, KeepsBatch, Trims, HasRoute}
use Rattle.adj_rib_out.specs.Trimming.{TrimsKeys}
use Rattle.adj_rib_out.specs.Trimmed.{TrimsValues}

module _ (old mid new : State) where
  routes_then : KeepsRoutes old mid → KeepsRoutes mid new → KeepsRoutes old new
  routes_then first second = record {
    side = second.side ∙ first.side;
    routes = λ key. second.routes key ∙ first.routes key;
  }

  session_then : KeepsSession old mid → KeepsSession mid new → KeepsSession old new
  session_then first second = record {
    session = second.session ∙ first.session;
    told = λ key. second.told key ∙ first.told key;
  }

  batch_then : KeepsBatch old mid → KeepsBatch mid new → KeepsBatch old new
  batch_then first second = record { left = second.left ∙ first.left; markers = second.markers ∙ first.markers }

has_still : (old new : State) (written : Attrs) → ((key : Key) → route_at new key ≡ route_at old key)
    → HasRoute old written → HasRoute new written
has_still old new written routes has = record {
  key = has.key;
  route = has.route;
  stands = routes has.key ∙ has.stands;
  is = has.is;
}

module _ (old mid new : State) (first : TrimsKeys old mid) (second : TrimsValues mid new) where
  pub all_trimmed : Trims old new
  all_trimmed = record {
    keys = λ key. (
      λ ready. (first.keys key).0 (sym (second.keys key) ∙ ready),
      λ needed. second.keys key ∙ (first.keys key).1 needed,
    );
    values = λ n. elim (second.values n) [
      | inl none ↦ inl none
      | inr same ↦ inr (same ∙ first.rest.values n)
    ];
    stays = λ n written is has. second.stays n written (first.rest.values n ∙ is)
        (has_still old mid written first.rest.routes.routes has);
    goes = λ n written is no_route unsaid. second.goes n written (first.rest.values n ∙ is)
        (λ has. no_route (has_still mid old written (λ key. sym (first.rest.routes.routes key)) has));
    routes = routes_then old mid new first.rest.routes second.routes;
    session = session_then old mid new first.rest.session second.session;
    batch = batch_then old mid new first.rest.batch second.batch;
  }
