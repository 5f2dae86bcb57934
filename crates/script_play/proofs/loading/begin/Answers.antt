use Rattle.std.proofs.Common.{[], ◌∷◌, subst}
use Rattle.route_values.specs.Caps.{Caps}
use Rattle.book_core.specs.Stands.{Stands}
use Rattle.book_history.specs.Entries.Entry.{CameUp, SpawnAsked}
use Rattle.script_play.specs.Loads.{load_settings}
use Rattle.script_play.proofs.loading.begin.Goals as goal

pub returns : goal.returns
returns c = λ cfg stands. record {
  started = c.spawn.result;
  raised = c.up-raised.result;
  stands = subst (λ (caps : Caps). Stands cfg (CameUp 0 load_settings caps c.up-raised.result
      ∷ SpawnAsked 0 0 c.spawn.result ∷ []) c.up-raised.new.self) c.caps.ensures
      (c.up-raised.ensures cfg (SpawnAsked 0 0 c.spawn.result ∷ []) (c.spawn.ensures cfg [] stands).1).1;
}
