use Rattle.std.proofs.Common.{refl}
use Rattle.session_machine.specs.declared.action.Action.TheVariants as act
use Rattle.peer_worker.specs.Deeds.{Fall, KeepaliveSaid, OpenSaid, RefusalSaid, Renew}
use Rattle.peer_worker.proofs.ActLemmas.{acts_renew}
use Rattle.peer_worker.proofs.StepLemmas.{does_deed, does_idly, does_said, does_up, for_action}
use Rattle.peer_worker.proofs.acting.act.Goals as goal

pub returns-in-SendOpen : goal.returns-in-SendOpen
returns-in-SendOpen g c =
    for_action _ _ _ _ _ _ _ act.SendOpen c.in-SendOpen.is
    (does_said _ _ _ _ _ act.SendOpen OpenSaid (λ place. refl) c.say_open.ensures)

pub returns-in-SendKeepalive : goal.returns-in-SendKeepalive
returns-in-SendKeepalive g c =
    for_action _ _ _ _ _ _ _ act.SendKeepalive c.in-SendKeepalive.is
    (does_said _ _ _ _ _ act.SendKeepalive KeepaliveSaid (λ place. refl) c.say_keepalive.ensures)

pub returns-in-Notify : goal.returns-in-Notify
returns-in-Notify g c =
    for_action _ _ _ _ _ _ _ _ c.in-Notify.is
    (does_said _ _ _ _ _ (act.Notify _) (RefusalSaid _) (λ place. refl) c.say_refusal.ensures)

pub returns-in-Up : goal.returns-in-Up
returns-in-Up g c = does_up _ _ _ _ _ _ c.in-Up.is

pub returns-in-Down : goal.returns-in-Down
returns-in-Down g c =
    for_action _ _ _ _ _ _ _ act.Down c.in-Down.is
    (does_deed _ _ _ _ _ _ act.Down Fall (λ place. refl) c.go_down.ensures)

pub returns-in-Refresh : goal.returns-in-Refresh
returns-in-Refresh g c =
    for_action _ _ _ _ _ _ _ _ c.in-Refresh.is
    (does_deed _ _ _ _ _ _ (act.Refresh _) (Renew _) (λ place. refl)
    (acts_renew _ _ _ _ _ _ _ c.enter.ensures.entered))

pub returns-in-Heard : goal.returns-in-Heard
returns-in-Heard g c = for_action _ _ _ _ _ _ _ act.Heard c.in-Heard.is (does_idly _ _ _ _ act.Heard (λ place. refl))

pub returns-in-Close : goal.returns-in-Close
returns-in-Close g c = for_action _ _ _ _ _ _ _ act.Close c.in-Close.is (does_idly _ _ _ _ act.Close (λ place. refl))
