-- The table of a session (RFC 4271, section 8.2.2): what is to be done at an event, and the state behind it.
use Rattle.std.specs.Prelude.{ℕ, ◌≡◌, List, [], ◌∷◌, ◌++◌, Some, None, Ok, Err, if◌then◌else◌, ⊤}
use Rattle.route_values.specs.declared.addr.Family.{Family}
use Rattle.route_values.specs.declared.settings.Settings.{Settings}
use Rattle.route_values.specs.Visible.{has_family}
use Rattle.frame_cutter.specs.declared.refusal.Refusal.{Refusal}
use Rattle.frame_cutter.specs.Refusals.{refused}
use Rattle.session_codec.specs.declared.negotiation.Agreed.{Agreed}
use Rattle.session_codec.specs.Agree.{agree}
use Rattle.session_machine.specs.declared.action.Action.{Action}
use Rattle.session_machine.specs.declared.action.Action.TheVariants as act
use Rattle.session_machine.specs.declared.event.Event.{Event}
use Rattle.session_machine.specs.declared.event.Event.TheVariants as ev
use Rattle.session_machine.specs.declared.state.State.{State}
use Rattle.session_machine.specs.declared.state.State.TheVariants as st

-- what is to be done, in order, and the state behind it
pub record Step : Type 0 where
  pub actions : List Action
  pub state : State

abbrev pub step_to : List Action → State → Step
step_to actions state = record { actions = actions; state = state }

-- error codes (RFC 4271, sections 6.5 and 6.6), and the subcode where a code has none (section 4.5)
abbrev pub hold_timer_expired : ℕ
hold_timer_expired = 4

abbrev pub state_machine_error : ℕ
state_machine_error = 5

abbrev pub unspecific : ℕ
unspecific = 0

-- what the neighbour is told where a message comes that the state doesn't have, and where none comes in time
abbrev pub out_of_order : Refusal
out_of_order = refused state_machine_error unspecific []

abbrev pub expired : Refusal
expired = refused hold_timer_expired unspecific []

-- what is to be done besides where a session stood
abbrev pub downs : State → List Action
downs st.Idle = []
downs st.OpenSent = []
downs (st.OpenConfirm agreed) = []
downs (st.Established agreed) = act.Down ∷ []

-- the end of a session, before which the neighbour is told this
abbrev pub ended : State → List Action → Step
ended state told = step_to (told ++ (downs state ++ (act.Close ∷ []))) st.Idle

abbrev pub refused_by : State → Refusal → Step
refused_by state refusal = ended state (act.Notify refusal ∷ [])

-- what is to be done where all routes of a family are asked for
abbrev pub sent_anew : Agreed → Family → List Action
sent_anew agreed family = if has_family agreed.to_peer family then act.Refresh family ∷ [] else []

-- A row for each state and event, of which the first that fits counts. The last ones hold in each state but Idle.
abbrev pub table : Settings → State → Event → Step
table own st.Idle ev.Connected = step_to (act.SendOpen ∷ []) st.OpenSent
table own st.Idle event = step_to [] st.Idle
table own st.OpenSent (ev.Open (Ok theirs)) = step_to (act.SendKeepalive ∷ []) (st.OpenConfirm (agree own theirs))
table own st.OpenSent ev.Keepalive = refused_by st.OpenSent out_of_order
table own st.OpenSent (ev.Update body) = refused_by st.OpenSent out_of_order
table own st.OpenSent (ev.Refresh family) = refused_by st.OpenSent out_of_order
table own st.OpenSent ev.KeepaliveDue = step_to [] st.OpenSent
table own st.OpenSent ev.Connected = step_to [] st.OpenSent
table own (st.OpenConfirm agreed) ev.Keepalive = step_to (act.Up agreed ∷ []) (st.Established agreed)
table own (st.OpenConfirm agreed) (ev.Open (Ok theirs)) = refused_by (st.OpenConfirm agreed) out_of_order
table own (st.OpenConfirm agreed) (ev.Update body) = refused_by (st.OpenConfirm agreed) out_of_order
table own (st.OpenConfirm agreed) (ev.Refresh family) = refused_by (st.OpenConfirm agreed) out_of_order
table own (st.OpenConfirm agreed) ev.KeepaliveDue = step_to (act.SendKeepalive ∷ []) (st.OpenConfirm agreed)
table own (st.Established agreed) ev.Keepalive = step_to [] (st.Established agreed)
table own (st.Established agreed) (ev.Update body) = step_to (act.Heard ∷ []) (st.Established agreed)
table own (st.Established agreed) (ev.Refresh (Some family)) =
    step_to (sent_anew agreed family) (st.Established agreed)
table own (st.Established agreed) (ev.Refresh None) = step_to [] (st.Established agreed)
table own (st.Established agreed) (ev.Open (Ok theirs)) = refused_by (st.Established agreed) out_of_order
table own (st.Established agreed) ev.KeepaliveDue = step_to (act.SendKeepalive ∷ []) (st.Established agreed)
table own state ev.Connected = step_to [] state
table own state (ev.Open (Err refusal)) = refused_by state refusal
table own state (ev.Bad refusal) = refused_by state refusal
table own state ev.HoldExpired = refused_by state expired
table own state (ev.Stop code sub) = refused_by state (refused code sub [])
table own state ev.Notified = ended state []
table own state ev.Lost = ended state []

-- the session comes up only behind all else that is to be done
abbrev pub UpIsLast : List Action → Type 0
UpIsLast [] = ⊤
UpIsLast (act.Up agreed ∷ rest) = rest ≡ []
UpIsLast (action ∷ rest) = UpIsLast rest
