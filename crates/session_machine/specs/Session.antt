-- What a contract sees of a session's machine.
use Rattle.std.specs.Prelude.{ℕ}
use Rattle.route_values.specs.declared.settings.Settings.{Settings}
use Rattle.session_machine.specs.declared.state.State.{State}
use Rattle.session_machine.specs.declared.state.State.TheVariants as st

-- the own settings, and how far the session has come
pub record Session : Type 0 where
  pub own : Settings
  pub state : State

-- no connection stands yet
abbrev pub fresh : Settings → Session
fresh own = record { own = own; state = st.Idle }

-- The hold time in seconds: that of both sides where an OPEN was taken, and before it the large one that RFC 4271,
-- section 8.2.2, suggests.
abbrev pub hold_of : State → ℕ
hold_of st.Idle = 240
hold_of st.OpenSent = 240
hold_of (st.OpenConfirm agreed) = agreed.hold
hold_of (st.Established agreed) = agreed.hold
