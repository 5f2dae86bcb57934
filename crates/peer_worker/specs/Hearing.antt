-- What a whole message may be, and what it may tell a session.
use Rattle.std.specs.Prelude.{ℕ, ◌≡◌, ◌≤◌, ⊤, List, length}
use Rattle.outside.specs.declared.link.Recv.{Recv}
use Rattle.outside.specs.declared.link.Recv.TheVariants.{Got, End, Quiet, Failed}
use Rattle.session_machine.specs.declared.event.Event.{Event}
use Rattle.session_machine.specs.declared.event.Event.TheVariants as ev

-- a message of one of the five types, whose body is as long as those of its type, and has at most 65,516 bytes
pub record IsMessage (kind : ℕ) (body : List ℕ) : Type 0 where
  pub least : 1 ≤ kind
  pub most : kind ≤ 5
  pub opens : kind ≡ 1 → 10 ≤ length body
  pub refreshes : kind ≡ 5 → 4 ≤ length body
  pub small : length body ≤ 65516

-- any event but that the connection stands
abbrev pub IsOther : Event → Type 0
IsOther ev.Connected = ⊥
IsOther (ev.Open said) = ⊤
IsOther (ev.Update body) = ⊤
IsOther ev.Notified = ⊤
IsOther ev.Keepalive = ⊤
IsOther (ev.Refresh family) = ⊤
IsOther (ev.Bad refusal) = ⊤
IsOther ev.HoldExpired = ⊤
IsOther ev.KeepaliveDue = ⊤
IsOther ev.Lost = ⊤
IsOther (ev.Stop code sub) = ⊤

-- what a link gave is within a buffer of so many bytes
abbrev pub IsWithin : Recv → ℕ → Type 0
IsWithin (Got count) len = count ≤ len
IsWithin End len = ⊤
IsWithin Quiet len = ⊤
IsWithin Failed len = ⊤
