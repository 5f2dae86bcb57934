-- What a cut does to a table.
use Rattle.std.specs.Prelude.{ℕ, ◌≡◌, Bool, true, false, not, List}
use Rattle.route_values.specs.Caps.{Caps}
use Rattle.batch_cutter.specs.Filling.{Fills}
use Rattle.adj_rib_out.specs.State.{State}
use Rattle.adj_rib_out.specs.Calls.{is_open, Freezes, Passes}
use Rattle.adj_rib_out.specs.Told.{items_left}
use Rattle.peer_history.specs.Steps.{Answer}
use Rattle.peer_history.specs.Steps as step
use Rattle.peer_book.specs.declared.cut.Cut.{Cut}
use Rattle.peer_book.specs.declared.cut.Cut.TheVariants as cut

-- the answer of a cut, with the message's bytes
abbrev pub answered : List ℕ → Cut → Answer
answered bytes cut.NoSession = step.NoSession
answered bytes (cut.Reset code) = step.Reset code
answered bytes cut.Nothing = step.Nothing
answered bytes (cut.Message last) = step.Message bytes last

-- a batch that is open goes on, and where none is one begins
abbrev pub GoesOnOrBegins : Bool → State → State → Type 0
GoesOnOrBegins true old new = new ≡ old
GoesOnOrBegins false old new = Freezes old new

abbrev pub MakesReady : State → State → Type 0
MakesReady old new = GoesOnOrBegins (is_open old) old new

-- nothing was owed
pub record CutsNothing (old new : State) : Type 0 where
  pub ready : MakesReady old new
  pub closed : is_open new ≡ false

-- the next message was made of what is left, and whether that was all of it
pub record CutsMessage (caps : Caps) (old new : State) (bytes : List ℕ) (last : Bool) : Type 0 where
  pub mid : State
  pub ready : MakesReady old mid
  pub some : is_open mid ≡ true
  pub fills : Fills items_left (λ before item after. Passes before after) caps mid new bytes
  pub ends : last ≡ not (is_open new)
