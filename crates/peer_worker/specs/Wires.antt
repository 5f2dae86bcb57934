-- What a link, and what is gathered for it, have to do with what is said.
use Rattle.std.specs.Prelude.{ℕ, ◌≡◌, ◌<◌, ◌≤◌, Bool, true, false, List, ◌++◌, []}
use Rattle.std.specs.declared.option.Option.{Option}
use mathlib.Core.List.{IsPrefix}
use Rattle.route_values.specs.declared.settings.Settings.{Settings}
use Rattle.outside.specs.Told.{Grows}
use Rattle.outside.specs.declared.link.Link.{Ghosts}
use Rattle.peer_worker.specs.declared.voice.Voice.{Voice}
use Rattle.peer_worker.specs.Deeds.{Deed, all_said}
use Rattle.peer_worker.specs.Desks.{Desked}

-- a link with the bytes gathered for it, and whether a send failed
pub record Wire : Type 0 where
  pub taken : Option (List ℕ)
  pub dialled : Option Settings
  pub faults : ℕ
  pub out : List ℕ
  pub broken : Bool

module _ {L : Type 0} where
  abbrev pub wire : Ghosts L → Voice L → Desked → Wire
  wire link voice desk = record {
    taken = link.taken voice.link;
    dialled = link.dialled voice.link;
    faults = link.faults voice.link;
    out = desk.out;
    broken = voice.broken;
  }

-- Of these bytes behind what was gathered so many were sent: all but what is gathered now; or, where a send failed,
-- some from the front; or none where one had failed before.
abbrev pub Left : Bool → Bool → List ℕ → List ℕ → List ℕ → List ℕ → ℕ → Type 0
Left false false out bytes sent out' faults = sent ++ out' ≡ out ++ bytes
Left false true out bytes sent out' faults = IsPrefix sent (out ++ bytes) × (0 < faults)
Left true false out bytes sent out' faults = ⊥
Left true true out bytes sent out' faults = sent ≡ []

-- these bytes were gathered behind what was, and some of all were sent
pub record Gathered (s : Wire) (bytes : List ℕ) (t : Wire) : Type 0 where
  pub sent : List ℕ
  pub grows : Grows s.taken t.taken sent
  pub left : Left s.broken t.broken s.out bytes sent t.out t.faults
  pub later : s.faults ≤ t.faults
  pub dialled : t.dialled ≡ s.dialled

-- what these deeds say was gathered
abbrev pub Moves : Settings → Wire → List Deed → Wire → Type 0
Moves own s deeds t = Gathered s (all_said own deeds) t
