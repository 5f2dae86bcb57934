-- What `encode` adds to a history: a helper that is started, sessions that come up, the helper's lines with the replies
-- that are taken, and the messages that are then cut.
use Rattle.std.specs.Prelude.{ℕ, ◌≡◌, ◌≢◌, ◌⊎◌, ◌+◌, ◌==◌, ◌&&◌, Bool, true, false, List, [], ◌∷◌, ◌++◌, length, Result}
use Rattle.std.specs.List.{AllByRecursion}
use Rattle.route_values.specs.declared.settings.Settings.{Settings}
use Rattle.route_values.specs.Caps.{Caps, flags}
use Rattle.route_grammar.specs.declared.fault.ReadFault.{ReadFault}
use Rattle.command_grammar.specs.declared.command.Command.{Command}
use Rattle.text_forms.specs.Lines.{Line, lines}
use Rattle.config_model.specs.declared.sections.Neighbor.{Neighbor}
use Rattle.config_model.specs.Sections.{Sections}
use Rattle.book_history.specs.declared.outcomes.Spawn.{Spawn}
use Rattle.book_history.specs.declared.outcomes.Take.{Take}
use Rattle.book_history.specs.declared.outcomes.Take.TheVariants as take
use Rattle.book_history.specs.declared.outcomes.Up.{Up}
use Rattle.book_history.specs.declared.outcomes.Verdict.{Verdict}
use Rattle.book_history.specs.declared.outcomes.Verdict.TheVariants as verdict
use Rattle.book_history.specs.Bounds.{max_taken}
use Rattle.book_history.specs.Entries.{Entry, History}
use Rattle.book_history.specs.Entries.Entry.{LineEntered, RepliesTaken, SpawnAsked, CameUp}
use Rattle.text_history.specs.Adding.{Adding}
use Rattle.text_history.specs.Plays.{IsDrain}

-- what a session is brought up with: the families of the settings, and for which of these they send path identifiers
abbrev pub caps_sent : Settings → Caps
caps_sent settings =
    flags settings.ipv4 settings.ipv6 (settings.ipv4 && settings.ipv4_send) (settings.ipv6 && settings.ipv6_send) false

-- numbers that go up from one
abbrev pub numbered : {A : Type 0} → ℕ → List A → List (ℕ × A)
numbered n [] = []
numbered n (item ∷ items) = (n, item) ∷ numbered (n + 1) items

-- a neighbour's session is brought up
abbrev pub AddsUp : History → ℕ × Neighbor → History → Type 0
AddsUp H (n, neighbor) added =
    (given : Up) × (added ≡ CameUp n neighbor.settings (caps_sent neighbor.settings) given ∷ [])

-- whether as many replies were taken as are taken at once
abbrev pub is_full : Take → Bool
is_full (take.Replies given) = length given.items == max_taken
is_full _ = false

-- so many replies were taken of the helper
pub record IsFullTake (entry : Entry) : Type 0 where
  pub given : Take
  pub full : is_full given ≡ true
  pub entry_is : entry ≡ RepliesTaken 0 1 given

-- replies were taken until fewer came
pub record AreTaken (taken : History) : Type 0 where
  pub given : Take
  pub full : History
  pub ended : is_full given ≡ false
  pub are : AllByRecursion IsFullTake full
  pub taken_are : taken ≡ RepliesTaken 0 1 given ∷ full

-- a line of the helper, and its replies unless it has ended
pub record AddsAnswer (H : History) (line : Line) (added : History) : Type 0 where
  pub reading : Result Command ReadFault
  pub given : Verdict
  pub taken : History
  pub replies : ((given ≡ verdict.Ended) × (taken ≡ [])) ⊎ ((given ≢ verdict.Ended) × AreTaken taken)
  pub added_are : added ≡ taken ++ LineEntered 0 1 line reading given ∷ []

-- messages are cut for a slot until none comes
abbrev pub AddsCuts : History → ℕ × Neighbor → History → Type 0
AddsCuts H (n, neighbor) added = IsDrain n added

-- the history of an input that was read to its end
pub record IsEncode (cfg : Sections) (bytes : List ℕ) (H : History) : Type 0 where
  pub started : Spawn
  pub raised : History
  pub answered : History
  pub ups : Adding AddsUp (SpawnAsked 0 0 started ∷ []) (numbered 0 cfg.neighbors) raised
  pub answers : Adding AddsAnswer raised (lines bytes) answered
  pub cuts : Adding AddsCuts answered (numbered 0 cfg.neighbors) H

-- A history whose events begin those of an input: of the front of its lines, and, where these are all, of the front of
-- its neighbours.
pub record IsEncodePart (cfg : Sections) (bytes : List ℕ) (H : History) : Type 0 where
  pub started : Spawn
  pub raised : History
  pub answered : History
  pub more : History
  pub front : List Line
  pub behind : List Line
  pub lines_are : lines bytes ≡ front ++ behind
  pub slots : List (ℕ × Neighbor)
  pub others : List (ℕ × Neighbor)
  pub slots_are : numbered 0 cfg.neighbors ≡ slots ++ others
  pub late : (slots ≡ []) ⊎ (behind ≡ [])
  pub ups : Adding AddsUp (SpawnAsked 0 0 started ∷ []) (numbered 0 cfg.neighbors) raised
  pub answers : Adding AddsAnswer raised front answered
  pub cuts : Adding AddsCuts answered slots (more ++ H)
