-- What is told of children and links that have been given back.
use Rattle.std.specs.Prelude.{ℕ, ◌≡◌, Bool, List, [], ◌∷◌, ◌++◌, ⊤}
use Rattle.std.specs.declared.option.Option.{Option}
use Rattle.std.specs.declared.option.Option.TheVariants.{Some, None}
use Rattle.route_values.specs.declared.settings.Settings.{Settings}

-- the bytes that a child gave, whether its source met their end and how often it failed, and the bytes that it took and
-- how often its sink failed
pub record EndedChild : Type 0 where
  pub given : List ℕ
  pub ended : Bool
  pub faults : ℕ
  pub taken : List ℕ
  pub sink_faults : ℕ

-- the settings that a link was dialled with, the bytes that it gave, for each quiet call how many it had given before,
-- whether it met their end, the bytes that it took, and how often it failed
pub record EndedLink : Type 0 where
  pub dialled : Settings
  pub given : List ℕ
  pub quiets : List ℕ
  pub ended : Bool
  pub taken : List ℕ
  pub faults : ℕ

-- a child, where its pipes tell all of it
abbrev pub child_of : Option (List ℕ) → Bool → ℕ → Option (List ℕ) → ℕ → Option EndedChild
child_of None ended faults taken sink_faults = None
child_of (Some given) ended faults None sink_faults = None
child_of (Some given) ended faults (Some taken) sink_faults = Some record {
  given = given;
  ended = ended;
  faults = faults;
  taken = taken;
  sink_faults = sink_faults;
}

-- a link, where it tells all of itself
abbrev pub link_of :
    Option Settings → Option (List ℕ) → Option (List ℕ) → Bool → Option (List ℕ) → ℕ → Option EndedLink
link_of None given quiets ended taken faults = None
link_of (Some dialled) None quiets ended taken faults = None
link_of (Some dialled) (Some given) None ended taken faults = None
link_of (Some dialled) (Some given) (Some quiets) ended None faults = None
link_of (Some dialled) (Some given) (Some quiets) ended (Some taken) faults = Some record {
  dialled = dialled;
  given = given;
  quiets = quiets;
  ended = ended;
  taken = taken;
  faults = faults;
}

module _ {A : Type 0} where
  -- the told list grows by an item where the item is told, and tells nothing more where it isn't
  abbrev pub Gathers : Option (List A) → Option (List A) → Option A → Type 0
  Gathers old None item = ⊤
  Gathers old (Some now) None = ⊥
  Gathers None (Some now) (Some item) = ⊥
  Gathers (Some was) (Some now) (Some item) = now ≡ was ++ item ∷ []
