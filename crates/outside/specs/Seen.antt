-- What a contract sees of a device at one moment, as one record.
use Rattle.std.specs.Prelude.{ℕ, List, Bool}
use Rattle.std.specs.declared.option.Option.{Option}

-- the bytes that a source has given and has left to give, where it tells them, whether it has met its end, and how
-- often it has failed
pub record SourceSeen : Type 0 where
  pub given : Option (List ℕ)
  pub left : Option (List ℕ)
  pub ended : Bool
  pub faults : ℕ

-- the bytes that a sink has taken, where it tells them, and how often it has failed
pub record SinkSeen : Type 0 where
  pub taken : Option (List ℕ)
  pub faults : ℕ

-- the content by path of what opens files, where it tells it, and how often it has failed
pub record FilesSeen : Type 0 where
  pub content : Option (List ℕ → List ℕ)
  pub faults : ℕ

module _ {D : Type 0} where
  -- what is seen of a source, by what it tells
  abbrev pub source_seen : (D → Option (List ℕ)) → (D → Option (List ℕ)) → (D → Bool) → (D → ℕ) → D → SourceSeen
  source_seen given left ended faults source =
      record { given = given source; left = left source; ended = ended source; faults = faults source }

  -- what is seen of a sink, by what it tells
  abbrev pub sink_seen : (D → Option (List ℕ)) → (D → ℕ) → D → SinkSeen
  sink_seen taken faults sink = record { taken = taken sink; faults = faults sink }

  -- what is seen of what opens files, by what it tells
  abbrev pub files_seen : (D → Option (List ℕ → List ℕ)) → (D → ℕ) → D → FilesSeen
  files_seen content faults files = record { content = content files; faults = faults files }
