-- What a packer keeps of the head of its message.
use Rattle.std.specs.Prelude.{ℕ, ◌<◌, ⊤}
use Rattle.route_values.specs.declared.addr.Family.{Family}
use Rattle.batch_cutter.specs.declared.kind.Kind.{Kind}
use Rattle.batch_cutter.specs.declared.kind.Kind.TheVariants.{Gone, Here, End}

-- the family that a message is for
abbrev pub family_of_kind : Kind → Family
family_of_kind (Gone family) = family
family_of_kind (Here family) = family
family_of_kind (End family) = family

-- the message takes keys, as every message but a marker does
abbrev pub TakesKeys : Kind → Type 0
TakesKeys (Gone family) = ⊤
TakesKeys (Here family) = ⊤
TakesKeys (End family) = ⊥

-- the message has a key, where it takes any: its prefixes have so many bytes
abbrev pub HasKeys : Kind → ℕ → Type 0
HasKeys (Gone family) filled = 0 < filled
HasKeys (Here family) filled = 0 < filled
HasKeys (End family) filled = ⊤
