-- The flags of each kind of path attribute (RFC 4271, section 4.3).
use Rattle.std.specs.Prelude.{ℕ}
use Rattle.attr_codec.specs.declared.codes.Kind.{Kind}
use Rattle.attr_codec.specs.declared.codes.Kind.TheVariants.{WellKnown, Optional, OptionalTransitive}
use Rattle.update_grammar.specs.Attributes.{transitive, optional, optional_transitive}

-- the flags of an attribute of a kind, without extended length
abbrev pub flags_of : Kind → ℕ
flags_of WellKnown = transitive
flags_of Optional = optional
flags_of OptionalTransitive = optional_transitive
