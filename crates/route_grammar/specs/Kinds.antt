-- A set of kinds as marks.
use Rattle.std.specs.Prelude.{◌≡◌, false, List, length, slice_index_or}
use Rattle.route_grammar.specs.declared.kind.Kind.{Kind}
use Rattle.route_grammar.specs.declared.kind.Kinds.{Kinds}
use Rattle.route_grammar.specs.Items.{is_among, kind_code}

-- the marks are those of these kinds, in any order
pub record HasKinds (set : Kinds) (kinds : List Kind) : Type 0 where
  pub len : length set.marks ≡ 13
  pub marked : (kind : Kind) → slice_index_or set.marks (kind_code kind) false ≡ is_among kind kinds
