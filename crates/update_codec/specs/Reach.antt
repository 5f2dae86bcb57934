-- Where the MP_REACH_NLRI of an announcement stands (RFC 4760, section 3).
use Rattle.std.specs.Prelude.{ℕ, ◌≡◌, ◌≢◌, ◌^◌, ◌<◌, List, ◌++◌, length}
use Rattle.std.specs.List.{AllByRecursion}
use Rattle.update_grammar.specs.Attributes.{Raw, raw_text, optional, IsRaw}
use Rattle.update_grammar.specs.Codes.{code_reach}
use Rattle.update_grammar.specs.Written.{raw}
use Rattle.attr_codec.specs.Groups.{raws_text}

-- an attribute that is no MP_REACH_NLRI
abbrev pub IsOther : Raw → Type 0
IsOther a = IsRaw a × (a.code ≢ code_reach)

-- attributes with an MP_REACH_NLRI, which others may stand before and behind
pub record HasReach (attributes : List ℕ) : Type 0 where
  pub raws : List Raw
  pub value : List ℕ
  pub after : List ℕ
  pub text : attributes ≡ raws_text raws ++ (raw_text (raw optional code_reach value) ++ after)
  pub others : AllByRecursion IsOther raws
  pub filled : 0 < length value
  pub fits : length value < 2 ^ 16
