use Rattle.update_grammar.proofs.ReadAttributesLemmas.{attrs_found, attrs_only}
use Rattle.update_grammar.proofs.ReadUpdateLemmas.{effects_found, effects_only, one_meaning}
use Rattle.update_grammar.proofs.laws.reading_is_spelling.Goals as goal

pub returns : goal.returns
returns c = record {
  attrs_found = attrs_found;
  attrs_only = attrs_only;
  effects_found = effects_found;
  effects_only = effects_only;
  one = one_meaning;
}
