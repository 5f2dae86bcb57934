-- The example of a reload computes.
use Rattle.std.proofs.Common.{refl, inl}
use Rattle.text_forms.specs.Lines.{Line}
use Rattle.update_grammar.specs.ReadAttributes.{raw_at, value_in, attr_of, attrs_in}
use Rattle.update_grammar.specs.ReadPrefixes.{key_at, keys_in}
use Rattle.update_grammar.specs.ReadUpdate.{field_at, effects_of, fields_in, effects_in}
use Rattle.update_grammar.specs.ReadValues.{origin_in, number_in, part_at, path_in}
use Rattle.update_grammar.specs.Steps.{each_of}
use Rattle.update_grammar.specs.Written.{attributes_text}
use Rattle.command_grammar.specs.declared.command.Command.{Command}
use Rattle.book_history.specs.ReloadExamples.{Reloads}

pub reloads : (line : Command → Line) → Reloads line
unfolding key_at keys_in field_at effects_of fields_in effects_in attributes_text raw_at value_in attr_of attrs_in
    origin_in number_in part_at path_in each_of
reloads line = record {
  static_sent = refl;
  allowed = inl refl;
  static_gone = refl;
  helpers_stay = refl;
  ended = (refl, refl);
  static_stays = refl;
  second_stays = refl;
}
