-- The examples of batches compute.
use Rattle.std.proofs.Common.{refl}
use Rattle.text_forms.specs.Lines.{Line}
use Rattle.update_grammar.specs.ReadAttributes.{raw_at, value_in, attr_of, attrs_in}
use Rattle.update_grammar.specs.ReadPrefixes.{key_at, keys_in}
use Rattle.update_grammar.specs.ReadUpdate.{field_at, effects_of, fields_in, effects_in}
use Rattle.update_grammar.specs.ReadValues.{origin_in, number_in, part_at, path_in}
use Rattle.update_grammar.specs.Steps.{each_of}
use Rattle.update_grammar.specs.Written.{attributes_text}
use Rattle.command_grammar.specs.declared.command.Command.{Command}
use Rattle.book_history.specs.BatchExamples.{FrozenBatches, LostSessions, SentAgain}

pub frozen_batches : (line : Command → Line) → FrozenBatches line
unfolding key_at keys_in field_at effects_of fields_in effects_in attributes_text raw_at value_in attr_of attrs_in
    origin_in number_in part_at path_in each_of
frozen_batches line = record {
  first_sent = refl;
  second_left = refl;
  marker_left = refl;
  anew_within = refl;
  anew_held = refl;
  anew_next = refl;
  anew_alone = refl;
  marker_once = refl;
  back_within = refl;
  back_next = refl;
  withdrawn_within = refl;
  withdrawn_next = refl;
  withdrawn_at_last = refl;
  refreshed_within = refl;
  refreshed_first = refl;
  refreshed_second = refl;
  no_marker_again = refl;
}

pub lost_sessions : (line : Command → Line) → LostSessions line
unfolding key_at keys_in field_at effects_of fields_in effects_in attributes_text raw_at value_in attr_of attrs_in
    origin_in number_in part_at path_in each_of
lost_sessions line = record {
  third_before = refl;
  held = refl;
  first_again = refl;
  second_too = refl;
  not_third = refl;
  marker_again = refl;
  no_other_marker = refl;
}

pub sent_again : (line : Command → Line) → SentAgain line
unfolding key_at keys_in field_at effects_of fields_in effects_in attributes_text raw_at value_in attr_of attrs_in
    origin_in number_in part_at path_in each_of
sent_again line = record {
  at_rest = refl;
  asked = refl;
  sent = refl;
  flushed = refl;
  other_family = refl;
  no_marker = refl;
}
