-- The examples of helpers compute.
use Rattle.std.proofs.Common.{refl}
use Rattle.text_forms.specs.Lines.{Line}
use Rattle.command_grammar.specs.declared.command.Command.{Command}
use Rattle.book_history.specs.HelperExamples.{FewStarts, HelpersGone, SwitchedReplies}

pub few_starts : FewStarts
few_starts = record {
  legal = (tt, (refl, (tt, (refl, (tt, (refl, (tt, (refl, (tt, (refl, tt))))))))));
  too_soon = refl;
  in_time = refl;
  not_again = refl;
}

pub helpers_gone : (line : Command → Line) → HelpersGone line
helpers_gone line = record {
  late = refl;
  waiting = refl;
  next = refl;
  taken = refl;
  ended = refl;
  deaf = refl;
}

pub switched_replies : (line : Command → Line) → SwitchedReplies line
switched_replies line = record {
  waiting = refl;
  handed_out = (refl, refl);
  none_left = refl;
  nothing_more = refl;
}
