-- The examples of ends compute.
use Rattle.std.proofs.Common.{refl}
use Rattle.text_forms.specs.Lines.{Line}
use Rattle.command_grammar.specs.declared.command.Command.{Command}
use Rattle.book_history.specs.EndExamples.{Ends}

pub ends : (line : Command → Line) → Ends line
ends line = record {
  reset = (refl, refl);
  down = refl;
  late = refl;
  no_start = refl;
  stop = refl;
  no_peer = refl;
  stale = refl;
}
