use Rattle.std.proofs.Common.{◌≡◌, ◌+◌, ◌≤◌, List, length, Result}
use Rattle.token_reader.specs.Tokens.{Placed}
use Rattle.config_model.specs.Sections.{routes_in}
use Rattle.config_reader.specs.declared.fault.ConfigError.{ConfigError}
use Rattle.config_reader.specs.declared.written.FileRead.{FileRead}
use Rattle.config_reader.specs.Answered.{Answers}
use Rattle.config_reader.specs.Rules.{until, is_end}
use Rattle.config_reader.specs.Files.{section_at, sections_read}
use Rattle.config_reader.proofs.sections.sections_read.Given as goal

abbrev pub invariant-sections : goal.invariant-sections
invariant-sections l = record {
  end : l.words.end ≡ l.fn.words.end;
  whole : (left : List Placed) (answer : Result FileRead ConfigError)
      → Answers (until is_end (section_at l.fn.slots) l.read) l.fn.words.end l.words.left left answer
      → Answers (sections_read l.fn.slots) l.fn.words.end l.fn.words.left left answer;
  room : routes_in l.read.sections.neighbors + length l.words.left ≤ 1048576;
}

abbrev pub decreases-sections : goal.decreases-sections
decreases-sections l = length l.words.left
