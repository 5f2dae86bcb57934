use Rattle.std.proofs.Common.{take}
use Rattle.update_grammar.specs.Values.{larges_text}
use Rattle.attr_codec.specs.Buffer.{Appended}
use Rattle.attr_codec.proofs.writing.lists.put_large_values.Given as goal

abbrev pub invariant-loop-large : goal.invariant-loop-large
invariant-loop-large l = Appended l.fn.out l.out (larges_text (take l.large-index l.larges))
