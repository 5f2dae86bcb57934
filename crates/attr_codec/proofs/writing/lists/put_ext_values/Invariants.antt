use Rattle.std.proofs.Common.{take}
use Rattle.update_grammar.specs.Values.{exts_text}
use Rattle.attr_codec.specs.Buffer.{Appended}
use Rattle.attr_codec.proofs.writing.lists.put_ext_values.Given as goal

abbrev pub invariant-loop-ext : goal.invariant-loop-ext
invariant-loop-ext l = Appended l.fn.out l.out (exts_text (take l.ext-index l.exts))
