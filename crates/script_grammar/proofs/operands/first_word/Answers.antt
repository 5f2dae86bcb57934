use Rattle.std.proofs.Common.{◌≡◌, ◌≢◌, All, None}
use Rattle.text_forms.proofs.OptionLemmas.{none_map}
use Rattle.script_grammar.specs.Words.{first_word}
use Rattle.script_grammar.proofs.WordLemmas.{first_uncut, parts_found}
use Rattle.script_grammar.proofs.operands.first_word.Goals as goal

pub returns-clause-found : goal.returns-clause-found
returns-clause-found c = parts_found c.args.text.now c.cut.result c.cut.ensures.found c.cut.ensures.first

pub returns-clause-none : goal.returns-clause-none
returns-clause-none c =
    none_map c.cut.result (All (λ b. b ≢ 32) c.args.text.now) (first_word c.args.text.now ≡ None)
    (first_uncut c.args.text.now) c.cut.ensures.none
