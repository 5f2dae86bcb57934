use Rattle.std.proofs.Common.{refl, ap}
use Rattle.text_forms.specs.Lines.{Line as Said}
use Rattle.book_history.specs.Entries.Entry.{LineEntered}
use Rattle.script_grammar.specs.Events.{Line}
use Rattle.text_forms.specs.LineTold.{line_told}
use Rattle.script_play.proofs.AskedLemmas.{puts_asked, stands_behind}
use Rattle.script_play.proofs.player.Player.line.Goals as goal

pub returns : goal.returns
returns c =
    let read = c.new-read.result in
    let given = c.line-given.result in
    let entry = LineEntered c.args.h c.args.inc read.line read.reading given in
    puts_asked c.args.self.now _ (Line c.args.h c.args.inc (line_told c.args.line)) entry c.put_verdict.result
    c.clear.new.self.items c.clear.ensures.items
    (λ content cfg H is known. (
      read.reading,
      given,
      ap (λ (said : Said). LineEntered c.args.h c.args.inc said read.reading given) c.new-read.ensures,
    ))
    (stands_behind c.args.self.now _ entry (λ n H. refl) (λ cfg H is. (c.line-given.ensures cfg H is).1) refl refl)
    c.put_verdict.ensures
