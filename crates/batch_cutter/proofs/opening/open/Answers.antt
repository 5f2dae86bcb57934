use Rattle.std.proofs.Common.{[], length, arith, ap, sym, ◌∙◌, subst}
use Rattle.route_values.specs.Caps.{no_caps}
use Rattle.update_grammar.specs.Head as head
use Rattle.update_grammar.specs.Written.{written}
use Rattle.batch_cutter.specs.Heads.{head_told, CanBegin, IsRoute}
use Rattle.batch_cutter.proofs.PutLemmas.{told, appended_all}
use Rattle.batch_cutter.proofs.SizeLemmas.{marker_short}
use Rattle.batch_cutter.proofs.opening.open.Goals as goal

pub returns-in-Gone-clause-text : goal.returns-in-Gone-clause-text
returns-in-Gone-clause-text c = λ caps.
    appended_all c.args.out.now c.open_gone.new.out (written caps (head.Gone c.in-Gone.family) []) c.requires.empty
    (c.open_gone.ensures.ok caps)
    ∙ ap (λ h. written caps (head_told h) []) (sym c.in-Gone.is)

pub returns-in-Gone-clause-room : goal.returns-in-Gone-clause-room
returns-in-Gone-clause-room c = (c.open_gone.ensures.ok no_caps).room

pub returns-in-Here-clause-text : goal.returns-in-Here-clause-text
returns-in-Here-clause-text c = λ caps.
    let begun : IsRoute c.in-Here.family c.in-Here.attrs.now =
    subst (λ h. CanBegin (head_told h)) c.in-Here.is c.requires.begun in
    appended_all c.args.out.now c.open_here.new.out (written caps (head.Here c.in-Here.family c.in-Here.attrs.now) [])
    c.requires.empty
    (told c.open_here.result (c.open_here.ensures.within begun.sendable begun.within) (c.open_here.ensures.ok caps))
    ∙ ap (λ h. written caps (head_told h) []) (sym c.in-Here.is)

pub returns-in-Here-clause-room : goal.returns-in-Here-clause-room
returns-in-Here-clause-room c =
    let begun : IsRoute c.in-Here.family c.in-Here.attrs.now =
    subst (λ h. CanBegin (head_told h)) c.in-Here.is c.requires.begun in
    (told c.open_here.result (c.open_here.ensures.within begun.sendable begun.within)
    (c.open_here.ensures.ok no_caps)).room

pub returns-in-End-clause-text : goal.returns-in-End-clause-text
returns-in-End-clause-text c = λ caps.
    let fits = (c.put_end_of_rib.ensures.fits caps).1
    (omega (arith, marker_short caps c.in-End.family, ap length c.requires.empty, c.requires.room)) in
    appended_all c.args.out.now c.put_end_of_rib.new.out (written caps (head.End c.in-End.family) []) c.requires.empty
    (told c.put_end_of_rib.result fits (c.put_end_of_rib.ensures.ok caps))
    ∙ ap (λ h. written caps (head_told h) []) (sym c.in-End.is)

pub returns-in-End-clause-room : goal.returns-in-End-clause-room
returns-in-End-clause-room c =
    let fits = (c.put_end_of_rib.ensures.fits no_caps).1
    (omega (arith, marker_short no_caps c.in-End.family, ap length c.requires.empty, c.requires.room)) in
    (told c.put_end_of_rib.result fits (c.put_end_of_rib.ensures.ok no_caps)).room
