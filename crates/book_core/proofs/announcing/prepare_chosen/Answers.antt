use Rattle.std.proofs.Common.{◌∙◌, ap, sym}
use Rattle.std.proofs.lemmas.Option.{same_Some}
use Rattle.route_values.specs.Settings.{side_of}
use Rattle.book_core.proofs.AnnounceLemmas.{ok_then, readied}
use Rattle.book_core.proofs.announcing.prepare_chosen.Goals as goal

pub returns : goal.returns
returns c =
    let same = same_Some c.in-Some.settings c.requires.own
    (sym c.in-Some.is ∙ c.settings.ensures.value ∙ c.requires.placed) in
    record {
      stands = c.prepare.ensures.stands;
      readied = ok_then c.prepare.result (λ number ready. readied c.args.slot.now c.prepare.new.self c.args.keys.now
          c.args.written.now number c.side.result c.requires (c.side.ensures ∙ ap side_of same)
          c.prepare.ensures.settings ready c.known_route.ensures) c.prepare.ensures.ok;
    }
