use Rattle.std.proofs.Common.{sym, subst, arith}
use Rattle.book_core.specs.Processes.{process_in, AreProcessPlaces}
use Rattle.book_core.specs.Stands.{HelpersStand}
use Rattle.book_core.proofs.ProcessLemmas.{all_reloaded, none_reloaded}
use Rattle.book_core.proofs.processes.reload_helpers.Goals as goal

pub helpers-init : goal.helpers-init
helpers-init c =
    none_reloaded (process_in c.args.processes.now c.find_places-places.result) c.args.helpers.now.items

pub helpers-preserved : goal.helpers-preserved
helpers-preserved c =
    c.reload_at.ensures c.args.helpers.now.items (process_in c.args.processes.now c.find_places-places.result)
    (sym c.process_in-process.ensures) c.helpers.invariant

pub returns : goal.returns
returns c =
    let over = c.helpers-test.false in
    let within = c.helpers.auto.h-end in
    let all = c.requires in
    let places = c.find_places-places.result in
    record {
      count = c.helpers.invariant.count;
      reloads = λ cfg H stand. record {
        places = places;
        are = subst (λ helpers. AreProcessPlaces c.args.processes.now helpers places) c.as_slice.ensures.value
            (c.find_places-places.ensures cfg H (subst (HelpersStand cfg H) (sym c.as_slice.ensures.value) stand));
        each = all_reloaded (process_in c.args.processes.now places) c.args.helpers.now.items c.helpers.helpers.items
            c.helpers.h (omega (arith, over, within, all)) c.helpers.invariant;
      };
    }
