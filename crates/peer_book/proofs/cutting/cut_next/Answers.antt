use Rattle.std.proofs.Common.{ap, ◌∙◌}
use Rattle.std.specs.Prelude.{is_some}
use Rattle.std.specs.Option.{option_map}
use Rattle.batch_cutter.specs.Items.{front}
use Rattle.adj_rib_out.specs.Told.{items_left}
use Rattle.adj_rib_out.specs.State.{Session}
use Rattle.peer_book.proofs.PassLemmas.{can_fill, passes_sound, passes_session, told_true}
use Rattle.std.proofs.Common.{sym, not, subst}
use Rattle.adj_rib_out.specs.State.{State}
use Rattle.peer_book.specs.Cutting.{MakesReady}
use Rattle.peer_book.specs.Slot.{IsSound}
use Rattle.peer_book.proofs.OpenLemmas.{open_front, told_false, false_front}
use Rattle.peer_book.proofs.cutting.cut_next.Goals as goal

pub returns-clause-sound : goal.returns-clause-sound
returns-clause-sound c =
    let fills = told_true c.fill.result c.if-not-fill.false c.fill.ensures.message in
    passes_sound fills.items c.make_ready.new.table c.fill.new.batch c.make_ready.ensures.sound fills.passed

pub returns-clause-session : goal.returns-clause-session
returns-clause-session c =
    let fills = told_true c.fill.result c.if-not-fill.false c.fill.ensures.message in
    ap (option_map (λ (s : Session). s.caps))
    (passes_session fills.items c.make_ready.new.table c.fill.new.batch fills.passed)
    ∙ c.make_ready.ensures.session ∙ c.requires.session

pub fill-requires-clause-route : goal.fill-requires-clause-route
fill-requires-clause-route c =
    can_fill c.args.caps c.make_ready.new.table c.make_ready.ensures.sound
    (c.make_ready.ensures.session ∙ c.requires.session)

pub make_ready-requires : goal.make_ready-requires
make_ready-requires c = record { sound = c.requires.sound }

pub returns-then-not-fill-clause-cuts : goal.returns-then-not-fill-clause-cuts
returns-then-not-fill-clause-cuts c =
    let same = told_false c.fill.result c.if-not-fill.true c.fill.ensures.none in
    record {
      ready = subst (MakesReady c.args.table.now) (sym same.0) c.make_ready.ensures.ready;
      closed = sym (open_front c.fill.new.batch)
          ∙ ap (λ (s : State). is_some (front (items_left s))) same.0
          ∙ false_front c.fill.result _ c.if-not-fill.true c.fill.ensures.some;
    }

pub returns-then-not-fill-clause-sound : goal.returns-then-not-fill-clause-sound
returns-then-not-fill-clause-sound c =
    let same = told_false c.fill.result c.if-not-fill.true c.fill.ensures.none in
    subst IsSound (sym same.0) c.make_ready.ensures.sound

pub returns-then-not-fill-clause-session : goal.returns-then-not-fill-clause-session
returns-then-not-fill-clause-session c =
    let same = told_false c.fill.result c.if-not-fill.true c.fill.ensures.none in
    ap (λ (s : State). option_map (λ (t : Session). t.caps) s.session) same.0 ∙ c.make_ready.ensures.session
    ∙ c.requires.session

pub returns-clause-cuts : goal.returns-clause-cuts
returns-clause-cuts c =
    let fills = told_true c.fill.result c.if-not-fill.false c.fill.ensures.message in
    record {
      mid = c.make_ready.new.table;
      ready = c.make_ready.ensures.ready;
      some = sym (open_front c.make_ready.new.table) ∙ c.fill.ensures.some.0 c.if-not-fill.false;
      fills = fills;
      ends = ap not c.is_open.ensures;
    }
