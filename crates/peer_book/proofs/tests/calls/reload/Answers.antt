use Rattle.std.proofs.Common.{refl, sym, ◌∙◌}
use Rattle.peer_book.proofs.tests.calls.reload.Goals as goal

pub keep-requires : goal.keep-requires
keep-requires c = record {
  own = c.in-Some.own;
  placed = c.prepare_statics.ensures.settings ∙ sym c.settings.ensures.value ∙ c.in-Some.is;
  side = refl;
  numbered = c.in_ok-numbers.ensures.ok;
  routes = c.are_routes.ensures (sym (sym c.if-not-are_routes.false));
}
