use Rattle.std.proofs.Common.{not, sym, ap, ◌∙◌}
use Rattle.std.specs.Prelude.{◌||◌}
use Rattle.peer_history.specs.Keys.{is_named}
use Rattle.peer_book.proofs.counting.is_new.Goals as goal

pub returns-then-ascending : goal.returns-then-ascending
returns-then-ascending c =
    c.if-ascending.true ∙ ap not (sym (c.requires c.if-ascending.true))
    ∙ ap (λ b. not (b || is_named c.args.before.now c.args.key.now)) (sym (sym c.is_node.ensures
    ∙ c.if-not-is_node.true))

pub returns-else-ascending : goal.returns-else-ascending
returns-else-ascending c =
    ap not c.is_named.ensures
    ∙ ap (λ b. not (b || is_named c.args.before.now c.args.key.now)) (sym (sym c.is_node.ensures
    ∙ c.if-not-is_node.true))

pub returns-else-not-is_node : goal.returns-else-not-is_node
returns-else-not-is_node c =
    ap not (c.if-not-is_node.false ∙ sym (ap (λ b. b || is_named c.args.before.now c.args.key.now)
    (sym c.is_node.ensures ∙ c.if-not-is_node.false)))
