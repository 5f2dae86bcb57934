use Rattle.std.proofs.Common.{rules}
use Rattle.route_grammar.specs.Numbers.{IsOfFamily}
use Rattle.command_grammar.proofs.blocks.front_block.Goals as goal

pub returns-clause-found : goal.returns-clause-found
returns-clause-found c =
    let wanted : IsOfFamily c.args.wanted c.in-Some-prefix.prefix.addr = search rules in (
      c.in-Some.word.now,
      c.in-Some.ensures.found,
      (c.in-Some-prefix.ensures.found, wanted),
      λ other is. c.in-Some-prefix.ensures.only other is.0,
    )
