use Rattle.std.proofs.Common.{◌≡◌, ◌<◌, ◌++◌, ◌∷◌, [], length, ◌∙◌, arith, rules}
use Rattle.std.proofs.lemmas.Result.{err_from_is_err_and}
use Rattle.command_grammar.specs.Routes.{key_from}
use Rattle.command_grammar.proofs.BlockLemmas.{keys_err, keys_begin, keys_more, keys_done, keys_word_err, keys_no_room}
use Rattle.command_grammar.proofs.BlockLemmas.{one_few, more_few}
use Rattle.command_grammar.proofs.blocks.keys_at.Goals as goal

pub returns-in_err-first-clause-read : goal.returns-in_err-first-clause-read
returns-in_err-first-clause-read c =
    let e = err_from_is_err_and c.from_residual.result c.from_residual.ensures.1 in
    rw (e.1, e.2)
    (keys_err c.args.id c.args.wanted c.args.words.now.left c.block_at.new.words.left c.block_at.new.words.end
    c.in_err-first.field-0.0 c.in_err-first.ensures.read)

pub prefixes-init : goal.prefixes-init
prefixes-init c =
    let is : c.push.new.self ≡ key_from c.args.id c.in_ok-first.first ∷ [] = search rules in
    record {
      end = c.in_ok-first.ensures.end;
      few = one_few c.push.new.self (key_from c.args.id c.in_ok-first.first) is;
      keys = keys_begin c.args.id c.args.wanted c.family-family.result c.args.words.now.left c.block_at.new.words.left
          c.in_ok-first.first c.push.new.self c.in_ok-first.ensures.read c.family-family.ensures is;
    }

pub returns-then-len-clause-read : goal.returns-then-len-clause-read
returns-then-len-clause-read c =
    let some : c.prefixes.words.left ≡ [] → ⊥ = search rules in
    let few = c.prefixes.invariant.few in
    let full : length c.prefixes.keys ≡ 1024 = omega (arith, few) in
    keys_no_room c.args.id c.args.wanted c.family-family.result c.args.words.now.left c.block_at.new.words.left
    c.prefixes.words.left c.prefixes.words.end c.prefixes.keys c.no_room.result c.prefixes.invariant.keys some full
    c.no_room.ensures

pub returns-in_err-prefix-clause-read : goal.returns-in_err-prefix-clause-read
returns-in_err-prefix-clause-read c =
    let e = err_from_is_err_and c.from_residual-in_err-prefix.result c.from_residual-in_err-prefix.ensures.1 in
    let some : c.prefixes.words.left ≡ [] → ⊥ = search rules in
    let room : length c.prefixes.keys < 1024 = omega arith in
    rw (e.1, e.2)
    (keys_word_err c.args.id c.args.wanted c.family-family.result c.args.words.now.left c.block_at.new.words.left
    c.prefixes.words.left c.block_at-in-prefixes.new.words.left c.block_at-in-prefixes.new.words.end c.prefixes.keys
    c.in_err-prefix.field-0.0 c.prefixes.invariant.keys some room c.in_err-prefix.ensures.read)

pub prefixes-preserved : goal.prefixes-preserved
prefixes-preserved c =
    let room : length c.prefixes.keys < 1024 = omega arith in
    let is : c.push-in-prefixes.new.self ≡ c.prefixes.keys ++ key_from c.args.id c.in_ok-prefix.prefix ∷ [] =
    search rules in
    record {
      end = c.in_ok-prefix.ensures.end ∙ c.prefixes.invariant.end;
      few = more_few c.prefixes.keys c.push-in-prefixes.new.self (key_from c.args.id c.in_ok-prefix.prefix) is room;
      keys = keys_more c.args.id c.args.wanted c.family-family.result c.args.words.now.left c.block_at.new.words.left
          c.prefixes.words.left c.block_at-in-prefixes.new.words.left c.in_ok-prefix.prefix c.prefixes.keys
          c.push-in-prefixes.new.self c.prefixes.invariant.keys c.in_ok-prefix.ensures.read is;
    }

pub returns-clause-read : goal.returns-clause-read
returns-clause-read c =
    let none : c.prefixes.words.left ≡ [] = search rules in
    keys_done c.args.id c.args.wanted c.family-family.result c.args.words.now.left c.block_at.new.words.left
    c.prefixes.words.left c.prefixes.words.end c.prefixes.keys c.prefixes.invariant.keys none c.prefixes.invariant.few
