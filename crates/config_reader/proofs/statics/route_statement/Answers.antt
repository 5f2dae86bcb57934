use Rattle.std.proofs.Common.{codes, Ok, Err}
use Rattle.std.proofs.lemmas.Result.{err_from_is_err_and}
use Rattle.route_values.specs.Addr.{family_of}
use Rattle.text_forms.specs.Families.{IsBlockText}
use Rattle.config_reader.specs.Keyed.{route_ended}
use Rattle.config_reader.specs.Rules.{◌>>=◌}
use Rattle.config_reader.specs.Statics.{items_at}
use Rattle.config_reader.specs.Words.{keyword, word}
use Rattle.config_reader.proofs.RuleLemmas.{goes_on, second_stops, third_stops}
use Rattle.config_reader.proofs.StaticLemmas.{same_items}
use Rattle.config_reader.proofs.statics.route_statement.Goals as goal

pub returns-in_err-prefix-clause-read : goal.returns-in_err-prefix-clause-read
returns-in_err-prefix-clause-read c =
    let e = err_from_is_err_and c.from_residual-in_err-prefix.result c.from_residual-in_err-prefix.ensures.1 in
    rw (e.1, e.2)
    (second_stops (keyword (codes "route")) (λ first. word IsBlockText)
    (λ first block. items_at (family_of block.addr) >>= route_ended c.args.routes block) c.args.words.now.end
    c.word.new.words.end c.args.words.now.left c.word.new.words.left c.word-2.new.words.left c.word-2.new.words.left
    c.in_ok-word.field-0 c.in_err-prefix.field-0.0 c.in_ok-word.ensures.read c.in_ok-word.ensures.end
    c.in_err-prefix.ensures.read)

pub returns-in_err-items-clause-read : goal.returns-in_err-items-clause-read
returns-in_err-items-clause-read c =
    let e = err_from_is_err_and c.from_residual-in_err-items.result c.from_residual-in_err-items.ensures.1 in
    rw (e.1, e.2)
    (third_stops (keyword (codes "route")) (λ first. word IsBlockText)
    (λ first block. items_at (family_of block.addr)) (λ first. route_ended c.args.routes) c.args.words.now.end
    c.word.new.words.end c.word-2.new.words.end c.args.words.now.left c.word.new.words.left c.word-2.new.words.left
    c.items_at.new.words.left c.items_at.new.words.left c.in_ok-word.field-0 c.in_ok-prefix.prefix
    c.in_err-items.field-0.0 c.in_ok-word.ensures.read c.in_ok-word.ensures.end c.in_ok-prefix.ensures.read
    c.in_ok-prefix.ensures.end
    (same_items (family_of c.in_ok-prefix.prefix.addr) c.family.result c.word-2.new.words.end c.word-2.new.words.left
    c.items_at.new.words.left (Err c.in_err-items.field-0.0) c.family.ensures c.in_err-items.ensures.read))

pub returns-clause-read : goal.returns-clause-read
returns-clause-read c =
    goes_on (keyword (codes "route"))
    (λ first. word IsBlockText >>= λ block. items_at (family_of block.addr) >>= route_ended c.args.routes block)
    c.args.words.now.end c.word.new.words.end c.args.words.now.left c.word.new.words.left c.route_ended.new.words.left
    c.in_ok-word.field-0 c.route_ended.result c.in_ok-word.ensures.read c.in_ok-word.ensures.end
    (goes_on (word IsBlockText) (λ block. items_at (family_of block.addr) >>= route_ended c.args.routes block)
    c.word.new.words.end c.word-2.new.words.end c.word.new.words.left c.word-2.new.words.left
    c.route_ended.new.words.left c.in_ok-prefix.prefix c.route_ended.result c.in_ok-prefix.ensures.read
    c.in_ok-prefix.ensures.end
    (goes_on (items_at (family_of c.in_ok-prefix.prefix.addr)) (route_ended c.args.routes c.in_ok-prefix.prefix)
    c.word-2.new.words.end c.items_at.new.words.end c.word-2.new.words.left c.items_at.new.words.left
    c.route_ended.new.words.left c.in_ok-items.items c.route_ended.result
    (same_items (family_of c.in_ok-prefix.prefix.addr) c.family.result c.word-2.new.words.end c.word-2.new.words.left
    c.items_at.new.words.left (Ok c.in_ok-items.items) c.family.ensures c.in_ok-items.ensures.read)
    c.in_ok-items.ensures.end c.route_ended.ensures.read))
