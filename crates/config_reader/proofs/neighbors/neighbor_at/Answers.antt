use Rattle.std.proofs.Common.{is_some}
use Rattle.text_forms.specs.Families.{IsAddrText}
use Rattle.std.proofs.lemmas.Result.{err_from_is_err_and}
use Rattle.config_model.specs.declared.fault.ConfigKind.TheVariants.{Twice}
use Rattle.config_model.specs.Sections.{place_of_peer}
use Rattle.config_reader.specs.Neighbors.{neighbor_closed, neighbor_statements}
use Rattle.config_reader.specs.Rules.{sign, where_so, ◌>>=◌}
use Rattle.config_reader.specs.Words.{word_or}
use Rattle.config_reader.proofs.RuleLemmas.{goes_on, second_stops, third_stops}
use Rattle.config_reader.proofs.neighbors.neighbor_at.Goals as goal

pub returns-in_err-sign-clause-read : goal.returns-in_err-sign-clause-read
returns-in_err-sign-clause-read c =
    let e = err_from_is_err_and c.from_residual-in_err-sign.result c.from_residual-in_err-sign.ensures.1 in
    rw (e.1, e.2)
    (second_stops (word_or IsAddrText (λ peer. where_so Twice (is_some (place_of_peer c.args.before.now peer))))
    (λ peer. sign 123) (λ peer opened. neighbor_statements peer >>= λ written. neighbor_closed peer written)
    c.args.words.now.end c.peer_at.new.words.end c.args.words.now.left c.peer_at.new.words.left c.sign.new.words.left
    c.sign.new.words.left c.in_ok-peer.peer c.in_err-sign.field-0.0 c.in_ok-peer.ensures.read c.in_ok-peer.ensures.end
    c.in_err-sign.ensures.read)

pub returns-in_err-written-clause-read : goal.returns-in_err-written-clause-read
returns-in_err-written-clause-read c =
    let e = err_from_is_err_and c.from_residual-in_err-written.result c.from_residual-in_err-written.ensures.1 in
    rw (e.1, e.2)
    (third_stops (word_or IsAddrText (λ peer. where_so Twice (is_some (place_of_peer c.args.before.now peer))))
    (λ peer. sign 123) (λ peer opened. neighbor_statements peer) (λ peer opened written. neighbor_closed peer written)
    c.args.words.now.end c.peer_at.new.words.end c.sign.new.words.end c.args.words.now.left c.peer_at.new.words.left
    c.sign.new.words.left c.neighbor_statements.new.words.left c.neighbor_statements.new.words.left c.in_ok-peer.peer
    c.in_ok-sign.field-0 c.in_err-written.field-0.0 c.in_ok-peer.ensures.read c.in_ok-peer.ensures.end
    c.in_ok-sign.ensures.read c.in_ok-sign.ensures.end c.in_err-written.ensures.read)

pub returns-clause-read : goal.returns-clause-read
returns-clause-read c =
    goes_on (word_or IsAddrText (λ peer. where_so Twice (is_some (place_of_peer c.args.before.now peer))))
    (λ peer. sign 123 >>= λ opened. neighbor_statements peer >>= λ written. neighbor_closed peer written)
    c.args.words.now.end c.peer_at.new.words.end c.args.words.now.left c.peer_at.new.words.left
    c.neighbor_closed.new.words.left c.in_ok-peer.peer c.neighbor_closed.result c.in_ok-peer.ensures.read
    c.in_ok-peer.ensures.end
    (goes_on (sign 123) (λ opened. neighbor_statements c.in_ok-peer.peer >>= λ written. neighbor_closed
    c.in_ok-peer.peer written)
    c.peer_at.new.words.end c.sign.new.words.end c.peer_at.new.words.left c.sign.new.words.left
    c.neighbor_closed.new.words.left c.in_ok-sign.field-0 c.neighbor_closed.result c.in_ok-sign.ensures.read
    c.in_ok-sign.ensures.end
    (goes_on (neighbor_statements c.in_ok-peer.peer) (λ written. neighbor_closed c.in_ok-peer.peer written)
    c.sign.new.words.end
    c.neighbor_statements.new.words.end c.sign.new.words.left c.neighbor_statements.new.words.left
    c.neighbor_closed.new.words.left c.in_ok-written.written c.neighbor_closed.result c.in_ok-written.ensures.read
    c.in_ok-written.ensures.end c.neighbor_closed.ensures.read))
