use Rattle.route_values.specs.declared.addr.Family.TheVariants.{Ipv4}
use Rattle.book_history.proofs.CutLemmas.{Texts}
use Rattle.book_history.proofs.LegalExampleLemmas.{refusals_are_of_legal, two_batches_are_legal}
use Rattle.book_history.proofs.examples.examples_are_legal.Goals as goal

pub returns : goal.returns
returns c =
    let texts : Texts = record {
      grammar = record {
        read = c.reading_is_spelling.ensures.effects_only;
        here_is_no_marker = c.written_is_spelled.ensures.here_is_no_marker;
        gone_is_no_marker = c.written_is_spelled.ensures.gone_is_no_marker;
      };
      here = c.written_is_spelled.ensures.here Ipv4;
      end = c.written_is_spelled.ensures.end Ipv4;
    } in
    record {
      two_batches = two_batches_are_legal texts;
      before_refusals = refusals_are_of_legal texts;
    }
