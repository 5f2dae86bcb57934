use Rattle.std.proofs.Common.{ap, sym, ◌∙◌, ◌+◌, ◌%◌, ◌^◌, ℕ}
use Rattle.book_gate_many.specs.Tallies.{added}
use Rattle.book_gate_many.proofs.TallyLemmas.{total_of-push}
use Rattle.book_gate_many.proofs.tally.AddCallTally.on.Goals as goal

pub returns : goal.returns
returns c start history now =
    let by : ℕ = c.args.self.by in
    let total = ap (λ (n : ℕ). (n + by) % 2 ^ 64) now in
    (total ∙ sym (total_of-push start history (added by ((c.args.state.now.value + by) % 2 ^ 64))), total)
