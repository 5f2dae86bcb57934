use Rattle.std.proofs.Common.{◌∙◌, ap, arith, length}
use Rattle.token_reader.specs.Tokens.{Unread, front_token}
use Rattle.token_reader.specs.LineReading.{line_left}
use Rattle.token_reader.proofs.LineLemmas.{front_of, length-numbered, length-line_left}
use Rattle.token_reader.proofs.line.TokensWords.peek.Goals as goal

pub returns-clause-token : goal.returns-clause-token
returns-clause-token c =
    let s = c.self.inside in
    front_of s.front s.number s.rest.now c.self.invariant
    ∙ ap (λ (unread : Unread). front_token unread.left) c.self.view_is

pub returns-clause-few : goal.returns-clause-few
returns-clause-few c =
    let s = c.self.inside in
    omega (
      arith,
      c.self.invariant.few,
      length-numbered s.number (line_left s.front s.rest.now),
      length-line_left s.front s.rest.now,
      ap (λ (unread : Unread). length unread.left) c.self.view_is,
    )
