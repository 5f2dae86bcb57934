use Rattle.std.proofs.Common.{◌∙◌, ap, arith, length}
use Rattle.token_reader.specs.Tokens.{Unread, front_token}
use Rattle.token_reader.proofs.FileLemmas.{front_of, length-file_left}
use Rattle.token_reader.proofs.file.FileTokensWords.peek.Goals as goal

pub returns-clause-token : goal.returns-clause-token
returns-clause-token c =
    let s = c.self.inside in
    front_of s.front s.place s.rest.now s.behind c.self.invariant
    ∙ ap (λ (unread : Unread). front_token unread.left) c.self.view_is

pub returns-clause-few : goal.returns-clause-few
returns-clause-few c =
    let s = c.self.inside in
    omega (
      arith,
      c.self.invariant.few,
      length-file_left s.front s.place s.rest.now s.behind,
      ap (λ (unread : Unread). length unread.left) c.self.view_is,
    )
