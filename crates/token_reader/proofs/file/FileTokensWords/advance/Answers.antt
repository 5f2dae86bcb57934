use Rattle.std.proofs.Common.{◌∙◌, ap}
use Rattle.token_reader.specs.Tokens.{Unread, behind_front}
use Rattle.token_reader.proofs.FileLemmas.{goes_on}
use Rattle.token_reader.proofs.file.FileTokensWords.advance.Goals as goal

pub returns-clause-left : goal.returns-clause-left
returns-clause-left c =
    let s = c.self.inside in
    ap (λ (unread : Unread). unread.left) c.self-2.view_is
    ∙ c.reading.ensures.left
    ∙ goes_on s.front s.place s.rest.now s.behind c.self.invariant
    ∙ ap (λ (unread : Unread). behind_front unread.left) c.self.view_is
