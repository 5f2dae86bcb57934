use Rattle.std.proofs.Common.{◌∙◌, ap}
use Rattle.token_reader.specs.Tokens.{Unread, front_place}
use Rattle.token_reader.proofs.FileLemmas.{place_of}
use Rattle.token_reader.proofs.file.FileTokensWords.place.Goals as goal

pub returns-clause-place : goal.returns-clause-place
returns-clause-place c =
    let s = c.self.inside in
    place_of s.front s.place s.rest.now s.behind c.self.invariant
    ∙ ap (λ (unread : Unread). front_place unread.left unread.end) c.self.view_is
