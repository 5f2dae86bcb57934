use Rattle.std.proofs.Common.{sym, ◌∙◌, ◌≡◌, subst}
use Rattle.token_reader.specs.Tokens.{Unread, behind_front}
use Rattle.token_reader.proofs.LineLemmas.{stays}
use Rattle.token_reader.proofs.line.TokensWords.advance.Goals as goal

pub returns-else-is_some-clause-left : goal.returns-else-is_some-clause-left
returns-else-is_some-clause-left c =
    let s = c.self.inside in
    let same = stays s.front s.number s.rest.now c.self.invariant (sym c.is_some.ensures ∙ c.if-is_some.false) in
    subst (λ (unread : Unread). unread.left ≡ behind_front unread.left) c.self.view_is same
