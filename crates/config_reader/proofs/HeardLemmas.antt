-- Each name that a neighbour hears is at least one token.
use Rattle.std.proofs.Common.{List, [], ◌∷◌, ◌++◌}
use Rattle.token_reader.specs.Tokens.{front_token}
use Rattle.arrayvec.specs.ArrayVec.{ArrayVec}
use Rattle.config_reader.specs.declared.written.Heard.{Heard}
use Rattle.config_reader.specs.Heard.{comma_heard, further_heard, name_heard}
use Rattle.config_reader.specs.Rules.{SaysSign, here, is_sign, never, saying, sign, ◌>>=◌}
use Rattle.config_reader.specs.Words.{IsName, SaysWord, word}
use Rattle.config_reader.proofs.ShrinkLemmas.{Shrinks, either_shrinks, front_shrinks, here_keeps, saying_keeps}
use Rattle.config_reader.proofs.ShrinkLemmas.{shrinks_keeps, then_shrinks, then_shrinks_late}

pub name_shrinks : (heard : List Heard) → Shrinks (name_heard heard)
name_shrinks heard =
    then_shrinks_late here
    (λ place. word IsName >>= λ name. saying (heard ++ record { name = name; place = place } ∷ []))
    here_keeps
    (λ place. then_shrinks (word IsName) (λ name. saying (heard ++ record { name = name; place = place } ∷ []))
    (front_shrinks (SaysWord IsName) never)
    (λ name. saying_keeps (heard ++ record { name = name; place = place } ∷ [])))

comma_shrinks : (heard : List Heard) → Shrinks (comma_heard heard)
comma_shrinks heard =
    then_shrinks (sign 44) (λ comma. name_heard heard) (front_shrinks (SaysSign 44) never)
    (λ comma. shrinks_keeps (name_heard heard) (name_shrinks heard))

pub further_shrinks : (heard : List Heard) → Shrinks (further_heard heard)
further_shrinks heard end tokens rest value is =
    either_shrinks (is_sign 44 (front_token tokens)) (comma_heard heard) (name_heard heard) (comma_shrinks heard)
    (name_shrinks heard) end tokens rest value is
