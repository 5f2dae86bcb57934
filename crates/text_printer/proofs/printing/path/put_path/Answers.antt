use Rattle.std.proofs.Common.{[], ◌∷◌, ◌++◌, codes, subst}
use Rattle.std.specs.List.{flat_map}
use Rattle.token_reader.specs.Tokens.{Word}
use Rattle.text_printer.specs.Items.{opening_bracket, closing_bracket, segment_tokens}
use Rattle.text_printer.specs.Spaced.{GoesOn}
use Rattle.text_printer.proofs.SpacedLemmas.{goes_then}
use Rattle.text_printer.proofs.printing.path.put_path.Goals as goal

pub returns : goal.returns
returns c =
    let tokens = flat_map segment_tokens c.args.path.now in
    goes_then (Word (codes "as-path") ∷ []) (opening_bracket ∷ (tokens ++ closing_bracket ∷ [])) _ _ _
    c.in_ok-put_word.ensures
    (goes_then (opening_bracket ∷ []) (tokens ++ closing_bracket ∷ []) _ _ _ c.in_ok-put_mark.ensures
    (goes_then tokens (closing_bracket ∷ []) _ _ _
    (subst (λ path. GoesOn (flat_map segment_tokens path) c.put_mark.new.text.items c.put_segments.new.text.items)
    c.segments.ensures.value c.in_ok-put_segments.ensures) c.in_ok-put_mark-2.ensures))
