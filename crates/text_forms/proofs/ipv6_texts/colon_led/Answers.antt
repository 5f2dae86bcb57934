use Rattle.std.proofs.Common.{ℕ, List, sym, subst}
use Rattle.text_forms.specs.Ipv6.{IsFilled}
use Rattle.text_forms.proofs.OptionLemmas.{none_map}
use Rattle.text_forms.proofs.Ipv6ReadLemmas.{colon_first, no_colons_first}
use Rattle.text_forms.proofs.ipv6_texts.colon_led.Goals as goal

pub returns-in_err-back-clause-none : goal.returns-in_err-back-clause-none
returns-in_err-back-clause-none c =
    rw c.from_residual.ensures (λ other is.
    let led = colon_first c.args.tail.now other is in c.in_err-back.ensures.none led.back led.second)

pub returns-clause-none : goal.returns-clause-none
returns-clause-none c =
    none_map c.shortened.result _ _
    (λ none other is. no_colons_first c.args.tail.now c.in_ok-back.back.now other c.in_ok-back.ensures.found
    (λ number filled. none number
    (subst (λ (before : List ℕ). IsFilled before c.in_ok-back.back.now number) (sym c.new.ensures) filled))
    is)
    c.shortened.ensures.none
