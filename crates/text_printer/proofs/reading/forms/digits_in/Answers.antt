use Rattle.text_printer.specs.Forms.{alone, introduced}
use Rattle.text_printer.proofs.reading.forms.digits_in.Goals as goal

pub returns-in-Some : goal.returns-in-Some
returns-in-Some c =
    let found = c.in-Some.ensures.found in introduced found.0 c.in-Some.digits.now found.1 found.2

pub returns-in-None : goal.returns-in-None
returns-in-None c = alone c.in-None.ensures.none
