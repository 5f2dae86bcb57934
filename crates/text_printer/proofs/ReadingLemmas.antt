-- What reading a line gives, step by step: its digits, its bytes, its body.
use Rattle.std.proofs.Common.{ℕ, ◌≤◌, List, length, Result, Ok, Err}
use Rattle.answers.specs.Gives.{Gives}
use Rattle.route_values.specs.Caps.{Caps}
use Rattle.text_forms.specs.Lines.{without_return}
use Rattle.update_grammar.specs.declared.effect.Effect.{Effect}
use Rattle.update_grammar.specs.declared.fault.AttrFault.TheVariants as attr
use Rattle.update_grammar.specs.declared.fault.UpdateFault.{UpdateFault}
use Rattle.update_grammar.specs.declared.fault.UpdateFault.TheVariants as update
use Rattle.update_grammar.specs.Faults.{update_blame}
use Rattle.update_grammar.specs.ReadUpdate.{effects_in}
use Rattle.text_printer.specs.declared.fault.Unread.{Unread}
use Rattle.text_printer.specs.declared.fault.Unread.TheVariants.{Long, Hex, Frame, Update, NoMemory}
use Rattle.text_printer.specs.Forms.{IsHexLine, IsUpdate}
use Rattle.text_printer.specs.Reading.{max_line, IsUnread, ReadsHex, unread_of, ReadsBody, ReadsBytes, Reads}

-- the fault of a body, or want of memory in its place
pub body_refused : (caps : Caps) (body : List ℕ) (fault : UpdateFault)
    → Gives {X = List Effect} (λ effects. effects) update_blame (Err fault) (effects_in caps body)
    → ReadsBody caps body (Err (unread_of fault))
body_refused caps body (update.Attr attr.NoMemory) blames = tt
body_refused caps body (update.Attr (attr.Cut place)) blames = blames
body_refused caps body (update.Attr (attr.BadFlags place)) blames = blames
body_refused caps body (update.Attr (attr.Twice place)) blames = blames
body_refused caps body (update.Attr (attr.BadLength place)) blames = blames
body_refused caps body (update.Attr (attr.BadValue place)) blames = blames
body_refused caps body (update.BadLengths place) blames = blames
body_refused caps body (update.BadPrefix place) blames = blames
body_refused caps body (update.MissingAttr code) blames = blames

-- what the body gives is what the bytes give
pub bytes_read : (caps : Caps) (bytes body : List ℕ) (result : Result (List Effect) Unread)
    → IsUpdate caps bytes body → ReadsBody caps body result → ReadsBytes caps bytes result
bytes_read caps bytes body (Ok effects) is reads = (body, is, reads)
bytes_read caps bytes body (Err Long) is reads = absurd reads
bytes_read caps bytes body (Err Hex) is reads = absurd reads
bytes_read caps bytes body (Err Frame) is reads = absurd reads
bytes_read caps bytes body (Err (Update fault)) is reads = (body, is, reads)
bytes_read caps bytes body (Err NoMemory) is reads = (body, is, reads)

-- and what the bytes give is what the line gives
pub line_read : (caps : Caps) (line bytes : List ℕ) (result : Result (List Effect) Unread)
    → length line ≤ max_line → IsHexLine (without_return line) bytes → ReadsBytes caps bytes result
    → Reads caps line result
line_read caps line bytes (Ok effects) short holds (body, is, spells) =
    (body, (bytes, record { short = short; written = holds }, is), spells)
line_read caps line bytes (Err Long) short holds (body, is, never) = absurd never
line_read caps line bytes (Err Hex) short holds (body, is, never) = absurd never
line_read caps line bytes (Err Frame) short holds none = (bytes, record { short = short; written = holds }, none)
line_read caps line bytes (Err (Update fault)) short holds (body, is, refused) =
    (body, (bytes, record { short = short; written = holds }, is), refused)
line_read caps line bytes (Err NoMemory) short holds reads = tt

-- a line whose digits hold no bytes
pub hex_unread : (caps : Caps) (line : List ℕ) (unread : Unread) → length line ≤ max_line
    → ReadsHex (without_return line) unread → IsUnread caps line unread
hex_unread caps line Long short reads = absurd reads
hex_unread caps line Hex short reads = (short, reads)
hex_unread caps line Frame short reads = absurd reads
hex_unread caps line (Update fault) short reads = absurd reads
hex_unread caps line NoMemory short reads = tt
