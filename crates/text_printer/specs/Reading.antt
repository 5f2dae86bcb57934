-- What the line of a message tells, and why a line tells nothing.
use Rattle.std.specs.Prelude.{ℕ, ◌≡◌, ◌<◌, ◌≤◌, ⊤, List, length, Result, Ok, Err}
use Rattle.hex.specs.declared.error.FromHexError.{FromHexError}
use Rattle.hex.specs.declared.error.FromHexError.TheVariants as hex
use Rattle.route_values.specs.Caps.{Caps}
use Rattle.text_forms.specs.Lines.{without_return}
use Rattle.update_grammar.specs.declared.effect.Effect.{Effect}
use Rattle.update_grammar.specs.declared.fault.AttrFault.TheVariants as attr
use Rattle.update_grammar.specs.declared.fault.UpdateFault.{UpdateFault}
use Rattle.update_grammar.specs.declared.fault.UpdateFault.TheVariants as update
use Rattle.update_grammar.specs.ReadUpdate.{effects_in}
use Rattle.update_grammar.specs.Update.{Spells}
use Rattle.text_printer.specs.declared.fault.Unread.{Unread}
use Rattle.text_printer.specs.declared.fault.Unread.TheVariants.{Long, Hex, Frame, Update, NoMemory}
use Rattle.text_printer.specs.Forms.{IsHexLine, IsUpdate}

-- how many bytes a line may have, its carriage return counted
abbrev pub max_line : ℕ
max_line = 131100

-- a line of at most so many bytes that holds these, but for one carriage return at its end
pub record HoldsBytes (line bytes : List ℕ) : Type 0 where
  pub short : length line ≤ max_line
  pub written : IsHexLine (without_return line) bytes

-- a line that holds an UPDATE with this body
abbrev pub HoldsUpdate : Caps → List ℕ → List ℕ → Type 0
HoldsUpdate caps line body = (bytes : List ℕ) × HoldsBytes line bytes × IsUpdate caps bytes body

-- the effects that a line tells: those that the body of its UPDATE spells
abbrev pub Tells : Caps → List ℕ → List Effect → Type 0
Tells caps line effects = (body : List ℕ) × HoldsUpdate caps line body × Spells caps body effects

-- The line's first fault. Each variant excludes those before it.
abbrev pub IsUnread : Caps → List ℕ → Unread → Type 0
IsUnread caps line Long = max_line < length line
IsUnread caps line Hex = (length line ≤ max_line) × ((bytes : List ℕ) → IsHexLine (without_return line) bytes → ⊥)
IsUnread caps line Frame =
    (bytes : List ℕ) × HoldsBytes line bytes × ((body : List ℕ) → IsUpdate caps bytes body → ⊥)
IsUnread caps line (Update fault) = (body : List ℕ) × HoldsUpdate caps line body × (effects_in caps body ≡ Err fault)
IsUnread caps line NoMemory = ⊤

-- why a text without its carriage return holds no bytes
abbrev pub ReadsHex : List ℕ → Unread → Type 0
ReadsHex text Hex = (bytes : List ℕ) → IsHexLine text bytes → ⊥
ReadsHex text NoMemory = ⊤
ReadsHex text other = ⊥

-- why digits hold no bytes, as a fault of their line
abbrev pub unread_hex : FromHexError → Unread
unread_hex hex.OutOfMemory = NoMemory
unread_hex other = Hex

-- a fault of a body as one of its line
abbrev pub unread_of : UpdateFault → Unread
unread_of (update.Attr attr.NoMemory) = NoMemory
unread_of fault = Update fault

-- what reading a body gives
abbrev pub ReadsBody : Caps → List ℕ → Result (List Effect) Unread → Type 0
ReadsBody caps body (Ok effects) = Spells caps body effects
ReadsBody caps body (Err (Update fault)) = effects_in caps body ≡ Err fault
ReadsBody caps body (Err NoMemory) = ⊤
ReadsBody caps body (Err other) = ⊥

-- what reading bytes gives
abbrev pub ReadsBytes : Caps → List ℕ → Result (List Effect) Unread → Type 0
ReadsBytes caps bytes (Err Frame) = (body : List ℕ) → IsUpdate caps bytes body → ⊥
ReadsBytes caps bytes result = (body : List ℕ) × IsUpdate caps bytes body × ReadsBody caps body result

-- what reading a line gives: its effects, or its first fault; want of memory may come in place of either
abbrev pub Reads : Caps → List ℕ → Result (List Effect) Unread → Type 0
Reads caps line (Ok effects) = Tells caps line effects
Reads caps line (Err unread) = IsUnread caps line unread
