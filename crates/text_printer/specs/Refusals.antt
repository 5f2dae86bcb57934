-- The remarks that stand in the place of commands: for a line that tells nothing, and for an effect without a line.
use Rattle.std.specs.Prelude.{ℕ, ◌≡◌, codes, decimal, List, ◌++◌}
use Rattle.update_grammar.specs.declared.fault.UpdateFault.{UpdateFault}
use Rattle.update_grammar.specs.declared.fault.UpdateFault.TheVariants as update
use Rattle.update_grammar.specs.Faults.{update_number}
use Rattle.update_grammar.specs.ReadAttributes.{place_of}
use Rattle.text_printer.specs.declared.fault.Unread.{Unread}
use Rattle.text_printer.specs.declared.fault.Unread.TheVariants.{Long, Hex, Frame, Update, NoMemory}

-- where a fault is, or the code of the attribute that is missing
abbrev pub offset_of : UpdateFault → ℕ
offset_of (update.Attr fault) = place_of fault
offset_of (update.BadLengths place) = place
offset_of (update.BadPrefix place) = place
offset_of (update.MissingAttr code) = code

-- the kind of a fault of a body: its number, and where it is
abbrev pub fault_text : UpdateFault → List ℕ
fault_text fault = codes "update " ++ (decimal (update_number fault) ++ (codes " " ++ decimal (offset_of fault)))

-- the kind of a fault; want of memory has no text
abbrev pub IsKind : Unread → List ℕ → Type 0
IsKind Long text = text ≡ codes "long"
IsKind Hex text = text ≡ codes "hex"
IsKind Frame text = text ≡ codes "frame"
IsKind (Update fault) text = text ≡ fault_text fault
IsKind NoMemory text = ⊥

-- a text goes on with a fault's kind
abbrev pub GoesOnWith : Unread → List ℕ → List ℕ → Type 0
GoesOnWith unread old new = (kind : List ℕ) × IsKind unread kind × (new ≡ old ++ kind)

-- the remark on the line of this number that has this fault; all lines of an input are counted, from 1
abbrev pub IsRefusal : ℕ → Unread → List ℕ → Type 0
IsRefusal number unread text =
    (kind : List ℕ) × IsKind unread kind × (text ≡ codes "# refused " ++ (decimal number ++ (codes " " ++ kind)))

-- the remark on an effect that has no line
abbrev pub unprintable_text : List ℕ
unprintable_text = codes "# unprintable"
