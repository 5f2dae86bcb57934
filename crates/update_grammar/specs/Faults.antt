-- What a fault blames, and its number.
use Rattle.std.specs.Prelude.{ℕ, Option, Some, None, option_map}
use Rattle.update_grammar.specs.declared.fault.AttrFault.{AttrFault}
use Rattle.update_grammar.specs.declared.fault.AttrFault.TheVariants as fault
use Rattle.update_grammar.specs.declared.fault.UpdateFault.{UpdateFault}
use Rattle.update_grammar.specs.declared.fault.UpdateFault.TheVariants as update_fault

-- the fault of attributes that is blamed: none where there was no memory
abbrev pub attr_blame : AttrFault → Option AttrFault
attr_blame fault.NoMemory = None
attr_blame other = Some other

-- the same for the body of an UPDATE
abbrev pub update_blame : UpdateFault → Option UpdateFault
update_blame (update_fault.Attr of_attrs) = option_map (λ blamed. update_fault.Attr blamed) (attr_blame of_attrs)
update_blame other = Some other

-- the number of a fault of attributes
abbrev pub attr_number : AttrFault → ℕ
attr_number (fault.Cut place) = 1
attr_number (fault.BadFlags place) = 2
attr_number (fault.BadLength place) = 3
attr_number (fault.BadValue place) = 4
attr_number (fault.Twice place) = 5
attr_number fault.NoMemory = 6

-- the number of a fault of the body of an UPDATE: one of its attributes keeps its own
abbrev pub update_number : UpdateFault → ℕ
update_number (update_fault.Attr of_attrs) = attr_number of_attrs
update_number (update_fault.BadLengths place) = 7
update_number (update_fault.BadPrefix place) = 8
update_number (update_fault.MissingAttr code) = 9
