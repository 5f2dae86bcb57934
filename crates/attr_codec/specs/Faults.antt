-- What a call that reads keys or a value blames, and what that is to the attributes that the value stands in.
use Rattle.std.specs.Prelude.{ℕ, ◌+◌, Option, Some, None}
use Rattle.update_grammar.specs.declared.fault.AttrFault.{AttrFault}
use Rattle.update_grammar.specs.declared.fault.AttrFault.TheVariants as attr_fault
use Rattle.update_grammar.specs.ReadAttributes.{head_len}
use Rattle.update_grammar.specs.ReadValues.{Wrong, BadLength, BadValue}
use Rattle.attr_codec.specs.declared.fault.KeysFault.{KeysFault}
use Rattle.attr_codec.specs.declared.fault.KeysFault.TheVariants as keys_fault
use Rattle.attr_codec.specs.declared.fault.ValueFault.{ValueFault}
use Rattle.attr_codec.specs.declared.fault.ValueFault.TheVariants as value_fault

-- the place that is blamed: none where there was no memory
abbrev pub keys_blame : KeysFault → Option ℕ
keys_blame (keys_fault.BadPrefix place) = Some place
keys_blame keys_fault.NoMemory = None

-- where a fault stands
abbrev pub place_of_keys : KeysFault → ℕ
place_of_keys (keys_fault.BadPrefix place) = place
place_of_keys keys_fault.NoMemory = 0

-- what is wrong with a value: nothing where there was no memory
abbrev pub value_blame : ValueFault → Option Wrong
value_blame value_fault.BadLength = Some BadLength
value_blame value_fault.BadValue = Some BadValue
value_blame value_fault.NoMemory = None

-- what is wrong with the value of an attribute at a place, or that there was no memory
abbrev pub fault_at : ℕ → ℕ → ValueFault → AttrFault
fault_at place flags value_fault.BadLength = attr_fault.BadLength (place + 2)
fault_at place flags value_fault.BadValue = attr_fault.BadValue (place + head_len flags)
fault_at place flags value_fault.NoMemory = attr_fault.NoMemory
