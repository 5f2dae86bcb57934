-- Routes that a line announces or withdraws: a prefix with items, or items with several prefixes of one family.
use Rattle.std.specs.Prelude.{ℕ, ◌≡◌, ◌≤◌, ◌-◌, true, codes, List, [], ◌∷◌, length, map, Option, Some, None}
use Rattle.route_values.specs.declared.addr.Family.{Family}
use Rattle.route_values.specs.declared.attrs.Hop.{Hop}
use Rattle.route_values.specs.declared.attrs.Hop.TheVariants.{Own, Is}
use Rattle.route_values.specs.declared.key.Key.{Key}
use Rattle.route_values.specs.declared.pick.Pick.{Pick}
use Rattle.route_values.specs.Addr.{family_of}
use Rattle.route_values.specs.Prefix.{Block}
use Rattle.text_forms.specs.Families.{IsBlockText}
use Rattle.route_grammar.specs.Items.{ReadsItems}
use Rattle.route_grammar.specs.Limits.{Prefixes}
use Rattle.route_grammar.specs.Numbers.{IsOfFamily}
use Rattle.route_grammar.specs.Productions.{Production, OneWord, Then, Saying, Repeated}
use Rattle.command_grammar.specs.declared.command.Command.{Command}
use Rattle.command_grammar.specs.declared.command.Command.TheVariants as said
use Rattle.command_grammar.specs.declared.keywords.Form.{Form}
use Rattle.command_grammar.specs.declared.keywords.Form.TheVariants.{Route, Attributes}
use Rattle.command_grammar.specs.Forms.{Ended, Where, Behind}

-- the keys of prefixes with one identifier
abbrev pub key_from : ℕ → Block → Key
key_from id block = record { prefix = block; id = id }

abbrev pub keys_from : ℕ → List Block → List Key
keys_from id blocks = map (key_from id) blocks

-- a prefix of the wanted family, where one is wanted
abbrev pub IsBlockOf : Option Family → List ℕ → Block → Type 0
IsBlockOf wanted word block = IsBlockText word block × IsOfFamily wanted block.addr

-- further prefixes of a family, behind so many
abbrev pub FurtherBlocks : Family → ℕ → Production (List Block)
FurtherBlocks family before limits tokens blocks =
    Repeated (OneWord (IsBlockOf (Some family))) limits tokens blocks × (length blocks ≤ limits Prefixes - before)

-- the keys of prefixes of one family, which is the wanted one where one is wanted
abbrev pub KeysOf : ℕ → Option Family → Production (List Key)
KeysOf id wanted =
    Then (OneWord (IsBlockOf wanted))
    (λ first. Saying (λ others. keys_from id (first ∷ others)) (FurtherBlocks (family_of first.addr) 1))

-- the family that prefixes have to have for this next hop: that of its address
abbrev pub family_for : Hop → Option Family
family_for Own = None
family_for (Is addr) = Some (family_of addr)

-- the word `nlri` and prefixes
abbrev pub Listed : ℕ → Hop → Production (List Key)
Listed id hop = Behind (codes "nlri") (KeysOf id (family_for hop))

-- routes to announce: a next hop has to be written
abbrev pub Announced : List Pick → Form → Production Command
Announced pick Route = Then (OneWord IsBlockText) (λ block. Then (ReadsItems (Some (family_of block.addr)))
    (λ items. Where (λ limits. items.has_hop ≡ true)
    (Ended (said.Announce pick (key_from items.id block ∷ []) items.attrs))))
Announced pick Attributes = Then (ReadsItems None) (λ items. Where (λ limits. items.has_hop ≡ true)
    (Saying (λ keys. said.Announce pick keys items.attrs) (Listed items.id items.attrs.hop)))

-- routes to withdraw: of the items the identifier alone counts
abbrev pub Withdrawn : List Pick → Form → Production Command
Withdrawn pick Route = Then (OneWord IsBlockText) (λ block. Then (ReadsItems (Some (family_of block.addr)))
    (λ items. Ended (said.Withdraw pick (key_from items.id block ∷ []))))
Withdrawn pick Attributes = Then (ReadsItems None)
    (λ items. Saying (λ keys. said.Withdraw pick keys) (Listed items.id items.attrs.hop))
