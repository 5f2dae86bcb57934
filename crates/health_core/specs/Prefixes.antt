-- The prefixes of a file, which have one family, and their next hop, which has it too.
use Rattle.std.specs.Prelude.{not, nat_le, Bool, false, List, [], ◌∷◌, ◌++◌, length, Option, Some, None}
use Rattle.std.specs.Prelude.{if◌then◌else◌}
use Rattle.std.specs.List.{list_any}
use Rattle.route_values.specs.declared.addr.Addr.{Addr}
use Rattle.route_values.specs.declared.attrs.Hop.{Hop}
use Rattle.route_values.specs.declared.attrs.Hop.TheVariants.{Own, Is}
use Rattle.route_values.specs.declared.key.Key.{Key}
use Rattle.route_values.specs.Key.{same_key}
use Rattle.route_values.specs.Prefix.{Block}
use Rattle.text_forms.specs.Families.{IsBlockText}
use Rattle.route_grammar.specs.Numbers.{IsHop}
use Rattle.config_model.specs.declared.fault.ConfigKind.{ConfigKind}
use Rattle.config_model.specs.declared.fault.ConfigKind.TheVariants as kind
use Rattle.config_reader.specs.Neighbors.{same_family}
use Rattle.config_reader.specs.Rules.{Rule, ◌>>=◌, saying, where_so, sign, is_sign, until}
use Rattle.config_reader.specs.Words.{word_or}

-- a prefix as a key without a path identifier
abbrev pub key_of : Block → Key
key_of block = record { prefix = block; id = 0 }

-- whether a prefix stands among others
abbrev pub stands : Block → List Key → Bool
stands block keys = list_any (λ key. same_key key (key_of block)) keys

-- the address of a next hop
abbrev pub addr_of_hop : Hop → Option Addr
addr_of_hop Own = None
addr_of_hop (Is addr) = Some addr

-- an address that stands before and gives the family: that of the first prefix, or of the next hop
abbrev pub addr_before : Option Addr → List Key → Option Addr
addr_before hop [] = hop
addr_before hop (key ∷ keys) = Some key.prefix.addr

-- whether an address has another family than one that stands before
abbrev pub is_other : Option Addr → Addr → Bool
is_other None addr = false
is_other (Some before) addr = not (same_family before addr)

-- what is wrong with a prefix behind others: it stands there already, has another family, or is one too many
abbrev pub prefix_wrong : Option Addr → List Key → Block → Option ConfigKind
prefix_wrong hop keys block =
    if stands block keys then Some kind.Twice else
    if is_other (addr_before hop keys) block.addr then Some kind.Family else where_so kind.Many (nat_le 1024 (length
    keys))

-- a prefix behind others
abbrev pub prefix_more : Option Addr → List Key → Rule (List Key)
prefix_more hop keys =
    word_or IsBlockText (prefix_wrong hop keys) >>= λ block. saying (keys ++ key_of block ∷ [])

-- one prefix or more, and `;`
abbrev pub prefixes_further : Option Addr → List Key → Rule (List Key)
prefixes_further hop first = until (is_sign 59) (prefix_more hop) first

abbrev pub prefixes_listed : Option Addr → Rule (List Key)
prefixes_listed hop = prefix_more hop [] >>= prefixes_further hop

abbrev pub prefixes_at : Option Addr → Rule (List Key)
prefixes_at hop = prefixes_listed hop >>= λ keys. sign 59 >>= λ ended. saying keys

-- a next hop, of the family of these prefixes where they stand before, and `;`
abbrev pub hop_wrong : List Key → Hop → Option ConfigKind
hop_wrong keys Own = None
hop_wrong keys (Is addr) = where_so kind.Family (is_other (addr_before None keys) addr)

abbrev pub hop_at : List Key → Rule Hop
hop_at keys = word_or (IsHop None) (hop_wrong keys) >>= λ hop. sign 59 >>= λ ended. saying hop
