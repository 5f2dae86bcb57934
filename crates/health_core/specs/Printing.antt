-- The commands of a health check: their texts, and what they say.
use Rattle.std.specs.Prelude.{ℕ, ◌≡◌, ◌<◌, ◌≤◌, ◌^◌, Bool, true, false, codes, decimal, List, [], ◌∷◌, ◌++◌, length}
use Rattle.std.specs.Prelude.{map}
use Rattle.std.specs.Prelude.{Option, Some, None}
use Rattle.std.specs.List.{AllByRecursion, flat_map}
use Rattle.route_values.specs.declared.addr.Family.{Family}
use Rattle.route_values.specs.declared.attrs.Attrs.{Attrs}
use Rattle.route_values.specs.declared.attrs.Hop.{Hop}
use Rattle.route_values.specs.declared.attrs.Hop.TheVariants.{Own, Is}
use Rattle.route_values.specs.declared.key.Key.{Key}
use Rattle.route_values.specs.Addr.{family_of, number_of, width_of}
use Rattle.route_values.specs.Attrs.{unwritten}
use Rattle.route_values.specs.Prefix.{IsPrefix}
use Rattle.text_forms.specs.Printed.{addr_text, prefix_text}
use Rattle.token_reader.specs.LineTokens.{line_tokens}
use Rattle.route_grammar.specs.Limits.{in_force}
use Rattle.command_grammar.specs.declared.command.Command.{Command}
use Rattle.command_grammar.specs.declared.command.Command.TheVariants as said
use Rattle.command_grammar.specs.Lines.{ReadsLine}
use Rattle.health_core.specs.declared.health.Health.{Health}

-- words that one space parts
abbrev pub spaced : List ℕ → List (List ℕ) → List ℕ
spaced first others = first ++ flat_map (λ word. 32 ∷ word) others

-- the text of a next hop, and those of prefixes
abbrev pub hop_text : Hop → List ℕ
hop_text Own = codes "self"
hop_text (Is addr) = addr_text addr

abbrev pub prefix_texts : List Key → List (List ℕ)
prefix_texts keys = map (λ key. prefix_text key.prefix) keys

-- the text that announces prefixes with a next hop and a MED, and the one that withdraws them
abbrev pub announce_text : Hop → ℕ → List Key → List ℕ
announce_text hop med keys =
    spaced (codes "announce")
    (codes "attributes" ∷ codes "next-hop" ∷ hop_text hop ∷ codes "med" ∷ decimal med ∷ codes "nlri" ∷ prefix_texts
    keys)

abbrev pub withdraw_text : List Key → List ℕ
withdraw_text keys = spaced (codes "withdraw") (codes "attributes" ∷ codes "nlri" ∷ prefix_texts keys)

-- the MED of the announcement while the service is up or down, or none where the prefixes are withdrawn
abbrev pub med_at : Health → Bool → Option ℕ
med_at health true = Some health.up_med
med_at health false = health.down

-- the text of the command, and what it says to every neighbour
abbrev pub text_with : Health → Option ℕ → List ℕ
text_with health (Some med) = announce_text health.hop med health.prefixes
text_with health None = withdraw_text health.prefixes

abbrev pub command_text : Health → Bool → List ℕ
command_text health up = text_with health (med_at health up)

abbrev pub attrs_with : Hop → ℕ → Attrs
attrs_with hop med = record (unwritten hop) { med = Some med }

abbrev pub said_with : Health → Option ℕ → Command
said_with health (Some med) = said.Announce [] health.prefixes (attrs_with health.hop med)
said_with health None = said.Withdraw [] health.prefixes

abbrev pub command_said : Health → Bool → Command
command_said health up = said_with health (med_at health up)

-- a prefix of a family, without a path identifier
pub record IsPlain (family : Family) (key : Key) : Type 0 where
  pub alike : family_of key.prefix.addr ≡ family
  pub canonical : IsPrefix key.prefix.addr key.prefix.len
  pub bare : key.id ≡ 0

-- a next hop that prefixes of a family may have
abbrev pub FitsHop : Family → Hop → Type 0
FitsHop family Own = Unit {0}
FitsHop family (Is addr) = family_of addr ≡ family

-- the number of an address is one of its family
abbrev pub HopFits : Hop → Type 0
HopFits Own = Unit {0}
HopFits (Is addr) = number_of addr < 2 ^ width_of addr

-- 1 to 1,024 prefixes of one family, and a next hop of that family
pub record IsSound (health : Health) : Type 0 where
  pub family : Family
  pub some : 0 < length health.prefixes
  pub few : length health.prefixes ≤ 1024
  pub plain : AllByRecursion (IsPlain family) health.prefixes
  pub hop_fits : FitsHop family health.hop

-- the line of a command says it, and it is short enough to be read
pub record Says (line : List ℕ) (command : Command) : Type 0 where
  pub short : length line ≤ 65535
  pub reads : ReadsLine in_force (line_tokens 0 line) command
