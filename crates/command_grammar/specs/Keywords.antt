-- The words by which lines are told apart.
use Rattle.std.specs.Prelude.{ℕ, ◌≡◌, codes, List}
use Rattle.command_grammar.specs.declared.command.Command.{Command}
use Rattle.command_grammar.specs.declared.command.Command.TheVariants as said
use Rattle.command_grammar.specs.declared.keywords.Verb.{Verb}
use Rattle.command_grammar.specs.declared.keywords.Verb.TheVariants as verb
use Rattle.command_grammar.specs.declared.keywords.Form.{Form}
use Rattle.command_grammar.specs.declared.keywords.Form.TheVariants as form
use Rattle.command_grammar.specs.declared.keywords.Qualifier.{Qualifier}
use Rattle.command_grammar.specs.declared.keywords.Qualifier.TheVariants as qualifier

-- the word of each verb
abbrev pub verb_word : Verb → List ℕ
verb_word verb.Announce = codes "announce"
verb_word verb.Withdraw = codes "withdraw"
verb_word verb.Flush = codes "flush"
verb_word verb.Clear = codes "clear"
verb_word verb.Show = codes "show"
verb_word verb.Teardown = codes "teardown"

-- that of each form of routes
abbrev pub form_word : Form → List ℕ
form_word form.Route = codes "route"
form_word form.Attributes = codes "attributes"

-- that of each qualifier of a neighbour
abbrev pub qualifier_word : Qualifier → List ℕ
qualifier_word qualifier.LocalIp = codes "local-ip"
qualifier_word qualifier.LocalAs = codes "local-as"
qualifier_word qualifier.PeerAs = codes "peer-as"
qualifier_word qualifier.RouterId = codes "router-id"

-- that of each command that is a line by itself
abbrev pub IsSole : List ℕ → Command → Type 0
IsSole word said.Reload = word ≡ codes "reload"
IsSole word said.Shutdown = word ≡ codes "shutdown"
IsSole word said.DisableAck = word ≡ codes "disable-ack"
IsSole word said.EnableAck = word ≡ codes "enable-ack"
IsSole word _ = ⊥

-- a word spells a verb, or a form
abbrev pub IsVerb : List ℕ → Verb → Type 0
IsVerb word which = word ≡ verb_word which

abbrev pub IsForm : List ℕ → Form → Type 0
IsForm word which = word ≡ form_word which
