-- A configuration, commands, messages and entries, of which the examples are made. Their addresses are those for
-- documentation (RFC 5737; RFC 3849).
use Rattle.std.specs.Prelude.{ℕ, ◌+◌, ◌*◌, true, false, List, [], ◌∷◌, codes, Some, Ok}
use Rattle.route_values.specs.declared.addr.Addr.{Addr}
use Rattle.route_values.specs.declared.addr.Addr.TheVariants.{V4, V6}
use Rattle.route_values.specs.declared.addr.Family.TheVariants.{Ipv4}
use Rattle.route_values.specs.declared.attrs.Attrs.{Attrs}
use Rattle.route_values.specs.declared.attrs.WireAttrs.{WireAttrs}
use Rattle.route_values.specs.declared.attrs.Hop.TheVariants.{Is}
use Rattle.route_values.specs.declared.key.Key.{Key}
use Rattle.route_values.specs.declared.settings.Settings.{Settings}
use Rattle.route_values.specs.Attrs.{unwritten}
use Rattle.route_values.specs.Caps.{Caps, flags}
use Rattle.route_values.specs.Sent.{sent}
use Rattle.route_values.specs.Settings.{side_of}
use Rattle.text_forms.specs.Lines.{Line}
use Rattle.update_grammar.specs.Head as head
use Rattle.update_grammar.specs.Written.{written}
use Rattle.command_grammar.specs.declared.command.Command.{Command}
use Rattle.command_grammar.specs.declared.command.Command.TheVariants as command
use Rattle.config_model.specs.declared.sections.Neighbor.{Neighbor}
use Rattle.config_model.specs.declared.sections.Process.{Process}
use Rattle.config_model.specs.declared.sections.StaticRoute.{StaticRoute}
use Rattle.config_model.specs.Sections.{Sections, sections}
use Rattle.book_history.specs.declared.outcomes.Cut.TheVariants as cut
use Rattle.book_history.specs.declared.outcomes.Peer.TheVariants as peer
use Rattle.book_history.specs.declared.outcomes.Spawn.TheVariants as spawn
use Rattle.book_history.specs.declared.outcomes.Up.TheVariants as up
use Rattle.book_history.specs.declared.outcomes.Verdict.TheVariants as verdict
use Rattle.book_history.specs.Entries.{Entry, History}
use Rattle.book_history.specs.Entries.Entry.{LineEntered, SpawnAsked, PeerAsked, CameUp, MessageCut}

-- an address by its four bytes
abbrev pub ipv4 : ℕ → ℕ → ℕ → ℕ → Addr
ipv4 a b c d = V4 (a * 16777216 + b * 65536 + c * 256 + d)

-- an address of 2001:db8::/32 by its last number
abbrev pub documented : ℕ → Addr
documented n = V6 (536939960 * 79228162514264337593543950336 + n)

-- a process that runs `/bin/cat`, and is started again
abbrev pub helper : Process
helper = record {
  name = record { items = codes "h" };
  run = record { items = codes "/bin/cat" };
  json = false;
  respawn = true;
}

-- the settings of 192.0.2.N, of another AS
abbrev pub settings : ℕ → Settings
settings n = record {
  peer = ipv4 192 0 2 n;
  local = ipv4 192 0 2 9;
  port = 179;
  local_as = 65001;
  peer_as = 65002;
  router_id = 3221225993;
  hold = 180;
  ipv4 = true;
  ipv6 = true;
  ipv4_send = false;
  ipv6_send = false;
  ipv4_receive = false;
  ipv6_receive = false;
  refresh = true;
  extended = false;
}

-- the neighbour 192.0.2.N, which hears the process
abbrev pub neighbor : ℕ → List StaticRoute → Neighbor
neighbor n statics = record { settings = settings n; statics = statics; processes = helper.name ∷ [] }

-- the configuration of the process and of one neighbour
abbrev pub one : Sections
one = sections (helper ∷ []) (neighbor 2 [] ∷ [])

-- three keys: 10.0.0.0/24, 10.0.1.0/24, and 2001:db8::/32
abbrev pub first : Key
first = record { prefix = record { addr = ipv4 10 0 0 0; len = 24 }; id = 0 }

abbrev pub second : Key
second = record { prefix = record { addr = ipv4 10 0 1 0; len = 24 }; id = 0 }

abbrev pub third : Key
third = record { prefix = record { addr = documented 0; len = 32 }; id = 0 }

-- attributes with the next hop 192.0.2.1, with that of 2001:db8::1, and with the first and a MED
abbrev pub bare : Attrs
bare = unwritten (Is (ipv4 192 0 2 1))

abbrev pub bare_ipv6 : Attrs
bare_ipv6 = unwritten (Is (documented 1))

abbrev pub with_med : ℕ → Attrs
with_med med = record bare { med = Some med }

-- attributes as the neighbours are sent them
abbrev pub wire : Attrs → WireAttrs
wire attrs = sent attrs (side_of (settings 2))

-- sessions with IPv4 alone, and with both families
abbrev pub only_ipv4 : Caps
only_ipv4 = flags true false false false false

abbrev pub both : Caps
both = flags true true false false false

-- the texts of messages of IPv4, which are the same whether or not a session has IPv6
abbrev pub here : Attrs → List Key → List ℕ
here attrs keys = written only_ipv4 (head.Here Ipv4 (wire attrs)) keys

abbrev pub gone : List Key → List ℕ
gone keys = written only_ipv4 (head.Gone Ipv4) keys

abbrev pub marker : List ℕ
marker = written only_ipv4 (head.End Ipv4) []

-- a message of slot 0 that is the last of its batch, or not
abbrev pub last : List ℕ → Entry
last bytes = MessageCut 0 bytes (cut.Message true)

abbrev pub more : List ℕ → Entry
more bytes = MessageCut 0 bytes (cut.Message false)

-- slot 0 is asked for a message, and there is none
abbrev pub nothing : Entry
nothing = MessageCut 0 [] cut.Nothing

-- commands for every neighbour
abbrev pub announce : Key → Attrs → Command
announce key attrs = command.Announce [] (key ∷ []) attrs

abbrev pub withdraw : Key → Command
withdraw key = command.Withdraw [] (key ∷ [])

-- the first incarnation of helper 0 enters the line that says a command, and it is done
abbrev pub done : (Command → Line) → Command → Entry
done line given = LineEntered 0 1 (line given) (Ok given) verdict.Done

-- helper 0 is started at a moment, as an incarnation
abbrev pub started : ℕ → ℕ → Entry
started now inc = SpawnAsked 0 now (spawn.Go inc helper.run)

-- the session of slot 0 comes up
abbrev pub comes_up : Caps → Entry
comes_up caps = CameUp 0 (settings 2) caps up.Ok

-- helper 0 runs, and the neighbour of slot 0 was asked for
abbrev pub running : History
running = PeerAsked 0 (peer.Is (settings 2)) ∷ started 0 1 ∷ []

-- besides, the session of slot 0 is up with IPv4
abbrev pub begun : History
begun = comes_up only_ipv4 ∷ running

-- and the neighbour was sent a route and the marker
abbrev pub sent_one : (Command → Line) → History
sent_one line = last marker ∷ more (here bare (first ∷ [])) ∷ done line (announce first bare) ∷ begun
