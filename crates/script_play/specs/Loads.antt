-- What `load` adds to a history, and what it counts of it.
use Rattle.std.specs.Prelude.{ℕ, ◌≡◌, ◌+◌, ◌*◌, ◌/◌, Bool, true, false, codes, decimal, List, [], ◌∷◌, ◌++◌, length}
use Rattle.std.specs.Prelude.{map}
use Rattle.std.specs.Prelude.{filter, is_some, count_by, Result}
use Rattle.std.specs.List.{flat_map, sum_by}
use Rattle.std.specs.Set.{distinct_count}
use Rattle.route_values.specs.declared.addr.Addr.TheVariants.{V4}
use Rattle.route_values.specs.declared.key.Key.{Key}
use Rattle.route_values.specs.declared.settings.Settings.{Settings}
use Rattle.route_values.specs.Caps.{Caps}
use Rattle.route_values.specs.Key.{same_key}
use Rattle.update_grammar.specs.declared.effect.Effect.{Effect}
use Rattle.update_grammar.specs.declared.effect.Effect.TheVariants.{Gone, Here}
use Rattle.update_grammar.specs.Net.{net}
use Rattle.update_grammar.specs.Packed.{named_by}
use Rattle.peer_history.specs.Messages.{said}
use Rattle.text_forms.specs.Lines.{Text}
use Rattle.text_forms.specs.Printed.{ipv4_text}
use Rattle.route_grammar.specs.declared.fault.ReadFault.{ReadFault}
use Rattle.command_grammar.specs.declared.command.Command.{Command}
use Rattle.book_history.specs.declared.outcomes.Cut.TheVariants as cut
use Rattle.book_history.specs.declared.outcomes.Spawn.{Spawn}
use Rattle.book_history.specs.declared.outcomes.Take.{Take}
use Rattle.book_history.specs.declared.outcomes.Up.{Up}
use Rattle.book_history.specs.declared.outcomes.Verdict.{Verdict}
use Rattle.book_history.specs.declared.outcomes.Verdict.TheVariants as verdict
use Rattle.book_history.specs.Bounds.{numbers_from}
use Rattle.book_history.specs.Entries.{History}
use Rattle.book_history.specs.Entries.Entry.{LineEntered, RepliesTaken, SpawnAsked, CameUp, MessageCut}
use Rattle.text_history.specs.Adding.{Adding}
use Rattle.text_history.specs.Encodes.{caps_sent}
use Rattle.text_history.specs.Plays.{IsDrain}

-- how many routes are asked for at most
abbrev pub max_routes : ℕ
max_routes = 1000000

-- The settings of the neighbour: 127.0.0.1 from 192.0.2.9, of AS 65002 from AS 65001, in IPv4 alone. All else is as
-- where a configuration says nothing of it.
abbrev pub load_settings : Settings
load_settings = record {
  peer = V4 2130706433;
  local = V4 3221225993;
  port = 179;
  local_as = 65001;
  peer_as = 65002;
  router_id = 3221225993;
  hold = 180;
  ipv4 = true;
  ipv6 = false;
  ipv4_send = false;
  ipv6_send = false;
  ipv4_receive = false;
  ipv6_receive = false;
  refresh = true;
  extended = false;
}

-- what its session comes up with
abbrev pub load_caps : Caps
load_caps = caps_sent load_settings

-- the prefix of the i-th route, from 0: that of 10.0.0.0/24, moved on by i times 256
abbrev pub load_prefix : ℕ → List ℕ
load_prefix i = ipv4_text (167772160 + 256 * i) ++ codes "/24"

abbrev pub announce_line : ℕ → List ℕ
announce_line i = codes "announce route " ++ load_prefix i ++ codes " next-hop 192.0.2.1"

abbrev pub withdraw_line : ℕ → List ℕ
withdraw_line i = codes "withdraw route " ++ load_prefix i

-- the helper says a line, and its reply is taken
abbrev pub AddsReplied : List ℕ → History → Type 0
AddsReplied text added =
    (reading : Result Command ReadFault) × (given : Verdict) × (taken : Take)
    × (added ≡ RepliesTaken 0 1 taken ∷ LineEntered 0 1 (Text text) reading given ∷ [])

-- the i-th route is announced
abbrev pub AddsAnnounce : History → ℕ → History → Type 0
AddsAnnounce H i added = AddsReplied (announce_line i) added

-- the i-th of the routes with even numbers is withdrawn
abbrev pub AddsWithdraw : History → ℕ → History → Type 0
AddsWithdraw H i added = AddsReplied (withdraw_line (2 * i)) added

-- how many even numbers are less than a number
abbrev pub evens_below : ℕ → ℕ
evens_below count = (count + 1) / 2

-- messages are cut for the neighbour until none comes
abbrev pub AreCut : History → History → Type 0
AreCut H H' = (added : History) × IsDrain 0 added × (H' ≡ added ++ H)

-- the helper is started at moment 0, and the session comes up
abbrev pub begun : Spawn → Up → History
begun started raised = CameUp 0 load_settings load_caps raised ∷ SpawnAsked 0 0 started ∷ []

-- what a load enters behind its start: all routes are announced and sent, and then those with even numbers are
-- withdrawn and that is sent
pub record IsEntered (count : ℕ) (H H' : History) : Type 0 where
  pub announced : History
  pub sent : History
  pub withdrawn : History
  pub announces : Adding AddsAnnounce H (numbers_from 0 count) announced
  pub cuts : AreCut announced sent
  pub withdraws : Adding AddsWithdraw sent (numbers_from 0 (evens_below count)) withdrawn
  pub cuts_again : AreCut withdrawn H'

-- the history of a load of so many routes
pub record IsLoad (count : ℕ) (H : History) : Type 0 where
  pub started : Spawn
  pub raised : Up
  pub entered : IsEntered count (begun started raised) H

-- a history whose events begin those of such a load
pub record IsLoadPart (count : ℕ) (H : History) : Type 0 where
  pub more : History
  pub load : IsLoad count (more ++ H)

-- what becomes of the lines that were entered, the newest first
abbrev pub verdicts_in : History → List Verdict
verdicts_in [] = []
verdicts_in (LineEntered h inc line reading given ∷ H) = given ∷ verdicts_in H
verdicts_in (_ ∷ H) = verdicts_in H

-- whether a line is done, or refused
abbrev pub is_done : Verdict → Bool
is_done verdict.Done = true
is_done _ = false

abbrev pub is_error : Verdict → Bool
is_error (verdict.Error because) = true
is_error _ = false

-- the messages that were cut, the first one first
abbrev pub messages_in : History → List (List ℕ)
messages_in [] = []
messages_in (MessageCut n bytes (cut.Message last) ∷ H) = messages_in H ++ bytes ∷ []
messages_in (_ ∷ H) = messages_in H

-- what they say to a neighbour that reads them by the grammar (RFC 4271, section 4.3)
abbrev pub effects_in : History → List Effect
effects_in H = flat_map (said load_caps) (messages_in H)

-- whether an effect announces a key
abbrev pub is_here : Effect → Bool
is_here (Here key attrs) = true
is_here (Gone key) = false

-- whether it withdraws one
abbrev pub is_gone : Effect → Bool
is_gone (Here key attrs) = false
is_gone (Gone key) = true

-- the keys that effects name and leave something at
abbrev pub keys_left : List Effect → List Key
keys_left effects = filter (λ key. is_some (net effects key)) (map named_by effects)

-- how many routes effects leave: each of these keys counts once
abbrev pub routes_left : List Effect → ℕ
routes_left effects = distinct_count same_key (keys_left effects)

-- what is told of a load
pub record Counts : Type 0 where
  pub routes : ℕ
  pub lines : ℕ
  pub done : ℕ
  pub error : ℕ
  pub messages : ℕ
  pub bytes : ℕ
  pub announced : ℕ
  pub withdrawn : ℕ
  pub left : ℕ

-- The routes that were asked for, the lines that were entered, were done and were refused, the messages and their
-- bytes, the announcements and withdrawals in them, and the routes that they leave at the neighbour.
abbrev pub counts_of : ℕ → History → Counts
counts_of count H = record {
  routes = count;
  lines = length (verdicts_in H);
  done = count_by is_done (verdicts_in H);
  error = count_by is_error (verdicts_in H);
  messages = length (messages_in H);
  bytes = sum_by length (messages_in H);
  announced = count_by is_here (effects_in H);
  withdrawn = count_by is_gone (effects_in H);
  left = routes_left (effects_in H);
}

-- a word, a space, a number and a line feed
abbrev pub count_line : List ℕ → ℕ → List ℕ
count_line word number = word ++ codes " " ++ decimal number ++ codes "\n"

-- nine lines
abbrev pub counts_text : Counts → List ℕ
counts_text counts =
    count_line (codes "routes") counts.routes ++ count_line (codes "lines") counts.lines
    ++ count_line (codes "done") counts.done ++ count_line (codes "error") counts.error
    ++ count_line (codes "messages") counts.messages ++ count_line (codes "bytes") counts.bytes
    ++ count_line (codes "announced") counts.announced ++ count_line (codes "withdrawn") counts.withdrawn
    ++ count_line (codes "left") counts.left
