-- A worked example of a reload: a neighbour loses its static route and keeps a helper's, and another is gone.
use Rattle.std.specs.Prelude.{ℕ, ◌≡◌, Bool, true, false, List, [], ◌∷◌, Option, Some, None}
use Rattle.route_values.specs.declared.addr.Family.TheVariants.{Ipv4}
use Rattle.route_values.specs.declared.attrs.Attrs.{Attrs}
use Rattle.route_values.specs.declared.attrs.Hop.TheVariants.{Own}
use Rattle.route_values.specs.declared.attrs.WireAttrs.{WireAttrs}
use Rattle.route_values.specs.declared.key.Key.{Key}
use Rattle.route_values.specs.declared.pick.Pick.{Pick}
use Rattle.route_values.specs.Attrs.{unwritten}
use Rattle.route_values.specs.Caps.{Caps, flags}
use Rattle.text_forms.specs.Lines.{Line}
use Rattle.update_grammar.specs.Head as head
use Rattle.update_grammar.specs.Written.{written}
use Rattle.command_grammar.specs.declared.command.Command.{Command}
use Rattle.command_grammar.specs.declared.command.Command.TheVariants as command
use Rattle.config_model.specs.declared.fault.ConfigKind.TheVariants as kind
use Rattle.config_model.specs.Sections.{Sections, sections}
use Rattle.peer_history.specs.Batches.{is_left}
use Rattle.book_history.specs.declared.outcomes.Cut.TheVariants as cut
use Rattle.book_history.specs.declared.outcomes.NotRead.TheVariants as not_read
use Rattle.book_history.specs.declared.outcomes.Reload.TheVariants as reload
use Rattle.book_history.specs.declared.outcomes.Up.TheVariants as up
use Rattle.book_history.specs.Entries.{History}
use Rattle.book_history.specs.Entries.Entry.{CameUp, MessageCut, Reloaded, ReloadRefused}
use Rattle.book_history.specs.Legal.{Allows}
use Rattle.book_history.specs.Peers.{first_cut_at, peer_at, view_at}
use Rattle.book_history.specs.PeerSteps.{steps_of}
use Rattle.book_history.specs.Samples.{one, helper, neighbor, settings, second, bare, wire, only_ipv4, last, more, done}
use Rattle.book_history.specs.Samples.{comes_up, running}

-- the own address as the next hop
abbrev pub own : Attrs
own = unwritten Own

-- two neighbours, of which the first has a static route
abbrev pub two : Sections
two = sections (helper ∷ []) (neighbor 2 (record { key = second; attrs = own } ∷ []) ∷ neighbor 3 [] ∷ [])

-- a session with IPv4 and its path identifiers
abbrev pub with_paths : Caps
with_paths = flags true false true false false

-- a helper's key of the same prefix, and its command, for the first neighbour alone
abbrev pub fifth : Key
fifth = record { prefix = second.prefix; id = 5 }

abbrev pub picked : Pick
picked = record { peer = (settings 2).peer; local = None; local_as = None; peer_as = None; router_id = None }

abbrev pub announce_fifth : Command
announce_fifth = command.Announce (picked ∷ []) (fifth ∷ []) bare

-- texts of messages of that session
abbrev pub told : Attrs → Key → List ℕ
told attrs key = written with_paths (head.Here Ipv4 (wire attrs)) (key ∷ [])

abbrev pub end : List ℕ
end = written with_paths (head.End Ipv4) []

-- whether a batch of slot 0 owes the key, and its value there
abbrev pub due : History → Key → Bool × Option WireAttrs
due H key = (is_left with_paths (steps_of two 0 H) key, view_at two (first_cut_at 0 H) 0 with_paths key)

module _ (line : Command → Line) where
  -- both sessions are up, and the first neighbour was sent both routes
  abbrev pub sent_both : History
  sent_both = last end ∷ more (told bare fifth) ∷ more (told own second) ∷ done line announce_fifth
      ∷ CameUp 1 (settings 3) only_ipv4 up.Ok ∷ comes_up with_paths ∷ running

  -- the file with the first neighbour alone, and without its route, is read
  abbrev pub changed : History
  changed = Reloaded one reload.Ok ∷ sent_both

  -- the file isn't read
  abbrev pub unchanged : History
  unchanged = ReloadRefused (not_read.Refused (record { line = 1; column = 21; kind = kind.Token })) ∷ sent_both

  -- what the new file lacks goes, a helper's route stays, and the session of who is gone ends with 6/3
  pub record Reloads : Type 0 where
    pub static_sent : peer_at two sent_both 0 with_paths second ≡ Some (wire own)
    pub allowed : Allows two sent_both (Reloaded one reload.Ok)
    pub static_gone : due changed second ≡ (true, None)
    pub helpers_stay : due changed fifth ≡ (false, Some (wire bare))
    pub ended : Allows two changed (MessageCut 1 [] (cut.Reset 6 3))
    pub static_stays : due unchanged second ≡ (false, Some (wire own))
    pub second_stays : due unchanged fifth ≡ (false, Some (wire bare))
