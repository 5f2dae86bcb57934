-- Worked examples of batches: what is left of a batch, and what the peer has, after each of a few entries.
use Rattle.std.specs.Prelude.{ℕ, ◌≡◌, Bool, true, false, [], ◌∷◌, Option, Some, None}
use Rattle.route_values.specs.declared.addr.Family.{Family}
use Rattle.route_values.specs.declared.addr.Family.TheVariants.{Ipv4, Ipv6}
use Rattle.route_values.specs.declared.attrs.WireAttrs.{WireAttrs}
use Rattle.route_values.specs.declared.key.Key.{Key}
use Rattle.route_values.specs.Caps.{Caps}
use Rattle.text_forms.specs.Lines.{Line}
use Rattle.command_grammar.specs.declared.command.Command.{Command}
use Rattle.command_grammar.specs.declared.command.Command.TheVariants as command
use Rattle.peer_history.specs.Batches.{is_left, is_marker_left}
use Rattle.book_history.specs.Entries.{History}
use Rattle.book_history.specs.Entries.Entry.{RefreshAsked, WentDown}
use Rattle.book_history.specs.Peers.{first_cut_at, peer_at, view_at}
use Rattle.book_history.specs.PeerSteps.{steps_of}
use Rattle.book_history.specs.Samples.{one, first, second, third, bare, bare_ipv6, with_med, wire, only_ipv4, both}
use Rattle.book_history.specs.Samples.{here, gone, marker, last, more, announce, withdraw, done, comes_up, running}
use Rattle.book_history.specs.Samples.{begun, sent_one}

-- whether the open batch of slot 0, or one that begins now, owes the key still, and its value in that batch's target
abbrev pub due : Caps → History → Key → Bool × Option WireAttrs
due caps H key = (is_left caps (steps_of one 0 H) key, view_at one (first_cut_at 0 H) 0 caps key)

-- whether it owes the family's marker still
abbrev pub marker_due : Caps → History → Family → Bool
marker_due caps H family = is_marker_left caps (steps_of one 0 H) family

-- a key with a MED, and one without value
abbrev pub with_value : ℕ → Option WireAttrs
with_value med = Some (wire (with_med med))

-- the second of two routes and the marker were sent
abbrev pub all_sent : History → History
all_sent H = last marker ∷ more (here (with_med 2) (second ∷ [])) ∷ H

module _ (line : Command → Line) where
  -- two routes with different attributes, of which the first was sent
  abbrev pub half_sent : History
  half_sent = more (here (with_med 1) (first ∷ [])) ∷ done line (announce second (with_med 2))
      ∷ done line (announce first (with_med 1)) ∷ begun

  -- the second one is announced anew while its old value is to be sent
  abbrev pub announced_anew : History
  announced_anew = done line (announce second (with_med 3)) ∷ half_sent

  -- it is withdrawn, and then announced with the same attributes
  abbrev pub put_back : History
  put_back = done line (announce second (with_med 2)) ∷ done line (withdraw second) ∷ half_sent

  -- it is withdrawn
  abbrev pub withdrawn : History
  withdrawn = done line (withdraw second) ∷ half_sent

  -- the neighbour asks for IPv4 again
  abbrev pub refreshed : History
  refreshed = RefreshAsked 0 Ipv4 ∷ half_sent

  -- what comes within a batch shows in the next one alone
  pub record FrozenBatches : Type 0 where
    pub first_sent : due only_ipv4 half_sent first ≡ (false, with_value 1)
    pub second_left : due only_ipv4 half_sent second ≡ (true, with_value 2)
    pub marker_left : marker_due only_ipv4 half_sent Ipv4 ≡ true
    pub anew_within : due only_ipv4 announced_anew second ≡ (true, with_value 2)
    pub anew_held : peer_at one (all_sent announced_anew) 0 only_ipv4 second ≡ with_value 2
    pub anew_next : due only_ipv4 (all_sent announced_anew) second ≡ (true, with_value 3)
    pub anew_alone : due only_ipv4 (all_sent announced_anew) first ≡ (false, with_value 1)
    pub marker_once : marker_due only_ipv4 (all_sent announced_anew) Ipv4 ≡ false
    pub back_within : due only_ipv4 put_back second ≡ (true, with_value 2)
    pub back_next : due only_ipv4 (all_sent put_back) second ≡ (false, with_value 2)
    pub withdrawn_within : due only_ipv4 withdrawn second ≡ (true, with_value 2)
    pub withdrawn_next : due only_ipv4 (all_sent withdrawn) second ≡ (true, None)
    pub withdrawn_at_last : due only_ipv4 (last (gone (second ∷ [])) ∷ all_sent withdrawn) second ≡ (false, None)
    pub refreshed_within : due only_ipv4 refreshed first ≡ (false, with_value 1)
    pub refreshed_first : due only_ipv4 (all_sent refreshed) first ≡ (true, with_value 1)
    pub refreshed_second : due only_ipv4 (all_sent refreshed) second ≡ (true, with_value 2)
    pub no_marker_again : marker_due only_ipv4 (all_sent refreshed) Ipv4 ≡ false

  -- a session with both families, in which one of three routes was sent, is lost
  abbrev pub lost : History
  lost = WentDown 0 ∷ more (here (with_med 1) (first ∷ [])) ∷ done line (announce third bare_ipv6)
      ∷ done line (announce second (with_med 2)) ∷ done line (announce first (with_med 1)) ∷ comes_up both ∷ running

  -- and one with IPv4 alone comes up
  abbrev pub back : History
  back = comes_up only_ipv4 ∷ lost

  -- a new session begins with nothing sent
  pub record LostSessions : Type 0 where
    pub third_before : due both (comes_up both ∷ lost) third ≡ (true, Some (wire bare_ipv6))
    pub held : peer_at one back 0 only_ipv4 first ≡ None
    pub first_again : due only_ipv4 back first ≡ (true, with_value 1)
    pub second_too : due only_ipv4 back second ≡ (true, with_value 2)
    pub not_third : due only_ipv4 back third ≡ (false, None)
    pub marker_again : marker_due only_ipv4 back Ipv4 ≡ true
    pub no_other_marker : marker_due only_ipv4 back Ipv6 ≡ false

  -- a family that is asked for again, by the neighbour or by a flush, is sent again, and just once
  pub record SentAgain : Type 0 where
    pub at_rest : due only_ipv4 (sent_one line) first ≡ (false, Some (wire bare))
    pub asked : due only_ipv4 (RefreshAsked 0 Ipv4 ∷ sent_one line) first ≡ (true, Some (wire bare))
    pub sent : due only_ipv4 (last (here bare (first ∷ [])) ∷ RefreshAsked 0 Ipv4 ∷ sent_one line) first
        ≡ (false, Some (wire bare))
    pub flushed : due only_ipv4 (done line (command.Flush []) ∷ sent_one line) first ≡ (true, Some (wire bare))
    pub other_family : due only_ipv4 (RefreshAsked 0 Ipv6 ∷ sent_one line) first ≡ (false, Some (wire bare))
    pub no_marker : marker_due only_ipv4 (RefreshAsked 0 Ipv4 ∷ sent_one line) Ipv4 ≡ false
