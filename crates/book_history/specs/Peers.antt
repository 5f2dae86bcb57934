-- A neighbour slot in a history: the table that it is to have, its session, and its batches.
use Rattle.std.specs.Prelude.{ℕ, ◌==◌, [], ◌∷◌, if◌then◌else◌, Option, Some, None, unwrap_or}
use Rattle.route_values.specs.declared.attrs.WireAttrs.{WireAttrs}
use Rattle.route_values.specs.declared.key.Key.{Key}
use Rattle.route_values.specs.Caps.{Caps}
use Rattle.config_model.specs.Sections.{Sections}
use Rattle.peer_history.specs.Sessions.{session, peer}
use Rattle.peer_history.specs.Table.{Route, want, view}
use Rattle.book_history.specs.declared.outcomes.Cut.TheVariants as cut
use Rattle.book_history.specs.declared.outcomes.Up.TheVariants as up
use Rattle.book_history.specs.Entries.{History}
use Rattle.book_history.specs.Entries.Entry.{CameUp, WentDown, MessageCut}
use Rattle.book_history.specs.PeerSteps.{steps_of}

-- what was asked for at a key
abbrev pub wanted_at : Sections → History → ℕ → Key → Option Route
wanted_at cfg H n key = want (steps_of cfg n H) key

-- the table as a session with these capabilities shows it
abbrev pub view_at : Sections → History → ℕ → Caps → Key → Option WireAttrs
view_at cfg H n caps key = view caps (steps_of cfg n H) key

-- the capabilities of the session that stands
abbrev pub session_at : Sections → History → ℕ → Option Caps
session_at cfg H n = session (steps_of cfg n H)

-- what the session's messages have left at the peer
abbrev pub peer_at : Sections → History → ℕ → Caps → Key → Option WireAttrs
peer_at cfg H n caps key = peer caps (steps_of cfg n H) key

-- the history before the first cut of the slot's open batch
abbrev pub opened_at : ℕ → History → Option History
opened_at n [] = None
opened_at n (CameUp m settings caps up.Ok ∷ H) = if m == n then None else opened_at n H
opened_at n (WentDown m ∷ H) = if m == n then None else opened_at n H
opened_at n (MessageCut m bytes (cut.Message last) ∷ H) =
    if m == n then (if last then None else Some (unwrap_or (opened_at n H) H)) else opened_at n H
opened_at n (_ ∷ H) = opened_at n H

-- the history before the first cut of the batch that a message would belong to
abbrev pub first_cut_at : ℕ → History → History
first_cut_at n H = unwrap_or (opened_at n H) H
