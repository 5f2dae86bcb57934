-- What a player knows of neighbours after an entry.
use Rattle.std.proofs.Common.{ℕ, ◌≡◌, ◌<◌, true, false, List, ◌∷◌, refl, sym, subst, ap, ◌∙◌, Some, None, eqb-true}
use Rattle.std.proofs.lemmas.List.{length-set}
use Rattle.std.proofs.lemmas.Option.{get_or_from_slice_get}
use Rattle.std.specs.Prelude.{◌==◌, if◌then◌else◌, Option, get_or, slice_get, slice_set}
use Rattle.route_values.specs.declared.settings.Settings.{Settings}
use Rattle.config_model.specs.Limits.{max_peers}
use Rattle.book_history.specs.declared.outcomes.Peer.{Peer as Told}
use Rattle.book_history.specs.declared.outcomes.Peer.TheVariants as peer
use Rattle.book_history.specs.Entries.{Entry, History}
use Rattle.book_history.specs.Entries.Entry.{PeerAsked}
use Rattle.book_core.proofs.HelperLemmas.{get_set_other, get_set_put}
use Rattle.text_history.specs.Plays.{settings_told}
use Rattle.script_play.specs.Player.{AreKnown, known_by}

-- an entry that tells no settings
abbrev pub TellsNone : Entry → Type 0
TellsNone entry = (n : ℕ) (H : History) → settings_told n (entry ∷ H) ≡ settings_told n H

pub known_on : (H : History) (known : List (Option Settings)) (entry : Entry) → TellsNone entry → AreKnown H known
    → AreKnown (entry ∷ H) known
known_on H known entry none are = record {
  many = are.many;
  each = λ n few. are.each n few ∙ sym (ap Some (none n H));
}

-- what a slot tells of its neighbour is known of it, and of no other
pub known_told : (H : History) (known : List (Option Settings)) (n : ℕ) (given : Told) → n < max_peers
    → AreKnown H known → AreKnown (PeerAsked n given ∷ H) (known_by n given known)
known_told H known n (peer.Is settings) within are = record {
  many = length-set known n (Some settings) ∙ are.many;
  each = λ m few.
      elim (n == m) as (λ b. (n == m) ≡ b → slice_get (slice_set known n (Some settings)) m
      ≡ Some (if b then Some settings else settings_told m H)) [
        | true ↦ λ same.
            subst (λ k. slice_get (slice_set known n (Some settings)) k ≡ Some (Some settings))
            (eqb-true n m same)
            (get_set_put known n (Some settings) (subst (λ many. n < many) (sym are.many) within))
        | false ↦ λ other. get_set_other known n m (Some settings) other ∙ are.each m few
      ] refl;
}
known_told H known n peer.Absent within are = known_on H known (PeerAsked n peer.Absent) (λ m K. refl) are
known_told H known n peer.Stopping within are = known_on H known (PeerAsked n peer.Stopping) (λ m K. refl) are

-- the settings that are found in the list were told
pub was_told : (H : History) (known : List (Option Settings)) (n : ℕ) (settings : Settings) → n < max_peers
    → AreKnown H known → get_or known n None ≡ Some settings → settings_told n H ≡ Some settings
was_told H known n settings within are is =
    sym (get_or_from_slice_get known n (settings_told n H) None (are.each n within)) ∙ is
