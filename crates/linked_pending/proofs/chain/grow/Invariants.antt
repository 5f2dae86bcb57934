use Rattle.std.proofs.Common.{◌≡◌, ◌≤◌, ◌<◌, ℕ, List, length, vec_capacity}
use Rattle.linked_pending.specs.Links.{link}
use Rattle.linked_pending.proofs.chain.grow.Given as goal

-- the places below `place` are linked
pub record HasGrown (old new : List ℕ) (len place : ℕ) : Type 0 where
  pub length_is : length new ≡ place
  pub kept : (earlier : ℕ) → earlier < len → link new earlier ≡ link old earlier
  pub alone : (further : ℕ) → len ≤ further → further < place → link new further ≡ further

abbrev pub invariant-loop-place : goal.invariant-loop-place
invariant-loop-place l = HasGrown l.initial.links.items l.links.items l.len l.place × (l.room ≤ vec_capacity l.links)
