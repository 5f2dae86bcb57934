-- Any number of passes of one gate.
use Rattle.std.specs.Prelude.{◌≡◌, ℕ, zero, suc, ◌+◌, ◌-◌, List, [], ◌∷◌, ◌++◌, Contains}
use Rattle.book_gate.specs.Histories.{entries_by}
use Rattle.book_gate.specs.Names.{child_name}
use Rattle.book_gate.specs.Views.{room_share}
use Rattle.book_gate.specs.Known.{Known}
use Rattle.book_gate.specs.Calls.{Continues, IsLegal, HasNamed, Stands}

-- The count names that a pass gives out from the k-th on
abbrev pub child_names : List ℕ → ℕ → ℕ → List (List ℕ)
child_names parent k zero = []
child_names parent k (suc count) = child_names parent k count ++ child_name parent (k + count) ∷ []

-- The room that a pass of this room has left when count passes were split off it
abbrev pub room_left : ℕ → ℕ → ℕ
room_left room zero = room
room_left room (suc count) = room_left room count - (room_share (room_left room count) + 1)

module _ {A E : Type 0} where
  -- The pass that has the k-th name of a pass, has seen as much, gave out no name and has this room
  abbrev pub child_of : Known A E → ℕ → ℕ → Known A E
  child_of pass k room = record pass { name = child_name pass.name k; next = 0; split = []; joined = []; room = room }

  -- The passes that have the next count names
  abbrev pub children_of : Known A E → ℕ → List (Known A E)
  children_of pass zero = []
  children_of pass (suc count) =
      children_of pass count ++ child_of pass (pass.next + count) (room_share (room_left pass.room count)) ∷ []

  -- The pass gave out this many names, and the new passes, which have them, made no entry
  pub record IsMany (pass : Known A E) (count : ℕ) (later : Known A E) (new : List (Known A E)) : Type 0 where
    pub becomes : later ≡ record pass {
      next = pass.next + count;
      split = pass.split ++ child_names pass.name pass.next count;
      room = room_left pass.room count;
    }
    pub given : new ≡ children_of pass count
    pub mine : (other : Known A E) → Contains new other → entries_by other.name other.seen ≡ []

  -- The names given out, with those that the others gave out
  abbrev pub split_with : List (List ℕ) → List (Known A E) → List (List ℕ)
  split_with names [] = names
  split_with names (other ∷ others) = split_with (names ++ other.split) others

  -- The joined names, with the others' and those joined into them
  abbrev pub joined_with : List (List ℕ) → List (Known A E) → List (List ℕ)
  joined_with names [] = names
  joined_with names (other ∷ others) = joined_with ((names ++ other.joined) ++ other.name ∷ []) others

  -- The room, with the others' and a place for each of them
  abbrev pub room_with : ℕ → List (Known A E) → ℕ
  room_with room [] = room
  room_with room (other ∷ others) = room_with (room + (other.room + 1)) others

module _ {A E : Type 0} (law : A → List E → E → Type 0) where
  -- The pass went on from what it had seen and from what each of the others had, and has names and room of all
  pub record IsAllJoined (pass : Known A E) (others : List (Known A E)) (later : Known A E) : Type 0 where
    pub becomes : later ≡ record pass {
      seen = later.seen;
      split = split_with pass.split others;
      joined = joined_with pass.joined others;
      room = room_with pass.room others;
    }
    pub own : Continues pass later
    pub theirs : (other : Known A E) → Contains others other → Continues other later
    pub legal : IsLegal law pass → IsLegal law later
    pub named : HasNamed pass → HasNamed later

module _ {T A E : Type 0} (stands : T → A → List E → Type 0) (law : A → List E → E → Type 0) where
  -- The state stands for what the pass has seen after all others were joined into it
  pub record Closes (pass : Known A E) (others : List (Known A E)) (state : T) : Type 0 where
    pub later : Known A E
    pub joined : IsAllJoined law pass others later
    pub stands_for : Stands stands state later
