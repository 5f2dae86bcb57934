-- What the calls of the gate tell.
use Rattle.std.specs.Prelude.{◌≡◌, ℕ, ◌+◌, ◌-◌, List, [], ◌∷◌, ◌++◌, Some, Contains}
use mathlib.Core.List.{IsPrefix}
use Rattle.book_gate.specs.declared.view.Signed.{Signed}
use Rattle.book_gate.specs.Histories.{Legal, entries, entries_by, signed}
use Rattle.book_gate.specs.Names.{child_name}
use Rattle.book_gate.specs.Views.{longer, room_share}
use Rattle.book_gate.specs.Steps.{AreNamed}
use Rattle.book_gate.specs.Known.{Known, Glimpsed}

module _ {A E : Type 0} where
  -- The second has seen what the first had, and no more entries of the first's name or of a name joined into it
  pub record Continues (pass later : Known A E) : Type 0 where
    pub front : IsPrefix pass.seen later.seen
    pub mine : entries_by pass.name later.seen ≡ entries_by pass.name pass.seen
    pub joined : (name : List ℕ) → Contains pass.joined name → entries_by name later.seen ≡ entries_by name pass.seen

  -- The same pass, which has seen more
  abbrev pub IsLater : Known A E → Known A E → Type 0
  IsLater pass later = later ≡ record pass { seen = later.seen }

  -- Where the first pass has all of its `split` in its `joined`, each entry that it has seen has the empty name or a
  -- joined one
  abbrev pub HasNamed : Known A E → Type 0
  HasNamed pass = AreNamed pass.name pass.split pass.joined pass.seen

module _ {A E : Type 0} (law : A → List E → E → Type 0) where
  -- What is seen is legal from what the gate was opened with
  abbrev pub IsLegal : Known A E → Type 0
  IsLegal pass = (start : A) × (pass.start ≡ Some start) × Legal law start (entries pass.seen)

  -- What is seen grows by whole entries and ends with this one, the only one more of the pass; those of joined names
  -- stay, and all is legal
  pub record Enters (pass : Known A E) (entry : E) (later : Known A E) : Type 0 where
    pub between : List (Signed E)
    pub seen : later.seen ≡ (pass.seen ++ between) ++ signed pass.name entry ∷ []
    pub mine : entries_by pass.name later.seen ≡ entries_by pass.name pass.seen ++ signed pass.name entry ∷ []
    pub joined : (name : List ℕ) → Contains pass.joined name → entries_by name later.seen ≡ entries_by name pass.seen
    pub legal : IsLegal later
    pub named : HasNamed later
    pub rest : IsLater pass later

  -- One more name is given out, and the new pass that has it has seen as much, made no entry and got a part of the
  -- room; all else stays
  pub record IsSplit (pass later new : Known A E) : Type 0 where
    pub becomes : later ≡ record pass {
      next = pass.next + 1;
      split = pass.split ++ child_name pass.name pass.next ∷ [];
      room = pass.room - (room_share pass.room + 1);
    }
    pub given : new ≡ record pass {
      name = child_name pass.name pass.next;
      next = 0;
      split = [];
      joined = [];
      room = room_share pass.room;
    }
    pub mine : entries_by new.name new.seen ≡ []
    pub legal : IsLegal later
    pub named : HasNamed later

  -- The longer of what the two have seen stays, which goes on from both, and names and room of both are put together
  pub record IsJoin (pass other later : Known A E) : Type 0 where
    pub becomes : later ≡ record pass {
      seen = longer pass.seen other.seen;
      split = pass.split ++ other.split;
      joined = (pass.joined ++ other.joined) ++ other.name ∷ [];
      room = pass.room + (other.room + 1);
    }
    pub own : Continues pass later
    pub theirs : Continues other later
    pub legal : IsLegal later
    pub named : HasNamed later

  -- The longer of what the pass and the glimpse have seen stays, which goes on from both; all else stays
  pub record Learns (pass : Known A E) (glimpse : Glimpsed E) (later : Known A E) : Type 0 where
    pub becomes : later ≡ record pass { seen = longer pass.seen glimpse.seen }
    pub own : Continues pass later
    pub theirs : IsPrefix glimpse.seen later.seen
    pub legal : IsLegal later
    pub named : HasNamed later

module _ {T A E : Type 0} (stands : T → A → List E → Type 0) where
  -- The state stands for what the pass has seen
  abbrev pub Stands : T → Known A E → Type 0
  Stands state pass = (start : A) → pass.start ≡ Some start → stands state start (entries pass.seen)
