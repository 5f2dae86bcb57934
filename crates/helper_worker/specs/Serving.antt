-- The entries of a replier, helper by helper.
use Rattle.std.specs.Prelude.{ℕ, ◌≡◌, ◌⊎◌, ◌<◌, Bool, true, false, List, [], ◌∷◌}
use Rattle.std.specs.List.{All, flat_map, list_any}
use Rattle.book_history.specs.Entries.{Entry}
use Rattle.book_history.specs.Entries.Entry.{HelperDeaf, Stopped}
use Rattle.book_gate.specs.Known.{Known}
use Rattle.pass_entries.specs.Making.{Makes}
use Rattle.helper_worker.specs.Handing.{deaf_for, replies_for, text_for}
use Rattle.helper_worker.specs.Replies.{ReplyRun}

-- the entries of one incarnation
pub record Served : Type 0 where
  pub inc : ℕ
  pub entries : List Entry

-- replies were taken until nothing more came
pub record IsServed (h : ℕ) (served : Served) : Type 0 where
  pub text : List ℕ
  pub gone_deaf : Bool
  pub run : ReplyRun h served.inc text true gone_deaf served.entries

abbrev pub entries_in : Served → List Entry
entries_in served = served.entries

-- the incarnations rise, from above a number to another
abbrev pub Rises : ℕ → List Served → ℕ → Type 0
Rises last [] now = now ≡ last
Rises last (served ∷ more) now = (last < served.inc) × Rises served.inc more now

-- by these entries nothing was taken for an incarnation
abbrev pub IsFreshFor : ℕ → List Entry → Type 0
IsFreshFor inc entries =
    (flat_map (text_for inc) entries ≡ []) × (list_any (deaf_for inc) entries ≡ false)
    × (list_any (replies_for inc) entries ≡ false)

-- by these entries nothing was taken for any later incarnation
abbrev pub IsFreshBehind : ℕ → List Entry → Type 0
IsFreshBehind last entries = (inc : ℕ) → last < inc → IsFreshFor inc entries

module _ {A : Type 0} where
  -- a pass took the replies of an incarnation
  pub record ServesOne (h inc : ℕ) (pass later : Known A Entry) : Type 0 where
    pub served : Served
    pub inc_is : served.inc ≡ inc
    pub makes : Makes pass served.entries later
    pub good : IsServed h served

  -- a pass took the replies of incarnations, one after the other, each behind those before it
  pub record Serves (h last last' : ℕ) (pass later : Known A Entry) : Type 0 where
    pub rounds : List Served
    pub makes : Makes pass (flat_map entries_in rounds) later
    pub good : All (IsServed h) rounds
    pub rises : Rises last rounds last'

  -- no helper was told deaf, or the next one
  abbrev pub Refuses : ℕ → ℕ → ℕ → Known A Entry → Known A Entry → Type 0
  Refuses h last last' pass later =
      (Makes pass [] later × (last' ≡ last)) ⊎ (Makes pass (HelperDeaf h last' ∷ []) later × (last < last'))

  -- the daemon was ended, and no helper was told deaf, or the next one
  abbrev pub CallsOff : ℕ → ℕ → ℕ → Known A Entry → Known A Entry → Type 0
  CallsOff h last last' pass later =
      (Makes pass (Stopped ∷ []) later × (last' ≡ last))
      ⊎ (Makes pass (Stopped ∷ HelperDeaf h last' ∷ []) later × (last < last'))
