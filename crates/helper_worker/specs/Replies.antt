-- The replies of one incarnation of a helper, as they are taken and written.
use Rattle.std.specs.Prelude.{ℕ, ◌≡◌, ◌⊎◌, ◌<◌, Bool, true, false, List, [], ◌∷◌, ◌++◌}
use Rattle.std.specs.List.{All, flat_map, list_any}
use Rattle.std.specs.declared.option.Option.{Option}
use Rattle.outside.specs.Told.{Grows}
use Rattle.ack_queue.specs.Texts.{reply_text}
use Rattle.book_history.specs.declared.outcomes.Take.{Take}
use Rattle.book_history.specs.declared.outcomes.Take.TheVariants as take
use Rattle.book_history.specs.Entries.{Entry}
use Rattle.book_history.specs.Entries.Entry.{HelperDeaf, RepliesTaken}
use Rattle.book_gate.specs.Known.{Known}
use Rattle.pass_entries.specs.Making.{Makes}

-- an entry by which replies of an incarnation are taken, or it is told that it no longer reads them
abbrev pub IsReplyOf : ℕ → ℕ → Entry → Type 0
IsReplyOf h inc entry = ((given : Take) × (entry ≡ RepliesTaken h inc given)) ⊎ (entry ≡ HelperDeaf h inc)

-- the text of the replies that were taken
abbrev pub text_of : Take → List ℕ
text_of take.Ended = []
text_of take.Nothing = []
text_of (take.Replies given) = flat_map reply_text given.items

abbrev pub text_by : Entry → List ℕ
text_by (RepliesTaken h inc given) = text_of given
text_by _ = []

-- whether nothing more comes behind it
abbrev pub is_last : Take → Bool
is_last take.Ended = true
is_last take.Nothing = false
is_last (take.Replies given) = false

abbrev pub lasts_by : Entry → Bool
lasts_by (RepliesTaken h inc given) = is_last given
lasts_by (HelperDeaf h inc) = true
lasts_by _ = false

-- what holds where nothing more comes, and where more may come
abbrev pub IfLast : Bool → Type 0 → Type 0 → Type 0
IfLast true last more = last
IfLast false last more = more

-- nothing comes behind the last of these entries, and only behind the last; or more may come behind all
abbrev pub AreTaken : List Entry → Bool → Type 0
AreTaken [] last = last ≡ false
AreTaken (entry ∷ more) last = IfLast (lasts_by entry) ((more ≡ []) × (last ≡ true)) (AreTaken more last)

-- whether it tells that a helper no longer reads its replies
abbrev pub deaf_by : Entry → Bool
deaf_by (HelperDeaf h inc) = true
deaf_by _ = false

-- entries of one incarnation, by which replies of this text were taken, and behind which more may come or nothing
pub record ReplyRun (h inc : ℕ) (text : List ℕ) (last gone_deaf : Bool) (entries : List Entry) : Type 0 where
  pub only : All (IsReplyOf h inc) entries
  pub text_is : flat_map text_by entries ≡ text
  pub ends : AreTaken entries last
  pub deaf_is : list_any deaf_by entries ≡ gone_deaf

-- a sink took the front of a text, and all of it unless it has failed
pub record Wrote (taken taken' : Option (List ℕ)) (faults : ℕ) (text : List ℕ) : Type 0 where
  pub part : List ℕ
  pub rest : List ℕ
  pub text_is : text ≡ part ++ rest
  pub grows : Grows taken taken' part
  pub whole : (rest ≡ []) ⊎ (0 < faults)

module _ {A : Type 0} where
  -- a pass took replies of an incarnation
  pub record TakesReplies (pass : Known A Entry) (h inc : ℕ) (text : List ℕ) (last gone_deaf : Bool)
      (later : Known A Entry) : Type 0 where
    pub entries : List Entry
    pub makes : Makes pass entries later
    pub run : ReplyRun h inc text last gone_deaf entries

  -- a pass took replies until nothing more came or the sink failed, and they were written; only a sink that has failed
  -- makes a helper deaf
  pub record Answers (pass : Known A Entry) (h inc : ℕ) (taken taken' : Option (List ℕ)) (faults : ℕ)
      (later : Known A Entry) : Type 0 where
    pub text : List ℕ
    pub gone_deaf : Bool
    pub takes : TakesReplies pass h inc text true gone_deaf later
    pub wrote : Wrote taken taken' faults text
    pub why_deaf : gone_deaf ≡ true → 0 < faults
