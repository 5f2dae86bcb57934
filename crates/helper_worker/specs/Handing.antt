-- What is told of a sink that comes back from the replier.
use Rattle.std.specs.Prelude.{ℕ, ◌≡◌, ◌+◌, ◌==◌, ◌&&◌, ◌||◌, cond, Bool, true, false, List, [], ◌∷◌, take, length}
use Rattle.std.specs.List.{flat_map, list_any}
use Rattle.std.specs.declared.option.Option.{Option}
use Rattle.std.specs.declared.option.Option.TheVariants.{Some}
use Rattle.book_history.specs.declared.outcomes.Spawn.TheVariants as spawn
use Rattle.book_history.specs.Entries.{Entry}
use Rattle.book_history.specs.Entries.Entry.{HelperDeaf, RepliesTaken, SpawnAsked, Stopped}
use Rattle.book_gate.specs.Histories.{entries, entries_by, is_name}
use Rattle.book_gate.specs.Names.{child_name}
use Rattle.book_gate.specs.declared.view.Signed.{Signed}
use Rattle.helper_worker.specs.Replies.{is_last, text_of}

-- The name of a slot's replier: the passes of its reader and its replier are split off the gate's first pass one after
-- the other, slot by slot from the first.
abbrev pub writer_of : ℕ → List ℕ
writer_of h = child_name [] (h + h + 1)

-- the text of the replies of an incarnation
abbrev pub text_for : ℕ → Entry → List ℕ
text_for inc (RepliesTaken h number given) = cond (number == inc) (text_of given) []
text_for inc _ = []

-- whether nothing more comes for an incarnation behind it
abbrev pub lasts_for : ℕ → Entry → Bool
lasts_for inc (RepliesTaken h number given) = (number == inc) && is_last given
lasts_for inc (HelperDeaf h number) = number == inc
lasts_for inc _ = false

-- whether it tells that an incarnation no longer reads its replies
abbrev pub deaf_for : ℕ → Entry → Bool
deaf_for inc (HelperDeaf h number) = number == inc
deaf_for inc _ = false

-- whether it is of the replies of an incarnation
abbrev pub replies_for : ℕ → Entry → Bool
replies_for inc (RepliesTaken h number given) = number == inc
replies_for inc (HelperDeaf h number) = number == inc
replies_for inc _ = false

-- whether it tells that an incarnation of a slot is to be started
abbrev pub is_go : ℕ → ℕ → Entry → Bool
is_go h inc (SpawnAsked slot now (spawn.Go number run)) = (slot == h) && (number == inc)
is_go h inc _ = false

abbrev pub is_stop : Entry → Bool
is_stop Stopped = true
is_stop _ = false

-- the entries under a name
abbrev pub under : List ℕ → List (Signed Entry) → List Entry
under name seen = entries (entries_by name seen)

-- the daemon was ended by a worker
abbrev pub HasStop : List (Signed Entry) → Type 0
HasStop seen = list_any is_stop (entries seen) ≡ true

-- an incarnation of a slot was to be started
abbrev pub HasGo : ℕ → ℕ → List (Signed Entry) → Type 0
HasGo h inc seen = list_any (is_go h inc) (entries seen) ≡ true

-- whether an entry is of a name and of the replies of an incarnation
abbrev pub is_reply : List ℕ → ℕ → Signed Entry → Bool
is_reply writer inc made = is_name writer made.name && replies_for inc made.entry

-- whether a name has such an entry in front of that by which the incarnation is to be started
abbrev pub is_early : List ℕ → ℕ → ℕ → List (Signed Entry) → Bool
is_early writer h inc [] = false
is_early writer h inc (made ∷ more) =
    cond (is_go h inc made.entry) false (is_reply writer inc made || is_early writer h inc more)

-- where a sink tells what it took, that is the front of a text, and all of it unless the sink has failed
abbrev pub IsFront : Option (List ℕ) → ℕ → List ℕ → Type 0
IsFront taken faults text =
    (part : List ℕ) → taken ≡ Some part → (take (length part) text ≡ part) × (faults ≡ 0 → part ≡ text)

-- where a sink tells what it took, that is nothing
abbrev pub TookNothing : Option (List ℕ) → Type 0
TookNothing taken = (part : List ℕ) → taken ≡ Some part → part ≡ []

-- an incarnation is told deaf only where its sink has failed or the daemon was ended by a worker
abbrev pub IsDeafFor : List ℕ → ℕ → ℕ → List (Signed Entry) → Type 0
IsDeafFor writer inc faults seen =
    list_any (deaf_for inc) (under writer seen) ≡ true → faults ≡ 0 → HasStop seen

-- by the entries under a name, which come behind that by which an incarnation is to be started, nothing more comes for
-- it, and its sink took the front of its replies
abbrev pub IsAnswered : List ℕ → ℕ → ℕ → Option (List ℕ) → ℕ → List (Signed Entry) → Type 0
IsAnswered writer h inc taken faults seen =
    IsFront taken faults (flat_map (text_for inc) (under writer seen))
    × (list_any (lasts_for inc) (under writer seen) ≡ true)
    × IsDeafFor writer inc faults seen
    × (is_early writer h inc seen ≡ false)
