-- What text commands print of a history.
use Rattle.std.specs.Prelude.{ℕ, List, [], ◌∷◌, ◌++◌}
use Rattle.book_history.specs.Entries.{Entry, History}
use Rattle.book_history.specs.Entries.Entry.{LineEntered, RepliesTaken, HelperDeaf, HelperGone, SpawnAsked, PeerAsked}
use Rattle.book_history.specs.Entries.Entry.{CameUp, WentDown, RefreshAsked, MessageCut, ControlAsked, Reloaded}
use Rattle.book_history.specs.Entries.Entry.{ReloadRefused, Stopped}
use Rattle.book_history.specs.declared.outcomes.Cut.TheVariants as cut
use Rattle.answer_texts.specs.Texts.{control_text, cut_text, not_read_text, ok_text, peer_text, reload_text}
use Rattle.answer_texts.specs.Texts.{replies_text, spawn_text, take_text, up_text, verdict_text}

-- what a script prints of an entry
abbrev pub shown : Entry → List ℕ
shown (LineEntered h inc line reading given) = verdict_text given
shown (RepliesTaken h inc given) = take_text given
shown (HelperDeaf h inc) = ok_text
shown (HelperGone h inc) = ok_text
shown (SpawnAsked h now given) = spawn_text given
shown (PeerAsked n given) = peer_text given
shown (CameUp n settings caps given) = up_text given
shown (WentDown n) = ok_text
shown (RefreshAsked n family) = ok_text
shown (MessageCut n bytes given) = cut_text n bytes given
shown (ControlAsked given) = control_text given
shown (Reloaded new given) = reload_text given
shown (ReloadRefused because) = not_read_text because
shown Stopped = []

-- what is printed of an entry where replies and messages alone are
abbrev pub encoded : Entry → List ℕ
encoded (RepliesTaken h inc given) = replies_text given
encoded (MessageCut n bytes (cut.Reset code sub)) = cut_text n bytes (cut.Reset code sub)
encoded (MessageCut n bytes (cut.Message last)) = cut_text n bytes (cut.Message last)
encoded _ = []

-- what is printed of the entries of a history, in the order in which they were made
abbrev pub all_of : (Entry → List ℕ) → History → List ℕ
all_of text [] = []
all_of text (entry ∷ H) = all_of text H ++ text entry
