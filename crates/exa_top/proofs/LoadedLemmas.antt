-- What `load` shows of its devices, by how it ended.
use Rattle.std.proofs.Common.{ℕ, List, [], Option, refl, inl, subst, sym}
use Rattle.outside.specs.Seen.{SourceSeen, SinkSeen}
use Rattle.book_history.specs.Entries.{History}
use Rattle.book_history.specs.Legal.{IsLegal}
use Rattle.book_core.specs.Seen.{Seen as Book}
use Rattle.script_play.specs.Loads.{IsLoad, counts_of, counts_text}
use Rattle.script_play.specs.LoadLaws.{LoadsLeaveCounted}
use Rattle.script_play.specs.Loading.{Loads}
use Rattle.script_play.specs.declared.status.Status.{Status}
use Rattle.script_play.specs.declared.status.Status.TheVariants as status
use Rattle.exa_top.specs.declared.words.TextCommand.TheVariants.{Load}
use Rattle.exa_top.specs.Loaded.{IsLoaded, load_config}
use Rattle.exa_top.specs.Plain.{plain_neighbor}
use Rattle.exa_top.specs.Top.{Answered}
use Rattle.exa_top.proofs.AnsweredLemmas.{nothing_written, read_none, untouched_is_few, written}

-- what is written of a load that was entered whole
loaded_text : LoadsLeaveCounted → (count : ℕ) (history : History) → IsLoad count history
    → IsLegal load_config history → IsLoaded count (counts_text (counts_of count history))
loaded_text law count history load legal = record {
  history = history;
  load = load;
  legal = legal;
  left = law load_config count history
      (record { neighbor = plain_neighbor 65001 65002 3221225993; neighbors = refl; settings = refl }) load legal;
  output_is = refl;
}

-- memory was wanting, and nothing was written
pub unloaded : (content : Option (List ℕ → List ℕ)) (count : ℕ) (source : SourceSeen) (sink : SinkSeen)
    → Answered content (Load count) source source sink sink status.NoMemory
unloaded content count source sink = record {
  spelled = λ is. absurd (cc);
  crew = λ is. absurd (cc);
  ok = λ is. absurd (cc);
  broke = λ other. nothing_written content (Load count) source source sink [] [] [] (read_none source) (refl, inl refl);
  unread = λ is. absurd (cc);
  refused = λ fault is. absurd (cc);
  bad = λ line is. absurd (cc);
  read = λ is. absurd (cc);
  read_same = λ other. refl;
  write = λ is. absurd (cc);
  write_same = λ other. refl;
  late = λ is. absurd is;
  reads = λ is. absurd (cc);
  long = λ is. absurd (cc);
  over = λ from. absurd (untouched_is_few source source [] (read_none source) from);
}

-- a load that was entered, by how it ended
pub loaded : LoadsLeaveCounted → (content : Option (List ℕ → List ℕ)) (count : ℕ) (source : SourceSeen)
    (sink sink' : SinkSeen) (book : Book) (ends : Status) → Loads load_config count book sink sink' ends
    → Answered content (Load count) source source sink sink' ends
loaded law content count source sink sink' book status.Ok loads =
    written content (Load count) source source sink sink' [] [] (counts_text (counts_of count loads.history)) status.Ok
    (read_none source) (read_none source)
    (refl, loaded_text law count loads.history loads.load loads.stands.held.legal) refl (loads.taken, loads.same)
loaded law content count source sink sink' book status.WriteFault loads =
    written content (Load count) source source sink sink' [] [] (counts_text (counts_of count loads.history))
    status.WriteFault (read_none source) (read_none source)
    (refl, loaded_text law count loads.history loads.load loads.stands.held.legal) refl
    ((loads.part, loads.rest, loads.text_is, loads.taken), loads.counts)
loaded law content count source sink sink' book status.NoMemory loads =
    subst (λ (seen : SinkSeen). Answered content (Load count) source source sink seen status.NoMemory) (sym loads.1)
    (unloaded content count source sink)
loaded law content count source sink sink' book status.Usage loads = absurd loads
loaded law content count source sink sink' book status.ConfigRead loads = absurd loads
loaded law content count source sink sink' book (status.ConfigRefused fault) loads = absurd loads
loaded law content count source sink sink' book (status.ScriptRefused line) loads = absurd loads
loaded law content count source sink sink' book status.NoCrew loads = absurd loads
loaded law content count source sink sink' book status.ReadFault loads = absurd loads
loaded law content count source sink sink' book status.InputLong loads = absurd loads
