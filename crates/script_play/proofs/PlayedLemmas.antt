-- Bytes that are played line by line, as they come in pieces.
use Rattle.std.proofs.Common.{ℕ, ◌≡◌, ◌+◌, ◌<◌, true, List, [], ◌∷◌, ◌++◌, length, Option, Some, None, Result, Ok, Err}
use Rattle.std.proofs.Common.{ap, sym, ◌∙◌, refl, subst, append_assoc, append-nil, arith}
use Rattle.std.specs.List.{flat_map}
use Rattle.std.proofs.lemmas.List.{length-append}
use Rattle.std.proofs.lemmas.List.Concat.{flat_map-append}
use Rattle.outside.specs.Seen.{SinkSeen}
use Rattle.outside.specs.Told.{CountsOne, Grows}
use Rattle.outside.proofs.ToldLemmas.{grows_more}
use Rattle.text_forms.proofs.CutLemmas.{lacks_append}
use Rattle.update_grammar.proofs.PiecesLemmas.{all_append}
use Rattle.config_model.specs.Sections.{Sections}
use Rattle.book_history.specs.Entries.{History}
use Rattle.answer_texts.specs.Shown.{all_of, shown}
use Rattle.script_grammar.specs.Events.{ScriptLine}
use Rattle.script_grammar.specs.Reading.{max_script_line, script_line}
use Rattle.script_grammar.specs.Scripts.{script_lines}
use Rattle.text_history.specs.Adding.{Adding}
use Rattle.text_history.specs.Laws.{ScriptsGoOn}
use Rattle.text_history.specs.Plays.{AddsLine, AddsSaid, IsPlayPart, IsRefusedAt, is_no_line}
use Rattle.script_play.specs.declared.halt.Halt.{Halt}
use Rattle.script_play.specs.declared.halt.Halt.TheVariants as halt
use Rattle.script_play.specs.declared.player.Player.{Player}
use Rattle.script_play.specs.Streams.{ArePlayed, CameTo, Finishes, GoesOn, HasNoFeed, LeavesLine}
use Rattle.script_play.specs.Streams.{LineStopped, PlaysLine, RefusedBy, StayPart, StayRefused, StoppedIn}
use Rattle.script_play.specs.Streams.{ended}
use Rattle.script_play.specs.Writing.{Stops}
use Rattle.script_play.proofs.ScriptLemmas.{lines_all, lines_ended, lines_front, lines_further, lines_last, too_long}

-- what is printed of a history goes on with what is printed of added entries
abbrev pub TextsFollow : Type 0
TextsFollow = (added H : History) → all_of shown (added ++ H) ≡ all_of shown H ++ all_of shown added

-- what isn't touched has grown by nothing
pub grows_none : (told : Option (List ℕ)) → Grows told told []
grows_none None = tt
grows_none (Some bytes) = sym (append-nil bytes)

-- what stopped after something was written stopped from the first on
pub stops_later : (opened files files' : ℕ) (start sink sink' : SinkSeen) (halted : Halt) → files ≡ opened
    → sink.faults ≡ start.faults → Stops files files' sink sink' halted → Stops opened files' start sink' halted
stops_later opened files files' start sink sink' halt.Memory unopened same stops =
    (stops.0 ∙ unopened, stops.1 ∙ same)
stops_later opened files files' start sink sink' halt.Write unopened same stops =
    (stops.0 ∙ unopened, subst (λ (count : ℕ). CountsOne count sink'.faults) same stops.1)
stops_later opened files files' start sink sink' halt.File unopened same stops =
    (subst (λ (count : ℕ). CountsOne count files') unopened stops.0, stops.1 ∙ same)
stops_later opened files files' start sink sink' halt.Read unopened same stops = absurd stops
stops_later opened files files' start sink sink' halt.Long unopened same stops = absurd stops
stops_later opened files files' start sink sink' (halt.Script line) unopened same stops = absurd stops

-- ---- bytes that were played

-- nothing is played yet
pub played_none : (content : Option (List ℕ → List ℕ)) → ArePlayed content [] [] 0 []
played_none content = record {
  lines = [];
  no_feeds = tt;
  no_feed = tt;
  bytes_are = refl;
  count = refl;
  played = refl;
}

-- bytes of a line come behind it
pub played_behind : (content : Option (List ℕ → List ℕ)) (bytes held piece : List ℕ) (number : ℕ) (H : History)
    → ArePlayed content bytes held number H → HasNoFeed piece
    → ArePlayed content (bytes ++ piece) (held ++ piece) number H
played_behind content bytes held piece number H are no_feed = record {
  lines = are.lines;
  no_feeds = are.no_feeds;
  no_feed = lacks_append 10 held piece are.no_feed no_feed;
  bytes_are =
      ap (λ (front : List ℕ). front ++ piece) are.bytes_are ∙ append_assoc (flat_map ended are.lines) held piece;
  count = are.count;
  played = are.played;
}

-- the bytes of lines, with one line more
bytes_more : (lines : List (List ℕ)) (held part : List ℕ)
    → flat_map ended (lines ++ (held ++ part) ∷ []) ≡ (flat_map ended lines ++ held) ++ ended part
bytes_more lines held part =
    flat_map-append ended lines ((held ++ part) ∷ [])
    ∙ ap (λ (last : List ℕ). flat_map ended lines ++ last)
    (append-nil (ended (held ++ part)) ∙ append_assoc held part (10 ∷ []))
    ∙ sym (append_assoc (flat_map ended lines) held (ended part))

-- a line feed comes behind a line that is then played
played_more : (content : Option (List ℕ → List ℕ)) → ScriptsGoOn → (bytes held part : List ℕ) (number : ℕ)
    (H added : History) → ArePlayed content bytes held number H → HasNoFeed part
    → AddsLine content H (held ++ part) added → ArePlayed content (bytes ++ ended part) [] (number + 1) (added ++ H)
played_more content go_on bytes held part number H added are no_feed adds =
    let line : List ℕ = held ++ part in
    record {
      lines = are.lines ++ line ∷ [];
      no_feeds = all_append HasNoFeed are.lines (line ∷ []) are.no_feeds
          (lacks_append 10 held part are.no_feed no_feed, tt);
      no_feed = tt;
      bytes_are = ap (λ (front : List ℕ). front ++ ended part) are.bytes_are ∙ sym (bytes_more are.lines held part)
          ∙ sym (append-nil (flat_map ended (are.lines ++ line ∷ [])));
      count = omega (arith, are.count, length-append are.lines (line ∷ []));
      played = go_on content [] H added are.lines line are.played adds;
    }

-- ---- a line among others

-- entries that begin those of a line begin those of all lines
part_of : (content : Option (List ℕ → List ℕ)) → ScriptsGoOn → (bytes : List ℕ) (lines : List (List ℕ))
    (line : List ℕ) (behind : List (List ℕ)) (H added more : History)
    → script_lines bytes ≡ lines ++ line ∷ behind → Adding (AddsLine content) [] lines H
    → AddsLine content H line (more ++ added) → IsPlayPart content bytes (added ++ H)
part_of content go_on bytes lines line behind H added more lines_are played adds = record {
  lines = lines ++ line ∷ [];
  behind = behind;
  lines_are = lines_are ∙ sym (append_assoc lines (line ∷ []) behind);
  more = more;
  played = subst (λ (all : History). Adding (AddsLine content) [] (lines ++ line ∷ []) all)
      (append_assoc more added H) (go_on content [] H (more ++ added) lines line played adds);
}

-- what stopped in a line stopped in all lines
line_stopped : (Plays : History → Type 0) (content : Option (List ℕ → List ℕ)) (cfg : Sections) → TextsFollow
    → (H : History) (said : ScriptLine) (start sink sink' : SinkSeen)
    → ((added more : History) → AddsSaid content H said (more ++ added) → Plays (added ++ H))
    → Grows start.taken sink.taken (all_of shown H) → LineStopped content cfg H said sink sink'
    → StoppedIn Plays cfg start sink'
line_stopped Plays content cfg follow H said start sink sink' plays taken was = record {
  history = was.added ++ H;
  played = plays was.added was.more was.adds;
  legal = was.legal;
  part = all_of shown H ++ was.part;
  rest = was.rest;
  text_is = follow was.added H ∙ ap (λ (text : List ℕ). all_of shown H ++ text) was.text_is
      ∙ sym (append_assoc (all_of shown H) was.part was.rest);
  taken = grows_more start.taken sink.taken sink'.taken (all_of shown H) was.part taken was.taken;
}

-- what was written of a line comes behind what was written before
text_more : (start sink sink' : SinkSeen) (H added : History) → TextsFollow
    → Grows start.taken sink.taken (all_of shown H) → Grows sink.taken sink'.taken (all_of shown added)
    → Grows start.taken sink'.taken (all_of shown (added ++ H))
text_more start sink sink' H added follow before after =
    subst (λ (text : List ℕ). Grows start.taken sink'.taken text) (sym (follow added H))
    (grows_more start.taken sink.taken sink'.taken (all_of shown H) (all_of shown added) before after)

-- a call that wrote nothing
same_taken : (start sink sink' : SinkSeen) (text : List ℕ) → sink' ≡ sink → Grows start.taken sink.taken text
    → Grows start.taken sink'.taken text
same_taken start sink sink' text is taken =
    subst (λ (seen : SinkSeen). Grows start.taken seen.taken text) (sym is) taken

-- a line of the place that the player came to is none
line_refused : (Refuses : History → Type 0) (content : Option (List ℕ → List ℕ)) (cfg : Sections)
    (bytes held : List ℕ) (number : ℕ) (player : Player) (opened files : ℕ) (start sink sink' : SinkSeen)
    → (came : CameTo content cfg bytes held number player opened files start sink) → sink' ≡ sink
    → Refuses came.history → RefusedBy Refuses cfg start sink'
line_refused Refuses content cfg bytes held number player opened files start sink sink' came is refused = record {
  history = came.history;
  refused = refused;
  legal = came.stands.book.held.legal;
  taken = same_taken start sink sink' (all_of shown came.history) is came.taken;
  same = ap (λ (seen : SinkSeen). seen.faults) is ∙ came.same;
}

-- ---- a line that ended

part_stays : (content : Option (List ℕ → List ℕ)) → ScriptsGoOn → (bytes held part : List ℕ) (number : ℕ)
    (H added more : History) → ArePlayed content bytes held number H → HasNoFeed part
    → AddsLine content H (held ++ part) (more ++ added) → StayPart content (bytes ++ ended part) (added ++ H)
part_stays content go_on bytes held part number H added more are no_feed adds behind =
    part_of content go_on ((bytes ++ ended part) ++ behind) are.lines (held ++ part) (script_lines behind) H added more
    (lines_ended are.lines bytes held part behind are.no_feeds (lacks_append 10 held part are.no_feed no_feed)
    are.bytes_are) are.played adds

refused_stays : (content : Option (List ℕ → List ℕ)) (bytes held part : List ℕ) (number at : ℕ) (H : History)
    → ArePlayed content bytes held number H → HasNoFeed part → at ≡ number + 1
    → is_no_line H (script_line (held ++ part)) ≡ true → StayRefused content (bytes ++ ended part) at H
refused_stays content bytes held part number at H are no_feed at_is none behind = record {
  before = are.lines;
  line = held ++ part;
  behind = script_lines behind;
  lines_are = lines_ended are.lines bytes held part behind are.no_feeds
      (lacks_append 10 held part are.no_feed no_feed) are.bytes_are;
  number_is = omega (arith, at_is, are.count);
  played = are.played;
  bad = none;
}

ended_stopped : (content : Option (List ℕ → List ℕ)) (cfg : Sections) → ScriptsGoOn → TextsFollow
    → (bytes held part : List ℕ) (number : ℕ) (was : Player) (opened files : ℕ) (start sink sink' : SinkSeen)
    → (came : CameTo content cfg bytes held number was opened files start sink) → HasNoFeed part
    → LineStopped content cfg came.history (script_line (held ++ part)) sink sink'
    → StoppedIn (StayPart content (bytes ++ ended part)) cfg start sink'
ended_stopped content cfg go_on follow bytes held part number was opened files start sink sink' came no_feed stopped =
    line_stopped (StayPart content (bytes ++ ended part)) content cfg follow came.history (script_line (held ++ part))
    start sink sink'
    (λ added more adds. part_stays content go_on bytes held part number came.history added more came.played no_feed
    adds) came.taken stopped

ended_leaves : (content : Option (List ℕ → List ℕ)) (cfg : Sections) → ScriptsGoOn → TextsFollow
    → (bytes held part : List ℕ) (number : ℕ) (was player : Player) (opened files files' : ℕ)
    (start sink sink' : SinkSeen) (result : Result (Unit {0}) Halt)
    → (came : CameTo content cfg bytes held number was opened files start sink) → HasNoFeed part
    → LeavesLine content cfg came.history (number + 1) (script_line (held ++ part)) player files files' sink sink'
    result → GoesOn content cfg (bytes ++ ended part) [] (number + 1) player opened files' start sink' result
ended_leaves content cfg go_on follow bytes held part number was player opened files files' start sink sink' (Ok done)
    came no_feed leaves =
    let line = leaves.0 in
    record {
      history = line.added ++ came.history;
      played = played_more content go_on bytes held part number came.history line.added came.played no_feed line.adds;
      stands = line.stands;
      taken = text_more start sink sink' came.history line.added follow came.taken line.taken;
      same = line.same ∙ came.same;
      unopened = leaves.1 ∙ came.unopened;
    }
ended_leaves content cfg go_on follow bytes held part number was player opened files files' start sink sink'
    (Err (halt.Script at)) came no_feed leaves = (
      line_refused (StayRefused content (bytes ++ ended part) at) content cfg bytes held number was opened files start
          sink
          sink' came leaves.2
          (refused_stays content bytes held part number at came.history came.played no_feed leaves.0 leaves.1),
      leaves.3 ∙ came.unopened,
    )
ended_leaves content cfg go_on follow bytes held part number was player opened files files' start sink sink'
    (Err halt.Memory) came no_feed leaves = (
      ended_stopped content cfg go_on follow bytes held part number was opened files start sink sink' came no_feed
          leaves.0,
      stops_later opened files files' start sink sink' halt.Memory came.unopened came.same leaves.1,
    )
ended_leaves content cfg go_on follow bytes held part number was player opened files files' start sink sink'
    (Err halt.Write) came no_feed leaves = (
      ended_stopped content cfg go_on follow bytes held part number was opened files start sink sink' came no_feed
          leaves.0,
      stops_later opened files files' start sink sink' halt.Write came.unopened came.same leaves.1,
    )
ended_leaves content cfg go_on follow bytes held part number was player opened files files' start sink sink'
    (Err halt.File) came no_feed leaves = (
      ended_stopped content cfg go_on follow bytes held part number was opened files start sink sink' came no_feed
          leaves.0,
      stops_later opened files files' start sink sink' halt.File came.unopened came.same leaves.1,
    )
ended_leaves content cfg go_on follow bytes held part number was player opened files files' start sink sink'
    (Err halt.Read) came no_feed leaves = absurd leaves.1
ended_leaves content cfg go_on follow bytes held part number was player opened files files' start sink sink'
    (Err halt.Long) came no_feed leaves = absurd leaves.1

-- what playing a line leaves that a part and its line feed end
pub ended_plays : (content : Option (List ℕ → List ℕ)) (cfg : Sections) → ScriptsGoOn → TextsFollow
    → (bytes held part whole line : List ℕ) (number : ℕ) (was player : Player) (opened files files' : ℕ)
    (start sink sink' : SinkSeen) (result : Result (Unit {0}) Halt)
    → CameTo content cfg bytes held number was opened files start sink → HasNoFeed part → line ≡ whole
    → whole ≡ held ++ part
    → PlaysLine content (number + 1) (script_line line) was player files files' sink sink' result
    → GoesOn content cfg (bytes ++ ended part) [] (number + 1) player opened files' start sink' result
ended_plays content cfg go_on follow bytes held part whole line number was player opened files files' start sink sink'
    result
    came no_feed line_is whole_is plays =
    ended_leaves content cfg go_on follow bytes held part number was player opened files files' start sink sink' result
    came no_feed
    (subst (λ (all : List ℕ). LeavesLine content cfg came.history (number + 1) (script_line all) player files
    files' sink sink' result) (line_is ∙ whole_is) (plays cfg came.history came.stands))

-- there was no memory for more of a line
pub lost_piece : (content : Option (List ℕ → List ℕ)) (cfg : Sections) (bytes held piece last : List ℕ)
    (number place : ℕ) (player next : Player) (opened files : ℕ) (start sink : SinkSeen)
    → CameTo content cfg bytes held number player opened files start sink
    → GoesOn content cfg (bytes ++ piece) last place next opened files start sink (Err halt.Memory)
lost_piece content cfg bytes held piece last number place player next opened files start sink came = (
  record {
    history = came.history;
    played = λ more. record {
      lines = came.played.lines;
      behind = script_lines (held ++ (piece ++ more));
      lines_are = lines_front came.played.lines bytes held piece more came.played.no_feeds came.played.bytes_are;
      more = [];
      played = came.played.played;
    };
    legal = came.stands.book.held.legal;
    part = all_of shown came.history;
    rest = [];
    text_is = sym (append-nil (all_of shown came.history));
    taken = came.taken;
  },
  (came.unopened, came.same),
)

-- a line isn't ended, and is longer than one may be
pub long_refused : (content : Option (List ℕ → List ℕ)) (cfg : Sections) (bytes held : List ℕ)
    (number : ℕ) (player next : Player) (last : List ℕ) (place : ℕ) (opened files : ℕ) (start sink : SinkSeen)
    → CameTo content cfg bytes held number player opened files start sink → max_script_line < length held
    → GoesOn content cfg bytes last place next opened files start sink (Err (halt.Script (number + 1)))
long_refused content cfg bytes held number player next last place opened files start sink came long = (
  line_refused (StayRefused content bytes (number + 1)) content cfg bytes held number player opened files start sink
      sink came refl
      (λ more.
      let further = lines_further came.played.lines bytes held more came.played.no_feeds came.played.no_feed
      came.played.bytes_are (omega (arith, long)) in
      record {
        before = came.played.lines;
        line = held ++ further.rest;
        behind = further.behind;
        lines_are = further.lines_are;
        number_is = omega (arith, came.played.count);
        played = came.played.played;
        bad = ap (is_no_line came.history) (too_long held further.rest long);
      }),
  came.unopened,
)

-- ---- the last line

-- a list without elements is the empty one
pub no_elements : (items : List ℕ) → length items ≡ 0 → items ≡ []
no_elements [] none = refl
no_elements (item ∷ items) none = absurd (omega (arith, none))

-- there is none
pub none_last : (content : Option (List ℕ → List ℕ)) (cfg : Sections) (bytes held : List ℕ) (number : ℕ)
    (player : Player) (opened files : ℕ) (start sink : SinkSeen)
    → CameTo content cfg bytes held number player opened files start sink → held ≡ []
    → Finishes content cfg bytes opened files start sink (Ok tt)
none_last content cfg bytes held number player opened files start sink came none = (
  record {
    history = came.history;
    played = subst (λ (lines : List (List ℕ)). Adding (AddsLine content) [] lines came.history)
        (sym (lines_all came.played.lines bytes held came.played.no_feeds none came.played.bytes_are))
        came.played.played;
    legal = came.stands.book.held.legal;
    taken = came.taken;
    same = came.same;
  },
  came.unopened,
)

last_stopped : (content : Option (List ℕ → List ℕ)) (cfg : Sections) → ScriptsGoOn → TextsFollow
    → (bytes held : List ℕ) (number : ℕ) (was : Player) (opened files : ℕ) (start sink sink' : SinkSeen)
    → (came : CameTo content cfg bytes held number was opened files start sink) → 0 < length held
    → LineStopped content cfg came.history (script_line held) sink sink'
    → StoppedIn (IsPlayPart content bytes) cfg start sink'
last_stopped content cfg go_on follow bytes held number was opened files start sink sink' came some stopped =
    line_stopped (IsPlayPart content bytes) content cfg follow came.history (script_line held) start sink sink'
    (λ added more adds. part_of content go_on bytes came.played.lines held [] came.history added more
    (lines_last came.played.lines bytes held came.played.no_feeds came.played.no_feed came.played.bytes_are some)
    came.played.played adds) came.taken stopped

last_leaves : (content : Option (List ℕ → List ℕ)) (cfg : Sections) → ScriptsGoOn → TextsFollow
    → (bytes held : List ℕ) (number : ℕ) (was player : Player) (opened files files' : ℕ)
    (start sink sink' : SinkSeen) (result : Result (Unit {0}) Halt)
    → (came : CameTo content cfg bytes held number was opened files start sink) → 0 < length held
    → LeavesLine content cfg came.history (number + 1) (script_line held) player files files' sink sink' result
    → Finishes content cfg bytes opened files' start sink' result
last_leaves content cfg go_on follow bytes held number was player opened files files' start sink sink' (Ok done) came
    some leaves =
    let line = leaves.0 in (
      record {
        history = line.added ++ came.history;
        played = subst (λ (lines : List (List ℕ)). Adding (AddsLine content) [] lines (line.added ++ came.history))
            (sym (lines_last came.played.lines bytes held came.played.no_feeds came.played.no_feed
            came.played.bytes_are some))
            (go_on content [] came.history line.added came.played.lines held came.played.played line.adds);
        legal = line.stands.book.held.legal;
        taken = text_more start sink sink' came.history line.added follow came.taken line.taken;
        same = line.same ∙ came.same;
      },
      leaves.1 ∙ came.unopened,
    )
last_leaves content cfg go_on follow bytes held number was player opened files files' start sink sink'
    (Err (halt.Script at)) came some leaves = (
      line_refused (IsRefusedAt content bytes at) content cfg bytes held number was opened files start sink sink' came
          leaves.2
          (record {
            before = came.played.lines;
            line = held;
            behind = [];
            lines_are = lines_last came.played.lines bytes held came.played.no_feeds came.played.no_feed
                came.played.bytes_are some;
            number_is = omega (arith, leaves.0, came.played.count);
            played = came.played.played;
            bad = leaves.1;
          }),
      leaves.3 ∙ came.unopened,
    )
last_leaves content cfg go_on follow bytes held number was player opened files files' start sink sink' (Err halt.Memory)
    came some leaves = (
      last_stopped content cfg go_on follow bytes held number was opened files start sink sink' came some leaves.0,
      stops_later opened files files' start sink sink' halt.Memory came.unopened came.same leaves.1,
    )
last_leaves content cfg go_on follow bytes held number was player opened files files' start sink sink' (Err halt.Write)
    came some leaves = (
      last_stopped content cfg go_on follow bytes held number was opened files start sink sink' came some leaves.0,
      stops_later opened files files' start sink sink' halt.Write came.unopened came.same leaves.1,
    )
last_leaves content cfg go_on follow bytes held number was player opened files files' start sink sink' (Err halt.File)
    came some leaves = (
      last_stopped content cfg go_on follow bytes held number was opened files start sink sink' came some leaves.0,
      stops_later opened files files' start sink sink' halt.File came.unopened came.same leaves.1,
    )
last_leaves content cfg go_on follow bytes held number was player opened files files' start sink sink' (Err halt.Read)
    came some leaves = absurd leaves.1
last_leaves content cfg go_on follow bytes held number was player opened files files' start sink sink' (Err halt.Long)
    came some leaves = absurd leaves.1

-- what playing the last line leaves
pub last_plays : (content : Option (List ℕ → List ℕ)) (cfg : Sections) → ScriptsGoOn → TextsFollow
    → (bytes held line : List ℕ) (number : ℕ) (was player : Player) (opened files files' : ℕ)
    (start sink sink' : SinkSeen) (result : Result (Unit {0}) Halt)
    → CameTo content cfg bytes held number was opened files start sink → 0 < length held → line ≡ held
    → PlaysLine content (number + 1) (script_line line) was player files files' sink sink' result
    → Finishes content cfg bytes opened files' start sink' result
last_plays content cfg go_on follow bytes held line number was player opened files files' start sink sink' result came
    some line_is plays =
    last_leaves content cfg go_on follow bytes held number was player opened files files' start sink sink' result came
    some
    (subst (λ (whole : List ℕ). LeavesLine content cfg came.history (number + 1) (script_line whole) player files
    files' sink sink' result) line_is (plays cfg came.history came.stands))
