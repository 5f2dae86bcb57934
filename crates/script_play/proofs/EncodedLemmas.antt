-- A whole input that is encoded, or a part of one.
use Rattle.std.proofs.Common.{ℕ, ◌≡◌, List, [], ◌++◌, Ok, Err, Result, ap, sym, refl, subst, ◌∙◌, arith, inl, inr}
use Rattle.std.proofs.Common.{append_assoc, append-nil}
use Rattle.outside.specs.Seen.{SinkSeen, SourceSeen}
use Rattle.text_forms.specs.Lines.{lines}
use Rattle.config_model.specs.Sections.{Sections}
use Rattle.book_history.specs.Entries.{History}
use Rattle.answer_texts.specs.Shown.{all_of, encoded}
use Rattle.text_history.specs.Adding.{Adding}
use Rattle.text_history.specs.Encodes.{AddsCuts, IsEncode, numbered}
use Rattle.text_history.specs.Leaving.{EncodingsLeaveTables}
use Rattle.script_play.specs.declared.halt.Halt.{Halt}
use Rattle.script_play.specs.declared.halt.Halt.TheVariants as halt
use Rattle.script_play.specs.declared.player.Player.{Player}
use Rattle.script_play.specs.Player.{PlayerStands}
use Rattle.script_play.specs.Writing.{Wrote}
use Rattle.script_play.specs.Encoding.{Added, AddedBy, AnsweredPart, AnsweredSoFar, AnsweredWhole, AnswersSource}
use Rattle.script_play.specs.Encoding.{EncodedPart, EncodedSoFar, EncodedWhole, Encodes, FrontAdded, Started}
use Rattle.script_play.specs.Encoding.{WorksOff, WrotePart, part}
use Rattle.script_play.specs.Streams.{status_by}
use Rattle.script_play.proofs.AddedLemmas.{all_both, writes_later, wrote_both, wrote_part}

-- what is printed behind entries of which nothing is
printed_behind : (raised added : History) → all_of encoded raised ≡ []
    → all_of encoded added ≡ all_of encoded (added ++ raised)
printed_behind raised added silent =
    sym (all_both encoded added raised ∙ ap (λ (front : List ℕ). front ++ all_of encoded added) silent)

module _ (cfg : Sections) (source source' : SourceSeen) (sink sink' : SinkSeen) where
  abbrev encoded_so_far : (opened player : Player) (last : List ℕ) (started : Started cfg cfg.neighbors opened)
      → AnsweredSoFar cfg last started.raised player source source' sink sink'
      → EncodedSoFar cfg last source source' sink sink'
  encoded_so_far opened player last started was =
      let history : History = was.answered.added ++ started.raised in
      record {
        bytes = was.bytes;
        read = was.read;
        history = history;
        answered =
            record {
              started = started.started;
              raised = started.raised;
              ups = started.ups;
              answers = was.answered.adds;
            };
        legal = was.answered.stands.book.held.legal;
        wrote =
            subst (λ (text : List ℕ). Wrote text sink sink')
            (printed_behind started.raised was.answered.added started.silent) was.answered.wrote;
      }

  lines_part : (opened : Player) (started : Started cfg cfg.neighbors opened)
      → AnsweredPart cfg started.raised source source' sink sink' → EncodedPart cfg source source' sink sink'
  lines_part opened started was =
      let last = was.answered.part in
      record {
        bytes = was.bytes;
        read = was.read;
        few = was.few;
        same = was.same;
        history = last.added ++ started.raised;
        encodes =
            record {
              started = started.started;
              raised = started.raised;
              answered = (last.more ++ last.added) ++ started.raised;
              more = last.more;
              front = was.answered.front;
              behind = was.answered.behind;
              lines_are = was.answered.items_are;
              slots = [];
              others = numbered 0 cfg.neighbors;
              slots_are = refl;
              late = inl refl;
              ups = started.ups;
              answers = last.adds;
              cuts = sym (append_assoc last.more last.added started.raised);
            };
        late = inl refl;
        legal = last.legal;
        wrote =
            subst (λ (text : List ℕ). WrotePart text sink sink')
            (printed_behind started.raised last.added started.silent) last.wrote;
      }

  pub lines_stopped : (opened player : Player) (halted : Halt) → Started cfg cfg.neighbors opened
      → ((H : History) → PlayerStands cfg H opened → AnswersSource cfg H player source source' sink sink' (Err halted))
      → Encodes cfg source source' sink sink' (status_by (Err halted))
  lines_stopped opened player halt.Memory started answers =
      let stopped = answers started.raised started.stands in
      (part (lines_part opened started stopped.0), stopped.1)
  lines_stopped opened player halt.Write started answers =
      let stopped = answers started.raised started.stands in
      (lines_part opened started stopped.0, stopped.1)
  lines_stopped opened player halt.Read started answers =
      let stopped = answers started.raised started.stands in
      (encoded_so_far opened player [] started stopped.0, stopped.1)
  lines_stopped opened player halt.Long started answers =
      let stopped = answers started.raised started.stands in
      record {
        last = stopped.last;
        few = stopped.few;
        so_far = encoded_so_far opened player stopped.last started stopped.so_far;
        gave = stopped.gave;
      }
  lines_stopped opened player halt.File started answers = absurd (answers started.raised started.stands).1
  lines_stopped opened player (halt.Script line) started answers = absurd (answers started.raised started.stands).1

-- all lines were answered, and then messages cut
module _ (law : EncodingsLeaveTables) (cfg : Sections) (source source' : SourceSeen) (sink mid sink' : SinkSeen) where
  cut_whole : (opened between player : Player) (started : Started cfg cfg.neighbors opened)
      (was : AnsweredWhole cfg started.raised between source source' sink mid)
      → Added (AddedBy AddsCuts (was.answered.added ++ started.raised) (numbered 0 cfg.neighbors)) cfg
      (was.answered.added ++ started.raised) player mid sink' → EncodedWhole cfg source source' sink sink'
  cut_whole opened between player started was cuts =
      let answered : History = was.answered.added ++ started.raised in
      let encodes : IsEncode cfg was.bytes (cuts.added ++ answered) = record {
        started = started.started;
        raised = started.raised;
        answered = answered;
        ups = started.ups;
        answers = was.answered.adds;
        cuts = cuts.adds;
      } in
      record {
        bytes = was.bytes;
        read = was.read;
        history = cuts.added ++ answered;
        encodes = encodes;
        legal = cuts.stands.book.held.legal;
        served = law cfg was.bytes (cuts.added ++ answered) encodes cuts.stands.book.held.legal;
        wrote =
            subst (λ (text : List ℕ). Wrote text sink sink') (sym (all_both encoded cuts.added answered))
            (wrote_both (all_of encoded answered) (all_of encoded cuts.added) sink mid sink'
            (subst (λ (text : List ℕ). Wrote text sink mid)
            (printed_behind started.raised was.answered.added started.silent) was.answered.wrote) cuts.wrote);
      }

  cut_part : (opened between : Player) (started : Started cfg cfg.neighbors opened)
      (was : AnsweredWhole cfg started.raised between source source' sink mid)
      → FrontAdded AddsCuts (numbered 0 cfg.neighbors) cfg (was.answered.added ++ started.raised) mid sink'
      → EncodedPart cfg source source' sink sink'
  cut_part opened between started was cuts =
      let answered : History = was.answered.added ++ started.raised in
      let last = cuts.part in
      let all : last.more ++ (last.added ++ answered) ≡ (last.more ++ last.added) ++ answered =
      sym (append_assoc last.more last.added answered) in
      record {
        bytes = was.bytes;
        read = record { given = was.read.given; left = was.read.left; short = omega (arith, was.read.short) };
        few = was.read.short;
        same = was.read.same;
        history = last.added ++ answered;
        encodes =
            record {
              started = started.started;
              raised = started.raised;
              answered = answered;
              more = last.more;
              front = lines was.bytes;
              behind = [];
              lines_are = sym (append-nil (lines was.bytes));
              slots = cuts.front;
              others = cuts.behind;
              slots_are = cuts.items_are;
              late = inr refl;
              ups = started.ups;
              answers = was.answered.adds;
              cuts = subst (λ (end : History). Adding AddsCuts answered cuts.front end) (sym all) last.adds;
            };
        late = inr was.read;
        legal = last.legal;
        wrote =
            subst (λ (text : List ℕ). WrotePart text sink sink') (sym (all_both encoded last.added answered))
            (wrote_part (all_of encoded answered) (all_of encoded last.added) sink mid sink'
            (subst (λ (text : List ℕ). Wrote text sink mid)
            (printed_behind started.raised was.answered.added started.silent) was.answered.wrote) last.wrote);
      }

  cuts_after : (opened between player : Player) (started : Started cfg cfg.neighbors opened)
      (was : AnsweredWhole cfg started.raised between source source' sink mid) (result : Result (Unit {0}) Halt)
      → WorksOff AddsCuts (numbered 0 cfg.neighbors) cfg (was.answered.added ++ started.raised) player mid sink' result
      → Encodes cfg source source' sink sink' (status_by result)
  cuts_after opened between player started was (Ok done) cuts = cut_whole opened between player started was cuts
  cuts_after opened between player started was (Err halt.Memory) (cuts, stops) = (
    part (cut_part opened between started was cuts),
    writes_later sink mid sink' halt.Memory
        was.answered.wrote.same stops,
  )
  cuts_after opened between player started was (Err halt.Write) (cuts, stops) =
      (cut_part opened between started was cuts, writes_later sink mid sink' halt.Write was.answered.wrote.same stops)
  cuts_after opened between player started was (Err halt.Read) (cuts, stops) = absurd stops
  cuts_after opened between player started was (Err halt.Long) (cuts, stops) = absurd stops
  cuts_after opened between player started was (Err halt.File) (cuts, stops) = absurd stops
  cuts_after opened between player started was (Err (halt.Script line)) (cuts, stops) = absurd stops

  pub lines_and_cuts : (opened between player : Player) (result : Result (Unit {0}) Halt)
      → Started cfg cfg.neighbors opened
      → ((H : History) → PlayerStands cfg H opened → AnswersSource cfg H between source source' sink mid (Ok tt))
      → ((H : History) → PlayerStands cfg H between
      → WorksOff AddsCuts (numbered 0 cfg.neighbors) cfg H player mid sink' result)
      → Encodes cfg source source' sink sink' (status_by result)
  lines_and_cuts opened between player result started answers cuts =
      let was = answers started.raised started.stands in
      cuts_after opened between player started was result
      (cuts (was.answered.added ++ started.raised) was.answered.stands)
