-- Entries that are added one behind the other, and what is printed of them.
use Rattle.std.proofs.Common.{ℕ, ◌≡◌, List, [], ◌∷◌, ◌++◌, ap, sym, refl, subst, ◌∙◌}
use Rattle.std.proofs.Common.{append_assoc, append-nil}
use Rattle.std.specs.List.{AllByRecursion}
use Rattle.outside.specs.Seen.{SinkSeen}
use Rattle.outside.specs.Told.{CountsOne}
use Rattle.outside.proofs.ToldLemmas.{grows_more}
use Rattle.config_model.specs.Sections.{Sections}
use Rattle.book_history.specs.Entries.{Entry, History}
use Rattle.book_history.specs.Legal.{IsLegal}
use Rattle.answer_texts.specs.Shown.{all_of, encoded}
use Rattle.text_history.specs.Adding.{Adding}
use Rattle.script_play.specs.declared.halt.Halt.{Halt}
use Rattle.script_play.specs.declared.halt.Halt.TheVariants as halt
use Rattle.script_play.specs.declared.player.Player.{Player}
use Rattle.script_play.specs.Player.{PlayerStands}
use Rattle.script_play.specs.Writing.{Wrote}
use Rattle.script_play.specs.Encoding.{Added, AddedBy, AddedPart, FrontAdded, Printed, PrintedPart, StopsWriting}
use Rattle.script_play.specs.Encoding.{WrotePart}
use Rattle.script_play.proofs.PlayedLemmas.{grows_none}

pub wrote_none : (sink : SinkSeen) → Wrote [] sink sink
wrote_none sink = record { taken = grows_none sink.taken; same = refl }

pub wrote_both : (first second : List ℕ) (sink mid sink' : SinkSeen) → Wrote first sink mid → Wrote second mid sink'
    → Wrote (first ++ second) sink sink'
wrote_both first second sink mid sink' one other = record {
  taken = grows_more sink.taken mid.taken sink'.taken first second one.taken other.taken;
  same = other.same ∙ one.same;
}

-- a text, and then a part of the next
pub wrote_part : (first second : List ℕ) (sink mid sink' : SinkSeen) → Wrote first sink mid → WrotePart second mid sink'
    → WrotePart (first ++ second) sink sink'
wrote_part first second sink mid sink' one other = record {
  part = first ++ other.part;
  rest = other.rest;
  text_is = ap (λ (last : List ℕ). first ++ last) other.text_is ∙ sym (append_assoc first other.part other.rest);
  taken = grows_more sink.taken mid.taken sink'.taken first other.part one.taken other.taken;
}

-- nothing of a text, or all
pub part_none : (text : List ℕ) (sink : SinkSeen) → WrotePart text sink sink
part_none text sink = record { part = []; rest = text; text_is = refl; taken = grows_none sink.taken }

pub part_all : (text : List ℕ) (sink sink' : SinkSeen) → Wrote text sink sink' → WrotePart text sink sink'
part_all text sink sink' wrote = record {
  part = text;
  rest = [];
  text_is = sym (append-nil text);
  taken = wrote.taken;
}

-- a call that stopped behind what was written
pub writes_later : (sink mid sink' : SinkSeen) (halted : Halt) → mid.faults ≡ sink.faults → StopsWriting mid sink'
    halted
    → StopsWriting sink sink' halted
writes_later sink mid sink' halt.Memory same stops = stops ∙ same
writes_later sink mid sink' halt.Write same stops = subst (λ (before : ℕ). CountsOne before sink'.faults) same stops
writes_later sink mid sink' halt.Read same stops = absurd stops
writes_later sink mid sink' halt.Long same stops = absurd stops
writes_later sink mid sink' halt.File same stops = absurd stops
writes_later sink mid sink' (halt.Script line) same stops = absurd stops

-- what is printed of entries that were added
pub all_both : (text : Entry → List ℕ) (added H : History) → all_of text (added ++ H) ≡ all_of text H ++ all_of text
    added
all_both text [] H = sym (append-nil (all_of text H))
all_both text (entry ∷ added) H =
    ap (λ (front : List ℕ). front ++ text entry) (all_both text added H)
    ∙ append_assoc (all_of text H) (all_of text added) (text entry)

-- entries of one kind were added
pub run_none : (Goes : Entry → Type 0) (cfg : Sections) (H : History) (player : Player) (sink : SinkSeen)
    → PlayerStands cfg H player → Added (AllByRecursion Goes) cfg H player sink sink
run_none Goes cfg H player sink stands = record {
  added = [];
  adds = tt;
  stands = stands;
  wrote = wrote_none sink;
}

module _ (Done : History → Type 0) (cfg : Sections) (H : History) (sink mid sink' : SinkSeen) where
  -- one more was made
  pub run_last : (entries : History) (entry : Entry) (player : Player) → Wrote (all_of encoded entries) sink mid
      → Done (entry ∷ entries) → Printed entry cfg (entries ++ H) player mid sink' → Added Done cfg H player sink sink'
  run_last entries entry player wrote done printed = record {
    added = entry ∷ entries;
    adds = done;
    stands = printed.stands;
    wrote = wrote_both (all_of encoded entries) (encoded entry) sink mid sink' wrote printed.wrote;
  }

  -- one more was made, and not all of it written
  pub run_stopped : (entries more : History) (entry : Entry) → Wrote (all_of encoded entries) sink mid
      → Done (more ++ entry ∷ entries) → PrintedPart entry cfg (entries ++ H) mid sink' → AddedPart Done cfg H sink
      sink'
  run_stopped entries more entry wrote done printed = record {
    added = entry ∷ entries;
    more = more;
    adds = done;
    legal = printed.legal;
    wrote = wrote_part (all_of encoded entries) (encoded entry) sink mid sink' wrote printed.wrote;
  }

-- it stopped between two entries
pub run_left : (Goes : Entry → Type 0) (Done : History → Type 0) (cfg : Sections) (H more : History) (player : Player)
    (sink sink' : SinkSeen) (run : Added (AllByRecursion Goes) cfg H player sink sink') → Done (more ++ run.added)
    → AddedPart Done cfg H sink sink'
run_left Goes Done cfg H more player sink sink' run done = record {
  added = run.added;
  more = more;
  adds = done;
  legal = run.stands.book.held.legal;
  wrote = part_all (all_of encoded run.added) sink sink' run.wrote;
}

module _ {A : Type 0} (Adds : History → A → History → Type 0) where
  -- what some items add, and then others
  pub adding_both : (start mid end : History) (items others : List A) → Adding Adds start items mid
      → Adding Adds mid others end → Adding Adds start (items ++ others) end
  adding_both start mid end [] others is later =
      subst (λ (first : History). Adding Adds first others end) is later
  adding_both start mid end (item ∷ items) others (added, adds, rest) later =
      (added, adds, adding_both (added ++ start) mid end items others rest later)

  pub added_none : (cfg : Sections) (H : History) (player : Player) (sink : SinkSeen) → PlayerStands cfg H player
      → Added (AddedBy Adds H []) cfg H player sink sink
  added_none cfg H player sink stands = record {
    added = [];
    adds = refl;
    stands = stands;
    wrote = wrote_none sink;
  }

  pub added_one : (cfg : Sections) (H : History) (item : A) (player : Player) (sink sink' : SinkSeen)
      → Added (Adds H item) cfg H player sink sink' → Added (AddedBy Adds H (item ∷ [])) cfg H player sink sink'
  added_one cfg H item player sink sink' one = record {
    added = one.added;
    adds = (one.added, one.adds, refl);
    stands = one.stands;
    wrote = one.wrote;
  }

  pub added_both : (cfg : Sections) (H : History) (items others : List A) (between player : Player)
      (sink mid sink' : SinkSeen) (one : Added (AddedBy Adds H items) cfg H between sink mid)
      → Added (AddedBy Adds (one.added ++ H) others) cfg (one.added ++ H) player mid sink'
      → Added (AddedBy Adds H (items ++ others)) cfg H player sink sink'
  added_both cfg H items others between player sink mid sink' one other =
      let behind : (other.added ++ one.added) ++ H ≡ other.added ++ (one.added ++ H) =
      append_assoc other.added one.added H in
      record {
        added = other.added ++ one.added;
        adds =
            subst (λ (end : History). Adding Adds H (items ++ others) end) (sym behind)
            (adding_both H (one.added ++ H) (other.added ++ (one.added ++ H)) items others one.adds other.adds);
        stands = subst (λ (all : History). PlayerStands cfg all player) (sym behind) other.stands;
        wrote =
            subst (λ (text : List ℕ). Wrote text sink sink') (sym (all_both encoded other.added one.added))
            (wrote_both (all_of encoded one.added) (all_of encoded other.added) sink mid sink' one.wrote other.wrote);
      }

  -- the first of some items was worked off in part
  pub front_one : (cfg : Sections) (H : History) (item : A) (others : List A) (sink sink' : SinkSeen)
      → AddedPart (Adds H item) cfg H sink sink' → FrontAdded Adds (item ∷ others) cfg H sink sink'
  front_one cfg H item others sink sink' part = record {
    front = item ∷ [];
    behind = others;
    items_are = refl;
    part =
        record {
          added = part.added;
          more = part.more;
          adds = (part.more ++ part.added, part.adds, refl);
          legal = part.legal;
          wrote = part.wrote;
        };
  }

  -- all of these were, and then a front of others
  pub front_both : (cfg : Sections) (H : History) (items others : List A) (between : Player)
      (sink mid sink' : SinkSeen) (one : Added (AddedBy Adds H items) cfg H between sink mid)
      → FrontAdded Adds others cfg (one.added ++ H) mid sink' → FrontAdded Adds (items ++ others) cfg H sink sink'
  front_both cfg H items others between sink mid sink' one other =
      let last = other.part in
      let behind : (last.added ++ one.added) ++ H ≡ last.added ++ (one.added ++ H) =
      append_assoc last.added one.added H in
      let all : (last.more ++ (last.added ++ one.added)) ++ H ≡ (last.more ++ last.added) ++ (one.added ++ H) =
      append_assoc last.more (last.added ++ one.added) H ∙ ap (λ (end : History). last.more ++ end) behind
      ∙ sym (append_assoc last.more last.added (one.added ++ H)) in
      record {
        front = items ++ other.front;
        behind = other.behind;
        items_are =
            ap (λ (end : List A). items ++ end) other.items_are ∙ sym (append_assoc items other.front other.behind);
        part =
            record {
              added = last.added ++ one.added;
              more = last.more;
              adds =
                  subst (λ (end : History). Adding Adds H (items ++ other.front) end) (sym all)
                  (adding_both H (one.added ++ H) ((last.more ++ last.added) ++ (one.added ++ H)) items other.front
                  one.adds last.adds);
              legal = subst (IsLegal cfg) (sym behind) last.legal;
              wrote =
                  subst (λ (text : List ℕ). WrotePart text sink sink') (sym (all_both encoded last.added one.added))
                  (wrote_part (all_of encoded one.added) (all_of encoded last.added) sink mid sink' one.wrote
                  last.wrote);
            };
      }

  -- there are more items behind
  pub front_more : (cfg : Sections) (H : History) (items others : List A) (sink sink' : SinkSeen)
      → FrontAdded Adds items cfg H sink sink' → FrontAdded Adds (items ++ others) cfg H sink sink'
  front_more cfg H items others sink sink' some = record {
    front = some.front;
    behind = some.behind ++ others;
    items_are =
        ap (λ (front : List A). front ++ others) some.items_are ∙ append_assoc some.front some.behind others;
    part = some.part;
  }
