-- Texts that are written one after another.
use Rattle.std.proofs.Common.{ℕ, ◌≡◌, ◌⊎◌, ◌≤◌, List, [], ◌++◌, Result, Ok, Err, Option, Some, None, ap, sym, ◌∙◌}
use Rattle.std.proofs.Common.{refl, subst}
use Rattle.std.proofs.Common.{inl, inr, append_assoc, append-nil}
use Rattle.outside.specs.Seen.{SinkSeen}
use Rattle.outside.specs.Told.{Grows, CountsOne, counted}
use Rattle.outside.proofs.ToldLemmas.{grows_more}
use Rattle.message_decoder.specs.declared.halt.Halt.{Halt}
use Rattle.message_decoder.specs.declared.halt.Halt.TheVariants as halt
use Rattle.message_decoder.specs.Streams.{StopsWriting, Wrote, Broke, Writes}

-- what isn't touched has grown by nothing
pub grows_none : (told : Option (List ℕ)) → Grows told told []
grows_none None = tt
grows_none (Some bytes) = sym (append-nil bytes)

-- nothing was to be written, and nothing was
pub wrote_none : (Fits : List ℕ → Type 0) (sink : SinkSeen) → Fits [] → Wrote Fits sink sink
wrote_none Fits sink fits = record { text = []; fits = fits; taken = grows_none sink.taken; same = refl }

-- there was no memory before anything was written
pub broke_none : (Fits : List ℕ → Type 0) (sink : SinkSeen) → Broke Fits sink sink halt.Memory
broke_none Fits sink = record { part = []; front = inl refl; taken = grows_none sink.taken; stops = refl }

-- a piece was written whole, or its front
pub piece_wrote : (text : List ℕ) (sink sink' : SinkSeen) → Grows sink.taken sink'.taken text
    → sink'.faults ≡ sink.faults → Wrote (λ all. all ≡ text) sink sink'
piece_wrote text sink sink' grows same = record { text = text; fits = refl; taken = grows; same = same }

pub piece_broke : (text part rest : List ℕ) (sink sink' : SinkSeen) → text ≡ part ++ rest
    → Grows sink.taken sink'.taken part → sink'.faults ≡ counted sink.faults → sink.faults ≤ sink'.faults
    → Broke (λ all. all ≡ text) sink sink' halt.Write
piece_broke text part rest sink sink' is grows counts later = record {
  part = part;
  front = inr (rest, sym is);
  taken = grows;
  stops = (counts, later);
}

-- what was written fits also what is wider
pub wrote_wider : (Fits Wider : List ℕ → Type 0) (sink sink' : SinkSeen) → ((text : List ℕ) → Fits text → Wider text)
    → Wrote Fits sink sink' → Wrote Wider sink sink'
wrote_wider Fits Wider sink sink' wider was = record {
  text = was.text;
  fits = wider was.text was.fits;
  taken = was.taken;
  same = was.same;
}

front_wider : (Fits Wider : List ℕ → Type 0) (part : List ℕ) → ((text : List ℕ) → Fits text → Wider text)
    → (part ≡ []) ⊎ ((rest : List ℕ) × Fits (part ++ rest)) → (part ≡ []) ⊎ ((rest : List ℕ) × Wider (part ++ rest))
front_wider Fits Wider part wider (inl none) = inl none
front_wider Fits Wider part wider (inr some) = inr (some.0, wider (part ++ some.0) some.1)

pub broke_wider : (Fits Wider : List ℕ → Type 0) (sink sink' : SinkSeen) (halted : Halt)
    → ((text : List ℕ) → Fits text → Wider text) → Broke Fits sink sink' halted → Broke Wider sink sink' halted
broke_wider Fits Wider sink sink' halted wider was = record {
  part = was.part;
  front = front_wider Fits Wider was.part wider was.front;
  taken = was.taken;
  stops = was.stops;
}

pub writes_wider : (Fits Wider : List ℕ → Type 0) (sink sink' : SinkSeen) (result : Result (Unit {0}) Halt)
    → ((text : List ℕ) → Fits text → Wider text) → Writes Fits sink sink' result → Writes Wider sink sink' result
writes_wider Fits Wider sink sink' (Ok done) wider was = wrote_wider Fits Wider sink sink' wider was
writes_wider Fits Wider sink sink' (Err halted) wider was = broke_wider Fits Wider sink sink' halted wider was

-- a sink that stopped after it had taken something stopped from the first on
pub stops_later : (sink mid sink' : SinkSeen) (halted : Halt) → mid.faults ≡ sink.faults
    → StopsWriting mid sink' halted → StopsWriting sink sink' halted
stops_later sink mid sink' halt.Memory same stops = stops ∙ same
stops_later sink mid sink' halt.Write same stops =
    subst (λ (count : ℕ). CountsOne count sink'.faults) same stops
stops_later sink mid sink' halt.Read same stops = stops
stops_later sink mid sink' halt.Long same stops = stops

-- a text, and then another
pub wrote_both : (First Second Both : List ℕ → Type 0) (sink mid sink' : SinkSeen)
    → ((one other : List ℕ) → First one → Second other → Both (one ++ other))
    → Wrote First sink mid → Wrote Second mid sink' → Wrote Both sink sink'
wrote_both First Second Both sink mid sink' join before after = record {
  text = before.text ++ after.text;
  fits = join before.text after.text before.fits after.fits;
  taken = grows_more sink.taken mid.taken sink'.taken before.text after.text before.taken after.taken;
  same = after.same ∙ before.same;
}

front_behind : (First Second Both : List ℕ → Type 0) (text part : List ℕ)
    → ((one other : List ℕ) → First one → Second other → Both (one ++ other))
    → (some : List ℕ) → Second some → First text → (part ≡ []) ⊎ ((rest : List ℕ) × Second (part ++ rest))
    → (rest : List ℕ) × Both ((text ++ part) ++ rest)
front_behind First Second Both text part join some is first (inl none) = (
  some,
  subst Both (ap (λ (front : List ℕ). front ++ some) (sym (append-nil text)
      ∙ ap (λ (last : List ℕ). text ++ last) (sym none))) (join text some first is),
)
front_behind First Second Both text part join some is first (inr more) =
    (more.0, subst Both (sym (append_assoc text part more.0)) (join text (part ++ more.0) first more.1))

-- a text, and then the front of another, of which there is one
pub broke_behind : (First Second Both : List ℕ → Type 0) (sink mid sink' : SinkSeen) (halted : Halt)
    → ((one other : List ℕ) → First one → Second other → Both (one ++ other))
    → (some : List ℕ) → Second some → Wrote First sink mid → Broke Second mid sink' halted
    → Broke Both sink sink' halted
broke_behind First Second Both sink mid sink' halted join some is before after = record {
  part = before.text ++ after.part;
  front = inr (front_behind First Second Both before.text after.part join some is before.fits after.front);
  taken = grows_more sink.taken mid.taken sink'.taken before.text after.part before.taken after.taken;
  stops = stops_later sink mid sink' halted before.same after.stops;
}
