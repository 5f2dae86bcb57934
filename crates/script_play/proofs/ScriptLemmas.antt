-- The lines of a script's bytes.
use Rattle.std.proofs.Common.{ℕ, ◌≡◌, ◌≢◌, ◌<◌, List, [], ◌∷◌, ◌++◌, length, ap, sym, ◌∙◌, refl}
use Rattle.std.proofs.Common.{arith, append_assoc, append-nil, lt-ltb, ne_eqb, cond}
use Rattle.std.proofs.lemmas.List.{length-append}
use Rattle.std.specs.List.{flat_map, AllByRecursion}
use Rattle.script_grammar.specs.Caps.{onto_first}
use Rattle.script_grammar.specs.Events.{Bad, PassedOver}
use Rattle.script_grammar.specs.Reading.{event_in, is_passed_over, max_script_line, said_or_bad, script_line}
use Rattle.script_grammar.specs.Scripts.{script_lines}
use Rattle.script_play.specs.Streams.{HasNoFeed, ended}

-- a byte that is no line feed goes to the front of the first line
not_ended : (b : ℕ) (bytes : List ℕ) → b ≢ 10 → script_lines (b ∷ bytes) ≡ onto_first b (script_lines bytes)
unfolding script_lines
not_ended b bytes other =
    ap (λ test. cond test ([] ∷ script_lines bytes) (onto_first b (script_lines bytes))) (ne_eqb b 10 other)

first_line : (line bytes : List ℕ) → HasNoFeed line → script_lines (ended line ++ bytes) ≡ line ∷ script_lines bytes
unfolding script_lines
first_line [] bytes no_feed = refl
first_line (b ∷ line) bytes no_feed =
    not_ended b (ended line ++ bytes) no_feed.0 ∙ ap (onto_first b) (first_line line bytes no_feed.1)

no_lines : script_lines [] ≡ []
unfolding script_lines
no_lines = refl

-- what no line feed ends is a line, unless it is empty
last_line : (line : List ℕ) → HasNoFeed line → 0 < length line → script_lines line ≡ line ∷ []
last_line [] no_feed some = absurd (omega (arith, some))
last_line (b ∷ []) no_feed some = not_ended b [] no_feed.0 ∙ ap (onto_first b) no_lines
last_line (b ∷ next ∷ line) no_feed some =
    not_ended b (next ∷ line) no_feed.0 ∙ ap (onto_first b) (last_line (next ∷ line) no_feed.1 (omega arith))

-- the lines of lines that are each ended, and then of bytes
pub lines_then : (lines : List (List ℕ)) (bytes : List ℕ) → AllByRecursion HasNoFeed lines
    → script_lines (flat_map ended lines ++ bytes) ≡ lines ++ script_lines bytes
lines_then [] bytes no_feeds = refl
lines_then (line ∷ lines) bytes no_feeds =
    ap script_lines (append_assoc (ended line) (flat_map ended lines) bytes)
    ∙ first_line line (flat_map ended lines ++ bytes) no_feeds.0
    ∙ ap (λ (others : List (List ℕ)). line ∷ others) (lines_then lines bytes no_feeds.1)

-- the first line of bytes begins with this
pub record Begins (front bytes : List ℕ) : Type 0 where
  pub rest : List ℕ
  pub behind : List (List ℕ)
  pub lines_are : script_lines bytes ≡ (front ++ rest) ∷ behind

-- what is put onto the first of lines
onto_some : (b : ℕ) (bytes : List ℕ) (lines : List (List ℕ)) → script_lines (b ∷ bytes) ≡ onto_first b lines
    → Begins (b ∷ []) (b ∷ bytes)
onto_some b bytes [] are = record { rest = []; behind = []; lines_are = are }
onto_some b bytes (line ∷ lines) are = record { rest = line; behind = lines; lines_are = are }

-- the front of a line begins the first line, whatever follows it
front_begins : (front bytes : List ℕ) → HasNoFeed front → 0 < length front → Begins front (front ++ bytes)
front_begins [] bytes no_feed some = absurd (omega (arith, some))
front_begins (b ∷ []) bytes no_feed some = onto_some b bytes (script_lines bytes) (not_ended b bytes no_feed.0)
front_begins (b ∷ next ∷ front) bytes no_feed some =
    let begins = front_begins (next ∷ front) bytes no_feed.1 (omega arith) in
    record {
      rest = begins.rest;
      behind = begins.behind;
      lines_are = not_ended b ((next ∷ front) ++ bytes) no_feed.0 ∙ ap (onto_first b) begins.lines_are;
    }

-- ---- behind lines that ended

-- a line that a part and its line feed end, whatever follows
pub lines_ended : (lines : List (List ℕ)) (bytes held part more : List ℕ) → AllByRecursion HasNoFeed lines
    → HasNoFeed (held ++ part) → bytes ≡ flat_map ended lines ++ held
    → script_lines ((bytes ++ ended part) ++ more) ≡ lines ++ (held ++ part) ∷ script_lines more
lines_ended lines bytes held part more no_feeds no_feed bytes_are =
    let front : List ℕ = flat_map ended lines in
    ap script_lines (ap (λ (all : List ℕ). (all ++ ended part) ++ more) bytes_are
    ∙ ap (λ (all : List ℕ). all ++ more) (append_assoc front held (ended part))
    ∙ append_assoc front (held ++ ended part) more
    ∙ ap (λ (last : List ℕ). front ++ (last ++ more)) (sym (append_assoc held part (10 ∷ []))))
    ∙ lines_then lines (ended (held ++ part) ++ more) no_feeds
    ∙ ap (λ (others : List (List ℕ)). lines ++ others) (first_line (held ++ part) more no_feed)

-- the last line
pub lines_last : (lines : List (List ℕ)) (bytes held : List ℕ) → AllByRecursion HasNoFeed lines → HasNoFeed held
    → bytes ≡ flat_map ended lines ++ held → 0 < length held → script_lines bytes ≡ lines ++ held ∷ []
lines_last lines bytes held no_feeds no_feed bytes_are some =
    ap script_lines bytes_are ∙ lines_then lines held no_feeds
    ∙ ap (λ (others : List (List ℕ)). lines ++ others) (last_line held no_feed some)

-- no last line
pub lines_all : (lines : List (List ℕ)) (bytes held : List ℕ) → AllByRecursion HasNoFeed lines → held ≡ []
    → bytes ≡ flat_map ended lines ++ held → script_lines bytes ≡ lines
lines_all lines bytes held no_feeds none bytes_are =
    ap script_lines (bytes_are ∙ ap (λ (last : List ℕ). flat_map ended lines ++ last) none)
    ∙ lines_then lines [] no_feeds ∙ ap (λ (others : List (List ℕ)). lines ++ others) no_lines ∙ append-nil lines

-- whatever follows
pub lines_front : (lines : List (List ℕ)) (bytes held behind more : List ℕ) → AllByRecursion HasNoFeed lines
    → bytes ≡ flat_map ended lines ++ held
    → script_lines ((bytes ++ behind) ++ more) ≡ lines ++ script_lines (held ++ (behind ++ more))
lines_front lines bytes held behind more no_feeds bytes_are =
    let front : List ℕ = flat_map ended lines in
    ap script_lines (ap (λ (all : List ℕ). (all ++ behind) ++ more) bytes_are
    ∙ append_assoc (front ++ held) behind more ∙ append_assoc front held (behind ++ more))
    ∙ lines_then lines (held ++ (behind ++ more)) no_feeds

-- a line that isn't ended yet, with what follows of it
pub record GoesFurther (lines : List (List ℕ)) (held bytes : List ℕ) : Type 0 where
  pub rest : List ℕ
  pub behind : List (List ℕ)
  pub lines_are : script_lines bytes ≡ lines ++ (held ++ rest) ∷ behind

pub lines_further : (lines : List (List ℕ)) (bytes held more : List ℕ) → AllByRecursion HasNoFeed lines
    → HasNoFeed held → bytes ≡ flat_map ended lines ++ held → 0 < length held → GoesFurther lines held (bytes ++ more)
lines_further lines bytes held more no_feeds no_feed bytes_are some =
    let begins = front_begins held more no_feed some in
    record {
      rest = begins.rest;
      behind = begins.behind;
      lines_are = ap script_lines (ap (λ (all : List ℕ). all ++ more) bytes_are
          ∙ append_assoc (flat_map ended lines) held more)
          ∙ lines_then lines (held ++ more) no_feeds
          ∙ ap (λ (others : List (List ℕ)). lines ++ others) begins.lines_are;
    }

-- a line that is longer than one may be is none
pub too_long : (held rest : List ℕ) → max_script_line < length held → script_line (held ++ rest) ≡ Bad
unfolding script_line
too_long held rest long =
    let longer : max_script_line < length (held ++ rest) = omega (arith, long, length-append held rest) in
    ap (λ test. cond test Bad (cond (is_passed_over (held ++ rest)) PassedOver (said_or_bad (event_in (held ++ rest)))))
    (lt-ltb max_script_line (length (held ++ rest)) longer)
