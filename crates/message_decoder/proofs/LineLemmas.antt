-- The lines of bytes, and what answers them one after another.
use Rattle.std.proofs.Common.{ℕ, ◌≡◌, ◌≢◌, ◌+◌, ◌<◌, List, [], ◌∷◌, ◌++◌, length, ap, sym, ◌∙◌, refl, subst}
use Rattle.std.proofs.Common.{arith}
use Rattle.std.proofs.Common.{append_assoc, append-nil, ne_eqb, if◌then◌else◌}
use Rattle.std.specs.List.{flat_map, AllByRecursion}
use Rattle.route_values.specs.Caps.{Caps}
use Rattle.message_decoder.specs.Decoding.{onto_first, input_lines, ended, IsAnswer, AreAnswers, IsDecoding}
use Rattle.message_decoder.specs.Streams.{HasNoFeed}

-- a byte that is no line feed goes to the front of the first line
not_ended : (b : ℕ) (bytes : List ℕ) → b ≢ 10
    → input_lines (b ∷ bytes) ≡ onto_first b (input_lines bytes)
not_ended b bytes other =
    ap (λ test. if test then ([] ∷ input_lines bytes) else onto_first b (input_lines bytes)) (ne_eqb b 10 other)

first_line : (line bytes : List ℕ) → HasNoFeed line → input_lines (ended line ++ bytes) ≡ line ∷ input_lines bytes
first_line [] bytes no_feed = refl
first_line (b ∷ line) bytes no_feed =
    not_ended b (ended line ++ bytes) no_feed.0 ∙ ap (onto_first b) (first_line line bytes no_feed.1)

-- what no line feed ends is a line, unless it is empty
last_line : (line : List ℕ) → HasNoFeed line → 0 < length line → input_lines line ≡ line ∷ []
last_line [] no_feed some = absurd (omega arith)
last_line (b ∷ []) no_feed some = not_ended b [] no_feed.0
last_line (b ∷ next ∷ line) no_feed some =
    not_ended b (next ∷ line) no_feed.0 ∙ ap (onto_first b) (last_line (next ∷ line) no_feed.1 (omega arith))

-- the lines of lines that are each ended, and then of bytes
pub lines_then : (lines : List (List ℕ)) (bytes : List ℕ) → AllByRecursion HasNoFeed lines
    → input_lines (flat_map ended lines ++ bytes) ≡ lines ++ input_lines bytes
lines_then [] bytes no_feeds = refl
lines_then (line ∷ lines) bytes no_feeds =
    ap input_lines (append_assoc (ended line) (flat_map ended lines) bytes)
    ∙ first_line line (flat_map ended lines ++ bytes) no_feeds.0
    ∙ ap (λ (others : List (List ℕ)). line ∷ others) (lines_then lines bytes no_feeds.1)

-- one answer more
pub answered_more : (caps : Caps) (number : ℕ) (lines : List (List ℕ)) (line text answer : List ℕ)
    → AreAnswers caps number lines text → IsAnswer caps (number + length lines) line answer
    → AreAnswers caps number (lines ++ line ∷ []) (text ++ answer)
answered_more caps number [] line text answer are is = (
  answer,
  [],
  ap (λ (front : List ℕ). front ++ answer) are ∙ sym (append-nil answer),
  (
      let at : number + length {A = List ℕ} [] ≡ number = omega arith in
      subst (λ (place : ℕ). IsAnswer caps place line answer) at is
      ),
  refl,
)
answered_more caps number (first ∷ lines) line text answer (said, others, text_is, first_is, rest) is = (
  said,
  others ++ answer,
  ap (λ (front : List ℕ). front ++ answer) text_is ∙ append_assoc said others answer,
  first_is,
  (
      let at : number + length (first ∷ lines) ≡ number + 1 + length lines = omega arith in
      answered_more caps (number + 1) lines line others answer rest
      (subst (λ (place : ℕ). IsAnswer caps place line answer) at is)
      ),
)

-- whole lines, answered
pub decoding_of : (caps : Caps) (lines : List (List ℕ)) (text : List ℕ) → AllByRecursion HasNoFeed lines
    → AreAnswers caps 1 lines text → IsDecoding caps (flat_map ended lines) text
decoding_of caps lines text no_feeds are =
    let is : input_lines (flat_map ended lines) ≡ lines =
    ap input_lines (sym (append-nil (flat_map ended lines))) ∙ lines_then lines [] no_feeds ∙ append-nil lines in
    subst (λ (some : List (List ℕ)). AreAnswers caps 1 some text) (sym is) are

-- whole lines and a last one that isn't ended, answered
pub decoding_last : (caps : Caps) (lines : List (List ℕ)) (line text answer : List ℕ) → AllByRecursion HasNoFeed lines
    → HasNoFeed line → 0 < length line → AreAnswers caps 1 lines text
    → IsAnswer caps (1 + length lines) line answer → IsDecoding caps (flat_map ended lines ++ line) (text ++ answer)
decoding_last caps lines line text answer no_feeds no_feed some are is =
    let lines_are : input_lines (flat_map ended lines ++ line) ≡ lines ++ line ∷ [] =
    lines_then lines line no_feeds ∙ ap (λ (last : List (List ℕ)). lines ++ last) (last_line line no_feed some) in
    subst (λ (all : List (List ℕ)). AreAnswers caps 1 all (text ++ answer)) (sym lines_are)
    (answered_more caps 1 lines line text answer are is)
