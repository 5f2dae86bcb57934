-- What a watch writes, check by check, and which routes its commands leave.
use Rattle.std.proofs.Common.{ℕ, zero, suc, ◌≡◌, ◌≤◌, ◌+◌, codes, cond, Bool, true, false, List, [], ◌∷◌, ◌++◌, length}
use Rattle.std.proofs.Common.{Result, Ok, Err, refl, sym, ap, ap₂, ◌∙◌, subst, arith, append_assoc, append-nil}
use Rattle.std.proofs.Common.{length-append, ◌<◌, OnOk, OnErr, inl, inr}
use Rattle.std.specs.declared.option.Option.{Option}
use Rattle.std.specs.declared.option.Option.TheVariants.{Some, None}
use Rattle.std.specs.Option.{option_map}
use Rattle.std.proofs.lemmas.List.{map-append}
use Rattle.std.proofs.lemmas.List.Concat.{flat_map-append}
use Rattle.outside.specs.declared.probe.Outcome.{Outcome}
use Rattle.outside.specs.Ended.{Gathers}
use Rattle.outside.specs.Probing.{Checked, checked}
use Rattle.outside.specs.Told.{Grows}
use Rattle.route_values.specs.declared.attrs.Attrs.{Attrs}
use Rattle.route_values.specs.declared.key.Key.{Key}
use Rattle.token_reader.specs.LineTokens.{line_tokens}
use Rattle.token_reader.specs.Tokens.{Token, Word}
use Rattle.route_grammar.specs.Limits.{in_force}
use Rattle.command_grammar.specs.Lines.{ReadsLine}
use Rattle.command_grammar.specs.declared.command.Command.{Command}
use Rattle.command_grammar.specs.declared.command.Command.TheVariants as said
use Rattle.health_core.specs.declared.counter.Change.{Change}
use Rattle.health_core.specs.declared.counter.Counter.{Counter}
use Rattle.health_core.specs.declared.health.Health.{Health}
use Rattle.health_core.specs.Counting.{Counts, change_at, change_of, is_up}
use Rattle.health_core.specs.Printing.{IsSound, Says, attrs_with, command_said, command_text}
use Rattle.health_core.specs.Printing.{said_with}
use Rattle.health_core.specs.Watching.{AllSay, GrowsBy, GrowsPart, RoutesFollow, Watched, WatchedPart, change_behind}
use Rattle.health_core.specs.Watching.{checks_by, command_of, ended}
use Rattle.health_core.specs.Watching.{first_command, first_text, is_among, line_of, lines_behind, said_behind, said_of}
use Rattle.health_core.specs.Watching.{stands, stands_behind, text_of, up_behind, wanted}
use Rattle.health_core.proofs.CountingLemmas.{earlier, long}
use Rattle.health_core.proofs.WordLemmas.{given_whole, tokens_spaced}

-- WHAT IS TOLD GROWS

pub grows_none : (taken : Option (List ℕ)) → Grows taken taken []
grows_none None = tt
grows_none (Some bytes) = sym (append-nil bytes)

pub grows_on : (taken mid after : Option (List ℕ)) (first next : List ℕ) → Grows taken mid first → Grows mid after next
    → Grows taken after (first ++ next)
grows_on taken mid None first next one two = tt
grows_on None None (Some now) first next one two = absurd two
grows_on None (Some between) (Some now) first next one two = absurd one
grows_on (Some was) None (Some now) first next one two = absurd two
grows_on (Some was) (Some between) (Some now) first next one two =
    two ∙ ap (λ (bytes : List ℕ). bytes ++ next) one ∙ append_assoc was first next

pub part_on : (taken mid after : Option (List ℕ)) (first next : List ℕ) → Grows taken mid first
    → GrowsPart mid after next → GrowsPart taken after (first ++ next)
part_on taken mid after first next one (part, rest, is, two) = (
  first ++ part,
  rest,
  ap (λ (bytes : List ℕ). first ++ bytes) is ∙ sym (append_assoc first part rest),
  grows_on taken mid after first part one two,
)

pub part_none : (taken : Option (List ℕ)) (text : List ℕ) → GrowsPart taken taken text
part_none taken text = ([], text, refl, grows_none taken)

pub part_more : (taken after : Option (List ℕ)) (text more : List ℕ) → GrowsPart taken after text
    → GrowsPart taken after (text ++ more)
part_more taken after text more (part, rest, is, grows) =
    (part, rest ++ more, ap (λ (bytes : List ℕ). bytes ++ more) is ∙ append_assoc part rest more, grows)

-- several items, and one more
pub gathers_more : (checks mid after : Option (List Checked)) (items : List Checked) (item : Checked)
    → GrowsBy checks mid items → Gathers mid after (Some item) → GrowsBy checks after (items ++ item ∷ [])
gathers_more checks mid None items item many one = tt
gathers_more checks None (Some now) items item many one = absurd one
gathers_more None (Some between) (Some now) items item many one = absurd many
gathers_more (Some was) (Some between) (Some now) items item many one =
    one ∙ ap (λ (these : List Checked). these ++ item ∷ []) many ∙ append_assoc was items (item ∷ [])

pub gathers_none : (checks : Option (List Checked)) → GrowsBy checks checks []
gathers_none None = tt
gathers_none (Some items) = sym (append-nil items)

-- LINES

pub text_more : (lines more : List (List ℕ)) → text_of (lines ++ more) ≡ text_of lines ++ text_of more
text_more lines more = flat_map-append ended lines more

pub text_one : (line : List ℕ) → text_of (line ∷ []) ≡ ended line
text_one line = append-nil (ended line)

-- the lines behind some checks don't depend on later ones
lines_earlier : (health : Health) (outcomes : List Outcome) (next : Outcome) (k : ℕ) → k ≤ length outcomes
    → lines_behind health (outcomes ++ next ∷ []) k ≡ lines_behind health outcomes k
unfolding lines_behind
lines_earlier health outcomes next zero few = refl
lines_earlier health outcomes next (suc k) few =
    ap₂ (λ (lines : List (List ℕ)) (change : Option Change). lines ++ line_of health (command_of change))
    (lines_earlier health outcomes next k (omega (arith, few)))
    (ap₂ change_of (earlier health.rise health.fall outcomes next k (omega (arith, few)))
    (earlier health.rise health.fall outcomes next (suc k) few))

lines_step : (health : Health) (outcomes : List Outcome) (k : ℕ)
    → lines_behind health outcomes (suc k)
    ≡ lines_behind health outcomes k ++ line_of health (command_of (change_behind health outcomes k))
unfolding lines_behind
lines_step health outcomes k = refl

-- one more check, and the line of what it changes
change_now : (health : Health) (outcomes : List Outcome) (next : Outcome)
    → change_behind health (outcomes ++ next ∷ []) (length outcomes) ≡ change_at health.rise health.fall outcomes next
change_now health outcomes next =
    ap₂ change_of (earlier health.rise health.fall outcomes next (length outcomes) (omega arith))
    (ap (is_up health.rise health.fall (outcomes ++ next ∷ [])) (sym (long outcomes next)))

pub lines_more : (health : Health) (outcomes : List Outcome) (next : Outcome)
    → text_of (lines_behind health (outcomes ++ next ∷ []) (length (outcomes ++ next ∷ [])))
    ≡ text_of (lines_behind health outcomes (length outcomes))
    ++ text_of (line_of health (command_of (change_at health.rise health.fall outcomes next)))
lines_more health outcomes next =
    let all = outcomes ++ next ∷ [] in
    ap (λ (k : ℕ). text_of (lines_behind health all k)) (long outcomes next)
    ∙ ap text_of (lines_step health all (length outcomes))
    ∙ text_more (lines_behind health all (length outcomes))
    (line_of health (command_of (change_behind health all (length outcomes))))
    ∙ ap₂ (λ (lines : List (List ℕ)) (change : Option Change).
    text_of lines ++ text_of (line_of health (command_of change)))
    (lines_earlier health outcomes next (length outcomes) (omega arith)) (change_now health outcomes next)

pub lines_none : (health : Health) → text_of (lines_behind health [] 0) ≡ first_text health
unfolding lines_behind
lines_none health = refl

pub checks_more : (run : List ℕ) (outcomes : List Outcome) (next : Outcome)
    → checks_by run (outcomes ++ next ∷ []) ≡ checks_by run outcomes ++ checked run next ∷ []
checks_more run outcomes next = map-append (checked run) outcomes (next ∷ [])

-- WHAT LINES SAY

-- that no replies are wanted
reads_quiet : ReadsLine in_force (line_tokens 0 (codes "disable-ack")) said.DisableAck
reads_quiet =
    subst (λ (tokens : List Token). ReadsLine in_force tokens said.DisableAck)
    (tokens_spaced (codes "disable-ack") [] (given_whole (codes "disable-ack") (omega arith) refl) tt)
    (inr (inl (
      said.DisableAck,
      Word (codes "disable-ack") ∷ [],
      [],
      refl,
      (codes "disable-ack", refl, refl),
      (refl, refl),
    )))

says_quiet : Says (codes "disable-ack") said.DisableAck
says_quiet = record { short = omega arith; reads = reads_quiet }

all_more : (lines more : List (List ℕ)) (commands others : List Command) → AllSay lines commands → AllSay more others
    → AllSay (lines ++ more) (commands ++ others)
all_more [] more [] others first second = second
all_more [] more (says ∷ commands) others first second = absurd first
all_more (line ∷ lines) more [] others first second = absurd first
all_more (line ∷ lines) more (says ∷ commands) others (is, first) second =
    (is, all_more lines more commands others first second)

said_earlier : (health : Health) (outcomes : List Outcome) (next : Outcome) (k : ℕ) → k ≤ length outcomes
    → said_behind health (outcomes ++ next ∷ []) k ≡ said_behind health outcomes k
unfolding said_behind
said_earlier health outcomes next zero few = refl
said_earlier health outcomes next (suc k) few =
    ap₂ (λ (commands : List Command) (change : Option Change). commands ++ said_of health (command_of change))
    (said_earlier health outcomes next k (omega (arith, few)))
    (ap₂ change_of (earlier health.rise health.fall outcomes next k (omega (arith, few)))
    (earlier health.rise health.fall outcomes next (suc k) few))

said_step : (health : Health) (outcomes : List Outcome) (k : ℕ)
    → said_behind health outcomes (suc k)
    ≡ said_behind health outcomes k ++ said_of health (command_of (change_behind health outcomes k))
unfolding said_behind
said_step health outcomes k = refl

-- the lines and what they say behind one more check
lines_now : (health : Health) (outcomes : List Outcome) (next : Outcome) (which : Option Bool)
    → which ≡ command_of (change_at health.rise health.fall outcomes next)
    → lines_behind health outcomes (length outcomes) ++ line_of health which
    ≡ lines_behind health (outcomes ++ next ∷ []) (length (outcomes ++ next ∷ []))
lines_now health outcomes next which is =
    let all = outcomes ++ next ∷ [] in
    sym (ap (lines_behind health all) (long outcomes next)
    ∙ lines_step health all (length outcomes)
    ∙ ap₂ (λ (lines : List (List ℕ)) (one : Option Bool). lines ++ line_of health one)
    (lines_earlier health outcomes next (length outcomes) (omega arith))
    (ap command_of (change_now health outcomes next) ∙ sym is))

said_now : (health : Health) (outcomes : List Outcome) (next : Outcome) (which : Option Bool)
    → which ≡ command_of (change_at health.rise health.fall outcomes next)
    → said_behind health outcomes (length outcomes) ++ said_of health which
    ≡ said_behind health (outcomes ++ next ∷ []) (length (outcomes ++ next ∷ []))
said_now health outcomes next which is =
    let all = outcomes ++ next ∷ [] in
    sym (ap (said_behind health all) (long outcomes next)
    ∙ said_step health all (length outcomes)
    ∙ ap₂ (λ (commands : List Command) (one : Option Bool). commands ++ said_of health one)
    (said_earlier health outcomes next (length outcomes) (omega arith))
    (ap command_of (change_now health outcomes next) ∙ sym is))

abbrev pub SayAll : Health → List Outcome → Type 0
SayAll health outcomes =
    AllSay (lines_behind health outcomes (length outcomes)) (said_behind health outcomes (length outcomes))

say_next : (health : Health) (outcomes : List Outcome) (next : Outcome) (which : Option Bool)
    → which ≡ command_of (change_at health.rise health.fall outcomes next) → SayAll health outcomes
    → AllSay (line_of health which) (said_of health which) → SayAll health (outcomes ++ next ∷ [])
say_next health outcomes next which is first second =
    subst (λ (lines : List (List ℕ)). AllSay lines
    (said_behind health (outcomes ++ next ∷ []) (length (outcomes ++ next ∷ []))))
    (lines_now health outcomes next which is)
    (subst (AllSay (lines_behind health outcomes (length outcomes) ++ line_of health which))
    (said_now health outcomes next which is)
    (all_more (lines_behind health outcomes (length outcomes)) (line_of health which)
    (said_behind health outcomes (length outcomes)) (said_of health which) first second))

pub say_first : (health : Health)
    → AllSay (line_of health (first_command health)) (said_of health (first_command health))
    → AllSay (lines_behind health [] 0) (said_behind health [] 0)
unfolding lines_behind said_behind
say_first health first = (says_quiet, first)

-- the line of a command
pub say_one : (health : Health) (up : Bool) (line : List ℕ) → line ≡ command_text health up
    → Says line (command_said health up) → AllSay (line_of health (Some up)) (said_of health (Some up))
say_one health up line is says =
    (subst (λ (text : List ℕ). Says text (command_said health up)) is says, tt)

-- ROUTES

stands_more : (key : Key) (before : Option Attrs) (commands more : List Command)
    → stands key before (commands ++ more) ≡ stands key (stands key before commands) more
stands_more key before [] more = refl
stands_more key before (says ∷ others) more = stands_more key (stands_behind key before says) others more

-- what a command of the file leaves
left_with : (health : Health) (key : Key) (before : Option Attrs) (med : Option ℕ)
    → stands_behind key before (said_with health med)
    ≡ cond (is_among key health.prefixes) (option_map (attrs_with health.hop) med) before
left_with health key before (Some med) = refl
left_with health key before None = refl

-- a choice on top of one
chosen_again : (among : Bool) (one other : Option Attrs) → cond among one (cond among other None) ≡ cond among one None
chosen_again true one other = refl
chosen_again false one other = refl

Leaves : Health → Key → Bool → Option Attrs → Type 0
Leaves health key up left = left ≡ cond (is_among key health.prefixes) (wanted health up) None

-- what is to stand behind a change, where what was to stand before it stood
left_by : (health : Health) (key : Key) (before : Option Attrs) (was is : Bool) → Leaves health key was before
    → Leaves health key is (stands key before (said_of health (command_of (change_of was is))))
unfolding Leaves
left_by health key before false false held = held
left_by health key before true true held = held
left_by health key before false true held =
    left_with health key before (Some health.up_med)
    ∙ ap (λ (left : Option Attrs). cond (is_among key health.prefixes) (wanted health true) left) held
    ∙ chosen_again (is_among key health.prefixes) (wanted health true) (wanted health false)
left_by health key before true false held =
    left_with health key before health.down
    ∙ ap (λ (left : Option Attrs). cond (is_among key health.prefixes) (wanted health false) left) held
    ∙ chosen_again (is_among key health.prefixes) (wanted health false) (wanted health true)

same_either : (among : Bool) → None ≡ cond {A = Option Attrs} among None None
same_either true = refl
same_either false = refl

left_first : (health : Health) (key : Key) (down : Option ℕ) → health.down ≡ down
    → Leaves health key false (stands key None (said_of health (option_map (λ med. false) down)))
unfolding Leaves
left_first health key None is =
    same_either (is_among key health.prefixes)
    ∙ ap (λ (med : Option ℕ). cond (is_among key health.prefixes) (option_map (attrs_with health.hop) med) None) (sym
    is)
left_first health key (Some med) is = left_with health key None health.down

pub follow : RoutesFollow
unfolding said_behind Leaves is_up
follow health outcomes zero key = left_first health key health.down refl
follow health outcomes (suc k) key =
    stands_more key None (said_behind health outcomes k)
    (said_of health (command_of (change_behind health outcomes k)))
    ∙ left_by health key (stands key None (said_behind health outcomes k)) (up_behind health outcomes k)
    (up_behind health outcomes (suc k)) (follow health outcomes k key)

-- A WATCH, CHECK BY CHECK

pub on_err : {V E P : Type 0} (result : Result V E) → P → OnErr result P
on_err (Ok value) is = tt
on_err (Err error) is = is

pub on_ok : {V E P : Type 0} (result : Result V E) → P → OnOk result P
on_ok (Ok value) is = is
on_ok (Err error) is = tt

pub then_ok : {V E P Q : Type 0} (result : Result V E) → (P → Q) → OnOk result P → OnOk result Q
then_ok (Ok value) step is = step is
then_ok (Err error) step is = tt

pub no_err : {V E : Type 0} (value : V) (error : E) → Ok value ≡ Err error → ⊥
no_err value error is = cc

pub grows_then : {V E : Type 0} (result : Result V E) (taken mid after : Option (List ℕ)) (first next : List ℕ)
    → Grows taken mid first → OnOk result (Grows mid after next) → OnOk result (Grows taken after (first ++ next))
grows_then (Ok value) taken mid after first next one two = grows_on taken mid after first next one two
grows_then (Err error) taken mid after first next one two = tt

pub part_then : {V E : Type 0} (result : Result V E) (taken mid after : Option (List ℕ)) (first next : List ℕ)
    → Grows taken mid first → OnErr result (GrowsPart mid after next)
    → OnErr result (GrowsPart taken after (first ++ next))
part_then (Ok value) taken mid after first next one two = tt
part_then (Err error) taken mid after first next one two = part_on taken mid after first next one two

-- what a watch has found and written after so many checks
pub record Held (health : Health) (counter : Counter) (turn : ℕ) (checks checks' : Option (List Checked))
    (taken taken' : Option (List ℕ)) : Type 0 where
  pub outcomes : List Outcome
  pub many : length outcomes ≡ turn
  pub counts : Counts health.rise health.fall outcomes counter
  pub found : GrowsBy checks checks' (checks_by health.run.items outcomes)
  pub wrote : Grows taken taken' (text_of (lines_behind health outcomes (length outcomes)))
  pub said : IsSound health → SayAll health outcomes

pub held_none : (health : Health) (counter : Counter) (checks : Option (List Checked)) (taken taken' : Option (List ℕ))
    → Counts health.rise health.fall [] counter → Grows taken taken' (first_text health)
    → (IsSound health → AllSay (lines_behind health [] 0) (said_behind health [] 0))
    → Held health counter 0 checks checks taken taken'
held_none health counter checks taken taken' counts wrote said = record {
  outcomes = [];
  many = refl;
  counts = counts;
  found = gathers_none checks;
  wrote = subst (Grows taken taken') (sym (lines_none health)) wrote;
  said = said;
}

found_next : (health : Health) (outcomes : List Outcome) (outcome : Outcome)
    (checks checks' checks_after : Option (List Checked)) → GrowsBy checks checks' (checks_by health.run.items outcomes)
    → Gathers checks' checks_after (Some (checked health.run.items outcome))
    → GrowsBy checks checks_after (checks_by health.run.items (outcomes ++ outcome ∷ []))
found_next health outcomes outcome checks checks' checks_after many one =
    subst (GrowsBy checks checks_after) (sym (checks_more health.run.items outcomes outcome))
    (gathers_more checks checks' checks_after (checks_by health.run.items outcomes)
    (checked health.run.items outcome) many one)

-- the text of one more check
text_next : (health : Health) (outcomes : List Outcome) (outcome : Outcome) (which : Option Bool)
    → which ≡ command_of (change_at health.rise health.fall outcomes outcome)
    → text_of (lines_behind health outcomes (length outcomes)) ++ text_of (line_of health which)
    ≡ text_of (lines_behind health (outcomes ++ outcome ∷ []) (length (outcomes ++ outcome ∷ [])))
text_next health outcomes outcome which is =
    ap (λ (one : Option Bool). text_of (lines_behind health outcomes (length outcomes)) ++ text_of (line_of health
    one)) is
    ∙ sym (lines_more health outcomes outcome)

pub held_next : (health : Health) (counter after : Counter) (turn : ℕ) (outcome : Outcome) (which : Option Bool)
    (checks checks' checks_after : Option (List Checked)) (taken taken' taken_after : Option (List ℕ))
    (held : Held health counter turn checks checks' taken taken')
    → Counts health.rise health.fall (held.outcomes ++ outcome ∷ []) after
    → which ≡ command_of (change_at health.rise health.fall held.outcomes outcome)
    → Gathers checks' checks_after (Some (checked health.run.items outcome))
    → Grows taken' taken_after (text_of (line_of health which))
    → (IsSound health → AllSay (line_of health which) (said_of health which))
    → Held health after (turn + 1) checks checks_after taken taken_after
held_next health counter after turn outcome which checks checks' checks_after taken taken' taken_after held counts is
    one more says = record {
      outcomes = held.outcomes ++ outcome ∷ [];
      many = omega (arith, held.many, length-append held.outcomes (outcome ∷ []));
      counts = counts;
      found = found_next health held.outcomes outcome checks checks' checks_after held.found one;
      wrote =
          subst (Grows taken taken_after) (text_next health held.outcomes outcome which is)
          (grows_on taken taken' taken_after (text_of (lines_behind health held.outcomes (length held.outcomes)))
          (text_of (line_of health which)) held.wrote more);
      said = λ sound. say_next health held.outcomes outcome which is (held.said sound) (says sound);
    }

-- a write fails, or memory is wanting for it
pub held_breaks : (health : Health) (counter : Counter) (turn : ℕ) (outcome : Outcome) (which : Option Bool)
    (checks checks' checks_after : Option (List Checked)) (taken taken' taken_after : Option (List ℕ))
    (held : Held health counter turn checks checks' taken taken') → turn < health.turns
    → which ≡ command_of (change_at health.rise health.fall held.outcomes outcome)
    → Gathers checks' checks_after (Some (checked health.run.items outcome))
    → GrowsPart taken' taken_after (text_of (line_of health which))
    → WatchedPart health checks checks_after taken taken_after
held_breaks health counter turn outcome which checks checks' checks_after taken taken' taken_after held few is one part
    =
    record {
      outcomes = held.outcomes ++ outcome ∷ [];
      few = omega (arith, few, held.many, length-append held.outcomes (outcome ∷ []));
      found = found_next health held.outcomes outcome checks checks' checks_after held.found one;
      wrote =
          subst (GrowsPart taken taken_after) (text_next health held.outcomes outcome which is)
          (part_on taken taken' taken_after (text_of (lines_behind health held.outcomes (length held.outcomes)))
          (text_of (line_of health which)) held.wrote part);
    }

pub none_breaks : (health : Health) (checks : Option (List Checked)) (taken taken' : Option (List ℕ))
    → GrowsPart taken taken' (first_text health) → WatchedPart health checks checks taken taken'
none_breaks health checks taken taken' part = record {
  outcomes = [];
  few = omega arith;
  found = gathers_none checks;
  wrote = subst (GrowsPart taken taken') (sym (lines_none health)) part;
}

pub held_all : (health : Health) (counter : Counter) (turn : ℕ) (checks checks' : Option (List Checked))
    (taken taken' : Option (List ℕ)) → turn ≡ health.turns → Held health counter turn checks checks' taken taken'
    → Watched health checks checks' taken taken'
held_all health counter turn checks checks' taken taken' is held =
    record { outcomes = held.outcomes; all = held.many ∙ is; found = held.found; wrote = held.wrote; said = held.said }
