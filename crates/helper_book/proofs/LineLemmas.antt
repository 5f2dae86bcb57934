-- Lines that are taken.
use Rattle.std.proofs.Common.{◌≡◌, ℕ, ◌+◌, ◌-◌, ◌<◌, ◌≤◌, Bool, true, false, not, List, []}
use Rattle.std.proofs.Common.{◌∷◌, ◌++◌, length, map, Ok, Err}
use Rattle.std.proofs.Common.{refl, sym, ap, ◌∙◌, subst, arith, eq-eqb, ne_eqb, length-append, drop}
use Rattle.std.specs.Prelude.{◌==◌, ◌&&◌, ◌↔◌, if◌then◌else◌, nat_lt, Result, IsTrue}
use Rattle.std.proofs.lemmas.Bool.{and_from, le-ltb, lt-ltb}
use Rattle.std.proofs.lemmas.List.{drop-append-le, length-map}
use Rattle.text_forms.specs.Lines.{Line}
use Rattle.route_grammar.specs.declared.fault.ReadFault.{ReadFault}
use Rattle.ack_queue.specs.declared.reply.Reply.{Reply}
use Rattle.ack_queue.specs.declared.reply.Reply.TheVariants as reply
use Rattle.ack_queue.specs.declared.reply.Shown.{Shown}
use Rattle.command_grammar.specs.declared.command.Command.{Command}
use Rattle.command_grammar.specs.declared.command.Command.TheVariants as command
use Rattle.config_model.specs.Sections.{Sections}
use Rattle.helper_core.specs.Helper.{Helper as Slot}
use Rattle.helper_core.specs.Lending.{with_replies}
use Rattle.book_history.specs.declared.outcomes.Verdict.{Verdict}
use Rattle.book_history.specs.declared.outcomes.Verdict.TheVariants as verdict
use Rattle.book_history.specs.declared.outcomes.Why.{Why}
use Rattle.book_history.specs.Bounds.{max_queued}
use Rattle.book_history.specs.Entries.{History}
use Rattle.book_history.specs.Entries.Entry.{LineEntered}
use Rattle.book_history.specs.Helpers.{child, is_running, last_inc}
use Rattle.book_history.specs.Replies.{acks, acks_after, done_replies, has_queue, is_of, line_replies, queued, refusal}
use Rattle.book_history.specs.Replies.{replies, reply_if, taken}
use Rattle.book_history.specs.Shows.{shown}
use Rattle.book_history.specs.Verdicts.{overflows}
use Rattle.helper_book.specs.Seen.{Seen}
use Rattle.helper_book.specs.Stands.{Stands}
use Rattle.helper_book.specs.Told.{replied, told}
use Rattle.helper_book.proofs.ApartLemmas.{other_line}
use Rattle.helper_book.proofs.SameLemmas.{unborn_same}

added : (has : Bool) (t r new : List Reply) → has ≡ true → length t ≤ length r
    → (if has then drop (length t) r else []) ++ new ≡ (if has then drop (length t) (r ++ new) else [])
added true t r new so few = sym (drop-append-le (length t) r new few)
added false t r new so few = cc

-- what a line of the running incarnation leaves, by the replies that it adds and whether lines are replied to from then
-- on
abbrev pub after_line : Seen → List Reply → Bool → Seen
after_line helper new on = record {
  slot = with_replies helper.slot (helper.slot.replies ++ new);
  process = helper.process;
  acks = on;
}

pub line_stands : (cfg : Sections) (H : History) (h inc : ℕ) (line : Line) (reading : Result Command ReadFault)
    (given : Verdict) (helper : Seen) (new : List Reply) (on : Bool) → Stands cfg H h helper
    → is_running (child cfg h H) inc ≡ true → new ≡ line_replies cfg H h inc reading given
    → on ≡ acks h inc (LineEntered h inc line reading given ∷ H)
    → Stands cfg (LineEntered h inc line reading given ∷ H) h (after_line helper new on)
line_stands cfg H h inc line reading given helper new on is runs new_is on_is =
    let K = LineEntered h inc line reading given ∷ H in
    let last = last_inc h H in
    let has = has_queue cfg h last H in
    let t = taken h last H in
    let r = replies cfg h last H in
    let at_last : inc ≡ last = (is.replies.running inc runs).last in
    let has_it : has ≡ true =
    ap (λ i. has_queue cfg h i H) (sym at_last) ∙ (is.replies.running inc runs).queue in
    let of_last : is_of h inc h last ≡ true =
    and_from (h == h) (inc == last) (eq-eqb h h refl) (eq-eqb inc last at_last) in
    let now : replies cfg h last K ≡ r ++ new =
    ap (λ so. if so then r ++ line_replies cfg H h last reading given else r) of_last
    ∙ ap (λ (xs : List Reply). r ++ xs)
    (ap (λ i. line_replies cfg H h i reading given) (sym at_last) ∙ sym new_is) in
    record {
      process = record {
        section = is.process.section;
        present = is.process.present;
        own_child = is.process.own_child;
        given_up = is.process.given_up;
        respawn = is.process.respawn;
      };
      starts = record {
        count = is.starts.count;
        last = is.starts.last;
        few = is.starts.few;
        started = is.starts.started;
        window = is.starts.window;
      };
      replies = record {
        waiting = ap (λ (xs : List Reply). xs ++ new) is.replies.waiting
            ∙ added has t r new has_it is.replies.taken_few
            ∙ sym (ap (λ (xs : List Reply). if has then drop (length t) xs else []) now);
        on = on_is ∙ ap (λ i. acks h i K) at_last;
        taken_few = subst (λ (xs : List Reply). length t ≤ length xs) (sym now)
            (let few = is.replies.taken_few in omega (arith, length-append r new));
        nobody = is.replies.nobody;
        running = λ i also.
            let was = is.replies.running i also in record { last = was.last; queue = was.queue };
        unborn = λ i later.
            let apart : is_of h inc h i ≡ false =
            ap (λ so. so && inc == i) (eq-eqb h h refl)
            ∙ ne_eqb inc i (λ e. let count = is.starts.last in absurd (omega (arith, at_last))) in
            unborn_same cfg H K h i (other_line cfg H h i h inc line reading given apart) (is.replies.unborn i later);
      };
    }

-- a line that is refused

refused_acks : (h inc : ℕ) (line : Line) (reading : Result Command ReadFault) (because : Why) (H : History)
    → acks h inc (LineEntered h inc line reading (verdict.Error because) ∷ H) ≡ acks h inc H
refused_acks h inc line (Ok given) because H = refl
refused_acks h inc line (Err fault) because H = refl

refused_replies : (cfg : Sections) (H : History) (h inc : ℕ) (reading : Result Command ReadFault) (because : Why)
    → line_replies cfg H h inc reading (verdict.Error because) ≡ reply_if (acks h inc H) (refusal because)
refused_replies cfg H h inc (Ok given) because = refl
refused_replies cfg H h inc (Err fault) because = refl

-- whether the running incarnation's lines are replied to
pub acks_now : (cfg : Sections) (H : History) (h inc : ℕ) (helper : Seen) → Stands cfg H h helper
    → is_running (child cfg h H) inc ≡ true → helper.acks ≡ acks h inc H
acks_now cfg H h inc helper is runs =
    is.replies.on ∙ ap (λ i. acks h i H) (sym (is.replies.running inc runs).last)

pub refused_stands : (cfg : Sections) (H : History) (h inc : ℕ) (line : Line) (reading : Result Command ReadFault)
    (because : Why) (helper : Seen) → Stands cfg H h helper → is_running (child cfg h H) inc ≡ true
    → Stands cfg (LineEntered h inc line reading (verdict.Error because) ∷ H) h
    (after_line helper (reply_if helper.acks (refusal because)) helper.acks)
refused_stands cfg H h inc line reading because helper is runs =
    let same : helper.acks ≡ acks h inc H = acks_now cfg H h inc helper is runs in
    line_stands cfg H h inc line reading (verdict.Error because) helper (reply_if helper.acks (refusal because))
    helper.acks is runs
    (ap (λ on. reply_if on (refusal because)) same ∙ sym (refused_replies cfg H h inc reading because))
    (same ∙ sym (refused_acks h inc line reading because H))

-- a line that is done

pub told_is : (cfg : Sections) (H : History) (h inc : ℕ) (given : Command) (routes : List Shown)
    → routes ≡ shown cfg H h given → told (acks h inc H) given routes ≡ done_replies cfg H h inc given
told_is cfg H h inc command.EnableAck routes is =
    ap (λ (xs : List Shown). map (λ s. reply.Route s) xs ++ reply.Done ∷ []) is
told_is cfg H h inc given routes is =
    ap (λ (xs : List Shown). map (λ s. reply.Route s) xs ++ reply_if (acks h inc H) reply.Done) is

pub done_stands : (cfg : Sections) (H : History) (h inc : ℕ) (line : Line) (given : Command) (helper : Seen)
    (routes : List Shown) → Stands cfg H h helper → is_running (child cfg h H) inc ≡ true
    → routes ≡ shown cfg H h given → Stands cfg (LineEntered h inc line (Ok given) verdict.Done ∷ H) h
    (after_line helper (told helper.acks given routes) (acks_after given helper.acks))
done_stands cfg H h inc line given helper routes is runs asked =
    let same : helper.acks ≡ acks h inc H = acks_now cfg H h inc helper is runs in
    let own : is_of h inc h inc ≡ true =
    and_from (h == h) (inc == inc) (eq-eqb h h refl) (eq-eqb inc inc refl) in
    line_stands cfg H h inc line (Ok given) verdict.Done helper (told helper.acks given routes)
    (acks_after given helper.acks) is runs
    (ap (λ on. told on given routes) same ∙ told_is cfg H h inc given routes asked)
    (ap (acks_after given) same
    ∙ sym (ap (λ so. if so then acks_after given (acks h inc H) else acks h inc H) own))

-- how many replies wait for the running incarnation
pub waiting_now : (cfg : Sections) (H : History) (h inc : ℕ) (helper : Seen) → Stands cfg H h helper
    → is_running (child cfg h H) inc ≡ true → helper.slot.replies ≡ queued cfg h inc H
waiting_now cfg H h inc helper is runs =
    is.replies.waiting ∙ ap (λ i. queued cfg h i H) (sym (is.replies.running inc runs).last)

-- whether the replies to a line fit

told_len : (was : Bool) (given : Command) (routes : List Shown)
    → length (told was given routes) ≡ length routes + length (reply_if (replied given was) reply.Done)
told_len was given routes =
    length-append (map (λ s. reply.Route s) routes) (reply_if (replied given was) reply.Done)
    ∙ ap (λ n. n + length (reply_if (replied given was) reply.Done))
    (length-map {A = Shown} {B = Reply} routes (λ s. reply.Route s))

-- those to a command that shows no route do where the queue isn't full
few_fit : (waiting : ℕ) (on : Bool) → waiting < max_queued
    → nat_lt max_queued (waiting + length (reply_if on reply.Done)) ≡ false
few_fit waiting true few = le-ltb _ _ (omega arith)
few_fit waiting false few = le-ltb _ _ (omega arith)

done_fit : (cfg : Sections) (H : History) (h inc : ℕ) (given : Command) → length (queued cfg h inc H) < max_queued
    → nat_lt max_queued (length (queued cfg h inc H) + length (done_replies cfg H h inc given))
    ≡ overflows cfg H h inc given
done_fit cfg H h inc (command.Show pick within) few = refl
done_fit cfg H h inc command.EnableAck few = few_fit (length (queued cfg h inc H)) true few
done_fit cfg H h inc given few = few_fit (length (queued cfg h inc H)) (acks h inc H) few

within : (fits : Bool) (many room : ℕ) → (IsTrue fits ↔ (many ≤ room)) → fits ≡ not (nat_lt room many)
within true many room is = let few = is.0 refl in sym (ap not (le-ltb room many few))
within false many room is =
    let other : many ≤ room → ⊥ = λ few. absurd (let so : false ≡ true = is.1 few in cc) in
    sym (ap not (lt-ltb room many (omega (arith, other))))

pub room_is : (cfg : Sections) (H : History) (h inc : ℕ) (given : Command) (helper : Seen) (routes : List Shown)
    (fits : Bool) → (IsTrue fits ↔ (length helper.slot.replies + length (told helper.acks given routes) ≤ max_queued))
    → Stands cfg H h helper → is_running (child cfg h H) inc ≡ true → length (queued cfg h inc H) < max_queued
    → routes ≡ shown cfg H h given → fits ≡ not (overflows cfg H h inc given)
room_is cfg H h inc given helper routes fits fits_is is runs few asked =
    let same : helper.acks ≡ acks h inc H = acks_now cfg H h inc helper is runs in
    let all : told helper.acks given routes ≡ done_replies cfg H h inc given =
    ap (λ on. told on given routes) same ∙ told_is cfg H h inc given routes asked in
    within fits (length helper.slot.replies + length (told helper.acks given routes)) max_queued fits_is
    ∙ ap (λ (xs : List Reply). not (nat_lt max_queued (length xs + length (told helper.acks given routes))))
    (waiting_now cfg H h inc helper is runs)
    ∙ ap (λ (xs : List Reply). not (nat_lt max_queued (length (queued cfg h inc H) + length xs))) all
    ∙ ap not (done_fit cfg H h inc given few)

-- how many replies there are in all, as the code counts them
pub room_for : (many : ℕ) (was : Bool) (given : Command) (routes : List Shown) (fits on : Bool) (free : ℕ)
    → (IsTrue fits ↔ (length routes + length (reply_if on reply.Done) ≤ free)) → on ≡ replied given was
    → free ≡ max_queued - many → many ≤ max_queued
    → (IsTrue fits ↔ (many + length (told was given routes) ≤ max_queued))
room_for many was given routes fits on free is on_is free_is few =
    let all = told_len was given routes in
    let own : length (reply_if on reply.Done) ≡ length (reply_if (replied given was) reply.Done) =
    ap (λ b. length (reply_if b reply.Done)) on_is in
    (λ so. let within = is.0 so in omega (arith, all, own, within), λ within. is.1 (omega (arith, all, own, within)))

-- the calls, of a helper that is made of parts

pub done_at : (cfg : Sections) (H : History) (h inc : ℕ) (line : Line) (given : Command) (helper : Seen)
    (routes : List Shown) (slot : Slot) (said on : Bool) → slot ≡ with_replies helper.slot (helper.slot.replies
    ++ (map (λ s. reply.Route s) routes ++ reply_if said reply.Done)) → said ≡ replied given helper.acks
    → on ≡ acks_after given helper.acks → Stands cfg H h helper → is_running (child cfg h H) inc ≡ true
    → routes ≡ shown cfg H h given → Stands cfg (LineEntered h inc line (Ok given) verdict.Done ∷ H) h
    (record { slot = slot; process = helper.process; acks = on })
done_at cfg H h inc line given helper routes slot said on slot_is said_is on_is is runs asked =
    let K = LineEntered h inc line (Ok given) verdict.Done ∷ H in
    let all : slot ≡ with_replies helper.slot (helper.slot.replies ++ told helper.acks given routes) =
    slot_is ∙ ap (λ b. with_replies helper.slot (helper.slot.replies ++ (map (λ s. reply.Route s) routes
    ++ reply_if b reply.Done))) said_is in
    subst (λ s. Stands cfg K h (record { slot = s; process = helper.process; acks = on })) (sym all)
    (subst (λ b. Stands cfg K h (after_line helper (told helper.acks given routes) b)) (sym on_is)
    (done_stands cfg H h inc line given helper routes is runs asked))

pub refused_at : (cfg : Sections) (H : History) (h inc : ℕ) (line : Line) (reading : Result Command ReadFault)
    (because : Why) (helper : Seen) (slot : Slot) → slot ≡ with_replies helper.slot (helper.slot.replies
    ++ reply_if helper.acks (refusal because)) → Stands cfg H h helper → is_running (child cfg h H) inc ≡ true
    → Stands cfg (LineEntered h inc line reading (verdict.Error because) ∷ H) h
    (record { slot = slot; process = helper.process; acks = helper.acks })
refused_at cfg H h inc line reading because helper slot slot_is is runs =
    subst (λ s. Stands cfg (LineEntered h inc line reading (verdict.Error because) ∷ H) h
    (record { slot = s; process = helper.process; acks = helper.acks })) (sym slot_is)
    (refused_stands cfg H h inc line reading because helper is runs)
