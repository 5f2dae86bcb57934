-- What is counted of a history that goes on.
use Rattle.std.proofs.Common.{◌≡◌, ℕ, ◌+◌, ◌<◌, Bool, true, false, cond, List, [], ◌∷◌, ◌++◌, length, Some, None, Ok}
use Rattle.std.proofs.Common.{Err}
use Rattle.std.proofs.Common.{refl, sym, ap, ◌∙◌, subst, arith, append_assoc, append-nil, get_or, take}
use Rattle.std.specs.Prelude.{◌&&◌, ◌||◌, count_by, map, is_some, unwrap_or, if◌then◌else◌, Option, Result}
use Rattle.std.specs.Prelude.{IfOk, OnOk}
use Rattle.std.specs.List.{flat_map, sum_by, IsDistinct}
use Rattle.std.specs.Set.{is_member}
use Rattle.std.proofs.lemmas.Grind.{flat_map-append}
use Rattle.std.proofs.lemmas.List.{take_more, length-append}
use Rattle.std.proofs.lemmas.List.Sums.{sum_by-append, sum_by-cons}
use Rattle.std.proofs.lemmas.Map.Made.{is_member-filter, length-from_keys}
use Rattle.route_values.specs.declared.attrs.WireAttrs.{WireAttrs}
use Rattle.route_values.specs.declared.key.Key.{Key}
use Rattle.route_values.specs.Key.{same_key}
use Rattle.route_values.proofs.KeyLemmas.{same_key_is}
use Rattle.update_grammar.specs.declared.effect.Effect.{Effect}
use Rattle.update_grammar.specs.declared.effect.Effect.TheVariants.{Gone, Here}
use Rattle.update_grammar.specs.Net.{effect_says, last_word, later_of, net}
use Rattle.update_grammar.specs.Packed.{named_by}
use Rattle.update_grammar.specs.Update.{gone_all, here_all}
use Rattle.update_codec.specs.declared.effects.Announced.{Announced}
use Rattle.update_codec.specs.Effects.{announced_effects}
use Rattle.peer_history.specs.Messages.{said}
use Rattle.book_history.specs.declared.outcomes.Cut.TheVariants as cut
use Rattle.book_history.specs.Entries.{History}
use Rattle.book_history.specs.Entries.Entry.{MessageCut}
use Rattle.script_play.specs.declared.counting.Tally.{Tally}
use Rattle.script_play.specs.Counting.{TakesEffects, TookEffects, counts_told}
use Rattle.script_play.specs.Loads.{counts_of, effects_in, is_gone, is_here, keys_left, load_caps}
use Rattle.script_play.specs.Loads.{counts_text, messages_in, routes_left}
use Rattle.script_play.specs.Loading.{Tallies}
use Rattle.script_play.specs.Standing.{AreLeftAt}
use Rattle.script_play.proofs.StandingLemmas.{same_laws, same_sym}

-- ---- how many keys stand

-- whether an effect says something of a key
speaks : (effect : Effect) (key : Key) → is_some (effect_says effect key) ≡ same_key key (named_by effect)
speaks (Here k attrs) key = by_same (same_key k key) ∙ same_sym k key
  where
    by_same : (same : Bool) → is_some (if same then Some (Some attrs) else None) ≡ same
    by_same true = refl
    by_same false = refl
speaks (Gone k) key = by_same (same_key k key) ∙ same_sym k key
  where
    by_same : (same : Bool) → is_some {T = Option WireAttrs} (if same then Some None else None) ≡ same
    by_same true = refl
    by_same false = refl

either_word : (later earlier : Option (Option WireAttrs))
    → is_some (later_of later earlier) ≡ (is_some earlier || is_some later)
either_word (Some word) (Some other) = refl
either_word (Some word) None = refl
either_word None (Some other) = refl
either_word None None = refl

-- a word is said of the keys that are named
named : (effects : List Effect) (key : Key)
    → is_some (last_word effect_says effects key) ≡ is_member same_key (map named_by effects) key
named [] key = refl
named (e ∷ es) key =
    either_word (last_word effect_says es key) (effect_says e key)
    ∙ ap (λ so. so || is_some (last_word effect_says es key)) (speaks e key)
    ∙ ap (λ so. same_key key (named_by e) || so) (named es key)

both_said : (word : Option (Option WireAttrs))
    → (is_some word && is_some (unwrap_or word None)) ≡ is_some (unwrap_or word None)
both_said (Some word) = refl
both_said None = refl

-- the keys at which effects leave something are among those that they name
left_named : (effects : List Effect) (key : Key)
    → is_member same_key (keys_left effects) key ≡ is_some (net effects key)
left_named effects key =
    is_member-filter same_laws (λ k. is_some (net effects k)) key
    (λ x same. ap (λ k. is_some (net effects k)) (same_key_is key x same)) (map named_by effects)
    ∙ ap (λ so. so && is_some (net effects key)) (sym (named effects key))
    ∙ both_said (last_word effect_says effects key)

-- keys that differ, and are those at which effects leave something, are as many as these
pub left_count : (effects : List Effect) (keys : List Key) → IsDistinct same_key keys → AreLeftAt effects keys
    → length keys ≡ routes_left effects
left_count effects keys distinct left =
    length-from_keys same_laws keys (keys_left effects) distinct
    (λ key. left key ∙ sym (left_named effects key))

-- ---- the counts of a tally

-- what a tally tells is what is counted of the history
pub counts_same : (count : ℕ) (H : History) (tally : Tally) (left : ℕ) → IsDistinct same_key tally.left
    → left ≡ length tally.left → Tallies H tally → counts_told count tally left ≡ counts_of count H
counts_same count H tally left distinct is t = λ i. record {
  routes = count;
  lines = t.lines i;
  done = t.done i;
  error = t.errors i;
  messages = t.messages i;
  bytes = t.bytes i;
  announced = t.announced i;
  withdrawn = t.withdrawn i;
  left = all i;
}
  where
    all : left ≡ routes_left (effects_in H)
    all = is ∙ left_count (effects_in H) tally.left distinct t.left

counted_first : {A : Type 0} (test : A → Bool) (x : A) (xs : List A)
    → count_by test (x ∷ xs) ≡ count_by test xs + (if test x then 1 else 0)
counted_first test x xs = omega (arith, sum_by-cons (λ y. cond (test y) 1 0) x xs)

-- ---- effects

-- none were counted
pub took_none : (tally : Tally) → TookEffects [] tally tally
took_none tally = record {
  lines = refl;
  done = refl;
  errors = refl;
  messages = refl;
  bytes = refl;
  announced = omega arith;
  withdrawn = omega arith;
  left = λ before left. subst (λ (effects : List Effect). AreLeftAt effects tally.left) (sym (append-nil before)) left;
}

count-append : {A : Type 0} (test : A → Bool) (xs ys : List A)
    → count_by test (xs ++ ys) ≡ count_by test xs + count_by test ys
count-append test xs ys = sum_by-append (λ x. cond (test x) 1 0) xs ys

-- some, and then others
pub took_both : (front next : List Effect) (was mid now : Tally) → TookEffects front was mid
    → TookEffects next mid now → TookEffects (front ++ next) was now
took_both front next was mid now a b = record {
  lines = b.lines ∙ a.lines;
  done = b.done ∙ a.done;
  errors = b.errors ∙ a.errors;
  messages = b.messages ∙ a.messages;
  bytes = b.bytes ∙ a.bytes;
  announced = omega (arith, a.announced, b.announced, count-append is_here front next);
  withdrawn = omega (arith, a.withdrawn, b.withdrawn, count-append is_gone front next);
  left = λ before left. subst (λ (effects : List Effect). AreLeftAt effects now.left) (append_assoc before front next)
      (b.left (before ++ front) (a.left before left));
}

-- some, and then others by a call
pub takes_both : {E : Type 0} (front next all : List Effect) (was mid now : Tally) (result : Result (Unit {0}) E)
    → all ≡ front ++ next → TookEffects front was mid → TakesEffects next mid now result
    → TakesEffects all was now result
takes_both front next all was mid now (Ok done) is a b =
    subst (λ (effects : List Effect). TookEffects effects was now) (sym is) (took_both front next was mid now a b)
takes_both front next all was mid now (Err because) is a b = tt

-- those of one item more
pub took_more : (items : List Announced) (i : ℕ) (item : Announced) (was mid now : Tally) → i < length items
    → item ≡ get_or items i item → TookEffects (flat_map announced_effects (take i items)) was mid
    → TookEffects (announced_effects item) mid now
    → TookEffects (flat_map announced_effects (take (i + 1) items)) was now
took_more items i item was mid now below is a b =
    subst (λ (effects : List Effect). TookEffects effects was now) (sym next)
    (took_both (flat_map announced_effects (take i items)) (announced_effects item) was mid now a b)
  where
    next : flat_map announced_effects (take (i + 1) items)
        ≡ flat_map announced_effects (take i items) ++ announced_effects item
    next = ap (flat_map announced_effects) (take_more items i item below)
        ∙ flat_map-append announced_effects (take i items) (get_or items i item ∷ [])
        ∙ ap (λ (last : List Effect). flat_map announced_effects (take i items) ++ last)
        (append-nil (announced_effects (get_or items i item)))
        ∙ ap (λ one. flat_map announced_effects (take i items) ++ announced_effects one) (sym is)

-- ---- withdrawals and announcements

gone_gone : (keys : List Key) → count_by is_gone (gone_all keys) ≡ length keys
gone_gone [] = refl
gone_gone (key ∷ keys) = omega (arith, counted_first is_gone (Gone key) (gone_all keys), gone_gone keys)

gone_here : (keys : List Key) → count_by is_here (gone_all keys) ≡ 0
gone_here [] = refl
gone_here (key ∷ keys) = omega (arith, counted_first is_here (Gone key) (gone_all keys), gone_here keys)

here_here : (attrs : WireAttrs) (keys : List Key) → count_by is_here (here_all attrs keys) ≡ length keys
here_here attrs [] = refl
here_here attrs (key ∷ keys) =
    omega (arith, counted_first is_here (Here key attrs) (here_all attrs keys), here_here attrs keys)

here_gone : (attrs : WireAttrs) (keys : List Key) → count_by is_gone (here_all attrs keys) ≡ 0
here_gone attrs [] = refl
here_gone attrs (key ∷ keys) =
    omega (arith, counted_first is_gone (Here key attrs) (here_all attrs keys), here_gone attrs keys)

-- keys that were withdrawn were counted
pub took_gone : (keys : List Key) (was now : Tally) → now.lines ≡ was.lines → now.done ≡ was.done
    → now.errors ≡ was.errors → now.messages ≡ was.messages → now.bytes ≡ was.bytes → now.announced ≡ was.announced
    → now.withdrawn ≡ was.withdrawn + length keys
    → ((before : List Effect) → AreLeftAt before was.left → AreLeftAt (before ++ gone_all keys) now.left)
    → TookEffects (gone_all keys) was now
took_gone keys was now lines done errors messages bytes announced withdrawn left = record {
  lines = lines;
  done = done;
  errors = errors;
  messages = messages;
  bytes = bytes;
  announced = omega (arith, announced, gone_here keys);
  withdrawn = omega (arith, withdrawn, gone_gone keys);
  left = left;
}

-- keys that were announced were counted, by a call
pub took_here : {E : Type 0} (announced : Announced) (was now : Tally) (result : Result (Unit {0}) E)
    → now.lines ≡ was.lines → now.done ≡ was.done → now.errors ≡ was.errors → now.messages ≡ was.messages
    → now.bytes ≡ was.bytes → now.announced ≡ was.announced + length announced.keys → now.withdrawn ≡ was.withdrawn
    → OnOk result ((before : List Effect) → AreLeftAt before was.left
    → AreLeftAt (before ++ announced_effects announced) now.left)
    → TakesEffects (announced_effects announced) was now result
took_here announced was now (Ok done_) lines done errors messages bytes more withdrawn left = record {
  lines = lines;
  done = done;
  errors = errors;
  messages = messages;
  bytes = bytes;
  announced = omega (arith, more, here_here announced.attrs announced.keys);
  withdrawn = omega (arith, withdrawn, here_gone announced.attrs announced.keys);
  left = left;
}
took_here announced was now (Err because) lines done errors messages bytes more withdrawn left = tt

-- ---- messages

pub said_more : (H : History) (bytes : List ℕ) → flat_map (said load_caps) (messages_in H ++ bytes ∷ [])
    ≡ effects_in H ++ said load_caps bytes
said_more H bytes =
    flat_map-append (said load_caps) (messages_in H) (bytes ∷ [])
    ∙ ap (λ (last : List Effect). effects_in H ++ last) (append-nil (said load_caps bytes))

-- a message more, of which so much is said by a call
pub message_counted : {E : Type 0} (bytes : List ℕ) (effects : List Effect) (was mid now : Tally)
    (result : Result (Unit {0}) E) → effects ≡ said load_caps bytes → mid.messages ≡ was.messages + 1
    → mid.bytes ≡ was.bytes + length bytes → mid.lines ≡ was.lines → mid.done ≡ was.done → mid.errors ≡ was.errors
    → mid.announced ≡ was.announced → mid.withdrawn ≡ was.withdrawn → mid.left ≡ was.left
    → TakesEffects effects mid now result
    → OnOk result ((H : History) (n : ℕ) (last : Bool) → Tallies H was
    → Tallies (MessageCut n bytes (cut.Message last) ∷ H) now)
message_counted bytes effects was mid now (Err because) are messages more lines done errors announced withdrawn left
    took = tt
message_counted bytes effects was mid now (Ok done_) are messages more lines done errors announced withdrawn left took =
    λ H n last t. by_effects H n last t (said_more H bytes)
  where
    by_effects : (H : History) (n : ℕ) (last : Bool) → Tallies H was
        → flat_map (said load_caps) (messages_in H ++ bytes ∷ []) ≡ effects_in H ++ said load_caps bytes
        → Tallies (MessageCut n bytes (cut.Message last) ∷ H) now
    by_effects H n last t all = record {
      lines = took.lines ∙ lines ∙ t.lines;
      done = took.done ∙ done ∙ t.done;
      errors = took.errors ∙ errors ∙ t.errors;
      messages = took.messages ∙ messages ∙ ap (λ k. k + 1) t.messages
          ∙ sym (length-append (messages_in H) (bytes ∷ []));
      bytes = took.bytes ∙ more ∙ ap (λ k. k + length bytes) t.bytes ∙ sym (sizes H);
      announced = took.announced ∙ ap (λ k. k + count_by is_here effects) (announced ∙ t.announced)
          ∙ sym (counted is_here H all);
      withdrawn = took.withdrawn ∙ ap (λ k. k + count_by is_gone effects) (withdrawn ∙ t.withdrawn)
          ∙ sym (counted is_gone H all);
      left = subst (λ (es : List Effect). AreLeftAt es now.left)
          (ap (λ (es : List Effect). effects_in H ++ es) are ∙ sym all)
          (took.left (effects_in H) (subst (AreLeftAt (effects_in H)) (sym left) t.left));
    }
      where
        sizes : (H : History)
            → sum_by length (messages_in H ++ bytes ∷ []) ≡ sum_by length (messages_in H) + length bytes
        sizes H = omega (arith, sum_by-append length (messages_in H) (bytes ∷ []), sum_by-cons length bytes [])

        counted : (test : Effect → Bool) (H : History)
            → flat_map (said load_caps) (messages_in H ++ bytes ∷ []) ≡ effects_in H ++ said load_caps bytes
            → count_by test (flat_map (said load_caps) (messages_in H ++ bytes ∷ []))
            ≡ count_by test (effects_in H) + count_by test effects
        counted test H all =
            ap (count_by test) all ∙ count-append test (effects_in H) (said load_caps bytes)
            ∙ ap (λ (es : List Effect). count_by test (effects_in H) + count_by test es) (sym are)

-- ---- texts

-- the text of what a tally tells is that of what is counted
pub told_all : {V E : Type 0} (result : Result V E) (items : V → List ℕ) (count : ℕ) (tally : Tally) (left : ℕ)
    → IsDistinct same_key tally.left → left ≡ length tally.left
    → IfOk result (λ text. items text ≡ counts_text (counts_told count tally left))
    → IfOk result (λ text. (H : History) → Tallies H tally → items text ≡ counts_text (counts_of count H))
told_all (Ok text) items count tally left distinct is told = λ H t.
    told ∙ ap counts_text (counts_same count H tally left distinct is t)
told_all (Err because) items count tally left distinct is told = tt
