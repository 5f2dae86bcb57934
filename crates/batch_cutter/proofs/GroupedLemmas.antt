-- Messages that are made of grouped items are packed.
use Rattle.std.proofs.Common.{◌≡◌, ◌<◌, List, [], ◌∷◌, ◌++◌, length, map, arith, refl, ap, sym, ◌∙◌}
use Rattle.std.specs.List.{AllByRecursion}
use Rattle.route_values.specs.Caps.{Caps}
use Rattle.route_values.specs.declared.key.Key.{Key}
use Rattle.update_grammar.specs.Head.{Head}
use Rattle.update_grammar.specs.Head as head
use Rattle.update_grammar.specs.declared.effect.Effect.{Effect}
use Rattle.update_grammar.specs.declared.effect.Effect.TheVariants as effect
use Rattle.update_grammar.specs.Packed.{room, named_by, AreAlike, IsOneKind, HasNoRoomFor}
use Rattle.update_grammar.specs.Written.{written}
use Rattle.batch_cutter.specs.Filling.{IsAlone, IsClosed, GoesOn}
use Rattle.batch_cutter.specs.Grouped.{ComeFirst, AreGrouped, IsFullFor, IsNewTo, MayFollow}
use Rattle.batch_cutter.specs.Heads.{Fits}
use Rattle.batch_cutter.specs.Items.{Item, Gone, Here, End, keys_of, effects_of, said_by, IsFor}

-- being of one kind goes both ways, and from one to the next
alike_sym : (e f : Effect) → AreAlike e f → AreAlike f e
alike_sym (effect.Gone j) (effect.Gone k) h = sym h
alike_sym (effect.Here j v) (effect.Here k w) h = (sym h.0, sym h.1)
alike_sym (effect.Gone j) (effect.Here k w) h = absurd h
alike_sym (effect.Here j v) (effect.Gone k) h = absurd h

alike_trans : (e f g : Effect) → AreAlike e f → AreAlike f g → AreAlike e g
alike_trans (effect.Gone i) (effect.Gone j) (effect.Gone k) h l = h ∙ l
alike_trans (effect.Here i u) (effect.Here j v) (effect.Here k w) h l = (h.0 ∙ l.0, h.1 ∙ l.1)
alike_trans (effect.Gone i) (effect.Here j v) g h l = absurd h
alike_trans (effect.Here i u) (effect.Gone j) g h l = absurd h
alike_trans (effect.Gone i) (effect.Gone j) (effect.Here k w) h l = absurd l
alike_trans (effect.Here i u) (effect.Here j v) (effect.Gone k) h l = absurd l

kind_sym : (a b : List Effect) → IsOneKind a b → IsOneKind b a
kind_sym [] b h = absurd h
kind_sym (e ∷ es) [] h = absurd h
kind_sym (e ∷ es) (f ∷ fs) h = alike_sym e f h

kind_trans : (a b c : List Effect) → IsOneKind a b → IsOneKind b c → IsOneKind a c
kind_trans [] b c h i = absurd h
kind_trans (e ∷ es) [] c h i = absurd h
kind_trans (e ∷ es) (f ∷ fs) [] h i = absurd i
kind_trans (e ∷ es) (f ∷ fs) (g ∷ gs) h i = alike_trans e f g h i

-- a kind is that of the first effect
abbrev AreSame : List Effect → List Effect → Type 0
AreSame a b = ((others : List Effect) → IsOneKind a others → IsOneKind b others)
    × ((others : List Effect) → IsOneKind b others → IsOneKind a others)

first_kind : (e : Effect) (es fs others : List Effect) → IsOneKind (e ∷ es) others → IsOneKind (e ∷ fs) others
first_kind e es fs [] h = absurd h
first_kind e es fs (f ∷ others) h = h

first_same : (e : Effect) (es : List Effect) → AreSame (e ∷ []) (e ∷ es)
first_same e es = (first_kind e [] es, first_kind e es [])

no_items : (items : List Item) → length items ≡ 0 → items ≡ []
no_items [] is = refl
no_items (item ∷ items) is = absurd (omega (arith, is))

items_same : (h : Head) (item : Item) (more : List Item) → IsFor h item → IsAlone h (item ∷ more)
    → AreSame (effects_of item) (said_by (item ∷ more))
items_same h (Gone key) more for_it alone = first_same (effect.Gone key) (said_by more)
items_same h (Here number key attrs) more for_it alone = first_same (effect.Here key attrs) (said_by more)
items_same (head.End family) (End other) more for_it alone =
    rw (no_items more (omega (arith, alone))) ((λ others h. h), (λ others h. h))
items_same (head.Gone family) (End other) more for_it alone = absurd for_it
items_same (head.Here family w) (End other) more for_it alone = absurd for_it

-- lists by their ends
all_drop : {A : Type 0} (P : A → Type 0) (front back : List A) → AllByRecursion P (front ++ back)
    → AllByRecursion P back
all_drop P [] back all = all
all_drop P (x ∷ front) back all = all_drop P front back all.1

come_drop : (effects : List Effect) (more left : List Item) → ComeFirst effects (more ++ left) → ComeFirst effects left
come_drop effects [] left first = first
come_drop effects (item ∷ more) left first = come_drop effects more left first.1

-- what holds of a kind holds of each message of it
all_as : {A : Type 0} (P Q : A → Type 0) (xs : List A) → ((x : A) → P x → Q x) → AllByRecursion P xs
    → AllByRecursion Q xs
all_as P Q [] step all = tt
all_as P Q (x ∷ xs) step all = (step x all.0, all_as P Q xs step all.1)

come_as : (a b : List Effect) (items : List Item) → AreSame a b → ComeFirst a items → ComeFirst b items
come_as a b [] same first = tt
come_as a b (item ∷ items) same first = (
  all_as _ _ items (λ later is h. same.0 _ (is (same.1 _ h))) first.0,
  come_as a b items same first.1,
)

-- a message has room for a first key where it has room for the first item
no_room : (caps : Caps) (effects : List Effect) (h : Head) (item : Item) (more : List Item) → IsFor h item
    → IsAlone h (item ∷ more) → HasNoRoomFor caps effects (effects_of item)
    → HasNoRoomFor caps effects (said_by (item ∷ more))
no_room caps effects h (Gone key) more for_it alone full = full
no_room caps effects h (Here number key attrs) more for_it alone full = full
no_room caps effects (head.End family) (End other) more for_it alone full =
    rw (no_items more (omega (arith, alone))) tt
no_room caps effects (head.Gone family) (End other) more for_it alone full = absurd for_it
no_room caps effects (head.Here family w) (End other) more for_it alone full = absurd for_it

-- what is of one kind with an item of a message goes into it
for_kind : (h : Head) (item other : Item) → IsFor h item → IsOneKind (effects_of item) (effects_of other)
    → IsFor h other
for_kind (head.Gone family) (Gone j) (Gone k) for_it h = sym h ∙ for_it
for_kind (head.Here family w) (Here m j v) (Here n k u) for_it h = (sym h.0 ∙ for_it.0, sym h.1 ∙ for_it.1)
for_kind h (Gone j) (Here n k u) for_it same = absurd same
for_kind h (Gone j) (End other) for_it same = absurd same
for_kind h (Here m j v) (Gone k) for_it same = absurd same
for_kind h (Here m j v) (End other) for_it same = absurd same
for_kind h (End family) other for_it same = absurd same
for_kind (head.Here family w) (Gone j) (Gone k) for_it same = absurd for_it
for_kind (head.End family) (Gone j) (Gone k) for_it same = absurd for_it
for_kind (head.Gone family) (Here m j v) (Here n k u) for_it same = absurd for_it
for_kind (head.End family) (Here m j v) (Here n k u) for_it same = absurd for_it

-- the keys that a message names
named : (items : List Item) → map named_by (said_by items) ≡ keys_of items
named [] = refl
named (Gone key ∷ items) = ap (λ ks. key ∷ ks) (named items)
named (Here number key attrs ∷ items) = ap (λ ks. key ∷ ks) (named items)
named (End family ∷ items) = named items

longer : (caps : Caps) (h : Head) (keys : List Key) → ¬ (Fits caps h keys) → room caps < length (written caps h keys)
longer caps h keys long = omega (arith, long)

-- the message with one more key, by its effects
no_room_for : (caps : Caps) (h : Head) (item : Item) (more : List Item) (e : Effect) → IsFor h item
    → ¬ (Fits caps h (keys_of (item ∷ more) ++ named_by e ∷ [])) → IsOneKind (effects_of item) (e ∷ [])
    → HasNoRoomFor caps (said_by (item ∷ more)) (e ∷ [])
no_room_for caps (head.Gone family) (Gone k) more e for_it long same =
    rw for_it (rw (named more) (longer caps (head.Gone family) (keys_of (Gone k ∷ more) ++ named_by e ∷ []) long))
no_room_for caps (head.Here family w) (Here n k v) more e for_it long same =
    rw for_it.0 (rw for_it.1 (rw (named more)
    (longer caps (head.Here family w) (keys_of (Here n k v ∷ more) ++ named_by e ∷ []) long)))
no_room_for caps (head.Gone family) (Here n k v) more e for_it long same = absurd for_it
no_room_for caps (head.End family) (Here n k v) more e for_it long same = absurd for_it
no_room_for caps (head.Here family w) (Gone k) more e for_it long same = absurd for_it
no_room_for caps (head.End family) (Gone k) more e for_it long same = absurd for_it
no_room_for caps h (End other) more e for_it long same = absurd same

-- a closed message is full for what is left
full_left : (caps : Caps) (h : Head) (item : Item) (more left : List Item) → IsFor h item
    → AreSame (effects_of item) (said_by (item ∷ more)) → IsClosed caps h (keys_of (item ∷ more)) left
    → IsFullFor caps (said_by (item ∷ more)) left
full_left caps h item more [] for_it same closed = tt
full_left caps h item more (Gone key ∷ left) for_it same closed = λ one.
    no_room_for caps h item more (effect.Gone key) for_it
    (closed (for_kind h item (Gone key) for_it (same.1 (effect.Gone key ∷ []) one)))
    (same.1 (effect.Gone key ∷ []) one)
full_left caps h item more (Here number key attrs ∷ left) for_it same closed = λ one.
    no_room_for caps h item more (effect.Here key attrs) for_it
    (closed (for_kind h item (Here number key attrs) for_it (same.1 (effect.Here key attrs ∷ []) one)))
    (same.1 (effect.Here key attrs ∷ []) one)
full_left caps h item more (End family ∷ left) for_it same closed = λ one. tt

-- what is left is new to the messages before
none_before : (effects : List Effect) (left : List Item) → AllByRecursion (IsNewTo effects []) left
none_before effects [] = tt
none_before effects (item ∷ left) = ((λ other. tt), none_before effects left)

new_behind : (effects m : List Effect) (ms : List (List Effect)) (item : Item) (left : List Item)
    → AreSame (effects_of item) effects
    → AllByRecursion (λ later. IsOneKind m (effects_of later) → IsOneKind m (effects_of item)) left
    → AllByRecursion (IsNewTo m ms) left → AllByRecursion (IsNewTo effects (m ∷ ms)) left
new_behind effects m ms item [] same first new = tt
new_behind effects m ms item (later ∷ left) same first new = (
  λ other.
      let not_before : ¬ (IsOneKind m (effects_of later)) = λ one.
      other (same.0 (effects_of later)
      (kind_trans (effects_of item) m (effects_of later) (kind_sym m (effects_of item) (first.0 one)) one)) in
      (not_before, new.0 not_before),
  new_behind effects m ms item left same first.1 new.1,
)

-- A message of the items at the front goes on with a batch of packed messages.
pub goes_on : (caps : Caps) (h : Head) (item : Item) (more left : List Item) (messages : List (List Effect))
    → IsFor h item → IsAlone h (item ∷ more) → IsClosed caps h (keys_of (item ∷ more)) left
    → AreGrouped (item ∷ (more ++ left)) → MayFollow caps messages (item ∷ (more ++ left))
    → GoesOn caps (said_by (item ∷ more)) left messages
goes_on caps h item more left [] for_it alone closed grouped follow =
    let same = items_same h item more for_it alone in
    record {
      packed = tt;
      follow = record {
        full = full_left caps h item more left for_it same closed;
        first = come_as (effects_of item) (said_by (item ∷ more)) left same
            (come_drop (effects_of item) more left grouped.0);
        new = none_before (said_by (item ∷ more)) left;
      };
    }
goes_on caps h item more left (m ∷ ms) for_it alone closed grouped follow =
    let effects : List Effect = said_by (item ∷ more) in
    let same : AreSame (effects_of item) effects = items_same h item more for_it alone in
    let to_item : (other : List Effect) → IsOneKind other effects → IsOneKind other (effects_of item) =
    λ other one. kind_sym (effects_of item) other (same.1 other (kind_sym other effects one)) in
    let from_item : (other : List Effect) → IsOneKind other (effects_of item) → IsOneKind other effects =
    λ other one. kind_sym effects other (same.0 other (kind_sym other (effects_of item) one)) in
    record {
      packed = record {
        full = λ one. no_room caps m h item more for_it alone (follow.full (to_item m one));
        together = λ apart. all_as (λ other. ¬ (IsOneKind other (effects_of item)))
            (λ other. ¬ (IsOneKind other effects)) ms
            (λ other none one. none (to_item other one)) (follow.new.0 (λ one. apart (from_item m one)));
      };
      follow = record {
        full = full_left caps h item more left for_it same closed;
        first = come_as (effects_of item) effects left same (come_drop (effects_of item) more left grouped.0);
        new = new_behind effects m ms item left same
            (all_drop (λ later. IsOneKind m (effects_of later) → IsOneKind m (effects_of item)) more left
            follow.first.0)
            (all_drop (IsNewTo m ms) more left follow.new.1);
      };
    }
