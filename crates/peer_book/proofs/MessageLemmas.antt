-- A message that was made of the items that are left is one that may be cut.
use Rattle.std.proofs.Common.{◌≡◌, ℕ, ◌<◌, ◌≤◌, Bool, true, false, not, List, [], ◌∷◌, ◌++◌, length, Some, None, refl}
use Rattle.std.proofs.Common.{sym, ap, ◌∙◌, subst, arith}
use Rattle.std.specs.Prelude.{◌&&◌, ◌||◌, map, Option, if◌then◌else◌}
use Rattle.std.specs.List.{AllByRecursion}
use Rattle.route_values.specs.declared.addr.Family.{Family}
use Rattle.route_values.specs.declared.attrs.WireAttrs.{WireAttrs}
use Rattle.route_values.specs.declared.key.Key.{Key}
use Rattle.route_values.specs.Caps.{Caps}
use Rattle.route_values.specs.Key.{family_of_key}
use Rattle.update_grammar.specs.Head.{Head}
use Rattle.update_grammar.specs.Head as head
use Rattle.update_grammar.specs.Laws.{HereIsSpelled, GoneIsSpelled, EndIsSpelled}
use Rattle.update_grammar.specs.Net.{net}
use Rattle.update_grammar.specs.Packed.{named_by, room, IsPackedBehind}
use Rattle.update_grammar.specs.Update.{Spells}
use Rattle.update_grammar.specs.Written.{written, body_of, IsCarried}
use Rattle.batch_cutter.specs.Filling.{Fills, GoesOn}
use Rattle.batch_cutter.specs.Heads.{IsRoute, Fits, family_of_head}
use Rattle.batch_cutter.specs.Items as batch
use Rattle.batch_cutter.specs.Items.{keys_of, said_by, IsFor}
use Rattle.adj_rib_out.specs.State.{State, told_at}
use Rattle.adj_rib_out.specs.Batch.{attrs_said, item_at}
use Rattle.adj_rib_out.specs.Batch as table
use Rattle.adj_rib_out.specs.Told.{items_left}
use Rattle.peer_history.specs.Batches.{first_cut, batch, is_left, is_owed, is_marker_owed}
use Rattle.peer_history.specs.Cuts.{AreLeft, IsDue}
use Rattle.peer_history.specs.Keys.{is_named}
use Rattle.peer_history.specs.Messages.{said, said_each, mentions, marks, is_marked, meant, value_given}
use Rattle.peer_history.specs.Sessions.{session_effects}
use Rattle.peer_history.specs.Steps.{Step}
use Rattle.peer_history.specs.Steps.Step.{Cut}
use Rattle.peer_history.specs.Steps.Answer.{Message}
use Rattle.peer_history.specs.Table.{view}
use Rattle.peer_history.proofs.KeyLemmas.{is_named-append}
use Rattle.peer_history.proofs.MessageLemmas.{Grammar, AreFor, head_marks, net_meant, names_keys, said_is}
use Rattle.peer_history.proofs.MessageLemmas.{written_marks}
use Rattle.peer_book.specs.Slot.{SaysRoute, IsSayable, IsSound}
use Rattle.peer_book.specs.Stands.{LeavesBatch, session_kept}
use Rattle.peer_book.proofs.SoundLemmas.{all_at, item_key}
use Rattle.peer_book.proofs.PassLemmas.{Passing, HasValue, PassesKeys, NamesKeys, pass_items, some_of-same, all-map}
use Rattle.peer_book.proofs.ReadyLemmas.{IsReady, families_same}

-- the laws of the grammar that a cut rests on
pub record Texts : Type 0 where
  pub grammar : Grammar
  pub here : (family : Family) → HereIsSpelled family
  pub gone : (family : Family) → GoneIsSpelled family
  pub end : (family : Family) → EndIsSpelled family

-- a message that was made of what is left, and what is left behind it
pub record IsSaid (caps : Caps) (steps : List Step) (new : State) (bytes : List ℕ) (h : Head) (keys : List Key)
    : Type 0 where
  pub text : bytes ≡ written caps h keys
  pub fits : Fits caps h keys
  pub spelled : Spells caps (body_of bytes) (meant h keys)
  pub due : IsDue caps steps h keys
  pub packed : IsPackedBehind caps (said caps bytes) (said_each caps (batch steps))
  pub leaves : LeavesBatch caps (first_cut steps) (bytes ∷ batch steps) new
  pub told : (key : Key) → told_at new key ≡ net (session_effects caps steps ++ said caps bytes) key

pub room_small : (caps : Caps) → room caps ≤ 65535
room_small caps = elim caps.extended as (λ b. (if b then 65535 else 4096) ≤ 65535) [
  | true ↦ omega arith
  | false ↦ omega arith
]

-- ---- the keys of a message

-- they are of the head's family
keys_family : (h : Head) (items : List batch.Item) → NamesKeys h → AllByRecursion (IsFor h) items
    → AllByRecursion (λ key. family_of_key key ≡ family_of_head h) (keys_of items)
keys_family h [] names alike = tt
keys_family (head.Gone f) (batch.Gone key ∷ items) names alike =
    (alike.0, keys_family (head.Gone f) items names alike.1)
keys_family (head.Gone f) (batch.Here n key w ∷ items) names alike = absurd alike.0
keys_family (head.Gone f) (batch.End g ∷ items) names alike = absurd alike.0
keys_family (head.Here f v) (batch.Here n key w ∷ items) names alike =
    (alike.0.0, keys_family (head.Here f v) items names alike.1)
keys_family (head.Here f v) (batch.Gone key ∷ items) names alike = absurd alike.0
keys_family (head.Here f v) (batch.End g ∷ items) names alike = absurd alike.0
keys_family (head.End f) (item ∷ items) names alike = absurd names

-- the items say what the message is meant to
items_meant : (h : Head) (items : List batch.Item) → NamesKeys h → AllByRecursion (IsFor h) items
    → said_by items ≡ meant h (keys_of items)
items_meant (head.Gone f) [] names alike = refl
items_meant (head.Here f v) [] names alike = refl
items_meant (head.Gone f) (batch.Gone key ∷ items) names alike =
    ap (λ es. Rattle.update_grammar.specs.declared.effect.Effect.TheVariants.Gone key ∷ es)
    (items_meant (head.Gone f) items names alike.1)
items_meant (head.Gone f) (batch.Here n key w ∷ items) names alike = absurd alike.0
items_meant (head.Gone f) (batch.End g ∷ items) names alike = absurd alike.0
items_meant (head.Here f v) (batch.Here n key w ∷ items) names alike =
    ap (λ a. Rattle.update_grammar.specs.declared.effect.Effect.TheVariants.Here key a ∷ said_by items) alike.0.1
    ∙ ap (λ es. Rattle.update_grammar.specs.declared.effect.Effect.TheVariants.Here key v ∷ es)
    (items_meant (head.Here f v) items names alike.1)
items_meant (head.Here f v) (batch.Gone key ∷ items) names alike = absurd alike.0
items_meant (head.Here f v) (batch.End g ∷ items) names alike = absurd alike.0
items_meant (head.End f) items names alike = absurd names

-- there is one
keys_some : (h : Head) (items : List batch.Item) → NamesKeys h → AllByRecursion (IsFor h) items → 0 < length items
    → 0 < length (keys_of items)
keys_some h [] names alike some = absurd (omega arith)
keys_some (head.Gone f) (batch.Gone key ∷ items) names alike some = omega arith
keys_some (head.Gone f) (batch.Here n key w ∷ items) names alike some = absurd alike.0
keys_some (head.Gone f) (batch.End g ∷ items) names alike some = absurd alike.0
keys_some (head.Here f v) (batch.Here n key w ∷ items) names alike some = omega arith
keys_some (head.Here f v) (batch.Gone key ∷ items) names alike some = absurd alike.0
keys_some (head.Here f v) (batch.End g ∷ items) names alike some = absurd alike.0
keys_some (head.End f) (item ∷ items) names alike some = absurd names

all-both : (P Q R : Key → Type 0) (keys : List Key) → ((key : Key) → P key → Q key → R key) → AllByRecursion P keys
    → AllByRecursion Q keys → AllByRecursion R keys
all-both P Q R [] to p q = tt
all-both P Q R (k ∷ ks) to p q = (to k p.0 q.0, all-both P Q R ks to p.1 q.1)

-- the session carries a key that is left
key_carried : (caps : Caps) (mid : State) (family : Family) (value : Option WireAttrs)
    → AllByRecursion (IsSayable caps) mid.left → (key : Key) → HasValue mid value key → family_of_key key ≡ family
    → IsCarried caps family key
key_carried caps mid family value all key has is =
    let sayable = all_at (IsSayable caps) mid.left key has.0 all has.1 in
    subst (λ f. IsCarried caps f key) is
    (subst (λ k. IsCarried caps (family_of_key k) k) (item_key mid.left key has.0 has.1) sayable.carried)

-- what is announced is a route of its family
key_route : (caps : Caps) (mid : State) (family : Family) (w : WireAttrs) → AllByRecursion (IsSayable caps) mid.left
    → (key : Key) → HasValue mid (Some w) key → family_of_key key ≡ family → IsRoute family w
key_route caps mid family w all key has is =
    let sayable = all_at (IsSayable caps) mid.left key has.0 all has.1 in
    subst (λ f. IsRoute f w) is
    (subst (λ k. IsRoute (family_of_key k) w) (item_key mid.left key has.0 has.1)
    (subst (SaysRoute has.0.key) has.2 sayable.says))

keys_route : (caps : Caps) (mid : State) (family : Family) (w : WireAttrs) (keys : List Key)
    → AllByRecursion (IsSayable caps) mid.left → AllByRecursion (HasValue mid (Some w)) keys
    → AllByRecursion (λ key. family_of_key key ≡ family) keys → 0 < length keys → IsRoute family w
keys_route caps mid family w [] all has are some = absurd (omega arith)
keys_route caps mid family w (k ∷ ks) all has are some = key_route caps mid family w all k has.0 are.0

regroup : (o n m : Bool) → ((o && not n) && not m) ≡ (o && not (m || n))
regroup false n m = refl
regroup true true true = refl
regroup true true false = refl
regroup true false true = refl
regroup true false false = refl

-- the family and the value of a head
pub keys_for : (h : Head) (keys : List Key) → NamesKeys h → 0 < length keys → AreFor h keys
keys_for (head.Gone family) keys names some = some
keys_for (head.Here family w) keys names some = some
keys_for (head.End family) keys names some = absurd names

no_marks : (h : Head) (f : Family) → NamesKeys h → head_marks h f ≡ false
no_marks (head.Gone family) f names = refl
no_marks (head.Here family w) f names = refl
no_marks (head.End family) f names = absurd names

keys_due : (caps : Caps) (steps : List Step) (h : Head) (keys : List Key) → NamesKeys h
    → AreLeft caps steps (family_of_head h) (value_given h) keys → IsDue caps steps h keys
keys_due caps steps (head.Gone family) keys names left = left
keys_due caps steps (head.Here family w) keys names left = left
keys_due caps steps (head.End family) keys names left = absurd names

spelled_by : (texts : Texts) (caps : Caps) (mid : State) (h : Head) (keys : List Key) → NamesKeys h
    → AllByRecursion (IsSayable caps) mid.left → AllByRecursion (HasValue mid (value_given h)) keys
    → AllByRecursion (λ key. family_of_key key ≡ family_of_head h) keys → 0 < length keys → Fits caps h keys
    → Spells caps (body_of (written caps h keys)) (meant h keys)
spelled_by texts caps mid (head.Gone family) keys names all has are some fits =
    texts.gone family caps keys
    (all-both _ _ _ keys (λ key v f. key_carried caps mid family None all key v f) has are)
    (let small = room_small caps in omega (arith, fits, small))
spelled_by texts caps mid (head.Here family w) keys names all has are some fits =
    texts.here family caps w keys (keys_route caps mid family w keys all has are some).sendable
    (all-both _ _ _ keys (λ key v f. key_carried caps mid family (Some w) all key v f) has are)
    (let small = room_small caps in omega (arith, fits, small))
spelled_by texts caps mid (head.End family) keys names all has are some fits = absurd names

-- ---- what a message of keys leaves

module _ (texts : Texts) (caps : Caps) (steps : List Step) (mid new : State) (bytes : List ℕ)
    (ready : IsReady caps steps mid) (sound : IsSound mid) (fills : Fills items_left Passing caps mid new bytes)
    (names : NamesKeys fills.head) where
  keys : List Key
  keys = keys_of fills.items

  passes : PassesKeys mid new (keys_of fills.items) (value_given fills.head)
  passes = pass_items fills.head fills.items mid new names fills.message.alike fills.split fills.passed sound.once

  all_left : AllByRecursion (IsSayable caps) mid.left
  all_left = sound.left (session_kept caps (Cut (Message [] false) ∷ steps)) ready.session

  of_family : AllByRecursion (λ key. family_of_key key ≡ family_of_head fills.head) (keys_of fills.items)
  of_family = keys_family fills.head fills.items names fills.message.alike

  some_keys : 0 < length (keys_of fills.items)
  some_keys = keys_some fills.head fills.items names fills.message.alike fills.message.some

  are_for : AreFor fills.head (keys_of fills.items)
  are_for = keys_for fills.head (keys_of fills.items) names some_keys

  spells : Spells caps (body_of bytes) (meant fills.head (keys_of fills.items))
  spells = subst (λ b. Spells caps (body_of b) (meant fills.head (keys_of fills.items))) (sym fills.message.text)
      (spelled_by texts caps mid fills.head (keys_of fills.items) names all_left passes.values of_family some_keys
      fills.message.fits)

  says : said caps bytes ≡ meant fills.head (keys_of fills.items)
  says = said_is texts.grammar caps bytes (meant fills.head (keys_of fills.items)) spells

  said_items : said_by fills.items ≡ said caps bytes
  said_items = items_meant fills.head fills.items names fills.message.alike ∙ sym says

  goes_on : GoesOn caps (said caps bytes) (items_left new) (said_each caps (batch steps))
  goes_on = subst (λ effects. GoesOn caps effects (items_left new) (said_each caps (batch steps))) said_items
      (fills.packed (said_each caps (batch steps)) ready.leaves.follow)

  are_left : AreLeft caps steps (family_of_head fills.head) (value_given fills.head) (keys_of fills.items)
  are_left = record {
    some = some_keys;
    left = some_of-same (keys_of fills.items) (table.is_left mid.left) (is_left caps steps) ready.leaves.left
        passes.named;
    of_family = of_family;
    of_value = all-map (HasValue mid (value_given fills.head))
        (λ key. view caps (first_cut steps) key ≡ value_given fills.head) (keys_of fills.items)
        (λ key has. sym (ready.leaves.says key has.0 has.1) ∙ has.2) passes.values;
  }

  named : mentions caps (bytes ∷ batch steps) ≡ keys_of fills.items ++ mentions caps (batch steps)
  named = ap (λ effects. map named_by effects ++ mentions caps (batch steps)) says
      ∙ ap (λ ks. ks ++ mentions caps (batch steps)) (names_keys fills.head (keys_of fills.items) are_for)

  unmarked : (family : Family) → marks family bytes ≡ false
  unmarked family = ap (marks family) fills.message.text
      ∙ written_marks texts.grammar caps fills.head (keys_of fills.items) are_for family
      ∙ no_marks fills.head family names

  leaves : LeavesBatch caps (first_cut steps) (bytes ∷ batch steps) new
  leaves = record {
    left = λ key. passes.left key ∙ ap (λ b. b && not (is_named (keys_of fills.items) key)) (ready.leaves.left key)
        ∙ regroup (is_owed caps (first_cut steps) key) (is_named (mentions caps (batch steps)) key)
        (is_named (keys_of fills.items) key)
        ∙ ap (λ b. is_owed caps (first_cut steps) key && not b)
        (sym (is_named-append (keys_of fills.items) (mentions caps (batch steps)) key)
        ∙ ap (λ ks. is_named ks key) (sym named));
    says = λ key item is. ready.leaves.says key item (passes.says key item is);
    markers = passes.markers ∙ ready.leaves.markers
        ∙ families_same _ _ (λ f. ap (λ b. is_marker_owed caps (first_cut steps) f
        && not (b || is_marked f (batch steps)))
        (sym (unmarked f)));
    follow = goes_on.follow;
  }

  pub said_keys : IsSaid caps steps new bytes fills.head (keys_of fills.items)
  said_keys = record {
    text = fills.message.text;
    fits = fills.message.fits;
    spelled = spells;
    due = keys_due caps steps fills.head (keys_of fills.items) names are_left;
    packed = goes_on.packed;
    leaves = leaves;
    told = λ key. passes.told key
        ∙ ap (λ (w : Option WireAttrs). if is_named (keys_of fills.items) key then value_given fills.head else w)
        (ready.told key)
        ∙ sym (net_meant (session_effects caps steps) fills.head (keys_of fills.items) key
        (names_keys fills.head (keys_of fills.items) are_for))
        ∙ ap (λ effects. net (session_effects caps steps ++ effects) key) (sym says);
  }
