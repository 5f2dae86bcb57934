-- What the items of a message leave of the table.
use Rattle.std.proofs.Common.{◌≡◌, ℕ, Bool, true, false, not, List, [], ◌∷◌, ◌++◌, drop, Some, None, refl}
use Rattle.std.proofs.Common.{sym, ap, ◌∙◌, subst}
use Rattle.std.specs.Prelude.{◌&&◌, ◌||◌, map, Option, is_some, if◌then◌else◌}
use Rattle.std.specs.Bool.{OnTrue}
use Rattle.std.specs.Option.{option_map}
use Rattle.std.specs.List.{AllByRecursion}
use Rattle.route_values.specs.declared.addr.Family.{Family}
use Rattle.route_values.specs.declared.attrs.WireAttrs.{WireAttrs}
use Rattle.route_values.specs.declared.key.Key.{Key}
use Rattle.route_values.specs.Caps.{Caps}
use Rattle.route_values.specs.Key.{family_of_key, same_key}
use Rattle.route_values.proofs.KeyLemmas.{same_key_is, same_key-self}
use Rattle.update_grammar.specs.Head.{Head}
use Rattle.update_grammar.specs.Head as head
use Rattle.update_grammar.specs.Written.{IsCarried}
use Rattle.batch_cutter.specs.Items as batch
use Rattle.batch_cutter.specs.Items.{keys_of, IsFor}
use Rattle.batch_cutter.specs.Filling.{CanFill, PassesEach}
use Rattle.adj_rib_out.specs.State.{State, Session, Item, told_at}
use Rattle.adj_rib_out.specs.Batch.{attrs_said, item_at, is_left, AreOnce}
use Rattle.adj_rib_out.specs.Calls.{KeepsRoutes, Passes, PassesDue, PassesItem}
use Rattle.adj_rib_out.specs.Told.{items_left, batch_item, item_by}
use Rattle.peer_history.specs.Keys.{is_named, AreSomeOf}
use Rattle.peer_history.specs.Messages.{value_given}
use Rattle.peer_book.specs.Slot.{SaysRoute, IsSayable, IsSound}
use Rattle.peer_book.proofs.SoundLemmas.{item_first, item_later}

-- what is ensured where the answer is true
pub told_true : {P : Type 0} (result : Bool) → result ≡ true → OnTrue result P → P
told_true true is holds = holds
told_true false is holds = absurd cc

-- one item or marker is passed
pass_sound : (left : List Item) (old new : State) → old.left ≡ left → IsSound old → Passes old new
    → PassesDue left old new → IsSound new
pass_sound [] old new at sound passes due = record {
  routes = λ key route is. sound.routes key route (sym (passes.routes.routes key) ∙ is);
  sent = λ key route is. sound.sent key route (sym (passes.routes.routes key) ∙ is)
      ∙ ap (Rattle.route_values.specs.Sent.sent route.written) (sym passes.routes.side);
  told = λ session key is there.
      sound.told session key (sym passes.session ∙ is) (sym (ap is_some (due.told key)) ∙ there);
  left = λ session is. subst (AllByRecursion (IsSayable session.caps)) (sym due.left)
      (sound.left session (sym passes.session ∙ is));
  once = subst AreOnce (sym due.left) sound.once;
}
pass_sound (item ∷ items) old new at sound passes due =
    let rest : new.left ≡ items = due.left ∙ ap (drop 1) at in
    let all : (session : Session) → new.session ≡ Some session
    → AllByRecursion (IsSayable session.caps) (item ∷ items) =
    λ session is. subst (AllByRecursion (IsSayable session.caps)) at (sound.left session (sym passes.session ∙ is)) in
    record {
      routes = λ key route is. sound.routes key route (sym (passes.routes.routes key) ∙ is);
      sent = λ key route is. sound.sent key route (sym (passes.routes.routes key) ∙ is)
          ∙ ap (Rattle.route_values.specs.Sent.sent route.written) (sym passes.routes.side);
      told = λ session key is there.
          elim (same_key item.key key) as (λ b. same_key item.key key ≡ b
          → is_some (if b then attrs_said item.says else told_at old key) ≡ true
          → IsCarried session.caps (family_of_key key) key) [
            | true ↦ λ same e. subst (λ k. IsCarried session.caps (family_of_key k) k) (same_key_is item.key key same)
                (all session is).0.carried
            | false ↦ λ other e. sound.told session key (sym passes.session ∙ is) e
          ] refl (sym (ap is_some (due.told key)) ∙ there);
      left = λ session is. subst (AllByRecursion (IsSayable session.caps)) (sym rest) (all session is).1;
      once = subst AreOnce (sym rest) (subst AreOnce at sound.once).1;
    }

abbrev pub Passing : State → batch.Item → State → Type 0
Passing old item new = Passes old new

pub passes_sound : (items : List batch.Item) (old new : State) → IsSound old → PassesEach Passing items old new
    → IsSound new
passes_sound [] old new sound same = subst IsSound (sym same) sound
passes_sound (item ∷ items) old new sound passed =
    passes_sound items passed.0 new (pass_sound old.left old passed.0 refl sound passed.1 passed.1.due) passed.2

pub passes_session : (items : List batch.Item) (old new : State) → PassesEach Passing items old new
    → new.session ≡ old.session
passes_session [] old new same = ap (λ (s : State). s.session) same
passes_session (item ∷ items) old new passed =
    passes_session items passed.0 new passed.2 ∙ passed.1.session

pub passes_routes : (items : List batch.Item) (old new : State) → PassesEach Passing items old new
    → KeepsRoutes old new
passes_routes [] old new same = record {
  side = ap (λ (s : State). s.side) same;
  routes = λ key. ap (λ (s : State). Rattle.adj_rib_out.specs.State.route_at s key) same;
}
passes_routes (item ∷ items) old new passed =
    let rest = passes_routes items passed.0 new passed.2 in
    record {
      side = rest.side ∙ passed.1.routes.side;
      routes = λ key. rest.routes key ∙ passed.1.routes.routes key;
    }

-- what comes first can be said
can_fill_left : (caps : Caps) (left : List Item) (markers : List Family) → AllByRecursion (IsSayable caps) left
    → CanFill (map batch_item left ++ map batch.End markers)
can_fill_left caps [] [] all = tt
can_fill_left caps [] (f ∷ fs) all = tt
can_fill_left caps (item ∷ items) markers all =
    can_say item.key item.says (map batch_item items ++ map batch.End markers) all.0.says
  where
    can_say : (key : Key) (says : Option (ℕ × WireAttrs)) (rest : List batch.Item) → SaysRoute key (attrs_said says)
        → CanFill (item_by key says ∷ rest)
    can_say key None rest says = tt
    can_say key (Some said) rest says = says

pub can_fill : (caps : Caps) (state : State) → IsSound state
    → option_map (λ (s : Session). s.caps) state.session ≡ Some caps → CanFill (items_left state)
can_fill caps state sound at = by_session state.session refl at
  where
    by_session : (session : Option Session) → state.session ≡ session
        → option_map (λ (s : Session). s.caps) session ≡ Some caps → CanFill (items_left state)
    by_session None is at = absurd cc
    by_session (Some session) is at =
        can_fill_left session.caps state.left state.markers (sound.left session is)

-- ---- keys

-- what the batch will say of a key
abbrev pub HasValue : State → Option WireAttrs → Key → Type 0
HasValue old value key = (item : Item) × (item_at old.left key ≡ Some item) × (attrs_said item.says ≡ value)

-- these keys were left, each once, and are passed, with one value
pub record PassesKeys (old new : State) (keys : List Key) (value : Option WireAttrs) : Type 0 where
  pub told : (key : Key) → told_at new key ≡ (if is_named keys key then value else told_at old key)
  pub left : (key : Key) → is_left new.left key ≡ (is_left old.left key && not (is_named keys key))
  pub says : (key : Key) (item : Item) → item_at new.left key ≡ Some item → item_at old.left key ≡ Some item
  pub markers : new.markers ≡ old.markers
  pub named : AreSomeOf (is_left old.left) keys
  pub values : AllByRecursion (HasValue old value) keys
  pub once : AreOnce new.left

or_none : (b : Bool) → b ≡ (b || false)
or_none true = refl
or_none false = refl

-- a key that was left once is left no longer
less_one : (i : Item) (is : List Item) (key : Key) → is_left is i.key ≡ false
    → is_left is key ≡ ((same_key i.key key || is_left is key) && not (same_key i.key key || false))
less_one i is key once =
    elim (same_key i.key key) as (λ b. same_key i.key key ≡ b
    → is_left is key ≡ ((b || is_left is key) && not (b || false))) [
      | true ↦ λ same. ap (is_left is) (sym (same_key_is i.key key same)) ∙ once
      | false ↦ λ other. and_yes (is_left is key)
    ] refl
  where
    and_yes : (b : Bool) → b ≡ (b && true)
    and_yes true = refl
    and_yes false = refl

pass_one : (i : Item) (is : List Item) (old new : State) → old.left ≡ i ∷ is → AreOnce old.left → Passes old new
    → PassesKeys old new (i.key ∷ []) (attrs_said i.says)
pass_one i is old new at once passes =
    let due : PassesItem old new i = subst (λ l. PassesDue l old new) at passes.due in
    let rest : new.left ≡ is = due.left ∙ ap (drop 1) at in
    let all = subst AreOnce at once in
    record {
      told = λ key. due.told key
          ∙ ap (λ b. if b then attrs_said i.says else told_at old key) (or_none (same_key i.key key));
      left = λ key. ap (λ l. is_left l key) rest ∙ less_one i is key all.0
          ∙ ap (λ l. is_left l key && not (same_key i.key key || false)) (sym at);
      says = λ key item is_at. ap (λ l. item_at l key) at
          ∙ item_later i is key item all.0 (ap (λ l. item_at l key) (sym rest) ∙ is_at);
      markers = due.markers;
      named = (ap (λ l. is_left l i.key) at ∙ ap (λ b. b || is_left is i.key) (same_key-self i.key), tt);
      values = ((i, ap (λ l. item_at l i.key) at ∙ item_first i is, refl), tt);
      once = subst AreOnce (sym rest) all.1;
    }

pub some_of-same : (keys : List Key) (p q : Key → Bool) → ((key : Key) → p key ≡ q key) → AreSomeOf p keys
    → AreSomeOf q keys
some_of-same [] p q same some = tt
some_of-same (k ∷ ks) p q same some = (
  sym (same k) ∙ some.0,
  some_of-same ks (λ key. p key && not (same_key k key)) (λ key. q key && not (same_key k key))
      (λ key. ap (λ b. b && not (same_key k key)) (same key)) some.1,
)

pub all-map : {A : Type 0} (P Q : A → Type 0) (items : List A) → ((item : A) → P item → Q item)
    → AllByRecursion P items → AllByRecursion Q items
all-map P Q [] to all = tt
all-map P Q (item ∷ items) to all = (to item all.0, all-map P Q items to all.1)

told_both : {A : Type 0} (named same : Bool) (value other : A)
    → (if named then value else (if same || false then value else other)) ≡ (if same || named then value else other)
told_both true true value other = refl
told_both true false value other = refl
told_both false true value other = refl
told_both false false value other = refl

left_both : (left same named : Bool) → ((left && not (same || false)) && not named) ≡ (left && not (same || named))
left_both false same named = refl
left_both true true named = refl
left_both true false true = refl
left_both true false false = refl

pass_then : (old mid new : State) (key : Key) (keys : List Key) (value : Option WireAttrs)
    → PassesKeys old mid (key ∷ []) value → PassesKeys mid new keys value → PassesKeys old new (key ∷ keys) value
pass_then old mid new key keys value one rest = record {
  told = λ k. rest.told k ∙ ap (λ (w : Option WireAttrs). if is_named keys k then value else w) (one.told k)
      ∙ told_both (is_named keys k) (same_key key k) value (told_at old k);
  left = λ k. rest.left k ∙ ap (λ b. b && not (is_named keys k)) (one.left k)
      ∙ left_both (is_left old.left k) (same_key key k) (is_named keys k);
  says = λ k item is. one.says k item (rest.says k item is);
  markers = rest.markers ∙ one.markers;
  named = (
    one.named.0,
    some_of-same keys (is_left mid.left) (λ k. is_left old.left k && not (same_key key k))
        (λ k. one.left k ∙ ap (λ b. is_left old.left k && not b) (sym (or_none (same_key key k)))) rest.named,
  );
  values = (
    one.values.0,
    all-map (HasValue mid value) (HasValue old value) keys
        (λ k has. (has.0, one.says k has.0 has.1, has.2)) rest.values,
  );
  once = rest.once;
}

pass_none : (old : State) (value : Option WireAttrs) → AreOnce old.left → PassesKeys old old [] value
pass_none old value once = record {
  told = λ key. refl;
  left = λ key. and_yes (is_left old.left key);
  says = λ key item is. is;
  markers = refl;
  named = tt;
  values = tt;
  once = once;
}
  where
    and_yes : (b : Bool) → b ≡ (b && true)
    and_yes true = refl
    and_yes false = refl

-- ---- items

-- the message is no marker
abbrev pub NamesKeys : Head → Type 0
NamesKeys (head.End family) = ⊥
NamesKeys _ = Unit {0}

-- what an item of a message is
record IsItem (h : Head) (items : List batch.Item) (i : Item) : Type 0 where
  keys : keys_of (batch_item i ∷ items) ≡ i.key ∷ keys_of items
  value : attrs_said i.says ≡ value_given h

is_item : (h : Head) (items : List batch.Item) (key : Key) (says : Option (ℕ × WireAttrs)) → NamesKeys h
    → IsFor h (item_by key says) → IsItem h items (record { key = key; says = says })
is_item (head.Gone family) items key None names for_it = record { keys = refl; value = refl }
is_item (head.Gone family) items key (Some said) names for_it = absurd for_it
is_item (head.Here family w) items key None names for_it = absurd for_it
is_item (head.Here family w) items key (Some said) names for_it = record { keys = refl; value = ap Some for_it.1 }
is_item (head.End family) items key says names for_it = absurd names

-- the first that is left is the first item of the message
record IsFirst (h : Head) (item : batch.Item) (left : List Item) : Type 0 where
  i : Item
  is : List Item
  at : left ≡ i ∷ is
  same : batch_item i ≡ item

is_first : (h : Head) (item : batch.Item) (rest : List batch.Item) (left : List Item) (markers : List Family)
    → NamesKeys h → IsFor h item → (map batch_item left ++ map batch.End markers) ≡ item ∷ rest → IsFirst h item left
is_first h item rest [] [] names for_it split = absurd cc
is_first h item rest [] (f ∷ fs) names for_it split =
    let same : batch.End f ≡ item = cc in absurd (no_marker h f names (subst (IsFor h) (sym same) for_it))
  where
    no_marker : (h : Head) (f : Family) → NamesKeys h → IsFor h (batch.End f) → ⊥
    no_marker (head.Gone family) f names for_it = for_it
    no_marker (head.Here family w) f names for_it = for_it
    no_marker (head.End family) f names for_it = names
is_first h item rest (i ∷ is) markers names for_it split = record { i = i; is = is; at = refl; same = cc }

later_items : (item : batch.Item) (items rest others : List batch.Item) → item ∷ others ≡ item ∷ rest → others ≡ rest
later_items item items rest others same = ap (λ (l : List batch.Item). elim l [ [] ↦ [] | _ ∷ r ↦ r ]) same

behind : (i : Item) (is : List Item) (old new : State) → old.left ≡ i ∷ is → Passes old new
    → items_left old ≡ batch_item i ∷ items_left new
behind i is old new at passes =
    let due : PassesItem old new i = subst (λ l. PassesDue l old new) at passes.due in
    let rest : new.left ≡ is = due.left ∙ ap (drop 1) at in
    ap (λ l. map batch_item l ++ map batch.End old.markers) at
    ∙ ap (λ l. batch_item i ∷ (map batch_item l ++ map batch.End old.markers)) (sym rest)
    ∙ ap (λ m. batch_item i ∷ (map batch_item new.left ++ map batch.End m)) (sym due.markers)

pub pass_items : (h : Head) (items : List batch.Item) (old new : State) → NamesKeys h
    → AllByRecursion (IsFor h) items → items_left old ≡ items ++ items_left new → PassesEach Passing items old new
    → AreOnce old.left → PassesKeys old new (keys_of items) (value_given h)
pass_items h [] old new names alike split same once =
    subst (λ s. PassesKeys old s [] (value_given h)) (sym same) (pass_none old (value_given h) once)
pass_items h (item ∷ items) old new names alike split passed once =
    let first = is_first h item (items ++ items_left new) old.left old.markers names alike.0 split in
    let mid = passed.0 in
    let for_it : IsFor h (batch_item first.i) = subst (IsFor h) (sym first.same) alike.0 in
    let facts = is_item h items first.i.key first.i.says names for_it in
    let one : PassesKeys old mid (first.i.key ∷ []) (value_given h) =
    subst (PassesKeys old mid (first.i.key ∷ [])) facts.value
    (pass_one first.i first.is old mid first.at once passed.1) in
    let rest : items_left mid ≡ items ++ items_left new =
    ap (λ (l : List batch.Item). elim l [ [] ↦ [] | _ ∷ r ↦ r ])
    (sym (behind first.i first.is old mid first.at passed.1) ∙ split) in
    let all = pass_items h items mid new names alike.1 rest passed.2 one.once in
    subst (λ keys. PassesKeys old new keys (value_given h))
    (sym (ap (λ it. keys_of (it ∷ items)) (sym first.same) ∙ facts.keys))
    (pass_then old mid new first.i.key (keys_of items) (value_given h) one all)
