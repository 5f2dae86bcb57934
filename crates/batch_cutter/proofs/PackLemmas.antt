-- A message that grows item by item.
use Rattle.std.proofs.Common.{ℕ, ◌≡◌, ◌<◌, List, [], ◌∷◌, ◌++◌, length, arith, length-append, append_assoc}
use Rattle.std.proofs.Common.{refl, ap, sym, ◌∙◌, subst, Option, Some}
use Rattle.std.proofs.Common.{Bool, if◌then◌else◌}
use Rattle.std.specs.Prelude.{IsSome}
use Rattle.std.specs.Int.{w32, to_be_bytes}
use Rattle.std.specs.List.{AllByRecursion}
use Rattle.route_values.specs.declared.addr.Family.{Family}
use Rattle.route_values.specs.declared.attrs.WireAttrs.{WireAttrs}
use Rattle.route_values.specs.Caps.{Caps}
use Rattle.route_values.specs.declared.key.Key.{Key}
use Rattle.route_values.specs.Key.{family_of_key}
use Rattle.update_grammar.specs.Head.{Head}
use Rattle.update_grammar.specs.Head as head
use Rattle.update_grammar.specs.Prefixes.{block_text, key_text, keys_text}
use Rattle.update_grammar.specs.Written.{written}
use Rattle.update_grammar.proofs.PiecesLemmas.{all_append}
use Rattle.attr_codec.specs.Buffer.{Buffer}
use Rattle.batch_cutter.specs.declared.group.Group.{Group}
use Rattle.batch_cutter.specs.declared.group.Group.TheVariants as group
use Rattle.batch_cutter.specs.Filling.{CanFill, PassesEach, IsAlone, IsClosed, Fills}
use Rattle.batch_cutter.specs.Grouped.{AreGrouped, MayFollow}
use Rattle.batch_cutter.specs.Groups.{IsIn, Names, Chooses, BeginsWith, IsBegun}
use Rattle.batch_cutter.specs.Heads.{kind_of, family_of_head, IsRoute, Fits, TakesAKey}
use Rattle.batch_cutter.specs.Items.{Item, Gone, Here, End, front, behind_front, keys_of, IsFor, ToldApart, AreNumbered}
use Rattle.batch_cutter.specs.Kinds.{family_of_kind, TakesKeys, HasKeys}
use Rattle.batch_cutter.specs.Packing.{Packing, Holds, Adds}
use Rattle.batch_cutter.proofs.GroupedLemmas.{goes_on}
use Rattle.batch_cutter.proofs.SizeLemmas.{has_keys}

-- passing one more item
passed_more : {S : Type 0} (passes : S → Item → S → Type 0) (items : List Item) (item : Item) (old mid new : S)
    → PassesEach passes items old mid → passes mid item new → PassesEach passes (items ++ item ∷ []) old new
passed_more passes [] item old mid new is p = (new, subst (λ s. passes s item new) is p, refl)
passed_more passes (i ∷ items) item old mid new h p = (h.0, h.1, passed_more passes items item h.0 mid new h.2 p)

-- the keys of items and of one more
keys-append : (items more : List Item) → keys_of (items ++ more) ≡ keys_of items ++ keys_of more
keys-append [] more = refl
keys-append (Gone key ∷ items) more = ap (λ ks. key ∷ ks) (keys-append items more)
keys-append (Here number key attrs ∷ items) more = ap (λ ks. key ∷ ks) (keys-append items more)
keys-append (End family ∷ items) more = keys-append items more

-- the item at the front, by the key that it names
pub record IsNext (g : Group) (left : List Item) (key : Key) : Type 0 where
  pub item : Item
  pub is : left ≡ item ∷ behind_front left
  pub is_in : IsIn g item
  pub named : keys_of (item ∷ []) ≡ key ∷ []

pub next_item : (g : Group) (left : List Item) (key : Key) → Names g (front left) key → IsNext g left key
next_item g [] key names = absurd names
next_item g (Gone k ∷ items) key names =
    record { item = Gone k; is = refl; is_in = names.1; named = ap (λ j. j ∷ []) names.0 }
next_item g (Here number k attrs ∷ items) key names =
    record { item = Here number k attrs; is = refl; is_in = names.1; named = ap (λ j. j ∷ []) names.0 }
next_item g (End family ∷ items) key names = absurd names

-- the family of an item that goes into a message
key_family : (h : Head) (item : Item) (key : Key) → IsFor h item → keys_of (item ∷ []) ≡ key ∷ []
    → family_of_key key ≡ family_of_head h
key_family (head.Gone family) (Gone k) key for_it is = cc
key_family (head.Here family w) (Here n k v) key for_it is = let family_is = for_it.0 in cc
key_family h (End family) key for_it is = cc
key_family (head.Gone family) (Here n k v) key for_it is = absurd for_it
key_family (head.End family) (Here n k v) key for_it is = absurd for_it
key_family (head.Here family w) (Gone k) key for_it is = absurd for_it
key_family (head.End family) (Gone k) key for_it is = absurd for_it

-- A message was begun, and the items so far went into it.
pub record IsUnder {S : Type 0} (left : S → List Item) (passes : S → Item → S → Type 0) (g : Group) (old new : S)
    (before packer : Packing) (out_before out : Buffer) : Type 0 where
  pub begun : IsBegun g (left old) before out_before
  pub items : List Item
  pub split : left old ≡ items ++ left new
  pub passed : PassesEach passes items old new
  pub alike : AllByRecursion (IsFor begun.head) items
  pub holds : Holds packer begun.head (keys_of items) out
  pub chooses : Chooses g begun.head (left new)
  pub caps : packer.caps ≡ before.caps
  pub kind : packer.kind ≡ before.kind
  pub room : out.room ≡ out_before.room

-- the item at the front goes into the message
pub next_for : (g : Group) (h : Head) (left : List Item) (key : Key) → Chooses g h left → (next : IsNext g left key)
    → IsFor h next.item
next_for g h left key chooses next = (subst (Chooses g h) next.is chooses).0.0 next.is_in

pub next_family : (g : Group) (h : Head) (left : List Item) (key : Key) → Chooses g h left → IsNext g left key
    → family_of_key key ≡ family_of_head h
next_family g h left key chooses next = key_family h next.item key (next_for g h left key chooses next) next.named

-- one more item went into it
pub under_more : {S : Type 0} (left : S → List Item) (passes : S → Item → S → Type 0) (g : Group) (old mid new : S)
    (before packer packed : Packing) (out_before out after : Buffer) (key : Key)
    → IsUnder left passes g old mid before packer out_before out → (next : IsNext g (left mid) key)
    → Adds key packer packed out after → after.room ≡ out.room → left new ≡ behind_front (left mid)
    → passes mid next.item new → IsUnder left passes g old new before packed out_before after
under_more left passes g old mid new before packer packed out_before out after key under next adds same_room left_is p =
    let h : Head = under.begun.head in
    let items : List Item = under.items in
    let item : Item = next.item in
    let for_it : IsFor h item = next_for g h (left mid) key under.chooses next in
    let keys : keys_of (items ++ item ∷ []) ≡ keys_of items ++ key ∷ [] =
    keys-append items (item ∷ []) ∙ ap (λ ks. keys_of items ++ ks) next.named in
    record {
      begun = under.begun;
      items = items ++ item ∷ [];
      split = under.split ∙ ap (λ (l : List Item). items ++ l) next.is
          ∙ sym (append_assoc items (item ∷ []) (behind_front (left mid)))
          ∙ ap (λ (l : List Item). (items ++ item ∷ []) ++ l) (sym left_is);
      passed = passed_more passes items item old mid new under.passed p;
      alike = all_append (IsFor h) items (item ∷ []) under.alike (for_it, tt);
      holds = subst (λ ks. Holds packed h ks after) (sym keys) (adds.holds h (keys_of items) under.holds);
      chooses = subst (Chooses g h) (sym left_is) (subst (Chooses g h) next.is under.chooses).1;
      caps = adds.caps ∙ under.caps;
      kind = adds.kind ∙ under.kind;
      room = same_room ∙ under.room;
    }

-- nothing that is left goes into the message, or what is first makes it too long
pub closed_none : (caps : Caps) (g : Group) (h : Head) (keys : List Key) (left : List Item) → Chooses g h left
    → ((key : Key) → ¬ (Names g (front left) key)) → IsClosed caps h keys left
closed_none caps g h keys [] chooses none = tt
closed_none caps g h keys (Gone key ∷ left) chooses none = λ for_it. absurd (none key (refl, chooses.0.1 for_it))
closed_none caps g h keys (Here n key w ∷ left) chooses none = λ for_it. absurd (none key (refl, chooses.0.1 for_it))
closed_none caps g h keys (End family ∷ left) chooses none = tt

pub closed_long : (caps : Caps) (g : Group) (h : Head) (keys : List Key) (left : List Item) (key : Key)
    → Names g (front left) key → ¬ (Fits caps h (keys ++ key ∷ [])) → IsClosed caps h keys left
closed_long caps g h keys [] key names long = tt
closed_long caps g h keys (Gone k ∷ left) key names long =
    λ for_it. subst (λ j. ¬ (Fits caps h (keys ++ j ∷ []))) (sym names.0) long
closed_long caps g h keys (Here n k w ∷ left) key names long =
    λ for_it. subst (λ j. ¬ (Fits caps h (keys ++ j ∷ []))) (sym names.0) long
closed_long caps g h keys (End family ∷ left) key names long = tt

-- the first item is in the group
first_named : (g : Group) (h : Head) (left : List Item) → TakesKeys (kind_of h) → Chooses g h left → BeginsWith h left
    → ((key : Key) → ¬ (Names g (front left) key)) → ⊥
first_named g h [] takes chooses first none = first
first_named g h (Gone key ∷ left) takes chooses first none = none key (refl, chooses.0.1 first)
first_named g h (Here n key w ∷ left) takes chooses first none = none key (refl, chooses.0.1 first)
first_named (group.Gone family) h (End other ∷ left) takes chooses first none = chooses.0.1 first
first_named (group.Here wanted) h (End other ∷ left) takes chooses first none = chooses.0.1 first

-- so a message has an item
some_items : (items rest whole : List Item) → whole ≡ items ++ rest → (whole ≡ rest → ⊥) → 0 < length items
some_items [] rest whole is none = absurd (none is)
some_items (item ∷ items) rest whole is none = omega arith

pub some_none : {S : Type 0} (left : S → List Item) (passes : S → Item → S → Type 0) (g : Group) (old new : S)
    (before packer : Packing) (out_before out : Buffer)
    → (under : IsUnder left passes g old new before packer out_before out)
    → ((key : Key) → ¬ (Names g (front (left new)) key)) → 0 < length under.items
some_none left passes g old new before packer out_before out under none =
    let begun = under.begun in
    let takes : TakesKeys (kind_of begun.head) = subst TakesKeys begun.holds.kind begun.keyed in
    some_items under.items (left new) (left old) under.split
    (λ same. first_named g begun.head (left new) takes under.chooses (subst (BeginsWith begun.head) same begun.first)
    none)

some_keys : (caps : Caps) (h : Head) (items : List Item) (key : Key) → TakesAKey caps h
    → family_of_key key ≡ family_of_head h → ¬ (Fits caps h (keys_of items ++ key ∷ [])) → 0 < length items
some_keys caps h [] key takes family long = absurd (long (takes key family))
some_keys caps h (item ∷ items) key takes family long = omega arith

pub some_long : {S : Type 0} (left : S → List Item) (passes : S → Item → S → Type 0) (g : Group) (old new : S)
    (before packer : Packing) (out_before out : Buffer) (key : Key)
    → (under : IsUnder left passes g old new before packer out_before out) → IsNext g (left new) key
    → ¬ (Fits packer.caps under.begun.head (keys_of under.items ++ key ∷ [])) → 0 < length under.items
some_long left passes g old new before packer out_before out key under next long =
    some_keys packer.caps under.begun.head under.items key
    (subst (λ caps. TakesAKey caps under.begun.head) (sym under.caps) under.begun.takes)
    (next_family g under.begun.head (left new) key under.chooses next) long

-- a message that takes keys has one
some_text : (path : Bool) (key : Key) (keys : List Key) → 0 < length (keys_text path (key ∷ keys))
some_text path key keys = omega (
  arith,
  length-append (key_text path key) (keys_text path keys),
  length-append (if path then to_be_bytes w32 key.id else []) (block_text key.prefix),
)

filled_some : (path : Bool) (h : Head) (items : List Item) → TakesKeys (kind_of h) → AllByRecursion (IsFor h) items
    → 0 < length items → 0 < length (keys_text path (keys_of items))
filled_some path h [] takes alike some = absurd (omega (arith, some))
filled_some path h (Gone key ∷ items) takes alike some = some_text path key (keys_of items)
filled_some path h (Here n key w ∷ items) takes alike some = some_text path key (keys_of items)
filled_some path (head.End family) (End other ∷ items) takes alike some = absurd takes
filled_some path (head.Gone family) (End other ∷ items) takes alike some = absurd alike.0
filled_some path (head.Here family w) (End other ∷ items) takes alike some = absurd alike.0

pub keys_there : {S : Type 0} (left : S → List Item) (passes : S → Item → S → Type 0) (g : Group) (old new : S)
    (before packer : Packing) (out_before out : Buffer)
    → (under : IsUnder left passes g old new before packer out_before out) → 0 < length under.items
    → HasKeys packer.kind packer.filled
keys_there left passes g old new before packer out_before out under some =
    let begun = under.begun in
    let takes : TakesKeys (kind_of begun.head) = subst TakesKeys begun.holds.kind begun.keyed in
    has_keys packer.kind packer.filled
    (subst (λ n. 0 < n) (sym under.holds.filled) (filled_some _ begun.head under.items takes under.alike some))

-- a message that takes keys is no marker
no_marker : (h : Head) (items : List Item) → TakesKeys (kind_of h) → IsAlone h items
no_marker (head.Gone family) items takes = tt
no_marker (head.Here family w) items takes = tt
no_marker (head.End family) items takes = absurd takes

-- what a message of items is, where they come first and are left behind
made : {S : Type 0} (left : S → List Item) (passes : S → Item → S → Type 0) (caps : Caps) (h : Head) (old new : S)
    (items : List Item) (bytes : List ℕ) → IsAlone h items → left old ≡ items ++ left new
    → PassesEach passes items old new → AllByRecursion (IsFor h) items → 0 < length items
    → bytes ≡ written caps h (keys_of items) → Fits caps h (keys_of items) → IsClosed caps h (keys_of items) (left new)
    → AreGrouped (left old) → Fills left passes caps old new bytes
made left passes caps h old new [] bytes alone is passed alike some text fits closed grouped =
    absurd (omega (arith, some))
made left passes caps h old new (item ∷ more) bytes alone is passed alike some text fits closed grouped = record {
  head = h;
  items = item ∷ more;
  split = is;
  passed = passed;
  message = record { some = some; alike = alike; alone = alone; text = text; fits = fits; closed = closed };
  packed = λ messages follow. goes_on caps h item more (left new) messages alike.0 alone closed
      (subst AreGrouped is grouped) (subst (MayFollow caps messages) is follow);
}

pub under_made : {S : Type 0} (left : S → List Item) (passes : S → Item → S → Type 0) (g : Group) (old new : S)
    (before packer : Packing) (out_before out : Buffer) (bytes : List ℕ)
    → (under : IsUnder left passes g old new before packer out_before out) → 0 < length under.items
    → bytes ≡ written packer.caps under.begun.head (keys_of under.items)
    → IsClosed packer.caps under.begun.head (keys_of under.items) (left new)
    → Fills left passes before.caps old new bytes
under_made left passes g old new before packer out_before out bytes under some text closed =
    let begun = under.begun in
    let takes : TakesKeys (kind_of begun.head) = subst TakesKeys begun.holds.kind begun.keyed in
    subst (λ caps. Fills left passes caps old new bytes) under.caps
    (made left passes packer.caps begun.head old new under.items bytes (no_marker begun.head under.items takes)
    under.split under.passed under.alike some text under.holds.fits closed begun.grouped)

-- what was begun, before the first item
pub under_begun : {S : Type 0} (left : S → List Item) (passes : S → Item → S → Type 0) (g : Group) (state : S)
    (packer : Packing) (out : Buffer) → IsBegun g (left state) packer out
    → IsUnder left passes g state state packer packer out out
under_begun left passes g state packer out begun = record {
  begun = begun;
  items = [];
  split = refl;
  passed = refl;
  alike = tt;
  holds = begun.holds;
  chooses = begun.chooses;
  caps = refl;
  kind = refl;
  room = refl;
}

-- the list by its front
front_is : (items : List Item) (item : Item) → front items ≡ Some item → items ≡ item ∷ behind_front items
front_is [] item is = cc
front_is (first ∷ items) item is = cc

-- a marker is a message
closed_marker : (caps : Caps) (family : Family) (left : List Item) → IsClosed caps (head.End family) [] left
closed_marker caps family [] = tt
closed_marker caps family (Gone key ∷ left) = λ for_it. absurd for_it
closed_marker caps family (Here n key w ∷ left) = λ for_it. absurd for_it
closed_marker caps family (End other ∷ left) = tt

pub marker_made : {S : Type 0} (left : S → List Item) (passes : S → Item → S → Type 0) (caps : Caps) (old new : S)
    (family : Family) (bytes : List ℕ) → front (left old) ≡ Some (End family)
    → left new ≡ behind_front (left old) → passes old (End family) new → bytes ≡ written caps (head.End family) []
    → Fits caps (head.End family) [] → AreGrouped (left old) → Fills left passes caps old new bytes
marker_made left passes caps old new family bytes is left_is p text fits grouped =
    made left passes caps (head.End family) old new (End family ∷ []) bytes refl
    (front_is (left old) (End family) is ∙ ap (λ (l : List Item). End family ∷ l) (sym left_is))
    (new, p, refl) (refl, tt) (omega arith) text fits (closed_marker caps family (left new)) grouped

-- the group of a withdrawal, and of an announcement
chooses_gone : (family : Family) (items : List Item) → Chooses (group.Gone family) (head.Gone family) items
chooses_gone family [] = tt
chooses_gone family (Gone key ∷ items) = (((λ is. is), (λ is. is)), chooses_gone family items)
chooses_gone family (Here n key w ∷ items) = (((λ is. is), (λ is. is)), chooses_gone family items)
chooses_gone family (End other ∷ items) = (((λ is. is), (λ is. is)), chooses_gone family items)

chooses_here : (n : ℕ) (key : Key) (w : WireAttrs) (items : List Item) → AllByRecursion (ToldApart (Here n key w)) items
    → Chooses (group.Here n) (head.Here (family_of_key key) w) items
chooses_here n key w [] apart = tt
chooses_here n key w (Gone k ∷ items) apart = (((λ is. is), (λ is. is)), chooses_here n key w items apart.1)
chooses_here n key w (Here m k v ∷ items) apart = (
  (
    (λ is. let alike = apart.0.0 (sym is) in (sym alike.0, sym alike.1)),
    (λ alike. sym (apart.0.1 (sym alike.0, sym alike.1))),
  ),
  chooses_here n key w items apart.1,
)
chooses_here n key w (End other ∷ items) apart = (((λ is. is), (λ is. is)), chooses_here n key w items apart.1)

pub begun_gone : (left : List Item) (key : Key) (packer : Packing) (out : Buffer) → front left ≡ Some (Gone key)
    → Holds packer (head.Gone (family_of_key key)) [] out → TakesAKey packer.caps (head.Gone (family_of_key key))
    → AreGrouped left → IsBegun (group.Gone (family_of_key key)) left packer out
begun_gone left key packer out is holds takes grouped = record {
  head = head.Gone (family_of_key key);
  holds = holds;
  chooses = chooses_gone (family_of_key key) left;
  first = subst (BeginsWith (head.Gone (family_of_key key))) (sym (front_is left (Gone key) is)) refl;
  takes = takes;
  keyed = subst TakesKeys (sym holds.kind) tt;
  grouped = grouped;
}

pub begun_here : (left : List Item) (n : ℕ) (key : Key) (w : WireAttrs) (packer : Packing) (out : Buffer)
    → front left ≡ Some (Here n key w) → AreNumbered left → Holds packer (head.Here (family_of_key key) w) [] out
    → TakesAKey packer.caps (head.Here (family_of_key key) w) → AreGrouped left → IsBegun (group.Here n) left packer out
begun_here left n key w packer out is numbered holds takes grouped =
    let split : left ≡ Here n key w ∷ behind_front left = front_is left (Here n key w) is in
    let apart = subst AreNumbered split numbered in
    record {
      head = head.Here (family_of_key key) w;
      holds = holds;
      chooses = subst (Chooses (group.Here n) (head.Here (family_of_key key) w)) (sym split)
          (((λ same. (refl, refl)), (λ alike. refl)), chooses_here n key w (behind_front left) apart.0);
      first = subst (BeginsWith (head.Here (family_of_key key) w)) (sym split) (refl, refl);
      takes = takes;
      keyed = subst TakesKeys (sym holds.kind) tt;
      grouped = grouped;
    }

-- what is announced first is a route
pub route_due : (left : List Item) (n : ℕ) (key : Key) (w : WireAttrs) → front left ≡ Some (Here n key w) → CanFill left
    → IsRoute (family_of_key key) w
route_due left n key w is can = subst CanFill (front_is left (Here n key w) is) can

-- passing the item at the front leaves fewer
pub fewer : (g : Group) (left : List Item) (key : Key) → IsNext g left key → length (behind_front left) < length left
fewer g left key next = omega (arith, ap length next.is)

-- the item at the front by what is due
pub next_due : (g : Group) (due : Option Item) (left : List Item) (key : Key) → due ≡ front left → Names g due key
    → IsNext g left key
next_due g due left key is names = next_item g left key (subst (λ o. Names g o key) is names)

pub some_front : (g : Group) (left : List Item) (key : Key) → IsNext g left key → IsSome (front left)
some_front g left key next = subst (λ l. IsSome (front l)) (sym next.is) refl

pub front_next : (g : Group) (left : List Item) (key : Key) → (next : IsNext g left key)
    → front left ≡ Some next.item
front_next g left key next = ap front next.is

-- the key's family is the packer's
pub packer_family : {S : Type 0} (left : S → List Item) (passes : S → Item → S → Type 0) (g : Group) (old new : S)
    (before packer : Packing) (out_before out : Buffer) (key : Key)
    → IsUnder left passes g old new before packer out_before out → IsNext g (left new) key
    → family_of_key key ≡ family_of_kind packer.kind
packer_family left passes g old new before packer out_before out key under next =
    next_family g under.begun.head (left new) key under.chooses next ∙ ap family_of_kind (sym under.holds.kind)
