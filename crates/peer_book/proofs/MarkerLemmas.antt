-- A marker that was made of what is left is one that may be cut.
use Rattle.std.proofs.Common.{◌≡◌, ℕ, Bool, true, false, not, List, [], ◌∷◌, ◌++◌, length, drop, Some, None}
use Rattle.std.proofs.Common.{refl, sym, ap, ◌∙◌, subst, arith}
use Rattle.std.specs.Prelude.{◌&&◌, ◌||◌, map, Option, if◌then◌else◌}
use Rattle.std.specs.List.{AllByRecursion}
use Rattle.route_values.specs.declared.addr.Family.{Family}
use Rattle.route_values.specs.declared.addr.Family.TheVariants.{Ipv4, Ipv6}
use Rattle.route_values.specs.declared.key.Key.{Key}
use Rattle.route_values.specs.declared.attrs.WireAttrs.{WireAttrs}
use Rattle.route_values.specs.Caps.{Caps}
use Rattle.update_grammar.specs.Head.{Head}
use Rattle.update_grammar.specs.Head as head
use Rattle.update_grammar.specs.Net.{net}
use Rattle.update_grammar.specs.Packed.{named_by}
use Rattle.update_grammar.specs.Update.{Spells}
use Rattle.update_grammar.specs.Written.{written, body_of}
use Rattle.batch_cutter.specs.Filling.{GoesOn}
use Rattle.batch_cutter.specs.Heads.{Fits}
use Rattle.batch_cutter.specs.Items as batch
use Rattle.batch_cutter.specs.Items.{keys_of, said_by, IsFor}
use Rattle.adj_rib_out.specs.State.{State, Item}
use Rattle.adj_rib_out.specs.Batch as table
use Rattle.adj_rib_out.specs.Calls.{PassesDue, PassesMarker}
use Rattle.adj_rib_out.specs.Told.{items_left, batch_item, item_by}
use Rattle.peer_history.specs.Batches.{first_cut, batch, is_left, is_owed, is_marker_owed, is_marker_left}
use Rattle.peer_history.specs.Cuts.{EndsFamily}
use Rattle.peer_history.specs.Keys.{is_named}
use Rattle.peer_history.specs.Messages.{said, said_each, mentions, marks, is_marked}
use Rattle.peer_history.specs.Same.{same_family}
use Rattle.peer_history.specs.Sessions.{session_effects}
use Rattle.peer_history.specs.Steps.{Step}
use Rattle.peer_history.proofs.MessageLemmas.{net_meant, said_is, written_marks}
use Rattle.peer_book.specs.Stands.{LeavesBatch}
use Rattle.peer_book.proofs.MessageLemmas.{Texts, IsSaid}
use Rattle.peer_book.proofs.ReadyLemmas.{IsReady, families_same}

-- ---- the first of two families

abbrev two : Bool → Bool → List Family
two a b = if a then Ipv4 ∷ (if b then Ipv6 ∷ [] else []) else (if b then Ipv6 ∷ [] else [])

record IsFirst (a b : Bool) (family : Family) : Type 0 where
  dropped : drop 1 (two a b) ≡ two (a && not (same_family family Ipv4)) (b && not (same_family family Ipv6))
  passes : (elim family [ Ipv4 ↦ a | Ipv6 ↦ b ]) ≡ true
  before : family ≡ Ipv6 → a ≡ false

first_of_two : (a b : Bool) (family : Family) (rest : List Family) → two a b ≡ family ∷ rest → IsFirst a b family
first_of_two true true Ipv4 rest h = record { dropped = refl; passes = refl; before = λ e. cc }
first_of_two true false Ipv4 rest h = record { dropped = refl; passes = refl; before = λ e. cc }
first_of_two true true Ipv6 rest h = cc
first_of_two true false Ipv6 rest h = cc
first_of_two false true Ipv4 rest h = cc
first_of_two false true Ipv6 rest h = record { dropped = refl; passes = refl; before = λ e. refl }
first_of_two false false family rest h = cc

passes_at : (test : Family → Bool) (family : Family) → (elim family [ Ipv4 ↦ test Ipv4 | Ipv6 ↦ test Ipv6 ]) ≡ true
    → test family ≡ true
passes_at test Ipv4 h = h
passes_at test Ipv6 h = h

regroup : (o m n : Bool) → ((o && not m) && not n) ≡ (o && not (n || m))
regroup false m n = refl
regroup true true true = refl
regroup true true false = refl
regroup true false true = refl
regroup true false false = refl

-- ---- the item of a marker

pub marker_alone : (family : Family) (items : List batch.Item) → length items ≡ 1
    → AllByRecursion (IsFor (head.End family)) items → items ≡ batch.End family ∷ []
marker_alone family [] one alike = absurd (omega arith)
marker_alone family (batch.Gone key ∷ items) one alike = absurd alike.0
marker_alone family (batch.Here n key w ∷ items) one alike = absurd alike.0
marker_alone family (batch.End other ∷ []) one alike = ap (λ f. batch.End f ∷ []) alike.0
marker_alone family (batch.End other ∷ item ∷ items) one alike = absurd (omega arith)

no_end : (key : Key) (says : Option (ℕ × WireAttrs)) (family : Family) → item_by key says ≡ batch.End family → ⊥
no_end key None family is = cc
no_end key (Some said) family is = cc

-- what is left where a marker comes first
record HasMarker (state : State) (family : Family) : Type 0 where
  none : state.left ≡ []
  rest : List Family
  first : state.markers ≡ family ∷ rest

has_marker : (left : List Item) (markers : List Family) (state : State) (family : Family) (rest : List batch.Item)
    → state.left ≡ left → state.markers ≡ markers
    → (map batch_item left ++ map batch.End markers) ≡ batch.End family ∷ rest → HasMarker state family
has_marker [] [] state family rest l m split = absurd cc
has_marker [] (f ∷ fs) state family rest l m split =
    let same : f ≡ family = cc in record { none = l; rest = fs; first = m ∙ ap (λ g. g ∷ fs) same }
has_marker (i ∷ is) markers state family rest l m split =
    let same : item_by i.key i.says ≡ batch.End family = cc in absurd (no_end i.key i.says family same)

module _ (texts : Texts) (caps : Caps) (steps : List Step) (mid new : State) (bytes : List ℕ) (family : Family)
    (ready : IsReady caps steps mid) (alone : items_left mid ≡ batch.End family ∷ items_left new)
    (due : PassesDue mid.left mid new) (text : bytes ≡ written caps (head.End family) [])
    (fits : Fits caps (head.End family) [])
    (packed : GoesOn caps [] (items_left new) (said_each caps (batch steps))) where
  has : HasMarker mid family
  has = has_marker mid.left mid.markers mid family (items_left new) refl refl alone

  passes : PassesMarker mid new
  passes = subst (λ l. PassesDue l mid new) has.none due

  spells : Spells caps (body_of bytes) []
  spells = subst (λ b. Spells caps (body_of b) []) (sym text) (texts.end family caps)

  says : said caps bytes ≡ []
  says = said_is texts.grammar caps bytes [] spells

  test : Family → Bool
  test = is_marker_left caps steps

  is_two : two (is_marker_left caps steps Ipv4) (is_marker_left caps steps Ipv6) ≡ family ∷ has.rest
  is_two = sym ready.leaves.markers ∙ has.first

  first : IsFirst (is_marker_left caps steps Ipv4) (is_marker_left caps steps Ipv6) family
  first = first_of_two _ _ family has.rest is_two

  no_key : (key : Key) → is_left caps steps key ≡ false
  no_key key = sym (ready.leaves.left key) ∙ ap (λ l. table.is_left l key) has.none

  ends : EndsFamily caps steps family []
  ends = record {
    none = refl;
    left = passes_at (is_marker_left caps steps) family first.passes;
    no_key = no_key;
    first = first.before;
  }

  marked : (f : Family) → marks f bytes ≡ same_family family f
  marked f = ap (marks f) text ∙ written_marks texts.grammar caps (head.End family) [] refl f

  leaves : LeavesBatch caps (first_cut steps) (bytes ∷ batch steps) new
  leaves = record {
    left = λ key. ap (λ l. table.is_left l key) passes.left ∙ ready.leaves.left key
        ∙ ap (λ effects. is_owed caps (first_cut steps) key
        && not (is_named (map named_by effects ++ mentions caps (batch steps)) key)) (sym says);
    says = λ key item is. ready.leaves.says key item (ap (λ l. table.item_at l key) (sym passes.left) ∙ is);
    markers = passes.markers ∙ ap (drop 1) ready.leaves.markers ∙ first.dropped
        ∙ families_same (λ f. is_marker_left caps steps f && not (same_family family f)) _
        (λ f. regroup (is_marker_owed caps (first_cut steps) f) (is_marked f (batch steps)) (same_family family f)
        ∙ ap (λ b. is_marker_owed caps (first_cut steps) f && not (b || is_marked f (batch steps))) (sym (marked f)));
    follow = (subst (λ effects. GoesOn caps effects (items_left new) (said_each caps (batch steps))) (sym says)
        packed).follow;
  }

  pub said_marker : IsSaid caps steps new bytes (head.End family) []
  said_marker = record {
    text = text;
    fits = fits;
    spelled = spells;
    due = ends;
    packed = (subst (λ effects. GoesOn caps effects (items_left new) (said_each caps (batch steps))) (sym says)
        packed).packed;
    leaves = leaves;
    told = λ key. passes.told key ∙ ready.told key
        ∙ sym (net_meant (session_effects caps steps) (head.End family) [] key refl)
        ∙ ap (λ effects. net (session_effects caps steps ++ effects) key) (sym says);
  }
