-- One list in a table of links: what it tells, and what a change leaves.
use Rattle.std.proofs.Common.{◌≡◌, ◌≢◌, ℕ, ◌+◌, ◌-◌, ◌<◌, true, false, not, ◌⊎◌, List, [], ◌∷◌, length, eqb, refl, sym}
use Rattle.std.proofs.Common.{ap, ◌∙◌, subst, inl, inr, arith}
use Rattle.std.proofs.lemmas.Grind.{common_steps}
use Rattle.std.proofs.lemmas.Bool.{eqb-true, eqb-false, false≢true, cases_eq}
use Rattle.std.specs.List.{IsDistinct, AllByRecursion}
use Rattle.std.proofs.lemmas.Map.Keys.{IsDistinct-cons}
use Rattle.std.proofs.lemmas.Map.Steps.{length-le_from_distinct_below}
use Rattle.linked_pending.specs.Listing.{has, AreApart, without, put_before, before_from}
use Rattle.linked_pending.specs.Links.{link, walk, AreInverse, crossed}
use Rattle.linked_pending.specs.Chain.{Holds, IsChain}
use Rattle.linked_pending.proofs.ListingLemmas.{has_first, has_rest, differs, length-without, length-put_before}
use Rattle.linked_pending.proofs.ListingLemmas.{has-without, has-put_before, apart-without, apart-put_before}
use Rattle.linked_pending.proofs.LeadsLemmas.{length-walk, walk_leads, leads_without, leads_put, leads_moves}
use Rattle.linked_pending.proofs.LeadsLemmas.{leads_before}
use Rattle.linked_pending.proofs.CrossedLemmas.{length-crossed, crossed_one, crossed_two, crossed_other}

differs_from_each : (item : ℕ) (items : List ℕ) → has item items ≡ false
    → AllByRecursion (λ other. eqb item other ≡ false) items
differs_from_each item [] absent = tt
differs_from_each item (first ∷ rest) absent =
    (grind (arith, common_steps, absent), differs_from_each item rest (grind (arith, common_steps, absent)))

pub distinct_from_apart : (items : List ℕ) → AreApart items → IsDistinct eqb items
unfolding IsDistinct
distinct_from_apart [] apart = tt
distinct_from_apart (first ∷ rest) apart = IsDistinct-cons eqb first rest (differs_from_each first rest apart.0)
    (distinct_from_apart rest apart.1)

inside_all : (next items : List ℕ) → Holds next items → 0 < length next → (place : ℕ) → has place (0 ∷ items) ≡ true
    → place < length next
inside_all next items holds room place there = grind (arith, common_steps, holds.within place)

not_root : (place : ℕ) → 0 < place → 0 ≢ place
not_root place above same = absurd (omega arith)

module _ (next prev items : List ℕ) (links : AreInverse next prev) (holds : Holds next items) (item : ℕ)
    (above : 0 < item) (item_in : item < length next) where
  before_in : link prev item < length next
  before_in = links.prev_in item item_in

  pub holds_without : Holds (crossed (link prev item) item next) (without item items)
  holds_without = record {
    leads = leads_without (link next) (link (crossed (link prev item) item next)) (link prev) (length next) item 0
        links.back (links.forth item item_in)
        (crossed_one next prev links (link prev item) item before_in item_in)
        (crossed_other next prev links (link prev item) item before_in item_in)
        (not_root item above) 0 items holds.leads holds.apart (not_root item above)
        (inside_all next items holds (omega arith));
    apart = (
      grind (arith, common_steps, has-without 0 item items, holds.apart.0),
      apart-without item items holds.apart.1,
    );
    alone = λ place room absent. elim (cases_eq place item) [
      | inl same ↦ ap (link (crossed (link prev item) item next)) same
          ∙ crossed_two next prev links (link prev item) item before_in item_in ∙ links.forth item item_in ∙ sym same
      | inr other ↦
          let room_before : place < length next = subst (λ len. place < len)
          (length-crossed next prev links (link prev item) item before_in item_in) room in
          let still : link next place ≡ place = holds.alone place room_before
          (grind (arith, common_steps, has-without place item items, absent)) in
          crossed_other next prev links (link prev item) item before_in item_in place
          (λ same. other (sym still ∙ ap (link next) same ∙ links.forth item item_in)) other ∙ still
    ];
    within = λ place there. subst (λ len. place < len) (sym (length-crossed next prev links (link prev item) item
        before_in item_in)) (holds.within place (grind (arith, common_steps, has-without place item items, there)));
  }

  module _ (spot : ℕ) (absent : has item items ≡ false) (spot_there : (spot ≡ 0) ⊎ (has spot items ≡ true)) where
    spot_listed : has spot (0 ∷ items) ≡ true
    spot_listed = elim spot_there [
      | inl same ↦ ap (λ place. has place (0 ∷ items)) same
          ∙ has_first 0 items
      | inr there ↦ has_rest spot 0 items there
    ]

    spot_in : spot < length next
    spot_in = inside_all next items holds (omega arith) spot spot_listed

    item_off : has item (0 ∷ items) ≡ false
    item_off = grind (arith, common_steps)

    before_spot_in : link prev spot < length next
    before_spot_in = links.prev_in spot spot_in

    pub holds_put : Holds (crossed (link prev spot) item next) (put_before spot item items)
    holds_put = record {
      leads = leads_put (link next) (link (crossed (link prev spot) item next)) (link prev) (length next) item spot 0
          links.back (links.forth spot spot_in)
          (crossed_one next prev links (link prev spot) item before_spot_in item_in ∙ holds.alone item item_in item_off)
          (crossed_two next prev links (link prev spot) item before_spot_in item_in ∙ links.forth spot spot_in)
          (crossed_other next prev links (link prev spot) item before_spot_in item_in)
          0 items holds.leads holds.apart item_off spot_there (inside_all next items holds (omega arith));
      apart = (
        grind (arith, common_steps, has-put_before 0 spot item items, holds.apart.0),
        apart-put_before spot item items holds.apart.1 absent,
      );
      alone = λ place room gone.
          let off : has place (0 ∷ items) ≡ false = grind (
            arith,
            common_steps,
            has-put_before place spot item items,
            gone,
          ) in
          let other : place ≢ item = λ same. false≢true (sym gone
          ∙ grind (arith, common_steps, has-put_before place spot item items, same)) in
          let room_before : place < length next = subst (λ len. place < len)
          (length-crossed next prev links (link prev spot) item before_spot_in item_in) room in
          let still : link next place ≡ place = holds.alone place room_before off in
          crossed_other next prev links (link prev spot) item before_spot_in item_in place
          (λ same. differs spot place (0 ∷ items) off spot_listed
          (sym (links.forth spot spot_in) ∙ ap (link next) (sym same) ∙ still)) other ∙ still;
      within = λ place there. subst (λ len. place < len) (sym
          (length-crossed next prev links (link prev spot) item before_spot_in item_in))
          (grind (arith, common_steps, has-put_before place spot item items, holds.within place, there));
    }

-- the list is shorter than the table
length-holds : (next items : List ℕ) → Holds next items → 0 < length next → length items < length next
length-holds next items holds room =
    omega (
      arith,
      length-le_from_distinct_below (0 ∷ items) (length next) (distinct_from_apart (0 ∷ items) holds.apart)
          (inside_all next items holds room),
    )

pub len_within : (next prev : List ℕ) (len : ℕ) → IsChain next prev len → 0 < length next → len < length next
len_within next prev len chain room = subst (λ count. count < length next) (length-walk len (link next) 0)
    (length-holds next _ chain.holds room)

pub absent_from_alone : (next items : List ℕ) → Holds next items → (place : ℕ) → link next place ≡ place
    → has place items ≡ false
absent_from_alone next items holds place itself =
    elim (has place items) as (λ test. has place items ≡ test → test ≡ false) [
      | true ↦ λ there. absurd (leads_moves (link next) place 0 items 0 holds.leads holds.apart.1 holds.apart.0 there
          itself)
      | false ↦ λ absent. refl
    ] refl

pub there_from_linked : (next items : List ℕ) → Holds next items → (place : ℕ) → 0 < place → place < length next
    → link next place ≢ place → has place items ≡ true
there_from_linked next items holds place above room linked =
    elim (has place items) as (λ test. has place items ≡ test → test ≡ true) [
      | true ↦ λ there. refl
      | false ↦ λ absent. absurd (linked (holds.alone place room (grind (arith, common_steps))))
    ] refl

pub holds_contains : (next items : List ℕ) → Holds next items → (place : ℕ) → 0 < place → place < length next
    → not (eqb (link next place) place) ≡ has place items
holds_contains next items holds place above room =
    elim (eqb (link next place) place) as (λ test. eqb (link next place) place ≡ test → not test ≡ has place items) [
      | true ↦ λ itself. sym (absent_from_alone next items holds place (eqb-true _ _ itself))
      | false ↦ λ linked. sym (there_from_linked next items holds place above room (eqb-false _ _ linked))
    ] refl

pub holds_before : (next prev items : List ℕ) → AreInverse next prev → Holds next items → (place : ℕ) → 0 < length next
    → has place items ≡ true → link prev place ≡ before_from 0 place items
holds_before next prev items links holds place room there =
    leads_before (link next) (link prev) (length next) place 0 items 0 links.back holds.leads
    (inside_all next items holds room) there

-- the list that a chain is seen as, and that it is a chain
pub record Seen (next prev items : List ℕ) (len : ℕ) : Type 0 where
  pub items_are : walk len (link next) 0 ≡ items
  pub chain : IsChain next prev len

pub seen_from : (next prev items : List ℕ) (len : ℕ) → AreInverse next prev → Holds next items → length items ≡ len
    → Seen next prev items len
seen_from next prev items len links holds len_is =
    let items_are : walk len (link next) 0 ≡ items = subst (λ count. walk count (link next) 0 ≡ items) len_is
    (walk_leads (link next) 0 items 0 holds.leads) in
    record { items_are = items_are; chain = record { links = links; holds = subst (Holds next) (sym items_are) holds } }

-- what `remove` leaves
pub seen_without : (next prev new new_prev : List ℕ) (len item before : ℕ) → IsChain next prev len → 0 < item
    → item < length next → link next item ≢ item → before ≡ link prev item → new ≡ crossed before item next
    → AreInverse new new_prev → Seen new new_prev (without item (walk len (link next) 0)) (len - 1) × (0 < len)
seen_without next prev new new_prev len item before chain above room linked before_is new_is links =
    let there : has item (walk len (link next) 0) ≡ true = there_from_linked next _ chain.holds item above room
    linked in
    let shorter : length (without item (walk len (link next) 0)) + 1 ≡ len =
    length-without item _ chain.holds.apart.1 there ∙ length-walk len (link next) 0 in
    let holds = holds_without next prev (walk len (link next) 0) chain.links chain.holds item above room in
    let same : crossed (link prev item) item next ≡ new = sym
    (new_is ∙ ap (λ place. crossed place item next) before_is) in (
      seen_from new new_prev _ (len - 1) links
          (subst (λ table. Holds table (without item (walk len (link next) 0))) same holds) (omega arith),
      omega arith,
    )

-- what `insert_before` leaves
pub seen_put : (next prev new new_prev : List ℕ) (len spot item before : ℕ) → IsChain next prev len → 0 < item
    → item < length next → has item (walk len (link next) 0) ≡ false
    → (spot ≡ 0) ⊎ (has spot (walk len (link next) 0) ≡ true) → before ≡ link prev spot → new ≡ crossed before item next
    → AreInverse new new_prev → Seen new new_prev (put_before spot item (walk len (link next) 0)) (len + 1)
seen_put next prev new new_prev len spot item before chain above room absent spot_there before_is new_is links =
    let longer : length (put_before spot item (walk len (link next) 0)) ≡ len + 1 = length-put_before spot item _
    ∙ ap (λ count. count + 1) (length-walk len (link next) 0) in
    let holds = holds_put next prev (walk len (link next) 0) chain.links chain.holds item above room spot absent
    spot_there in
    let same : crossed (link prev spot) item next ≡ new = sym
    (new_is ∙ ap (λ place. crossed place item next) before_is) in
    seen_from new new_prev _ (len + 1) links (subst (λ table.
    Holds table (put_before spot item (walk len (link next) 0))) same holds) longer
