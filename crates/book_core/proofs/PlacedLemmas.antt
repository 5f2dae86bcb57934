-- The sections that the book gives its slots are those that the history gives them.
use Rattle.std.proofs.Common.{◌≡◌, ℕ, ◌<◌, ◌≤◌, zero, suc, Bool, true, false, not, List, [], ◌∷◌, length, map}
use Rattle.std.proofs.Common.{Some, None, refl, sym, ap, ◌∙◌, subst, arith}
use Rattle.std.proofs.lemmas.Option.{same_Some, slice_get_within}
use Rattle.std.specs.Prelude.{find, slice_get, Option, is_some}
use Rattle.std.specs.List.{list_any}
use Rattle.std.specs.Option.{option_and_then}
use Rattle.route_values.specs.Key.{same_addr}
use Rattle.route_values.proofs.KeyLemmas.{same_addr_is, same_addr-self}
use Rattle.config_model.specs.declared.sections.Neighbor.{Neighbor}
use Rattle.config_model.specs.Limits.{max_peers}
use Rattle.config_model.specs.Sections.{Sections}
use Rattle.book_history.specs.declared.outcomes.Reload.TheVariants as reload
use Rattle.book_history.specs.Entries.{History}
use Rattle.book_history.specs.Entries.Entry.{Reloaded}
use Rattle.book_history.specs.Slots.{holds, neighbor_at, peer_slots, reloaded, same_peer, section_kept, slot}
use Rattle.book_core.specs.declared.peering.Peering.{Peering}
use Rattle.book_core.specs.declared.placing.Places.{Places}
use Rattle.book_core.specs.Exchanging.{section_at}
use Rattle.book_core.specs.Placing.{number_placed}
use Rattle.book_core.specs.Settling.{is_new, is_of, number_kept, section_in, ArePlaces}
use Rattle.book_core.specs.Stands.{PeersStand}
use Rattle.book_core.proofs.FoundLemmas.{any_slot, position_got, position_so, slot_map, slot_past}
use Rattle.book_core.proofs.PeerLemmas.{settings_of, settings_told}
use Rattle.book_core.proofs.PlacingLemmas.{number_is}

-- a test that only the same pass, and each with itself, may be turned round
pub same_turn : {A : Type 0} (same : A → A → Bool) → ((a b : A) → same a b ≡ true → a ≡ b)
    → ((a : A) → same a a ≡ true) → (a b : A) → same a b ≡ same b a
same_turn same is self a b = by_test (same a b) (same b a) refl refl
  where
    by_test : (x y : Bool) → same a b ≡ x → same b a ≡ y → same a b ≡ same b a
    by_test true true one other = one ∙ sym other
    by_test false false one other = one ∙ sym other
    by_test true false one other =
        let turned : same b a ≡ true = ap (same b) (is a b one) ∙ self b in one ∙ sym turned
    by_test false true one other =
        let turned : same a b ≡ true = ap (same a) (is b a other) ∙ self a in turned ∙ sym other

none_past : {A : Type 0} (xs : List A) (n : ℕ) → slice_get xs n ≡ None → length xs ≤ n
none_past [] n none = omega arith
none_past (x ∷ xs) zero none = absurd (let no_way : ◌≡◌ {A = Option _} (Some x) None = none in cc)
none_past (x ∷ xs) (suc n) none = let rest = none_past xs n none in omega (arith, rest)

-- ---- slots of any kind: what a slot keeps of its section, a K, tells whether a new section A is of the same one

module _ {A K : Type 0} (same : A → A → Bool) (keeps : Option A → Option K) (is_of : A → Option K → Bool)
    (number : Option K → Option ℕ) (sections : List A) where
  -- what is kept of a section tells whether it holds a new one, and the number of its own new one
  pub record IsTelling : Type 0 where
    pub vacant : keeps None ≡ None
    pub unnumbered : number None ≡ None
    pub no_one : (new : A) → is_of new None ≡ false
    pub of_held : (new : A) (held : Option A) → is_of new (keeps held) ≡ holds same new held
    pub got : (held : Option A) → option_and_then (slice_get sections) (number (keeps held))
        ≡ section_kept same sections held
    pub so : (held : Option A) → is_some (number (keeps held)) ≡ is_some (section_kept same sections held)

  module _ {P : Type 0} (of : P → Option K) (places : List P) (most : ℕ) (kept : List (Option ℕ)) (news : List Bool)
    where
      -- the numbers of the sections that stay, and which are new, by what the slots keep
      pub record AreNoted : Type 0 where
        pub kept_at : (n : ℕ) (is : P) → slice_get places n ≡ Some is → slice_get kept n ≡ Some (number (of is))
        pub kept_count : length kept ≡ most
        pub new_at : (n : ℕ) (new : A) → n < most → slice_get sections n ≡ Some new
            → slice_get news n ≡ Some (not (list_any (λ (is : P). is_of new (of is)) places))
        pub past_at : (n : ℕ) → n < most → slice_get sections n ≡ None → slice_get news n ≡ Some false
        pub news_count : length news ≡ most

      module _ (slots : List (Option A)) (telling : IsTelling) (noted : AreNoted)
          (stand : (n : ℕ) (is : P) → slice_get places n ≡ Some is → of is ≡ keeps (slot slots n))
          (few : length slots ≤ most) (whole : length places ≡ most) (short : length sections ≤ most) where
        there_told : (new : A) → list_any (λ (is : P). is_of new (of is)) places ≡ list_any (holds same new) slots
        there_told new =
            let alike : (λ (held : Option A). is_of new (keeps held)) ≡ holds same new =
            λ i held. telling.of_held new held i in
            any_slot (is_of new) (telling.no_one new) of keeps telling.vacant slots places
            (subst (λ k. length slots ≤ k) (sym whole) few) stand
            ∙ ap (λ (test : Option A → Bool). list_any test slots) alike

        marks_told : (n : ℕ) (mark : Bool) → slice_get news n ≡ Some mark
            → mark ≡ elim (slice_get sections n) [ None ↦ false | Some new ↦ not (list_any (holds same new) slots) ]
        marks_told n mark at = by_section (slice_get sections n) refl
          where
            within : n < most
            within = subst (λ k. n < k) noted.news_count (slice_get_within news n mark at)

            by_section : (given : Option A) → slice_get sections n ≡ given
                → mark ≡ elim given [ None ↦ false | Some new ↦ not (list_any (holds same new) slots) ]
            by_section None none = same_Some _ _ (sym at ∙ noted.past_at n within none)
            by_section (Some new) there =
                same_Some _ _ (sym at ∙ noted.new_at n new within there) ∙ ap not (there_told new)

        kept_past : (n : ℕ) → most ≤ n → slot kept n ≡ number (keeps (slot slots n))
        kept_past n past =
            let none : slot slots n ≡ None = slot_past slots n (omega (arith, few, past)) in
            slot_past kept n (subst (λ k. k ≤ n) (sym noted.kept_count) past)
            ∙ sym (ap (λ (held : Option A). number (keeps held)) none ∙ ap number telling.vacant ∙ telling.unnumbered)

        kept_is : (n : ℕ) → slot kept n ≡ number (keeps (slot slots n))
        kept_is n = by_slot (slice_get places n) refl
          where
            by_slot : (there : Option P) → slice_get places n ≡ there → slot kept n ≡ number (keeps (slot slots n))
            by_slot None none = kept_past n (subst (λ k. k ≤ n) whole (none_past places n none))
            by_slot (Some is) at =
                ap (option_and_then (λ (held : Option ℕ). held)) (noted.kept_at n is at) ∙ ap number (stand n is at)

        -- each slot's section is the one that it has behind the reload
        pub placed_as : (n : ℕ)
            → section_at sections (number_placed kept news n) ≡ slot (reloaded same sections slots) n
        placed_as n =
            number_is sections (λ new. not (list_any (holds same new) slots)) news kept
            (map (section_kept same sections) slots) (subst (λ k. length sections ≤ k) (sym noted.news_count) short)
            marks_told
            (λ m. ap (option_and_then (slice_get sections)) (kept_is m) ∙ telling.got (slot slots m)
            ∙ sym (slot_map (section_kept same sections) refl slots m))
            (λ m. ap is_some (kept_is m) ∙ telling.so (slot slots m)
            ∙ ap is_some (sym (slot_map (section_kept same sections) refl slots m))) n

-- ---- the neighbour slots

module _ (sections : List Neighbor) where
  same_own : (own : Neighbor) → ◌≡◌ {A = Neighbor → Bool} (λ other. same_addr other.settings.peer own.settings.peer)
      (λ other. same_addr own.settings.peer other.settings.peer)
  same_own own i other = same_turn same_addr same_addr_is same_addr-self other.settings.peer own.settings.peer i

  kept_got : (held : Option Neighbor) → option_and_then (slice_get sections) (number_kept sections (settings_of held))
      ≡ section_kept same_peer sections held
  kept_got None = refl
  kept_got (Some old) =
      position_got (λ (other : Neighbor). same_addr other.settings.peer old.settings.peer) sections
      ∙ ap (λ (test : Neighbor → Bool). find test sections) (same_own old)

  kept_so : (held : Option Neighbor) → is_some (number_kept sections (settings_of held))
      ≡ is_some (section_kept same_peer sections held)
  kept_so None = refl
  kept_so (Some old) =
      position_so (λ (other : Neighbor). same_addr other.settings.peer old.settings.peer) sections
      ∙ ap (λ (test : Neighbor → Bool). is_some (find test sections)) (same_own old)

  settings_tell : IsTelling same_peer settings_of is_of (number_kept sections) sections
  settings_tell = record {
    vacant = refl;
    unnumbered = refl;
    no_one = λ new. refl;
    of_held = is_of_held;
    got = kept_got;
    so = kept_so;
  }
    where
      is_of_held : (new : Neighbor) (held : Option Neighbor) → is_of new (settings_of held) ≡ holds same_peer new held
      is_of_held new None = refl
      is_of_held new (Some old) = refl

-- each slot's section is the history's
pub placed_told : (cfg : Sections) (H : History) (file : Sections) (peers : List Peering) (places : Places)
    → PeersStand cfg H peers → length (peer_slots cfg H) ≤ max_peers → length peers ≡ max_peers
    → length file.neighbors ≤ max_peers → ArePlaces file.neighbors peers places → (n : ℕ)
    → section_in file.neighbors places n ≡ neighbor_at cfg (Reloaded file reload.Ok ∷ H) n
placed_told cfg H file peers places stand few whole short are =
    placed_as same_peer settings_of is_of (number_kept file.neighbors) file.neighbors
    (λ (is : Peering). is.slot.settings) peers max_peers places.kept places.news (peer_slots cfg H)
    (settings_tell file.neighbors) (record {
      kept_at = are.kept;
      kept_count = are.kept_count;
      new_at = λ n new within there. are.news n within ∙ ap (λ given. Some (is_new peers given)) there;
      past_at = λ n within none. are.news n within ∙ ap (λ given. Some (is_new peers given)) none;
      news_count = are.news_count;
    }) (λ n is there. (stand n is there).slot.settings ∙ settings_told cfg n H) few whole short
