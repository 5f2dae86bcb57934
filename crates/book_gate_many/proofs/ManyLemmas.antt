-- One more split, one more join, and all passes back.
use Rattle.std.proofs.Common.{◌≡◌, ◌⊎◌, ℕ, suc, ◌+◌, ◌-◌, ◌<◌, List, [], ◌∷◌, ◌++◌, map, length, refl, sym, ap}
use Rattle.std.proofs.Common.{◌∙◌, subst, inl, inr, ⊎_elim, arith}
use Rattle.std.specs.Prelude.{Contains, slice_index_or}
use Rattle.std.proofs.lemmas.List.{append-nil, append_assoc}
use Rattle.std.proofs.lemmas.List.Elements.{Contains-append_left, Contains-append_right, Contains-append_cases}
use Rattle.book_gate.specs.Histories.{entries_by}
use Rattle.book_gate.specs.Known.{Known}
use Rattle.book_gate.specs.Names.{child_name}
use Rattle.book_gate.specs.Views.{longer, room_share}
use Rattle.book_gate.specs.Calls.{Continues, IsSplit, IsJoin}
use Rattle.book_gate.proofs.ListLemmas.{prefix_self, prefix_trans, contains_none, contains_one, contains_here}
use Rattle.book_gate.proofs.ListLemmas.{contains_there, contains_cases, contains_at}
use Rattle.book_gate_many.specs.Many.{child_names, room_left, IsMany, split_with, joined_with, room_with, IsAllJoined}

module _ {A E : Type 0} where
  pub none_split : (pass : Known A E) (new : List (Known A E)) → new ≡ [] → IsMany pass 0 pass new
  none_split pass new is = record {
    becomes = λ i. record pass { next = no_more pass.next i; split = sym (append-nil pass.split) i };
    given = is;
    mine = λ other has. absurd (contains_none other (subst (λ it. Contains it other) is has));
  }
    where
      no_more : (n : ℕ) → n ≡ n + 0
      no_more n = omega arith

  pub one_more_split : (law : A → List E → E → Type 0) (pass now later new : Known A E) (count : ℕ)
      (passes after : List (Known A E)) → IsMany pass count now passes → IsSplit law now later new
      → after ≡ passes ++ new ∷ [] → IsMany pass (count + 1) later after
  one_more_split law pass now later new count passes after many split is =
      let name_is = ap (λ (it : Known A E). it.name) many.becomes in
      let next_is = ap (λ (it : Known A E). it.next) many.becomes in
      let split_is = ap (λ (it : Known A E). it.split) many.becomes in
      let room_is = ap (λ (it : Known A E). it.room) many.becomes in
      let last_is = split.given ∙ (λ i. record (many.becomes i) {
        name = child_name (name_is i) (next_is i);
        next = 0;
        split = [];
        joined = [];
        room =
            room_share (room_is i);
      }) in
      let one : (pass.next + count) + 1 ≡ pass.next + suc count = omega arith in
      let more : suc count ≡ count + 1 = omega arith in subst (λ n. IsMany pass n later after) more (record {
        becomes = split.becomes
            ∙ ((λ i. record (many.becomes i) {
              next = next_is i + 1;
              split =
                  split_is i ++ child_name (name_is i) (next_is i) ∷ [];
              room = room_is i - (room_share (room_is i) + 1);
            })
            ∙ (λ i. record pass {
              next = one i;
              split = append_assoc pass.split (child_names pass.name pass.next count)
                  (child_name pass.name (pass.next + count) ∷ []) i;
              room = room_left pass.room (suc count);
            }));
        given = is ∙ (λ i. many.given i ++ last_is i ∷ []);
        mine = λ other has. ⊎_elim (λ old. many.mine other old)
            (λ (last : Contains (new ∷ []) other). subst (λ (it : Known A E). entries_by it.name it.seen ≡ [])
            (contains_one new other last) split.mine)
            (Contains-append_cases passes (new ∷ []) other (subst (λ it. Contains it other) is has));
      })

  split_with-push : (names : List (List ℕ)) (others : List (Known A E)) (last : Known A E)
      → split_with names (others ++ last ∷ []) ≡ split_with names others ++ last.split
  split_with-push names [] last = refl
  split_with-push names (other ∷ others) last = split_with-push (names ++ other.split) others last

  joined_with-push : (names : List (List ℕ)) (others : List (Known A E)) (last : Known A E)
      → joined_with names (others ++ last ∷ []) ≡ (joined_with names others ++ last.joined) ++ last.name ∷ []
  joined_with-push names [] last = refl
  joined_with-push names (other ∷ others) last = joined_with-push ((names ++ other.joined) ++ other.name ∷ []) others
      last

  room_with-push : (room : ℕ) (others : List (Known A E)) (last : Known A E)
      → room_with room (others ++ last ∷ []) ≡ room_with room others + (last.room + 1)
  room_with-push room [] last = refl
  room_with-push room (other ∷ others) last = room_with-push (room + (other.room + 1)) others last

  -- Names that were joined stay joined
  joined_before : (names : List (List ℕ)) (others : List (Known A E)) (name : List ℕ) → Contains names name
      → Contains (joined_with names others) name
  joined_before names [] name has = has
  joined_before names (other ∷ others) name has =
      joined_before ((names ++ other.joined) ++ other.name ∷ []) others name
      (Contains-append_left (names ++ other.joined) (other.name ∷ []) name
      (Contains-append_left names other.joined name has))

  -- The name of each of the others is joined, and so are those joined into it
  joined_from : (names : List (List ℕ)) (others : List (Known A E)) (one : Known A E) (name : List ℕ)
      → Contains others one → (one.name ≡ name) ⊎ Contains one.joined name → Contains (joined_with names others) name
  joined_from names [] one name has from = absurd (contains_none one has)
  joined_from names (other ∷ others) one name has from =
      ⊎_elim
      (λ (is : other ≡ one). joined_before ((names ++ other.joined) ++ other.name ∷ []) others name
      (⊎_elim (λ (own : one.name ≡ name). Contains-append_right (names ++ other.joined) (other.name ∷ []) name
      (subst (Contains (other.name ∷ [])) (ap (λ (it : Known A E). it.name) is ∙ own)
      (contains_here other.name [])))
      (λ (inner : Contains one.joined name). Contains-append_left (names ++ other.joined) (other.name ∷ []) name
      (Contains-append_right names other.joined name (subst (λ (it : Known A E). Contains it.joined name) (sym is)
      inner))) from))
      (λ rest. joined_from ((names ++ other.joined) ++ other.name ∷ []) others one name rest from)
      (contains_cases other others one has)

  -- A pass whose name and joined names are joined into a pass goes on from it as long as that pass does
  goes_on : (one pass later : Known A E) → Continues one pass → Continues pass later
      → ((name : List ℕ) → (one.name ≡ name) ⊎ Contains one.joined name → Contains pass.joined name)
      → Continues one later
  goes_on one pass later first second among = record {
    front = prefix_trans one.seen pass.seen later.seen first.front second.front;
    mine = second.joined one.name (among one.name (inl refl)) ∙ first.mine;
    joined = λ name has. second.joined name (among name (inr has)) ∙ first.joined name has;
  }

  pub none_joined : (law : A → List E → E → Type 0) (pass : Known A E) → IsAllJoined law pass [] pass
  none_joined law pass = record {
    becomes = refl;
    own = record {
      front = prefix_self pass.seen;
      mine = refl;
      joined =
          λ name has. refl;
    };
    theirs = λ other has. absurd (contains_none other has);
    legal = λ legal. legal;
    named =
        λ named. named;
  }

  pub one_more : (law : A → List E → E → Type 0) (pass now later last : Known A E) (others : List (Known A E))
      → IsAllJoined law pass others now → IsJoin law now last later → IsAllJoined law pass (others ++ last ∷ []) later
  one_more law pass now later last others all join =
      let name_is = ap (λ (it : Known A E). it.name) all.becomes in
      let joined_is = ap (λ (it : Known A E). it.joined) all.becomes in
      let room_is = ap (λ (it : Known A E). it.room) all.becomes in record {
        becomes = join.becomes
            ∙ ((λ i. record (all.becomes i) {
              seen = longer now.seen last.seen;
              split =
                  ap (λ (it : Known A E). it.split) all.becomes i ++ last.split;
              joined =
                  (joined_is i ++ last.joined) ++ last.name ∷ [];
              room = room_is i + (last.room + 1);
            })
            ∙ (λ i. record pass {
              seen = sym (ap (λ (it : Known A E). it.seen) join.becomes) i;
              split =
                  sym (split_with-push pass.split others last) i;
              joined = sym (joined_with-push pass.joined others last) i;
              room = sym (room_with-push pass.room others last) i;
            }));
        own = record {
          front = prefix_trans pass.seen now.seen later.seen all.own.front join.own.front;
          mine = subst (λ it. entries_by it later.seen ≡ entries_by it now.seen) name_is join.own.mine ∙ all.own.mine;
          joined = λ name has. join.own.joined name (subst (λ it. Contains it name) (sym joined_is)
              (joined_before pass.joined others name has)) ∙ all.own.joined name has;
        };
        theirs = λ other has. ⊎_elim
            (λ (old : Contains others other). goes_on other now later (all.theirs other old) join.own
            (λ name from. subst (λ it. Contains it name) (sym joined_is)
            (joined_from pass.joined others other name old from)))
            (λ (new : Contains (last ∷ []) other). subst (λ (it : Known A E). Continues it later)
            (contains_one last other new) join.theirs)
            (Contains-append_cases others (last ∷ []) other has);
        legal = λ _. join.legal;
        named = λ _. join.named;
      }

  -- The names that the others bring, where they gave out none
  brought : (names : List (List ℕ)) (others : List (Known A E)) (name : List ℕ)
      → ((other : Known A E) → Contains others other → other.split ≡ []) → Contains (split_with names others) name
      → Contains names name
  brought names [] name none has = has
  brought names (other ∷ others) name none has =
      let before : Contains (names ++ other.split) name = brought (names ++ other.split) others name
      (λ one in_rest. none one (contains_there other others one in_rest)) has in
      ⊎_elim (λ own. own) (λ (theirs : Contains other.split name).
      absurd (contains_none name (subst (λ it. Contains it name) (none other (contains_here other others)) theirs)))
      (Contains-append_cases names other.split name before)

  names_joined : (names : List (List ℕ)) (others : List (Known A E)) (name : List ℕ)
      → Contains (map (λ other. other.name) others) name → Contains (joined_with names others) name
  names_joined names [] name has = absurd (contains_none name has)
  names_joined names (other ∷ others) name has =
      ⊎_elim (λ (is : other.name ≡ name). joined_from names (other ∷ others) other name (contains_here other others)
      (inl is)) (λ rest. names_joined ((names ++ other.joined) ++ other.name ∷ []) others name rest)
      (contains_cases other.name (map (λ one. one.name) others) name has)

  -- Where the first pass gave out no names but the others', which gave out none, all are back
  pub all_back : (law : A → List E → E → Type 0) (pass later : Known A E) (others : List (Known A E))
      → IsAllJoined law pass others later → ((name : List ℕ) → Contains pass.split name
      → Contains (map (λ other. other.name) others) name) → ((other : Known A E) → Contains others other
      → other.split ≡ []) → (k : ℕ) (fallback : List ℕ) → k < length later.split
      → Contains later.joined (slice_index_or later.split k fallback)
  all_back law pass later others all names none k fallback below =
      let name : List ℕ = slice_index_or later.split k fallback in
      let was : Contains (split_with pass.split others) name =
      subst (λ (it : Known A E). Contains it.split name) all.becomes (contains_at later.split k fallback below) in
      subst (λ (it : Known A E). Contains it.joined name) (sym all.becomes)
      (names_joined pass.joined others name (names name (brought pass.split others name none was)))
