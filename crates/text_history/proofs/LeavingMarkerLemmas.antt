-- Of the messages that a fresh session gets those of routes come first, and then the markers of its families.
use Rattle.std.proofs.Common.{ℕ, ◌≡◌, ◌<◌, ◌≤◌, Bool, true, false, not, List, [], ◌∷◌, ◌++◌, length, map, Some, None}
use Rattle.std.proofs.Common.{refl, sym, ap, ◌∙◌, subst, arith}
use Rattle.std.proofs.lemmas.Bool.{and_parts, not-true}
use Rattle.std.proofs.lemmas.List.{length-map}
use Rattle.std.specs.Prelude.{◌&&◌, ◌||◌, Option}
use Rattle.std.specs.List.{AllByRecursion}
use Rattle.route_values.specs.declared.addr.Family.{Family}
use Rattle.route_values.specs.declared.addr.Family.TheVariants.{Ipv4, Ipv6}
use Rattle.route_values.specs.declared.attrs.WireAttrs.{WireAttrs}
use Rattle.route_values.specs.declared.key.Key.{Key}
use Rattle.route_values.specs.Caps.{Caps, no_caps}
use Rattle.route_values.specs.Visible.{has_family}
use Rattle.update_grammar.specs.declared.effect.Effect.TheVariants.{Gone, Here}
use Rattle.update_grammar.specs.Head.{Head}
use Rattle.update_grammar.specs.Head as head
use Rattle.update_grammar.specs.Packed.{named_by, room}
use Rattle.update_grammar.specs.Update.{Spells}
use Rattle.update_grammar.specs.Written.{written, body_of}
use Rattle.peer_history.specs.Batches.{first_cut, batch, is_owed, is_marker_owed, is_left, is_marker_left}
use Rattle.peer_history.specs.Batches.{NoKeyLeft, NothingLeft}
use Rattle.peer_history.specs.Cuts.{AreLeft, EndsFamily, IsDue, IsLegal, MayCut}
use Rattle.peer_history.specs.Keys.{is_named}
use Rattle.peer_history.specs.Messages.{said, mentions, marks, is_marked, meant}
use Rattle.peer_history.specs.Steps.{Step}
use Rattle.peer_history.proofs.BatchLemmas.{due_for}
use Rattle.peer_history.proofs.MessageLemmas.{Grammar, AreFor, head_marks, said_is, written_marks}
use Rattle.peer_history.proofs.SessionLemmas.{at_session}
use Rattle.text_history.specs.Leaving.{TellsRoutes, marker_if}
use Rattle.text_history.proofs.LeavingSlotLemmas.{IsFresh, cut_each, more_each, finished, behind, batch_is, first_is}
use Rattle.text_history.proofs.LeavingSlotLemmas.{marker_is, session_stays}

-- the markers that came, the newest first, by whether that of IPv6 and that of IPv4 did
abbrev pub came : Bool → Bool → List (List ℕ)
came six four = marker_if six Ipv6 ++ marker_if four Ipv4

-- behind no marker a message of routes joins those before
route_joins : (six four later_six later_four : Bool) (bytes : List ℕ) (messages routes : List (List ℕ)) → six ≡ false
    → four ≡ false → later_six ≡ false → later_four ≡ false → messages ≡ came six four ++ routes
    → bytes ∷ messages ≡ came later_six later_four ++ (bytes ∷ routes)
route_joins six four later_six later_four bytes messages routes no_six no_four six_none four_none are =
    ap (λ those. bytes ∷ those) (are ∙ ap (λ so. came so four ++ routes) no_six
    ∙ ap (λ so. came false so ++ routes) no_four)
    ∙ sym (ap (λ so. came so later_four ++ (bytes ∷ routes)) six_none
    ∙ ap (λ so. came false so ++ (bytes ∷ routes)) four_none)

-- the marker of IPv4 comes behind no marker
four_joins : (six four later_six later_four : Bool) (bytes : List ℕ) (messages routes : List (List ℕ)) → six ≡ false
    → four ≡ false → later_six ≡ false → later_four ≡ true → bytes ≡ written no_caps (head.End Ipv4) []
    → messages ≡ came six four ++ routes → bytes ∷ messages ≡ came later_six later_four ++ routes
four_joins six four later_six later_four bytes messages routes no_six no_four six_none four_now is are =
    ap (λ those. bytes ∷ those) (are ∙ ap (λ so. came so four ++ routes) no_six
    ∙ ap (λ so. came false so ++ routes) no_four)
    ∙ ap (λ text. text ∷ routes) is
    ∙ sym (ap (λ so. came so later_four ++ routes) six_none ∙ ap (λ so. came false so ++ routes) four_now)

-- that of IPv6 comes behind no marker but that of IPv4
six_joins : (six four later_six later_four : Bool) (bytes : List ℕ) (messages routes : List (List ℕ)) → six ≡ false
    → later_six ≡ true → later_four ≡ four → bytes ≡ written no_caps (head.End Ipv6) []
    → messages ≡ came six four ++ routes → bytes ∷ messages ≡ came later_six later_four ++ routes
six_joins six four later_six later_four bytes messages routes no_six six_now four_same is are =
    ap (λ those. bytes ∷ those) (are ∙ ap (λ so. came so four ++ routes) no_six)
    ∙ ap (λ text. text ∷ (marker_if four Ipv4 ++ routes)) is
    ∙ sym (ap (λ so. came so later_four ++ routes) six_now ∙ ap (λ so. came true so ++ routes) four_same)

or_false : (a b : Bool) → a ≡ false → b ≡ false → (a || b) ≡ false
or_false true b first second = first
or_false false b first second = second

or_true : (a b : Bool) → a ≡ true → (a || b) ≡ true
or_true true b so = refl
or_true false b so = cc

or_right : (a b : Bool) → a ≡ false → (a || b) ≡ b
or_right true b so = cc
or_right false b so = refl

-- what is said of a key or a marker that is owed
settled : (owed was : Bool) → (owed && not was) ≡ false → (was ≡ true → owed ≡ true) → was ≡ owed
settled true true none so = refl
settled true false none so = sym none
settled false true none so = sym (so refl)
settled false false none so = refl

-- each announcement or withdrawal is one effect
some_meant : (h : Head) (keys : List Key) → AreFor h keys → ((family : Family) → head_marks h family ≡ false)
    → 0 < length (meant h keys)
some_meant (head.Gone family) keys some none =
    subst (λ n. 0 < n) (sym (length-map keys (λ key. Gone key))) some
some_meant (head.Here family attrs) keys some none =
    subst (λ n. 0 < n) (sym (length-map keys (λ key. Here key attrs))) some
some_meant (head.End Ipv4) keys some none = absurd (let no = none Ipv4 in cc)
some_meant (head.End Ipv6) keys some none = absurd (let no = none Ipv6 in cc)

module _ (grammar : Grammar) (caps : Caps) (start : List Step) (fresh : IsFresh caps start) where
  -- The messages, the newest first, are markers behind messages of routes. A marker comes where no key is left, and
  -- that of IPv6 where that of IPv4 isn't.
  pub record IsSplit (messages routes : List (List ℕ)) : Type 0 where
    pub are : messages ≡ came (is_marked Ipv6 messages) (is_marked Ipv4 messages) ++ routes
    pub tell : AllByRecursion (TellsRoutes caps) routes
    pub carried : (family : Family) → is_marked family messages ≡ true → has_family caps family ≡ true
    pub late : (family : Family) → is_marked family messages ≡ true → NoKeyLeft caps (behind messages start)
    pub six : is_marked Ipv6 messages ≡ true → is_marker_left caps (behind messages start) Ipv4 ≡ false

  none_split : IsSplit [] []
  none_split = record { are = refl; tell = tt; carried = λ family e. cc; late = λ family e. cc; six = λ e. cc }

  -- ---- a message of routes

  unmarked : (messages routes : List (List ℕ)) (key : Key) → IsSplit messages routes
      → is_left caps (behind messages start) key ≡ true → (family : Family) → is_marked family messages ≡ false
  unmarked messages routes key split left family =
      elim (is_marked family messages) as (λ so. is_marked family messages ≡ so → so ≡ false) [
        | true ↦ λ e. absurd (let none = split.late family e key in cc)
        | false ↦ λ e. refl
      ] refl

  split_route : (messages routes : List (List ℕ)) (bytes : List ℕ) (key : Key) → IsSplit messages routes
      → is_left caps (behind messages start) key ≡ true → ((family : Family) → marks family bytes ≡ false)
      → TellsRoutes caps bytes → IsSplit (bytes ∷ messages) (bytes ∷ routes)
  split_route messages routes bytes key split left plain tells =
      let none = unmarked messages routes key split left in
      let later : (family : Family) → is_marked family (bytes ∷ messages) ≡ false =
      λ family. or_false (marks family bytes) (is_marked family messages) (plain family) (none family) in
      record {
        are = route_joins _ _ _ _ bytes messages routes (none Ipv6) (none Ipv4) (later Ipv6) (later Ipv4) split.are;
        tell = (tells, split.tell);
        carried = λ family e. absurd (let no_longer = later family in cc);
        late = λ family e. absurd (let no_longer = later family in cc);
        six = λ e. absurd (let no_longer = later Ipv6 in cc);
      }

  route_left : (messages routes : List (List ℕ)) (bytes : List ℕ) (family : Family) (value : Option WireAttrs)
      (keys : List Key) → IsSplit messages routes → AreLeft caps (behind messages start) family value keys
      → ((f : Family) → marks f bytes ≡ false) → TellsRoutes caps bytes → IsSplit (bytes ∷ messages) (bytes ∷ routes)
  route_left messages routes bytes family value [] split are plain tells =
      absurd (let some = are.some in omega (arith, some))
  route_left messages routes bytes family value (key ∷ keys) split are plain tells =
      split_route messages routes bytes key split are.left.0 plain tells

  -- ---- a marker

  -- where a family's marker is left, it didn't come
  not_yet : (messages : List (List ℕ)) (family : Family) → is_marker_left caps (behind messages start) family ≡ true
      → is_marked family messages ≡ false
  not_yet messages family left =
      ap (is_marked family) (sym (batch_is caps start fresh messages)) ∙ not-true _ (and_parts _ _ left).1

  left_carried : (messages : List (List ℕ)) (family : Family)
      → is_marker_left caps (behind messages start) family ≡ true → has_family caps family ≡ true
  left_carried messages family left = (and_parts _ _ (and_parts _ _ left).0).0

  no_key_later : (messages : List (List ℕ)) (bytes : List ℕ) → said caps bytes ≡ []
      → NoKeyLeft caps (behind messages start) → NoKeyLeft caps (behind (bytes ∷ messages) start)
  no_key_later messages bytes silent none key =
      ap (λ effects. is_owed caps (first_cut (behind messages start)) key
      && not (is_named (map named_by effects ++ mentions caps (batch (behind messages start))) key)) silent ∙ none key

  split_four : (messages routes : List (List ℕ)) (bytes : List ℕ) (keys : List Key) → IsSplit messages routes
      → EndsFamily caps (behind messages start) Ipv4 keys → bytes ≡ written caps (head.End Ipv4) []
      → ((family : Family) → marks family bytes ≡ head_marks (head.End Ipv4) family) → said caps bytes ≡ []
      → IsSplit (bytes ∷ messages) routes
  split_four messages routes bytes keys split ends is marked silent =
      let no_four = not_yet messages Ipv4 ends.left in
      let no_six : is_marked Ipv6 messages ≡ false =
      elim (is_marked Ipv6 messages) as (λ so. is_marked Ipv6 messages ≡ so → so ≡ false) [
        | true ↦ λ e. absurd (let none = split.six e in
            let left : is_marker_left caps (behind messages start) Ipv4 ≡ true = ends.left in cc)
        | false ↦ λ e. refl
      ] refl in
      let six_none : is_marked Ipv6 (bytes ∷ messages) ≡ false = or_false _ _ (marked Ipv6) no_six in
      let four_now : is_marked Ipv4 (bytes ∷ messages) ≡ true = or_true _ _ (marked Ipv4) in
      record {
        are = four_joins _ _ _ _ bytes messages routes no_six no_four six_none four_now is split.are;
        tell = split.tell;
        carried = λ family. elim family as (λ f. is_marked f (bytes ∷ messages) ≡ true → has_family caps f ≡ true) [
          | Ipv4 ↦ λ e. left_carried messages Ipv4 ends.left
          | Ipv6 ↦ λ e. cc
        ];
        late = λ family e. no_key_later messages bytes silent ends.no_key;
        six = λ e. cc;
      }

  split_six : (messages routes : List (List ℕ)) (bytes : List ℕ) (keys : List Key) → IsSplit messages routes
      → EndsFamily caps (behind messages start) Ipv6 keys → bytes ≡ written caps (head.End Ipv6) []
      → ((family : Family) → marks family bytes ≡ head_marks (head.End Ipv6) family) → said caps bytes ≡ []
      → IsSplit (bytes ∷ messages) routes
  split_six messages routes bytes keys split ends is marked silent =
      let no_six = not_yet messages Ipv6 ends.left in
      let six_now : is_marked Ipv6 (bytes ∷ messages) ≡ true = or_true _ _ (marked Ipv6) in
      let four_same : is_marked Ipv4 (bytes ∷ messages) ≡ is_marked Ipv4 messages = or_right _ _ (marked Ipv4) in
      record {
        are = six_joins _ _ _ _ bytes messages routes no_six six_now four_same is split.are;
        tell = split.tell;
        carried = λ family. elim family as (λ f. is_marked f (bytes ∷ messages) ≡ true → has_family caps f ≡ true) [
          | Ipv4 ↦ λ e. split.carried Ipv4 (sym four_same ∙ e)
          | Ipv6 ↦ λ e. left_carried messages Ipv6 ends.left
        ];
        late = λ family e. no_key_later messages bytes silent ends.no_key;
        six = λ e.
            ap (λ so. is_marker_owed caps (first_cut (behind messages start)) Ipv4
            && not (so || is_marked Ipv4 (batch (behind messages start)))) (marked Ipv4) ∙ ends.first refl;
      }

  -- ---- any message

  -- more messages, split as well
  pub record SplitsOn (messages : List (List ℕ)) : Type 0 where
    pub routes : List (List ℕ)
    pub split : IsSplit messages routes

  splits_by : (messages routes : List (List ℕ)) (bytes : List ℕ) (h : Head) (keys : List Key)
      → IsSplit messages routes → bytes ≡ written caps h keys → length bytes ≤ room caps
      → Spells caps (body_of bytes) (meant h keys) → ((family : Family) → marks family bytes ≡ head_marks h family)
      → said caps bytes ≡ meant h keys → IsDue caps (behind messages start) h keys → SplitsOn (bytes ∷ messages)
  splits_by messages routes bytes (head.Gone family) keys split text fits spelled marked says due = record {
    routes = bytes ∷ routes;
    split = route_left messages routes bytes family None keys split due marked (record {
      spelled = subst (Spells caps (body_of bytes)) (sym says) spelled;
      some = subst (λ effects. 0 < length effects) (sym says)
          (some_meant (head.Gone family) keys due.some (λ f. refl));
      fits = fits;
    });
  }
  splits_by messages routes bytes (head.Here family attrs) keys split text fits spelled marked says due = record {
    routes = bytes ∷ routes;
    split = route_left messages routes bytes family (Some attrs) keys split due marked (record {
      spelled = subst (Spells caps (body_of bytes)) (sym says) spelled;
      some = subst (λ effects. 0 < length effects) (sym says)
          (some_meant (head.Here family attrs) keys due.some (λ f. refl));
      fits = fits;
    });
  }
  splits_by messages routes bytes (head.End Ipv4) keys split text fits spelled marked says due = record {
    routes = routes;
    split = split_four messages routes bytes keys split due (text ∙ ap (written caps (head.End Ipv4)) due.none) marked
        says;
  }
  splits_by messages routes bytes (head.End Ipv6) keys split text fits spelled marked says due = record {
    routes = routes;
    split = split_six messages routes bytes keys split due (text ∙ ap (written caps (head.End Ipv6)) due.none) marked
        says;
  }

  splits_more : (messages : List (List ℕ)) (bytes : List ℕ) (last : Bool) → SplitsOn messages
      → MayCut caps (behind messages start) bytes last → SplitsOn (bytes ∷ messages)
  splits_more messages bytes last on may =
      let for_head = due_for caps (behind messages start) may.head may.keys may.due in
      splits_by messages on.routes bytes may.head may.keys on.split may.text may.fits may.spelled
      (λ family. ap (marks family) may.text ∙ written_marks grammar caps may.head may.keys for_head family)
      (said_is grammar caps bytes (meant may.head may.keys) may.spelled) may.due

  splits_going : (messages : List (List ℕ)) → IsLegal (behind messages start) → SplitsOn messages
  splits_going [] legal = record { routes = []; split = none_split }
  splits_going (bytes ∷ older) legal =
      splits_more older bytes false (splits_going older legal.1)
      (at_session caps (behind older start) bytes false (session_stays (more_each older) start ∙ fresh.at) legal)

  splits : (messages : List (List ℕ)) → IsLegal (cut_each (finished messages) start) → SplitsOn messages
  splits [] legal = record { routes = []; split = none_split }
  splits (bytes ∷ older) legal =
      splits_more older bytes true (splits_going older legal.1)
      (at_session caps (behind older start) bytes true (session_stays (more_each older) start ∙ fresh.at) legal)

  -- ---- all messages

  all_marked : (messages routes : List (List ℕ)) → IsSplit messages routes → NothingLeft caps (behind messages start)
      → (family : Family) → is_marked family messages ≡ has_family caps family
  all_marked messages routes split nothing family =
      settled (has_family caps family) (is_marked family messages)
      (ap (λ so. so && not (is_marked family messages)) (sym (marker_is caps start fresh family))
      ∙ ap (λ at. is_marker_owed caps at family && not (is_marked family messages))
      (sym (first_is caps start fresh messages))
      ∙ ap (λ those. is_marker_owed caps (first_cut (behind messages start)) family && not (is_marked family those))
      (sym (batch_is caps start fresh messages))
      ∙ nothing.markers family) (split.carried family)

  -- messages of routes, and then the marker of each family
  pub record EndWithMarkers (messages : List (List ℕ)) : Type 0 where
    pub routes : List (List ℕ)
    pub are : messages ≡ came caps.ipv6 caps.ipv4 ++ routes
    pub tell : AllByRecursion (TellsRoutes caps) routes

  pub end_with_markers : (messages : List (List ℕ)) → IsLegal (cut_each (finished messages) start)
      → NothingLeft caps (behind messages start) → EndWithMarkers messages
  end_with_markers messages legal nothing =
      let on = splits messages legal in
      let all = all_marked messages on.routes on.split nothing in
      record {
        routes = on.routes;
        are = on.split.are
            ∙ ap (λ so. came so (is_marked Ipv4 messages) ++ on.routes) (all Ipv6)
            ∙ ap (λ so. came caps.ipv6 so ++ on.routes) (all Ipv4);
        tell = on.split.tell;
      }
