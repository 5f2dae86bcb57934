-- Static routes that stand ready under the numbers of their values.
use Rattle.std.proofs.Common.{◌≡◌, ℕ, ◌+◌, ◌<◌, zero, suc, Bool, true, false, cond, List, [], ◌∷◌, ◌++◌, length}
use Rattle.std.proofs.Common.{Some, None, get_or, take, refl, sym, ap, ◌∙◌, subst, inl, inr, eqb-true}
use Rattle.std.specs.Prelude.{◌||◌, ◌⊎◌, ◌==◌, Option, is_some, if◌then◌else◌}
use Rattle.std.specs.Option.{option_map, option_and_then, option_or}
use Rattle.std.specs.Map.{lookup}
use Rattle.std.proofs.lemmas.List.{take_more}
use Rattle.route_values.specs.contracts.key.KeyPartialEq.TheImpl.{ghosts}
use Rattle.route_values.specs.declared.attrs.Attrs.{Attrs}
use Rattle.route_values.specs.declared.key.Key.{Key}
use Rattle.route_values.specs.Key.{same_key}
use Rattle.route_values.proofs.ComparedLemmas.{key_tests}
use Rattle.route_values.proofs.KeyLemmas.{same_key_is}
use Rattle.config_model.specs.declared.sections.StaticRoute.{StaticRoute}
use Rattle.adj_rib_out.specs.State.{State, is_ready, value_at}
use Rattle.adj_rib_out.specs.Calls.{is_named, Readies, ReadiesSome}
use Rattle.peer_history.specs.Steps.{Static}
use Rattle.peer_history.specs.Table.{static_at}
use Rattle.peer_history.specs.Table as history
use Rattle.peer_book.specs.Numbers.{number_at, keys_in, AreNumbered}
use Rattle.peer_book.specs.Statics.{static_of, statics_of}
use Rattle.peer_book.proofs.StaticsLemmas.{ready_value, static_more, statics_more}

-- ---- numbers

-- what the map says of its entries, by the definition's test
pub number_found : (numbers : List (Key × ℕ)) (key : Key) → lookup (ghosts.eq key) numbers ≡ number_at numbers key
number_found numbers key = ap (λ (eq : Key → Key → Bool). lookup (eq key) numbers) key_tests

pub number_put : (old new : List (Key × ℕ)) (key : Key) (number : ℕ)
    → ((other : Key) → lookup (ghosts.eq other) new ≡ cond (ghosts.eq key other) (Some number)
    (lookup (ghosts.eq other) old))
    → (other : Key) → number_at new other ≡ (if same_key key other then Some number else number_at old other)
number_put old new key number says =
    let P : (Key → Key → Bool) → Type 0 = λ eq. (other : Key)
    → lookup (eq other) new ≡ cond (eq key other) (Some number) (lookup (eq other) old) in
    subst P key_tests says

-- ---- what stands ready

value_by : (same : Bool) (old : State) (number other : ℕ) (given written : Attrs) → (other == number) ≡ same
    → (value_at old number ≡ None) ⊎ (value_at old number ≡ Some given) → value_at old other ≡ Some written
    → (if same then Some given else value_at old other) ≡ Some written
value_by true old number other given written is (inl none) at =
    let same : value_at old other ≡ value_at old number = ap (value_at old) (eqb-true other number is) in
    absurd (let no_way : ◌≡◌ {A = Option Attrs} None (Some written) = sym none ∙ sym same ∙ at in cc)
value_by true old number other given written is (inr there) at =
    sym there ∙ ap (value_at old) (sym (eqb-true other number is)) ∙ at
value_by false old number other given written is fresh at = at

-- a value that stands ready stays
pub value_stays : (old new : State) (keys : List Key) (given written : Attrs) (number other : ℕ)
    → Readies old new keys given number → value_at old other ≡ Some written → value_at new other ≡ Some written
value_stays old new keys given written number other ready at =
    ready.value other ∙ value_by (other == number) old number other given written refl ready.fresh at

or_true : (b : Bool) → (b || true) ≡ true
or_true true = refl
or_true false = refl

pub some_readies : (old new : State) (keys : List Key) (written : Attrs) (number : ℕ)
    → Readies old new keys written number → ReadiesSome old new keys
some_readies old new keys written number ready = record {
  kept = λ key stood. ready.keys key ∙ ap (λ b. is_named keys key || b) stood ∙ or_true (is_named keys key);
  named = λ key stands. sym (ready.keys key) ∙ stands;
  values = λ other given at. value_stays old new keys written given number other ready at;
  routes = ready.routes;
  session = ready.session;
  batch = ready.batch;
}

pub some_same : (state : State) (keys : List Key) → ReadiesSome state state keys
some_same state keys = record {
  kept = λ key stood. stood;
  named = λ key stands. ap (λ b. is_named keys key || b) stands ∙ or_true (is_named keys key);
  values = λ number written at. at;
  routes = record { side = refl; routes = λ key. refl };
  session = record { session = refl; told = λ key. refl };
  batch = record { left = refl; markers = refl };
}

-- ---- one call behind another

named_append : (some others : List Key) (key : Key)
    → is_named (some ++ others) key ≡ (is_named some key || is_named others key)
named_append [] others key = refl
named_append (k ∷ ks) others key =
    elim (same_key k key) as (λ b. (b || is_named (ks ++ others) key)
    ≡ ((b || is_named ks key) || is_named others key)) [
      | true ↦ refl
      | false ↦ named_append ks others key
    ]

or_pair : (first last was mid : Bool) → (last || mid) ≡ true → (mid ≡ true → (first || was) ≡ true)
    → ((first || last) || was) ≡ true
or_pair true last was mid is before = refl
or_pair false true was mid is before = refl
or_pair false false was true is before = before refl
or_pair false false was false is before = absurd (let no_way : false ≡ true = is in cc)

pub some_more : (old mid new : State) (keys last : List Key) → ReadiesSome old mid keys → ReadiesSome mid new last
    → ReadiesSome old new (keys ++ last)
some_more old mid new keys last before some = record {
  kept = λ key stood. some.kept key (before.kept key stood);
  named = λ key stands.
      ap (λ b. b || is_ready old key) (named_append keys last key)
      ∙ or_pair (is_named keys key) (is_named last key) (is_ready old key) (is_ready mid key)
      (some.named key stands) (before.named key);
  values = λ number written at. some.values number written (before.values number written at);
  routes = record {
    side = some.routes.side ∙ before.routes.side;
    routes = λ key. some.routes.routes key ∙ before.routes.routes key;
  };
  session = record {
    session = some.session.session ∙ before.session.session;
    told = λ key. some.session.told key ∙ before.session.told key;
  };
  batch = record {
    left = some.batch.left ∙ before.batch.left;
    markers = some.batch.markers ∙ before.batch.markers;
  };
}

or_wider : (narrow wide was : Bool) → (narrow ≡ true → wide ≡ true) → (narrow || was) ≡ true → (wide || was) ≡ true
or_wider true wide was so is = ap (λ b. b || was) (so refl)
or_wider false wide was so is = ap (λ b. wide || b) is ∙ or_true wide

-- among more keys
some_wider : (old new : State) (keys all : List Key) → ReadiesSome old new keys
    → ((key : Key) → is_named keys key ≡ true → is_named all key ≡ true) → ReadiesSome old new all
some_wider old new keys all some within = record {
  kept = some.kept;
  named = λ key stands. or_wider (is_named keys key) (is_named all key) (is_ready old key) (within key)
      (some.named key stands);
  values = some.values;
  routes = some.routes;
  session = some.session;
  batch = some.batch;
}

keys_more : (routes : List StaticRoute) (route : StaticRoute)
    → keys_in (routes ++ route ∷ []) ≡ keys_in routes ++ route.key ∷ []
keys_more [] route = refl
keys_more (r ∷ rs) route = ap (λ ks. r.key ∷ ks) (keys_more rs route)

named_within : (routes : List StaticRoute) (count : ℕ) (key : Key) → is_named (keys_in (take count routes)) key ≡ true
    → is_named (keys_in routes) key ≡ true
named_within routes zero key named = absurd (let no_way : false ≡ true = named in cc)
named_within [] (suc count) key named = named
named_within (r ∷ rs) (suc count) key named =
    elim (same_key r.key key) as (λ b. (b || is_named (keys_in (take count rs)) key) ≡ true
    → (b || is_named (keys_in rs) key) ≡ true) [
      | true ↦ λ there. refl
      | false ↦ λ there. named_within rs count key there
    ] named

module _ (old mid new : State) (routes : List StaticRoute) (i : ℕ) (route : StaticRoute) (within : i < length routes)
    (is : route ≡ get_or routes i route) (before : ReadiesSome old mid (keys_in (take i routes)))
    (some : ReadiesSome mid new (route.key ∷ [])) where
  pub some_next : ReadiesSome old new (keys_in (take (i + 1) routes))
  some_next =
      subst (λ rs. ReadiesSome old new (keys_in rs)) (sym (take_more routes i route within))
      (subst (λ r. ReadiesSome old new (keys_in (take i routes ++ r ∷ []))) is
      (subst (ReadiesSome old new) (sym (keys_more (take i routes) route))
      (some_more old mid new (keys_in (take i routes)) (route.key ∷ []) before some)))

  pub some_failed : ReadiesSome old new (keys_in routes)
  some_failed = some_wider old new (keys_in (take (i + 1) routes)) (keys_in routes) some_next
      (named_within routes (i + 1))

-- ---- routes that stand ready

pub numbered_none : (state : State) → AreNumbered state [] []
numbered_none state = record {
  all = λ key. refl;
  ready = λ key is. absurd (let no_way : false ≡ true = is in cc);
  values = λ key. refl;
}

or_static : (statics : List Static) (static : Static) (key : Key) (was : Option history.Route)
    → static_at statics key ≡ was
    → static_at (statics ++ static ∷ []) key ≡ option_or was (static_at (static ∷ []) key)
or_static statics static key was at =
    static_more statics static key ∙ ap (λ (o : Option history.Route). option_or o (static_at (static ∷ []) key)) at

-- a route whose key stood before adds none
static_old : (statics : List Static) (static : Static) (key : Key) → is_some (static_at statics static.key) ≡ true
    → static_at (statics ++ static ∷ []) key ≡ static_at statics key
static_old statics static key there = by_was (static_at statics key) refl
  where
    by_was : (was : Option history.Route) → static_at statics key ≡ was
        → static_at (statics ++ static ∷ []) key ≡ static_at statics key
    by_was (Some route) at = or_static statics static key (Some route) at ∙ sym at
    by_was None at =
        or_static statics static key None at
        ∙ elim (same_key static.key key) as (λ b. same_key static.key key ≡ b
        → (if b then Some (record { attrs = static.attrs; owner = history.Configuration }) else None)
        ≡ static_at statics key) [
          | true ↦ λ same.
              let gone : static_at statics static.key ≡ None =
              ap (static_at statics) (same_key_is static.key key same) ∙ at in
              absurd (let no_way : false ≡ true = sym (ap is_some gone) ∙ there in cc)
          | false ↦ λ other. sym at
        ] refl

pub numbered_old : (table : State) (statics : List Static) (static : Static) (numbers : List (Key × ℕ))
    → is_some (number_at numbers static.key) ≡ true → AreNumbered table statics numbers
    → AreNumbered table (statics ++ static ∷ []) numbers
numbered_old table statics static numbers there are =
    let same : (key : Key) → static_at (statics ++ static ∷ []) key ≡ static_at statics key =
    λ key. static_old statics static key (sym (are.all static.key) ∙ there) in
    record {
      all = λ key. are.all key ∙ ap (λ (o : Option history.Route). is_some o) (sym (same key));
      ready = are.ready;
      values = λ key. are.values key
          ∙ ap (option_map (λ (route : history.Route). route.attrs)) (sym (same key));
    }

-- a value that stood ready under a key's number stands there still
values_stay : (old new : State) (number : Option ℕ) (route : Option history.Route)
    → ((n : ℕ) (written : Attrs) → value_at old n ≡ Some written → value_at new n ≡ Some written)
    → is_some number ≡ is_some route
    → option_and_then (value_at old) number ≡ option_map (λ (r : history.Route). r.attrs) route
    → option_and_then (value_at new) number ≡ option_map (λ (r : history.Route). r.attrs) route
values_stay old new None route stays all at = at
values_stay old new (Some n) None stays all at = absurd (let no_way : true ≡ false = all in cc)
values_stay old new (Some n) (Some route) stays all at = stays n route.attrs at

none_numbered : (number : Option ℕ) (route : Option history.Route) → is_some number ≡ is_some route
    → is_some number ≡ false → route ≡ None
none_numbered number None all is = refl
none_numbered number (Some route) all is = absurd (let no_way : true ≡ false = sym all ∙ is in cc)

or_is_some : (was : Option history.Route) (route : history.Route) → true ≡ is_some (option_or was (Some route))
or_is_some None route = refl
or_is_some (Some before) route = refl

or_none_is : (was : Option history.Route) → option_or was None ≡ was
or_none_is None = refl
or_none_is (Some before) = refl

pub numbered_new : (old new : State) (statics : List Static) (static : Static) (before after : List (Key × ℕ))
    (number : ℕ) → Readies old new (static.key ∷ []) static.attrs number
    → is_some (number_at before static.key) ≡ false
    → ((other : Key) → number_at after other
    ≡ (if same_key static.key other then Some number else number_at before other))
    → AreNumbered old statics before → AreNumbered new (statics ++ static ∷ []) after
numbered_new old new statics static before after number ready absent put are = record {
  all = λ key. by_all key (same_key static.key key) refl;
  ready = λ key is. by_ready key (same_key static.key key) refl is;
  values = λ key. by_value key (same_key static.key key) refl;
}
  where
    after_is : (key : Key) (b : Bool) → same_key static.key key ≡ b
        → number_at after key ≡ (if b then Some number else number_at before key)
    after_is key b at = put key ∙ ap (λ c. if c then Some number else number_at before key) at

    static_is : (key : Key) (b : Bool) → same_key static.key key ≡ b
        → static_at (statics ++ static ∷ []) key ≡ option_or (static_at statics key)
        (if b then Some (record { attrs = static.attrs; owner = history.Configuration }) else None)
    static_is key b at =
        static_more statics static key
        ∙ ap (λ c. option_or (static_at statics key)
        (if c then Some (record { attrs = static.attrs; owner = history.Configuration }) else None)) at

    by_all : (key : Key) (b : Bool) → same_key static.key key ≡ b
        → is_some (number_at after key) ≡ is_some (static_at (statics ++ static ∷ []) key)
    by_all key true at =
        ap (λ (o : Option ℕ). is_some o) (after_is key true at) ∙ or_is_some (static_at statics key) _
        ∙ ap (λ (o : Option history.Route). is_some o) (sym (static_is key true at))
    by_all key false at =
        ap (λ (o : Option ℕ). is_some o) (after_is key false at) ∙ are.all key
        ∙ ap (λ (o : Option history.Route). is_some o)
        (sym (static_is key false at ∙ or_none_is (static_at statics key)))

    by_ready : (key : Key) (b : Bool) → same_key static.key key ≡ b → is_some (number_at after key) ≡ true
        → is_ready new key ≡ true
    by_ready key true at is =
        ready.keys key ∙ ap (λ c. (c || false) || is_ready old key) at
    by_ready key false at is =
        let stood : is_ready old key ≡ true =
        are.ready key (ap (λ (o : Option ℕ). is_some o) (sym (after_is key false at)) ∙ is) in
        ready.keys key ∙ ap (λ b. is_named (static.key ∷ []) key || b) stood
        ∙ or_true (is_named (static.key ∷ []) key)

    by_value : (key : Key) (b : Bool) → same_key static.key key ≡ b
        → option_and_then (value_at new) (number_at after key)
        ≡ option_map (λ (route : history.Route). route.attrs) (static_at (statics ++ static ∷ []) key)
    by_value key true at =
        let none : static_at statics key ≡ None =
        none_numbered (number_at before key) (static_at statics key) (are.all key)
        (ap (λ (k : Key). is_some (number_at before k)) (sym (same_key_is static.key key at)) ∙ absent) in
        ap (option_and_then (value_at new)) (after_is key true at)
        ∙ ready_value old new (static.key ∷ []) static.attrs number ready
        ∙ ap (option_map (λ (route : history.Route). route.attrs)) (sym (static_is key true at
        ∙ ap (λ (o : Option history.Route). option_or o
        (Some (record { attrs = static.attrs; owner = history.Configuration }))) none))
    by_value key false at =
        ap (option_and_then (value_at new)) (after_is key false at)
        ∙ values_stay old new (number_at before key) (static_at statics key)
        (λ n written stood. value_stays old new (static.key ∷ []) static.attrs written number n ready stood)
        (are.all key) (are.values key)
        ∙ ap (option_map (λ (route : history.Route). route.attrs))
        (sym (static_is key false at ∙ or_none_is (static_at statics key)))

pub numbered_next : (table : State) (routes : List StaticRoute) (i : ℕ) (route : StaticRoute)
    (numbers : List (Key × ℕ)) → i < length routes → route ≡ get_or routes i route
    → AreNumbered table (statics_of (take i routes) ++ static_of route ∷ []) numbers
    → AreNumbered table (statics_of (take (i + 1) routes)) numbers
numbered_next table routes i route numbers within is are =
    subst (λ rs. AreNumbered table (statics_of rs) numbers) (sym (take_more routes i route within))
    (subst (λ r. AreNumbered table (statics_of (take i routes ++ r ∷ [])) numbers) is
    (subst (λ ss. AreNumbered table ss numbers) (sym (statics_more (take i routes) route)) are))
