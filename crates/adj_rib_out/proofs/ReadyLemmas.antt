-- Keys come to stand ready one after another.
use Rattle.std.proofs.Common.{◌≡◌, ℕ, ◌+◌, ◌<◌, ◌≤◌, Bool, true, false, List, [], ◌∷◌, ◌++◌, length, take, drop, get_or}
use Rattle.std.proofs.Common.{refl, sym, ap, subst, ◌∙◌}
use Rattle.std.specs.Prelude.{◌||◌}
use Rattle.std.proofs.lemmas.List.{take_more, take_all, take-append-drop}
use Rattle.route_values.specs.declared.key.Key.{Key}
use Rattle.route_values.specs.Key.{same_key}
use Rattle.route_values.proofs.KeyLemmas.{same_key_is}
use Rattle.adj_rib_out.specs.State.{State, is_ready}
use Rattle.adj_rib_out.specs.Calls.{is_named}
use Rattle.adj_rib_out.specs.Readying.{KeepsRest, ReadiesKeys, ReadiesSomeKeys}

pub rest_same : (state : State) → KeepsRest state state
rest_same state = record {
  values = λ number. refl;
  routes = record { side = refl; routes = λ key. refl };
  session = record { session = refl; told = λ key. refl };
  batch = record { left = refl; markers = refl };
  nodes = refl;
}

pub rest_then : (old mid new : State) → KeepsRest old mid → KeepsRest mid new → KeepsRest old new
rest_then old mid new first second = record {
  values = λ number. second.values number ∙ first.values number;
  routes = record {
    side = second.routes.side ∙ first.routes.side;
    routes = λ key. second.routes.routes key ∙ first.routes.routes key;
  };
  session = record {
    session = second.session.session ∙ first.session.session;
    told = λ key. second.session.told key ∙ first.session.told key;
  };
  batch = record {
    left = second.batch.left ∙ first.batch.left;
    markers = second.batch.markers ∙ first.batch.markers;
  };
  nodes = second.nodes ∙ first.nodes;
}

pub none_ready : (state : State) → ReadiesKeys state state []
none_ready state = record { keys = λ key. refl; rest = rest_same state }

named_too : (a b : Bool) → (a ≡ true → b ≡ true) → b ≡ ((a || false) || b)
named_too true b is = is refl
named_too false b is = refl

-- a key that stands ready already
pub ready_already : (state : State) (key : Key) → is_ready state key ≡ true → ReadiesKeys state state (key ∷ [])
ready_already state key ready = record {
  keys = λ k. named_too (same_key key k) (is_ready state k) (λ same.
      subst (λ (j : Key). is_ready state j ≡ true) (same_key_is key k same) ready);
  rest = rest_same state;
}

pub named-append : (named more : List Key) (key : Key) → is_named (named ++ more) key
    ≡ (is_named named key || is_named more key)
named-append [] more key = refl
named-append (k ∷ named) more key = by (same_key k key) (named-append named more key)
  where
    by : (test : Bool) → is_named (named ++ more) key ≡ (is_named named key || is_named more key)
        → (test || is_named (named ++ more) key) ≡ ((test || is_named named key) || is_named more key)
    by true rest = refl
    by false rest = rest

swapped : (a b c : Bool) → (a || (b || c)) ≡ ((b || a) || c)
swapped true true c = refl
swapped true false c = refl
swapped false true c = refl
swapped false false c = refl

-- one key more
pub next_ready : (old mid new : State) (named more : List Key) → ReadiesKeys old mid named → ReadiesKeys mid new more
    → ReadiesKeys old new (named ++ more)
next_ready old mid new named more first second = record {
  keys = λ key. second.keys key ∙ ap (λ (t : Bool). is_named more key || t) (first.keys key)
      ∙ swapped (is_named more key) (is_named named key) (is_ready old key)
      ∙ ap (λ (t : Bool). t || is_ready old key) (sym (named-append named more key));
  rest = rest_then old mid new first.rest second.rest;
}

or_right : (a b : Bool) → b ≡ true → (a || b) ≡ true
or_right true b is = refl
or_right false b is = is

or_left : (a b : Bool) → a ≡ true → (a || b) ≡ true
or_left a b is = ap (λ (t : Bool). t || b) is

-- of what is said to be named or ready, the named ones are among others
named_among : (few all old : Bool) → (few ≡ true → all ≡ true) → (few || old) ≡ true → (all || old) ≡ true
named_among true all old among is = or_left all old (among refl)
named_among false all old among is = or_right all old is

-- one key more, or not, behind those that stand ready
pub some_ready : (old mid new : State) (named more wanted : List Key)
    → ((key : Key) → is_named (named ++ more) key ≡ true → is_named wanted key ≡ true)
    → ReadiesKeys old mid named → ReadiesSomeKeys mid new more → ReadiesSomeKeys old new wanted
some_ready old mid new named more wanted among first second = record {
  kept = λ key ready. second.kept key (first.keys key ∙ or_right (is_named named key) (is_ready old key) ready);
  named = λ key ready. named_among (is_named (named ++ more) key) (is_named wanted key) (is_ready old key) (among key)
      (ap (λ (t : Bool). t || is_ready old key) (named-append named more key)
      ∙ sym (swapped (is_named more key) (is_named named key) (is_ready old key))
      ∙ sym (ap (λ (t : Bool). is_named more key || t) (first.keys key)) ∙ second.named key ready);
  rest = rest_then old mid new first.rest second.rest;
}

-- nothing stands ready besides
pub ready_same : (old new : State) (wanted : List Key) → ((key : Key) → is_ready new key ≡ is_ready old key)
    → KeepsRest old new → ReadiesSomeKeys old new wanted
ready_same old new wanted same rest = record {
  kept = λ key ready. same key ∙ ready;
  named = λ key ready. or_right (is_named wanted key) (is_ready old key) (sym (same key) ∙ ready);
  rest = rest;
}

pub named_first : (named more : List Key) (key : Key) → is_named named key ≡ true → is_named (named ++ more) key ≡ true
named_first named more key is = named-append named more key ∙ or_left (is_named named key) (is_named more key) is

-- ---- a list of keys, one after another

module _ (keys : List Key) (i : ℕ) where
  module _ (key : Key) (below : i < length keys) (is : key ≡ get_or keys i key) (old mid new : State)
      (first : ReadiesKeys old mid (take i keys)) where
    one_more : take (i + 1) keys ≡ take i keys ++ key ∷ []
    one_more = take_more keys i key below ∙ ap (λ (k : Key). take i keys ++ k ∷ []) (sym is)

    pub keys_next : ReadiesKeys mid new (key ∷ []) → ReadiesKeys old new (take (i + 1) keys)
    keys_next second = subst (ReadiesKeys old new) (sym one_more)
        (next_ready old mid new (take i keys) (key ∷ []) first second)

    among : (k : Key) → is_named (take i keys ++ key ∷ []) k ≡ true → is_named keys k ≡ true
    among k named = subst (λ (l : List Key). is_named l k ≡ true) (take-append-drop (i + 1) keys)
        (named_first (take (i + 1) keys) (drop (i + 1) keys) k
        (subst (λ (l : List Key). is_named l k ≡ true) (sym one_more) named))

    pub keys_some : ReadiesSomeKeys mid new (key ∷ []) → ReadiesSomeKeys old new keys
    keys_some second = some_ready old mid new (take i keys) (key ∷ []) keys among first second

  pub keys_all : length keys ≤ i → (old new : State) → ReadiesKeys old new (take i keys) → ReadiesKeys old new keys
  keys_all through old new ready = subst (ReadiesKeys old new) (take_all i keys through) ready
