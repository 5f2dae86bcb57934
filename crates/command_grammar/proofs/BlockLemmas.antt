-- Prefixes of one family, up to the line's end.
use Rattle.std.proofs.Common.{ℕ, ◌≡◌, ◌<◌, ◌≤◌, ◌-◌, ◌+◌, true, false, List, [], ◌∷◌, ◌++◌, length, Option}
use Rattle.std.proofs.Common.{Some, None, Result, Ok, Err, ap, sym, ◌∙◌, refl, subst, arith, length-append, append-nil}
use Rattle.std.proofs.Common.{inl, inr}
use Rattle.std.proofs.lemmas.Bool.{false≢true}
use Rattle.std.proofs.lemmas.List.{map-append, length-map}
use Rattle.route_values.specs.declared.addr.Family.{Family}
use Rattle.route_values.specs.declared.key.Key.{Key}
use Rattle.route_values.specs.Addr.{family_of}
use Rattle.route_values.specs.Prefix.{Block}
use Rattle.token_reader.specs.declared.token.Place.{Place}
use Rattle.token_reader.specs.Tokens.{Token, Placed, Word, front_token}
use Rattle.route_grammar.specs.declared.fault.ReadFault.{ReadFault}
use Rattle.route_grammar.specs.Limits.{Prefixes, Limits, in_force, raised}
use Rattle.route_grammar.specs.Productions.{Production, OneWord, Saying, Repeated, Row, IsFault, front}
use Rattle.route_grammar.specs.Productions.{nothing_further, all_further}
use Rattle.route_grammar.specs.Answered.{tokens_of, Answers, Faults, Reads, IsNoRoom}
use Rattle.route_grammar.proofs.ProductionLemmas.{leads_all, HasReading, IsChosen}
use Rattle.route_grammar.proofs.AnsweredLemmas.{fault_answers, then_answers, first_answers, chosen_answers}
use Rattle.route_grammar.proofs.LimitLemmas.{raised_one, held_one}
use Rattle.route_grammar.proofs.RepeatedLemmas.{Starts, AreSoFar, repeated_more}
use Rattle.route_grammar.proofs.InsideLemmas.{IsNext}
use Rattle.route_grammar.proofs.AlongLemmas.{IsAlong, along_none, along_more, along_reads, along_stops, along_faults}
use Rattle.route_grammar.proofs.WordLemmas.{bad_answers, many_answers}
use Rattle.command_grammar.specs.Routes.{key_from, keys_from, IsBlockOf, FurtherBlocks, KeysOf}
use Rattle.command_grammar.proofs.FormLemmas.{word_grows}

-- ---- a row of words up to the end, of which there may be one less than prefixes

-- so many values have room behind a first one
abbrev pub Fits : {V : Type 0} → Limits → List V → Type 0
Fits limits values = length values ≤ limits Prefixes - 1

pub words_start : {V : Type 0} (Spells : List ℕ → V → Type 0) → Starts (OneWord Spells) all_further
words_start Spells limits tokens others value read =
    ap (λ (text : List Token). all_further (front (text ++ others))) read.1

goes_on : (left : List Placed) → (left ≡ [] → ⊥) → all_further (front_token left) ≡ true
goes_on [] some = absurd (some refl)
goes_on (first ∷ left) some = refl

one_more : {V : Type 0} (values : List V) (value : V) (limits : Limits) → length values < limits Prefixes - 1
    → Fits limits (values ++ value ∷ [])
one_more values value limits room = omega (arith, room, length-append values (value ∷ []))

too_many : {V : Type 0} (values more : List V) (value : V) (limit : ℕ) → limit ≤ length values
    → length (values ++ value ∷ more) ≤ limit → ⊥
too_many values more value limit full few = omega (arith, full, few, length-append values (value ∷ more))

-- a further word is the next value, where there is room
next_word : {V : Type 0} (Spells : List ℕ → V → Type 0) (values : List V) (lead : Option Token)
    → length values < in_force Prefixes - 1 → IsNext (OneWord Spells) (OneWord Spells) Fits in_force values lead
next_word Spells values lead room = record {
  wider = λ held text value least read. (read, one_more values value held (omega (arith, room, least Prefixes)));
  same = λ held text others value more at read fits. read;
}

word_at : (token : Option Token) (tokens others : List Token) (word : List ℕ) → front (tokens ++ others) ≡ token
    → tokens ≡ Word word ∷ [] → token ≡ Some (Word word)
word_at token tokens others word at is = sym at ∙ ap (λ (text : List Token). front (text ++ others)) is

-- a front token that is no such word
bad_word : {V W : Type 0} (Spells : List ℕ → V → Type 0) (say : List V → W) (tokens left : List Placed)
    (values : List V) → IsAlong (OneWord Spells) all_further in_force tokens left values → Fits in_force values
    → (left ≡ [] → ⊥)
    → ((word : List ℕ) (value : V) → front_token left ≡ Some (Word word) → Spells word value → ⊥)
    → Faults (Row (OneWord Spells) Fits say) all_further in_force tokens left None
bad_word Spells say tokens left values along fit some none =
    along_stops (OneWord Spells) Fits say all_further in_force tokens left values along fit (goes_on left some)
    (λ held next others value more at read fits.
    none read.0 value (word_at (front_token left) next others read.0 at read.1) read.2)

-- what goes on behind values, where no more have room, is nothing
full_row : {V : Type 0} (Spells : List ℕ → V → Type 0) (held : Limits) (rest back others : List Token) (word : List ℕ)
    (values more said : List V) → front rest ≡ Some (Word word) → all_further (front others) ≡ false
    → rest ≡ back ++ others → Repeated (OneWord Spells) held back more → said ≡ values ++ more → Fits held said
    → held Prefixes - 1 ≤ length values → ⊥
full_row Spells held rest back others word values [] said at ends same read said_is fits full =
    false≢true (sym ends ∙ ap (λ (tokens : List Token). all_further (front tokens))
    (sym (same ∙ ap (λ (tokens : List Token). tokens ++ others) read)) ∙ ap all_further at)
full_row Spells held rest back others word values (value ∷ more) said at ends same read said_is fits full =
    too_many values more value (held Prefixes - 1) full (subst (λ all. Fits held all) said_is fits)

-- words are read alike under all limits
words_any : {V : Type 0} (Spells : List ℕ → V → Type 0) (limits other : Limits) (tokens : List Token)
    (values : List V) → Repeated (OneWord Spells) limits tokens values → Repeated (OneWord Spells) other tokens values
words_any Spells limits other tokens [] read = read
words_any Spells limits other tokens (value ∷ values) read =
    (read.0, read.1, read.2, read.3, words_any Spells limits other read.1 values read.4)

-- one word more than have room
many_words : {V W : Type 0} (Spells : List ℕ → V → Type 0) (say : List V → W) (before : List Token)
    (token : Option Token) (values : List V) (word : List ℕ) (value : V)
    → AreSoFar (OneWord Spells) all_further in_force before token values → token ≡ Some (Word word)
    → Spells word value → length values ≡ in_force Prefixes - 1
    → IsFault (Row (OneWord Spells) Fits say) all_further in_force before token (Some Prefixes)
many_words Spells say before token values word value so_far at spelled full = record {
  begins = (
    [],
    say values,
    (
      values,
      subst (λ (tokens : List Token). Repeated (OneWord Spells) in_force tokens values) (sym (append-nil before))
          so_far.found,
      omega (arith, full),
      refl,
    ),
  );
  none = λ held rest tokens others said is_held at_rest same read ends.
      let more = so_far.only held rest tokens others read.0 at_rest same read.1 ends in
      full_row Spells held rest more.1 others word values more.0 read.0 (at_rest ∙ at) ends more.4 more.5 more.2 read.2
      (omega (arith, full, held_one in_force held token Prefixes is_held));
  over_is = (
    word,
    at,
    (
      [],
      say (values ++ value ∷ []),
      (
        values ++ value ∷ [],
        subst (λ (tokens : List Token). Repeated (OneWord Spells) (raised Prefixes in_force) tokens
            (values ++ value ∷ [])) (sym (append-nil (before ++ Word word ∷ [])))
            (repeated_more (OneWord Spells) (raised Prefixes in_force) before (Word word ∷ []) values value
            (words_any Spells in_force (raised Prefixes in_force) before values so_far.found) (word, refl, spelled)),
        omega (arith, full, raised_one Prefixes in_force, length-append values (value ∷ [])),
        refl,
      ),
    ),
  );
}

many_faults : {V W : Type 0} (Spells : List ℕ → V → Type 0) (say : List V → W) (tokens left : List Placed)
    (values : List V) (word : List ℕ) (value : V)
    → IsAlong (OneWord Spells) all_further in_force tokens left values → front_token left ≡ Some (Word word)
    → Spells word value → length values ≡ in_force Prefixes - 1
    → Faults (Row (OneWord Spells) Fits say) all_further in_force tokens left (Some Prefixes)
many_faults Spells say tokens left values word value along at spelled full = (
  along.before,
  along.tokens_are,
  many_words Spells say (tokens_of along.before) (front_token left) values word value along.so_far at spelled full,
)

-- ---- prefixes behind a first one, and the keys of all

abbrev pub IsAlike : Block → List ℕ → Block → Type 0
IsAlike first = IsBlockOf (Some (family_of first.addr))

abbrev pub say_keys : ℕ → Block → List Block → List Key
say_keys id first others = keys_from id (first ∷ others)

-- further prefixes, as a row
abbrev pub AlikeRow : ℕ → Block → Production (List Key)
AlikeRow id first = Row (OneWord (IsAlike first)) Fits (say_keys id first)

-- and as they are defined
abbrev pub SaysFurther : ℕ → Block → Production (List Key)
SaysFurther id first = Saying (say_keys id first) (FurtherBlocks (family_of first.addr) 1)

row_chosen : (id : ℕ) (first : Block) (lead : Option Token)
    → IsChosen (AlikeRow id first) (SaysFurther id first) all_further lead
row_chosen id first lead = record {
  wider = λ limits tokens value read. (read.0, read.3, (read.1, read.2));
  same = λ limits tokens others value at ends read. (read.0, read.2.0, read.2.1, read.1);
}

pub keys_answers : (id : ℕ) (wanted : Option Family) (first : Block) (tokens mid left : List Placed) (end : Place)
    (answer : Result (List Key) ReadFault)
    → Reads (OneWord (IsBlockOf wanted)) nothing_further in_force tokens mid first
    → Answers (AlikeRow id first) all_further in_force mid left end answer
    → Answers (KeysOf id wanted) all_further in_force tokens left end answer
keys_answers id wanted first tokens mid left end answer read given =
    then_answers (OneWord (IsBlockOf wanted)) (SaysFurther id) nothing_further all_further in_force tokens mid left end
    first answer (leads_all all_further (SaysFurther id)) (word_grows (IsBlockOf wanted)) read
    (chosen_answers (AlikeRow id first) (SaysFurther id first) all_further in_force mid left end (front_token mid)
    answer
    (row_chosen id first (front_token mid)) refl given)

none_further : (id : ℕ) (first : Block) → HasReading (SaysFurther id first)
none_further id first limits = ([], say_keys id first [], ([], refl, (refl, omega arith)))

pub keys_err : (id : ℕ) (wanted : Option Family) (tokens left : List Placed) (end : Place) (error : ReadFault)
    → Answers (OneWord (IsBlockOf wanted)) nothing_further in_force tokens left end (Err error)
    → Answers (KeysOf id wanted) all_further in_force tokens left end (Err error)
keys_err id wanted tokens left end error given =
    first_answers (OneWord (IsBlockOf wanted)) (SaysFurther id) nothing_further all_further in_force tokens left end
    error (leads_all all_further (SaysFurther id)) (none_further id) given

row_no_room : (id : ℕ) (first : Block) (mid left : List Placed) (end : Place) (others : List Block)
    (error : ReadFault) → IsAlong (OneWord (IsAlike first)) all_further in_force mid left others → (left ≡ [] → ⊥)
    → length others ≡ 1023 → IsNoRoom (IsAlike first) left end 1024 error
    → Answers (AlikeRow id first) all_further in_force mid left end (Err error)
row_no_room id first mid left end others error along some all (inl many) =
    many_answers (AlikeRow id first) all_further in_force mid left end error Prefixes 1024 many.4 refl
    (many_faults (IsAlike first) (say_keys id first) mid left others many.0 many.1 along many.2 many.3 all)
row_no_room id first mid left end others error along some all (inr bad) =
    bad_answers (AlikeRow id first) all_further in_force mid left end error bad.1
    (bad_word (IsAlike first) (say_keys id first) mid left others along (omega (arith, all)) some bad.0)

-- these are the keys of a first prefix, and of those that were passed behind it
pub record AreKeys (id : ℕ) (wanted : Option Family) (family : Family) (tokens mid left : List Placed)
    (keys : List Key) : Type 0 where
  pub first : Block
  pub others : List Block
  pub read : Reads (OneWord (IsBlockOf wanted)) nothing_further in_force tokens mid first
  pub family_is : family ≡ family_of first.addr
  pub keys_are : keys ≡ keys_from id (first ∷ others)
  pub along : IsAlong (OneWord (IsAlike first)) all_further in_force mid left others

pub keys_begin : (id : ℕ) (wanted : Option Family) (family : Family) (tokens mid : List Placed) (first : Block)
    (keys : List Key) → Reads (OneWord (IsBlockOf wanted)) nothing_further in_force tokens mid first
    → family ≡ family_of first.addr → keys ≡ key_from id first ∷ [] → AreKeys id wanted family tokens mid mid keys
keys_begin id wanted family tokens mid first keys read family_is is = record {
  first = first;
  others = [];
  read = read;
  family_is = family_is;
  keys_are = is;
  along = along_none (OneWord (IsAlike first)) all_further in_force mid;
}

pub keys_more : (id : ℕ) (wanted : Option Family) (family : Family) (tokens mid left after : List Placed)
    (block : Block) (keys all : List Key) → AreKeys id wanted family tokens mid left keys
    → Reads (OneWord (IsBlockOf (Some family))) nothing_further in_force left after block
    → all ≡ keys ++ key_from id block ∷ [] → AreKeys id wanted family tokens mid after all
keys_more id wanted family tokens mid left after block keys all are read all_is =
    let goal : Family → Type 0 =
    λ one. Reads (OneWord (IsBlockOf (Some one))) nothing_further in_force left after block in
    record {
      first = are.first;
      others = are.others ++ block ∷ [];
      read = are.read;
      family_is = are.family_is;
      keys_are = all_is ∙ ap (λ (some : List Key). some ++ key_from id block ∷ []) are.keys_are
          ∙ sym (map-append (key_from id) (are.first ∷ are.others) (block ∷ []));
      along = along_more (OneWord (IsAlike are.first)) all_further in_force mid left after are.others block
          (words_start (IsAlike are.first)) are.along (subst goal are.family_is read);
    }

-- there is one key more than prefixes behind the first one
how_many : (id : ℕ) (first : Block) (others : List Block) (keys : List Key) → keys ≡ keys_from id (first ∷ others)
    → length keys ≡ length others + 1
how_many id first others keys is =
    omega (arith, ap (λ (some : List Key). length some) is, length-map others (key_from id))

pub one_few : (keys : List Key) (key : Key) → keys ≡ key ∷ [] → length keys ≤ 1024
one_few keys key is = omega (arith, ap (λ (some : List Key). length some) is)

pub more_few : (keys all : List Key) (key : Key) → all ≡ keys ++ key ∷ [] → length keys < 1024 → length all ≤ 1024
more_few keys all key is room =
    omega (arith, room, ap (λ (some : List Key). length some) is, length-append keys (key ∷ []))

pub keys_done : (id : ℕ) (wanted : Option Family) (family : Family) (tokens mid left : List Placed) (end : Place)
    (keys : List Key) → AreKeys id wanted family tokens mid left keys → left ≡ [] → length keys ≤ 1024
    → Answers (KeysOf id wanted) all_further in_force tokens left end (Ok keys)
keys_done id wanted family tokens mid left end keys are none few =
    keys_answers id wanted are.first tokens mid left end (Ok keys) are.read
    (subst (λ (some : List Key). Reads (AlikeRow id are.first) all_further in_force mid left some) (sym are.keys_are)
    (along_reads (OneWord (IsAlike are.first)) Fits (say_keys id are.first) all_further in_force mid left are.others
    (words_start (IsAlike are.first)) are.along
    (omega (arith, few, how_many id are.first are.others keys are.keys_are))
    (ap (λ (some : List Placed). all_further (front_token some)) none)))

-- the fault of a further prefix
pub keys_word_err : (id : ℕ) (wanted : Option Family) (family : Family) (tokens mid left after : List Placed)
    (end : Place) (keys : List Key) (error : ReadFault) → AreKeys id wanted family tokens mid left keys
    → (left ≡ [] → ⊥) → length keys < 1024
    → Answers (OneWord (IsBlockOf (Some family))) nothing_further in_force left after end (Err error)
    → Answers (KeysOf id wanted) all_further in_force tokens after end (Err error)
keys_word_err id wanted family tokens mid left after end keys error are some room given =
    let goal : Family → Type 0 =
    λ one. Answers (OneWord (IsBlockOf (Some one))) nothing_further in_force left after end (Err error) in
    let few : length are.others < 1023 = omega (arith, room, how_many id are.first are.others keys are.keys_are) in
    keys_answers id wanted are.first tokens mid after end (Err error) are.read
    (fault_answers (OneWord (IsAlike are.first)) (AlikeRow id are.first) nothing_further all_further in_force left mid
    after end error
    (λ over faults. along_faults (OneWord (IsAlike are.first)) (OneWord (IsAlike are.first)) Fits
    (say_keys id are.first) all_further in_force mid left after over are.others (word_grows (IsAlike are.first))
    are.along (goes_on left some) (next_word (IsAlike are.first) are.others (front_token left) few) faults)
    (subst goal are.family_is given))

-- one token more, where there is no room for a prefix
pub keys_no_room : (id : ℕ) (wanted : Option Family) (family : Family) (tokens mid left : List Placed) (end : Place)
    (keys : List Key) (error : ReadFault) → AreKeys id wanted family tokens mid left keys → (left ≡ [] → ⊥)
    → length keys ≡ 1024 → IsNoRoom (IsBlockOf (Some family)) left end 1024 error
    → Answers (KeysOf id wanted) all_further in_force tokens left end (Err error)
keys_no_room id wanted family tokens mid left end keys error are some full given =
    let goal : Family → Type 0 = λ one. IsNoRoom (IsBlockOf (Some one)) left end 1024 error in
    let all : length are.others ≡ 1023 = omega (arith, full, how_many id are.first are.others keys are.keys_are) in
    keys_answers id wanted are.first tokens mid left end (Err error) are.read
    (row_no_room id are.first mid left end are.others error are.along some all (subst goal are.family_is given))
