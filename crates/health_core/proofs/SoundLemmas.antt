-- What a file says is fit for commands: its prefixes have one family, which the next hop shares, and are few enough.
use Rattle.std.proofs.Common.{ℕ, ◌≡◌, ◌<◌, ◌≤◌, Bool, true, false, not, nat_le, List, [], ◌∷◌, ◌++◌, length}
use Rattle.std.proofs.Common.{Option}
use Rattle.std.proofs.Common.{Some, None, refl, sym, ◌∙◌, ap, subst, arith, length-append, leb, ◌⊎◌, inl, inr, cond}
use Rattle.std.specs.List.{AllByRecursion}
use Rattle.std.specs.Prelude.{unwrap_or, option_map, if◌then◌else◌}
use Rattle.std.proofs.lemmas.Bool.Decides.{leb_tells}
use Rattle.arrayvec.specs.ArrayVec.{ArrayVec}
use Rattle.route_values.specs.declared.addr.Addr.{Addr}
use Rattle.route_values.specs.declared.addr.Addr.TheVariants.{V4, V6}
use Rattle.route_values.specs.declared.addr.Family.{Family}
use Rattle.route_values.specs.declared.addr.Family.TheVariants.{Ipv4}
use Rattle.route_values.specs.declared.attrs.Hop.{Hop}
use Rattle.route_values.specs.declared.attrs.Hop.TheVariants.{Own, Is}
use Rattle.route_values.specs.declared.key.Key.{Key}
use Rattle.route_values.specs.Addr.{family_of}
use Rattle.route_values.specs.Prefix.{Block, IsPrefix}
use Rattle.token_reader.specs.FileTokens.{end_of_file, tokens_of_file}
use Rattle.token_reader.specs.declared.token.Place.{Place}
use Rattle.token_reader.specs.Tokens.{Placed}
use Rattle.config_model.specs.declared.fault.ConfigKind.{ConfigKind}
use Rattle.config_model.specs.declared.fault.ConfigKind.TheVariants as kind
use Rattle.config_reader.specs.Neighbors.{same_family}
use Rattle.config_reader.specs.Rules.{Gives, Rule, Until, done, more, ◌>>=◌, is_end, is_sign, saying, where_so}
use Rattle.config_reader.specs.Words.{word_ended}
use Rattle.health_core.specs.declared.health.Health.{Health}
use Rattle.health_core.specs.declared.keywords.Statement.{Statement}
use Rattle.health_core.specs.declared.keywords.Statement.TheVariants as says
use Rattle.health_core.specs.declared.written.Written.{Written}
use Rattle.health_core.specs.Files.{SaysHealth}
use Rattle.health_core.specs.Prefixes.{addr_before, addr_of_hop, hop_at, hop_wrong, is_other, key_of, prefix_more}
use Rattle.health_core.specs.Prefixes.{prefix_wrong, prefixes_at, stands}
use Rattle.health_core.specs.Printing.{FitsHop, IsPlain, IsSound}
use Rattle.health_core.specs.Statements.{down_at, health_from, hop_before, is_filled, run_at, statement_at}
use Rattle.health_core.specs.Statements.{statement_operand, unwritten}
use Rattle.health_core.specs.Words.{IsMed, IsPause, IsTally, IsTurns}

-- an address, where there is one, has a family
Lined : Option Addr → Family → Type 0
Lined None family = Unit {0}
Lined (Some addr) family = family_of addr ≡ family

-- prefixes that have one family, which an address shares where there is one, and that are few enough
record Fit (hop : Option Addr) (keys : List Key) : Type 0 where
  family : Family
  plain : AllByRecursion (IsPlain family) keys
  lined : Lined hop family
  few : length keys ≤ 1024

-- FAMILIES

same_of : (one other : Addr) → same_family one other ≡ true → family_of one ≡ family_of other
same_of (V4 m) (V4 n) is = refl
same_of (V6 m) (V6 n) is = refl
same_of (V4 m) (V6 n) is = absurd (cc)
same_of (V6 m) (V4 n) is = absurd (cc)

not_false : (so : Bool) → not so ≡ false → so ≡ true
not_false true is = refl
not_false false is = absurd (cc)

-- an address of no other family has that of the one before
lined_before : (before : Option Addr) (addr : Addr) → is_other before addr ≡ false → Lined before (family_of addr)
unfolding Lined
lined_before None addr is = tt
lined_before (Some before) addr is = same_of before addr (not_false (same_family before addr) is)

-- FAULTS THAT AREN'T THERE

by_tests : (twice other many : Bool)
    → cond twice (Some kind.Twice) (cond other (Some kind.Family) (where_so kind.Many many)) ≡ None
    → (other ≡ false) × (many ≡ false)
by_tests true other many is = absurd (cc)
by_tests false true many is = absurd (cc)
by_tests false false true is = absurd (cc)
by_tests false false false is = (refl, refl)

room_by : (n : ℕ) → ((leb 1024 n ≡ true) × (1024 ≤ n)) ⊎ ((leb 1024 n ≡ false) × (n < 1024)) → nat_le 1024 n ≡ false
    → n < 1024
room_by n (inl (so, le)) is = absurd (cc)
room_by n (inr (so, lt)) is = lt

room : (n : ℕ) → nat_le 1024 n ≡ false → n < 1024
room n is = room_by n (leb_tells 1024 n) is

right : (hop : Option Addr) (keys : List Key) (block : Block) → prefix_wrong hop keys block ≡ None
    → (is_other (addr_before hop keys) block.addr ≡ false) × (nat_le 1024 (length keys) ≡ false)
right hop keys block is =
    by_tests (stands block keys) (is_other (addr_before hop keys) block.addr) (nat_le 1024 (length keys)) is

-- PREFIXES

plain_more : (family : Family) (keys : List Key) (key : Key) → AllByRecursion (IsPlain family) keys
    → IsPlain family key → AllByRecursion (IsPlain family) (keys ++ key ∷ [])
plain_more family [] key all is = (is, tt)
plain_more family (first ∷ others) key (one, all) is = (one, plain_more family others key all is)

-- the family of a prefix with which nothing is wrong is that of those before it
lined_more : (hop : Option Addr) (keys : List Key) (block : Block) (family : Family)
    → AllByRecursion (IsPlain family) keys → Lined hop family
    → is_other (addr_before hop keys) block.addr ≡ false → (0 < length keys) → family_of block.addr ≡ family
lined_more hop [] block family all lined is some = absurd (omega (arith, some))
lined_more hop (key ∷ keys) block family (first, all) lined is some =
    sym (same_of key.prefix.addr block.addr (not_false (same_family key.prefix.addr block.addr) is)) ∙ first.alike

-- the first prefix
fit_first : (hop : Option Addr) (block : Block) → IsPrefix block.addr block.len
    → is_other (addr_before hop []) block.addr ≡ false → Fit hop (key_of block ∷ [])
fit_first hop block canonical is = record {
  family = family_of block.addr;
  plain = (record { alike = refl; canonical = canonical; bare = refl }, tt);
  lined = lined_before hop block.addr is;
  few = omega arith;
}

-- a further one
fit_further : (hop : Option Addr) (keys : List Key) (block : Block) → IsPrefix block.addr block.len
    → is_other (addr_before hop keys) block.addr ≡ false → length keys < 1024 → 0 < length keys → Fit hop keys
    → Fit hop (keys ++ key_of block ∷ [])
fit_further hop keys block canonical is below some fit =
    let alike = lined_more hop keys block fit.family fit.plain fit.lined is some in
    record {
      family = fit.family;
      plain = plain_more fit.family keys (key_of block) fit.plain
          (record { alike = alike; canonical = canonical; bare = refl });
      lined = fit.lined;
      few = omega (arith, below, length-append keys (key_of block ∷ []));
    }

fit_more : (hop : Option Addr) (keys : List Key) (block : Block) → IsPrefix block.addr block.len
    → is_other (addr_before hop keys) block.addr ≡ false → length keys < 1024 → (0 < length keys → Fit hop keys)
    → Fit hop (keys ++ key_of block ∷ [])
fit_more hop [] block canonical is below fit = fit_first hop block canonical is
fit_more hop (key ∷ keys) block canonical is below fit =
    fit_further hop (key ∷ keys) block canonical is below (omega arith) (fit (omega arith))

-- a prefix that is read behind others, which may be none
prefix_fits : (hop : Option Addr) (keys after : List Key) (end : Place) (tokens rest : List Placed)
    → prefix_more hop keys end tokens (Gives after rest) → (0 < length keys → Fit hop keys)
    → (0 < length after) × Fit hop after
prefix_fits hop keys after end tokens rest (block, mid, here, is) fit =
    let after_is : after ≡ keys ++ key_of block ∷ [] = cc in
    let fine = right hop keys block here.3 in
    let canonical = here.2.2.canonical in
    let all = fit_more hop keys block canonical fine.0 (room (length keys) fine.1) fit in (
      omega (arith, ap length after_is, length-append keys (key_of block ∷ [])),
      subst (λ (these : List Key). Fit hop these) (sym after_is) all,
    )

until_fits : (hop : Option Addr) (end : Place) (first all : List Key) (tokens rest : List Placed)
    → Until (is_sign 59) (prefix_more hop) end first tokens (Gives all rest) → 0 < length first → Fit hop first
    → (0 < length all) × Fit hop all
until_fits hop end start all tokens rest (done known left is) some fit = (some, fit)
until_fits hop end start all tokens rest (more known after left mid outcome is here behind) some fit =
    let next = prefix_fits hop known after end left mid here (λ any. fit) in
    until_fits hop end after all mid rest behind next.0 next.1

-- prefixes that a file lists
listed_fit : (hop : Option Addr) (keys : List Key) (end : Place) (tokens rest : List Placed)
    → prefixes_at hop end tokens (Gives keys rest) → (0 < length keys) × Fit hop keys
listed_fit hop keys end tokens rest (all, mid, (first, next, here, behind), (ended, last, sign, is)) =
    let one = prefix_fits hop [] first end tokens next here (λ some. absurd (omega (arith, some))) in
    let both = until_fits hop end first all next mid behind one.0 one.1 in
    let same : keys ≡ all = cc in
    subst (λ (these : List Key). (0 < length these) × Fit hop these) (sym same) both

-- THE NEXT HOP

no_kind : (which : ConfigKind) (so : Bool) → where_so which so ≡ None → so ≡ false
no_kind which true is = absurd (cc)
no_kind which false is = refl

-- a next hop that is read behind prefixes
hop_lined : (keys : List Key) (family : Family) (hop : Hop) → AllByRecursion (IsPlain family) keys → 0 < length keys
    → hop_wrong keys hop ≡ None → Lined (addr_of_hop hop) family
unfolding Lined
hop_lined [] family hop all some is = absurd (omega (arith, some))
hop_lined (key ∷ keys) family Own all some is = tt
hop_lined (key ∷ keys) family (Is addr) (first, all) some is =
    sym (same_of key.prefix.addr addr
    (not_false (same_family key.prefix.addr addr)
    (no_kind kind.Family (is_other (Some key.prefix.addr) addr) is)))
    ∙ first.alike

-- or before them
hop_alone : (hop : Hop) → Fit (addr_of_hop hop) []
unfolding Lined
hop_alone Own = record { family = Ipv4; plain = tt; lined = tt; few = omega arith }
hop_alone (Is addr) = record { family = family_of addr; plain = tt; lined = refl; few = omega arith }

hop_fit : (before : Option Addr) (keys : List Key) (hop : Hop) → hop_wrong keys hop ≡ None → Fit before keys
    → Fit (addr_of_hop hop) keys
hop_fit before [] hop is fit = hop_alone hop
hop_fit before (key ∷ keys) hop is fit = record {
  family = fit.family;
  plain = fit.plain;
  lined = hop_lined (key ∷ keys) fit.family hop fit.plain (omega arith) is;
  few = fit.few;
}

hop_read : (before : Option Addr) (keys : List Key) (hop : Hop) (end : Place) (tokens rest : List Placed)
    → hop_at keys end tokens (Gives hop rest) → Fit before keys → Fit (addr_of_hop hop) keys
hop_read before keys hop end tokens rest (one, mid, here, (ended, last, sign, is)) fit =
    let same : hop ≡ one = cc in
    subst (λ (this : Hop). Fit (addr_of_hop this) keys) (sym same) (hop_fit before keys one here.3 fit)

-- STATEMENTS

-- what is written so far is fit
Fine : Written → Type 0
Fine written = Fit (hop_before written) written.prefixes

-- a value is put into what is written
put_fine : {V : Type 0} (R : Rule V) (put : V → Written) (end : Place) (tokens rest : List Placed) (after : Written)
    → (R >>= λ value. saying (put value)) end tokens (Gives after rest)
    → ((value : V) (mid : List Placed) → R end tokens (Gives value mid) → Fine (put value)) → Fine after
put_fine R put end tokens rest after (value, mid, here, is) fine =
    let same : after ≡ put value = cc in
    subst Fine (sym same) (fine value mid here)

operand_fine : (written after : Written) (which : Statement) (end : Place) (tokens rest : List Placed)
    → statement_operand written which end tokens (Gives after rest) → Fine written → Fine after
unfolding Fine
operand_fine written after says.Rise end tokens rest is fine =
    put_fine (word_ended IsTally) (λ n. record written { rise = Some n }) end tokens rest after is (λ n mid here. fine)
operand_fine written after says.Fall end tokens rest is fine =
    put_fine (word_ended IsTally) (λ n. record written { fall = Some n }) end tokens rest after is (λ n mid here. fine)
operand_fine written after says.Every end tokens rest is fine =
    put_fine (word_ended IsPause) (λ n. record written { every = Some n }) end tokens rest after is (λ n mid here. fine)
operand_fine written after says.Turns end tokens rest is fine =
    put_fine (word_ended IsTurns) (λ n. record written { turns = Some n }) end tokens rest after is (λ n mid here. fine)
operand_fine written after says.Run end tokens rest is fine =
    put_fine run_at (λ run. record written { run = Some run }) end tokens rest after is (λ run mid here. fine)
operand_fine written after says.Prefix end tokens rest is fine =
    put_fine (prefixes_at (hop_before written)) (λ keys. record written { prefixes = keys }) end tokens rest after is
    (λ keys mid here. (listed_fit (hop_before written) keys end tokens mid here).1)
operand_fine written after says.NextHop end tokens rest is fine =
    put_fine (hop_at written.prefixes) (λ hop. record written { hop = Some hop }) end tokens rest after is
    (λ hop mid here. hop_read (hop_before written) written.prefixes hop end tokens mid here fine)
operand_fine written after says.UpMed end tokens rest is fine =
    put_fine (word_ended IsMed) (λ n. record written { up_med = Some n }) end tokens rest after is (λ n mid here. fine)
operand_fine written after says.Down end tokens rest is fine =
    put_fine down_at (λ down. record written { down = Some down }) end tokens rest after is (λ down mid here. fine)

read_fine : (end : Place) (known all : Written) (tokens rest : List Placed)
    → Until is_end statement_at end known tokens (Gives all rest) → Fine known → Fine all
read_fine end start all tokens rest (done known left is) fine = fine
read_fine end start all tokens rest (more known after left mid outcome is (which, behind_word, word, here) behind) fine
    =
    read_fine end after all mid rest behind (operand_fine known after which end behind_word mid here fine)

-- FILES

hop_fits : (hop : Hop) (family : Family) → Lined (addr_of_hop hop) family → FitsHop family hop
unfolding Lined
hop_fits Own family lined = tt
hop_fits (Is addr) family lined = lined

filled : (keys : List Key) → is_filled keys ≡ true → 0 < length keys
filled [] is = absurd (cc)
filled (key ∷ keys) is = omega arith

sound_from : (written : Written) (run : ArrayVec ℕ) → is_filled written.prefixes ≡ true → Fine written
    → IsSound (health_from written run)
unfolding Fine
sound_from written run some fine = record {
  family = fine.family;
  some = filled written.prefixes some;
  few = fine.few;
  plain = fine.plain;
  hop_fits = hop_fits (unwrap_or written.hop Own) fine.family fine.lined;
}

health_by : (written : Written) (health : Health) (some : Bool) (run : Option (ArrayVec ℕ))
    → is_filled written.prefixes ≡ some
    → (if some then option_map (health_from written) run else None) ≡ Some health → Fine written → IsSound health
health_by written health false run is_some is fine = absurd (cc)
health_by written health true None is_some is fine = absurd (cc)
health_by written health true (Some run) is_some is fine =
    let same : health_from written run ≡ health = cc in
    subst IsSound same (sound_from written run is_some fine)

none_fine : Fine unwritten
unfolding Fine
none_fine = hop_alone Own

pub says_sound : (bytes : List ℕ) (health : Health) → SaysHealth bytes health → IsSound health
says_sound bytes health (few, written, passed, is) =
    health_by written health (is_filled written.prefixes) written.run refl is
    (read_fine (end_of_file bytes) unwritten written (tokens_of_file bytes) [] passed none_fine)
