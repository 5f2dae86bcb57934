-- The loops that read capabilities, parameters and the entries of ADD-PATH, and what follows from what they say.
use Rattle.std.proofs.Common.{ℕ, ◌≡◌, ◌<◌, ◌==◌, true, false, List, [], length, Option, Some, None}
use Rattle.std.proofs.Common.{Result, Ok, Err, arith, ap, sym, ◌∙◌, refl}
use Rattle.std.specs.Option.{ok_or}
use Rattle.std.proofs.lemmas.Bool.{eqb-true, eqb-false}
use Rattle.route_values.specs.declared.settings.Settings.{Settings}
use Rattle.frame_cutter.specs.declared.refusal.Refusal.{Refusal}
use Rattle.update_grammar.specs.Steps.{◌>>=◌, each}
use Rattle.session_codec.specs.declared.offer.Open.{Open}
use Rattle.session_codec.specs.declared.reading.said.Said.{Said}
use Rattle.session_codec.specs.declared.reading.ways.Ways.{Ways}
use Rattle.session_codec.specs.Written.{Field}
use Rattle.session_codec.specs.Found.{Entry, entry_step, entries_of, first_as}
use Rattle.session_codec.specs.ReadOpen.{field_at, cap_step, caps_in, parameter_step, unspecific}
use Rattle.session_codec.specs.ReadOpen.{caps_at}
use Rattle.session_codec.specs.ReadOpen.{wants_as, judged, open_of, opens_four}
use Rattle.session_codec.specs.Said.{ways_by, ways_of, ways_then, said_by, said_of, said_then, told, said_at, open_by}
use Rattle.session_codec.proofs.GatherLemmas.{gathered, gather_goes_on, gather_shorter, gather_stops, gather_ends}
use Rattle.session_codec.proofs.SaidLemmas.{ways_gather, said_gather, said_by_all, parameters_gather, field_shrinks}
use Rattle.session_codec.proofs.SaidLemmas.{entries_shrink, caps_shrink, parameters_shrink}

some_bytes : (bytes : List ℕ) → (length bytes == 0) ≡ false → 0 < length bytes
some_bytes bytes filled = let some = eqb-false _ _ filled in omega arith

-- a capability at the front
abbrev cap_from : Option (Field × List ℕ) → Result (Field × Unit {0} × List ℕ) Refusal
cap_from found = do
  one ← ok_or found unspecific
  Ok (one.0, tt, one.1)

abbrev said_from : Option (Field × List ℕ) → Result (Said × List ℕ) Refusal
said_from found = cap_from found >>= λ one. Ok (said_of one.0, one.2)

cap_told : (bytes behind : List ℕ) (cap : Field) → Some (cap, behind) ≡ field_at bytes
    → told cap_step said_of tt bytes ≡ Ok (said_of cap, behind)
cap_told bytes behind cap is = ap said_from (sym is)

cap_cut : (bytes : List ℕ) → None ≡ field_at bytes → told cap_step said_of tt bytes ≡ Err unspecific
cap_cut bytes is = ap said_from (sym is)

pub caps_shorter : (rest behind : List ℕ) (cap : Field) → Some (cap, behind) ≡ field_at rest
    → length behind < length rest
caps_shorter rest behind cap is = field_shrinks rest (cap, behind) (sym is)

pub caps_go_on : (front more next : Said) (rest behind : List ℕ) (cap : Field) (total : Result Said Refusal)
    → Some (cap, behind) ≡ field_at rest → more ≡ said_of cap → next ≡ said_then front more
    → gathered said_then said_by front (each cap_step tt rest) ≡ total
    → gathered said_then said_by next (each cap_step tt behind) ≡ total
caps_go_on front more next rest behind cap total is says joined so_far =
    rw (joined, says) (gather_goes_on cap_step caps_shrink said_then said_by said_of said_gather front rest
    (said_of cap, behind) total (cap_told rest behind cap is) so_far)

pub caps_stop : (front : Said) (rest : List ℕ) (r : Refusal) (total : Result Said Refusal)
    → (length rest == 0) ≡ false → None ≡ field_at rest → r ≡ unspecific
    → gathered said_then said_by front (each cap_step tt rest) ≡ total → Err r ≡ total
caps_stop front rest r total filled is refusal so_far =
    rw refusal (sym (gather_stops cap_step caps_shrink said_then said_by said_of front rest unspecific total
    (some_bytes rest filled) (cap_cut rest is) so_far))

pub caps_end : (front : Said) (rest : List ℕ) (total : Result Said Refusal) → (length rest == 0) ≡ true
    → gathered said_then said_by front (each cap_step tt rest) ≡ total → Ok front ≡ total
caps_end front rest total empty so_far =
    sym (gather_ends cap_step said_then said_by said_of said_gather front rest total (eqb-true _ _ empty) so_far)

-- parameters
pub parameters_shorter : (rest behind : List ℕ) (more : Said) → Ok (more, behind) ≡ told parameter_step said_by tt rest
    → length behind < length rest
parameters_shorter rest behind more is =
    gather_shorter parameter_step parameters_shrink said_by rest (more, behind) (sym is)

pub parameters_go_on : (front more next : Said) (rest behind : List ℕ) (total : Result Said Refusal)
    → Ok (more, behind) ≡ told parameter_step said_by tt rest → next ≡ said_then front more
    → gathered said_then said_by_all front (each parameter_step tt rest) ≡ total
    → gathered said_then said_by_all next (each parameter_step tt behind) ≡ total
parameters_go_on front more next rest behind total is joined so_far =
    rw joined (gather_goes_on parameter_step parameters_shrink said_then said_by_all said_by parameters_gather
    front rest
    (more, behind) total (sym is) so_far)

pub parameters_stop : (front : Said) (rest : List ℕ) (r : Refusal) (total : Result Said Refusal)
    → (length rest == 0) ≡ false → Err r ≡ told parameter_step said_by tt rest
    → gathered said_then said_by_all front (each parameter_step tt rest) ≡ total → Err r ≡ total
parameters_stop front rest r total filled is so_far =
    sym (gather_stops parameter_step parameters_shrink said_then said_by_all said_by front rest r total
    (some_bytes rest filled) (sym is) so_far)

pub parameters_end : (front : Said) (rest : List ℕ) (total : Result Said Refusal) → (length rest == 0) ≡ true
    → gathered said_then said_by_all front (each parameter_step tt rest) ≡ total → Ok front ≡ total
parameters_end front rest total empty so_far =
    sym (gather_ends parameter_step said_then said_by_all said_by parameters_gather front rest total
    (eqb-true _ _ empty) so_far)

-- entries
abbrev ways_read : Result (List Entry) (Unit {0}) → Result Ways (Unit {0})
ways_read read = read >>= λ entries. Ok (ways_by entries)

no_entries : (read : Result (List Entry) (Unit {0})) (e : Unit {0}) → ways_read read ≡ Err e
    → ways_by (entries_of read) ≡ ways_by []
no_entries (Ok entries) e is = absurd cc
no_entries (Err d) e is = refl

some_entries : (read : Result (List Entry) (Unit {0})) (ways : Ways) → ways_read read ≡ Ok ways
    → ways_by (entries_of read) ≡ ways
some_entries (Ok entries) ways is = cc
some_entries (Err d) ways is = absurd cc

pub entries_shorter : (rest behind : List ℕ) (more : Ways) → Ok (more, behind) ≡ told entry_step ways_of tt rest
    → length behind < length rest
entries_shorter rest behind more is =
    gather_shorter entry_step entries_shrink ways_of rest (more, behind) (sym is)

pub entries_go_on : (front more next : Ways) (rest behind : List ℕ) (total : Result Ways (Unit {0}))
    → Ok (more, behind) ≡ told entry_step ways_of tt rest → next ≡ ways_then front more
    → gathered ways_then ways_by front (each entry_step tt rest) ≡ total
    → gathered ways_then ways_by next (each entry_step tt behind) ≡ total
entries_go_on front more next rest behind total is joined so_far =
    rw joined (gather_goes_on entry_step entries_shrink ways_then ways_by ways_of ways_gather front rest
    (more, behind) total (sym is) so_far)

pub entries_stop : (front none : Ways) (rest value : List ℕ) → (length rest == 0) ≡ false
    → Err tt ≡ told entry_step ways_of tt rest → none ≡ ways_by []
    → gathered ways_then ways_by front (each entry_step tt rest) ≡ ways_read (each entry_step tt value)
    → none ≡ ways_by (entries_of (each entry_step tt value))
entries_stop front none rest value filled is empty so_far =
    empty ∙ sym (no_entries (each entry_step tt value) tt
    (gather_stops entry_step entries_shrink ways_then ways_by ways_of front rest tt
    (ways_read (each entry_step tt value)) (some_bytes rest filled) (sym is) so_far))

pub entries_end : (front : Ways) (rest value : List ℕ) → (length rest == 0) ≡ true
    → gathered ways_then ways_by front (each entry_step tt rest) ≡ ways_read (each entry_step tt value)
    → front ≡ ways_by (entries_of (each entry_step tt value))
entries_end front rest value empty so_far =
    sym (some_entries (each entry_step tt value) front
    (gather_ends entry_step ways_then ways_by ways_of ways_gather front rest (ways_read (each entry_step tt value))
    (eqb-true _ _ empty) so_far))

-- what follows from what the capabilities say
abbrev said_read : Result (List Field) Refusal → Result Said Refusal
said_read read = read >>= λ caps. Ok (said_by caps)

abbrev opens_read : Settings → List ℕ → Result (List Field) Refusal → Result Open Refusal
opens_read own body read = do
  caps ← read
  asn ← ok_or (first_as caps) (wants_as own.local_as)
  judged own (open_of body caps asn)

abbrev opens_said : Settings → List ℕ → Said → Option ℕ → Result Open Refusal
opens_said own body said asn = ok_or asn (wants_as own.local_as) >>= λ n. judged own (open_by body said n)

read_err : (own : Settings) (body : List ℕ) (read : Result (List Field) Refusal) (r : Refusal)
    → Err r ≡ said_read read → Err r ≡ opens_read own body read
read_err own body (Ok caps) r is = absurd cc
read_err own body (Err e) r is = cc

read_ok : (own : Settings) (body : List ℕ) (read : Result (List Field) Refusal) (said : Said)
    → Ok said ≡ said_read read → opens_said own body said said.asn ≡ opens_read own body read
read_ok own body (Ok caps) said is =
    let same : said ≡ said_by caps = cc in
    ap (λ (s : Said). opens_said own body s s.asn) same
read_ok own body (Err e) said is = absurd cc

pub four_err : (own : Settings) (body : List ℕ) (r : Refusal) → Err r ≡ said_at body → Err r ≡ opens_four own body
four_err own body r is = read_err own body (caps_at body) r is

pub four_none : (own : Settings) (body : List ℕ) (said : Said) (r : Refusal) → Ok said ≡ said_at body
    → said.asn ≡ None → r ≡ wants_as own.local_as → Err r ≡ opens_four own body
four_none own body said r is none refusal =
    let wanted : opens_said own body said said.asn ≡ Err (wants_as own.local_as) = ap (opens_said own body said) none in
    ap (λ e. Err e) refusal ∙ sym wanted ∙ read_ok own body (caps_at body) said is

pub four_some : (own : Settings) (body : List ℕ) (said : Said) (asn : ℕ) (out : Open) (answer : Result Open Refusal)
    → Ok said ≡ said_at body → said.asn ≡ Some asn → out ≡ open_by body said asn → answer ≡ judged own out
    → answer ≡ opens_four own body
four_some own body said asn out answer is some says answered =
    let found : opens_said own body said said.asn ≡ judged own (open_by body said asn) =
    ap (opens_said own body said) some in
    answered ∙ ap (judged own) says ∙ sym found ∙ read_ok own body (caps_at body) said is

-- a parameter at the front
abbrev parameter_from : Option (Field × List ℕ) → Result (List Field × Unit {0} × List ℕ) Refusal
parameter_from found = do
  one ← ok_or found unspecific
  caps ← caps_in one.0
  Ok (caps, tt, one.1)

abbrev all_from : Option (Field × List ℕ) → Result (Said × List ℕ) Refusal
all_from found = parameter_from found >>= λ one. Ok (said_by one.0, one.2)

abbrev placed : List ℕ → Result (List Field) Refusal → Result (List Field × Unit {0} × List ℕ) Refusal
placed behind read = read >>= λ caps. Ok (caps, tt, behind)

abbrev all_placed : List ℕ → Result (List Field) Refusal → Result (Said × List ℕ) Refusal
all_placed behind read = placed behind read >>= λ one. Ok (said_by one.0, one.2)

placed_ok : (behind : List ℕ) (read : Result (List Field) Refusal) (said : Said) → Ok said ≡ said_read read
    → Ok (said, behind) ≡ all_placed behind read
placed_ok behind (Ok caps) said is =
    let same : said ≡ said_by caps = cc in
    ap (λ (s : Said). Ok (s, behind)) same
placed_ok behind (Err e) said is = absurd cc

placed_err : (behind : List ℕ) (read : Result (List Field) Refusal) (r : Refusal) → Err r ≡ said_read read
    → Err r ≡ all_placed behind read
placed_err behind (Ok caps) r is = absurd cc
placed_err behind (Err e) r is = cc

pub parameter_cut : (bytes : List ℕ) (r : Refusal) → None ≡ field_at bytes → r ≡ unspecific
    → Err r ≡ told parameter_step said_by tt bytes
parameter_cut bytes r is refusal = ap (λ e. Err e) refusal ∙ ap all_from is

pub parameter_ok : (bytes behind : List ℕ) (parameter : Field) (said : Said) → Some (parameter, behind) ≡ field_at bytes
    → Ok said ≡ said_read (caps_in parameter) → Ok (said, behind) ≡ told parameter_step said_by tt bytes
parameter_ok bytes behind parameter said is says =
    placed_ok behind (caps_in parameter) said says ∙ ap all_from is

pub parameter_err : (bytes behind : List ℕ) (parameter : Field) (r : Refusal)
    → Some (parameter, behind) ≡ field_at bytes
    → Err r ≡ said_read (caps_in parameter) → Err r ≡ told parameter_step said_by tt bytes
parameter_err bytes behind parameter r is says =
    placed_err behind (caps_in parameter) r says ∙ ap all_from is
