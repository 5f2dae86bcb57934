-- An OPEN that is written is read back.
use Rattle.std.proofs.Common.{ℕ, ◌≡◌, ◌≢◌, ◌^◌, ◌<◌, ◌==◌, ◌||◌, nat_lt, Bool, true, false, not, IsTrue}
use Rattle.std.proofs.Common.{List, []}
use Rattle.std.proofs.Common.{◌∷◌, ◌++◌, length, take, drop, Option, Some, None, Result, Ok, Err, arith}
use Rattle.std.proofs.Common.{ap, sym}
use Rattle.std.proofs.Common.{◌∙◌, refl, append-nil, length-append, eq-eqb, if◌then◌else◌}
use Rattle.std.specs.Int.{w16, w32, to_be_bytes}
use Rattle.std.specs.List.{flat_map}
use Rattle.std.specs.Option.{ok_or, unwrap_or}
use Rattle.std.proofs.lemmas.Bool.{le-ltb, ne_eqb}
use Rattle.std.proofs.lemmas.Nat.{from_be_bytes-to_be_bytes_4}
use Rattle.std.proofs.lemmas.List.{take_at, drop_at}
use Rattle.route_values.specs.declared.addr.Family.TheVariants.{Ipv4, Ipv6}
use Rattle.route_values.specs.declared.settings.Settings.{Settings}
use Rattle.frame_cutter.specs.declared.refusal.Refusal.{Refusal}
use Rattle.update_grammar.specs.Steps.{◌>>=◌, each_of, each}
use Rattle.update_grammar.proofs.ByteLemmas.{wide16, wide32, number_read}
use Rattle.update_grammar.proofs.StepsLemmas.{each_none, each_one}
use Rattle.session_codec.specs.declared.offer.Open.{Open}
use Rattle.session_codec.specs.declared.offer.Path.{Path}
use Rattle.session_codec.specs.declared.offer.Path.TheVariants as way
use Rattle.session_codec.specs.declared.reading.said.Said.{Said}
use Rattle.session_codec.specs.declared.reading.ways.Ways.{Ways}
use Rattle.session_codec.specs.Numbers.{caps_type, cap_family, cap_refresh, cap_extended, cap_as, cap_paths}
use Rattle.session_codec.specs.Written.{Field, field_text, family_field, entry_text, way_offered}
use Rattle.session_codec.specs.Written.{field_when}
use Rattle.session_codec.specs.Written.{offered, parameter_text, open_body}
use Rattle.session_codec.specs.Found.{entry_at, first_as}
use Rattle.session_codec.specs.ReadOpen.{field_at, cap_step, caps_in, parameter_step, unspecific, caps_at, all_caps}
use Rattle.session_codec.specs.ReadOpen.{wants_as, judged, open_of, opens_four, opens}
use Rattle.session_codec.specs.Said.{said_by, said_then, open_by}
use Rattle.session_codec.specs.Laws.{offer_of, IsOffer, WrittenIsRead}
use Rattle.session_codec.proofs.SaidLemmas.{caps_shrink, parameters_shrink, said_by-append, any_none}

-- a field that is written is read, whatever follows it
field_read : (f : Field) (rest : List ℕ) → field_at (field_text f ++ rest) ≡ Some (f, rest)
unfolding field_at
field_read f rest =
    let two : nat_lt (length (field_text f ++ rest)) 2 ≡ false = le-ltb _ _ (omega arith) in
    let long : nat_lt (length (f.value ++ rest)) (length f.value) ≡ false =
    le-ltb _ _ (omega (arith, length-append f.value rest)) in
    let front : take (length f.value) (f.value ++ rest) ≡ f.value = take_at f.value rest _ refl in
    let behind : drop (length f.value) (f.value ++ rest) ≡ rest = drop_at f.value rest _ refl in
    rw (two, long, front, behind) refl

-- capabilities that are written are read
abbrev cap_from : Option (Field × List ℕ) → Result (Field × Unit {0} × List ℕ) Refusal
cap_from found = do
  one ← ok_or found unspecific
  Ok (one.0, tt, one.1)

abbrev behind_cap : Field → Result (List Field) Refusal → Result (List Field) Refusal
behind_cap cap read = read >>= λ others. Ok (cap ∷ others)

caps_read : (caps : List Field) → each cap_step tt (flat_map field_text caps) ≡ Ok caps
caps_read [] = each_none cap_step tt
caps_read (cap ∷ caps) =
    each_one cap_step caps_shrink tt (field_text cap ++ flat_map field_text caps) (cap, tt, flat_map field_text caps)
    (ap cap_from (field_read cap (flat_map field_text caps))) ∙ ap (behind_cap cap) (caps_read caps)

-- and so is the parameter that holds them
abbrev parameter_from : Option (Field × List ℕ) → Result (List Field × Unit {0} × List ℕ) Refusal
parameter_from found = do
  one ← ok_or found unspecific
  caps ← caps_in one.0
  Ok (caps, tt, one.1)

abbrev parameter_with : Result (List Field) Refusal → Result (List Field × Unit {0} × List ℕ) Refusal
parameter_with read = read >>= λ caps. Ok (caps, tt, [])

abbrev lists_with : List Field → Result (List (List Field)) Refusal → Result (List (List Field)) Refusal
lists_with caps read = read >>= λ others. Ok (caps ∷ others)

abbrev holding : List Field → Field
holding caps = record { code = caps_type; value = flat_map field_text caps }

parameter_read : (caps : List Field) → each parameter_step tt (field_text (holding caps)) ≡ Ok (caps ∷ [])
parameter_read caps =
    let whole : field_at (field_text (holding caps)) ≡ Some (holding caps, []) =
    ap field_at (sym (append-nil (field_text (holding caps)))) ∙ field_read (holding caps) [] in
    let one : parameter_step tt (field_text (holding caps)) ≡ Ok (caps, tt, []) =
    ap parameter_from whole ∙ ap parameter_with (caps_read caps) in
    each_one parameter_step parameters_shrink tt (field_text (holding caps)) (caps, tt, []) one
    ∙ ap (lists_with caps) (each_none parameter_step tt)

abbrev caps_of_lists : Result (List (List Field)) Refusal → Result (List Field) Refusal
caps_of_lists read = read >>= λ lists. Ok (all_caps lists)

abbrev when_whole : Bool → Result (List Field) Refusal → Result (List Field) Refusal
when_whole whole read = if not whole then Err unspecific else read

caps_of_body : (own : Settings) → caps_at (open_body own) ≡ Ok (offered own)
unfolding open_body
caps_of_body own =
    let len : ℕ = length (parameter_text own) in
    ap (λ whole. when_whole whole (caps_of_lists (each parameter_step tt (parameter_text own)))) (eq-eqb len len refl)
    ∙ ap caps_of_lists (parameter_read (offered own)) ∙ ap (λ caps. Ok caps) (append-nil (offered own))

-- ways
abbrev some_way : Path → Option Path
some_way way.None = None
some_way way.Receive = Some way.Receive
some_way way.Send = Some way.Send
some_way way.Both = Some way.Both

some_way_or : (a : Path) → unwrap_or (some_way a) way.None ≡ a
some_way_or way.None = refl
some_way_or way.Receive = refl
some_way_or way.Send = refl
some_way_or way.Both = refl

abbrev ways_with : Path → Path → Ways
ways_with a b = record { ipv4 = some_way a; ipv6 = some_way b }

abbrev no_ways : Ways
no_ways = record { ipv4 = None; ipv6 = None }

abbrev both_entries : Path → Path → List ℕ
both_entries a b = entry_text Ipv4 a ++ entry_text Ipv6 b

abbrev paths_field : Path → Path → List Field
paths_field a b = field_when (not (length (both_entries a b) == 0)) cap_paths (both_entries a b)

abbrev said_ways : Ways → Said
said_ways ways = record {
  asn = None;
  families = false;
  ipv4 = false;
  ipv6 = false;
  refresh = false;
  extended = false;
  ways = ways;
}

ways_said : (a b : Path) → said_by (paths_field a b) ≡ said_ways (ways_with a b)
unfolding each_of entry_at
ways_said way.None way.None = refl
ways_said way.None way.Receive = refl
ways_said way.None way.Send = refl
ways_said way.None way.Both = refl
ways_said way.Receive way.None = refl
ways_said way.Receive way.Receive = refl
ways_said way.Receive way.Send = refl
ways_said way.Receive way.Both = refl
ways_said way.Send way.None = refl
ways_said way.Send way.Receive = refl
ways_said way.Send way.Send = refl
ways_said way.Send way.Both = refl
ways_said way.Both way.None = refl
ways_said way.Both way.Receive = refl
ways_said way.Both way.Send = refl
ways_said way.Both way.Both = refl

-- what each of the other capabilities says
ipv4_said : (b : Bool) → said_by (field_when b cap_family (family_field Ipv4))
    ≡ record (said_ways no_ways) { families = b; ipv4 = b }
ipv4_said true = refl
ipv4_said false = refl

ipv6_said : (b : Bool) → said_by (field_when b cap_family (family_field Ipv6))
    ≡ record (said_ways no_ways) { families = b; ipv6 = b }
ipv6_said true = refl
ipv6_said false = refl

refresh_said : (b : Bool) → said_by (field_when b cap_refresh []) ≡ record (said_ways no_ways) { refresh = b }
refresh_said true = refl
refresh_said false = refl

extended_said : (b : Bool) → said_by (field_when b cap_extended []) ≡ record (said_ways no_ways) { extended = b }
extended_said true = refl
extended_said false = refl

abbrev said_number : ℕ → Said
said_number n = record (said_ways no_ways) { asn = Some n }

as_said_so : (n : ℕ) → n < 2 ^ 32
    → said_by (field_when true cap_as (to_be_bytes w32 n)) ≡ said_number n
as_said_so n fits =
    ap (λ (m : ℕ). said_number m) (from_be_bytes-to_be_bytes_4 n fits)

-- all of them
abbrev all_said : Settings → Said
all_said own = record {
  asn = Some own.local_as;
  families = own.ipv4 || (own.ipv6 || false);
  ipv4 = own.ipv4 || false;
  ipv6 = own.ipv6 || false;
  refresh = own.refresh || false;
  extended = own.extended || false;
  ways = ways_with (way_offered own Ipv4) (way_offered own Ipv6);
}

said_of_six : (a b c d e f : List Field) → said_by (a ++ (b ++ (c ++ (d ++ (e ++ f)))))
    ≡ said_then (said_by a) (said_then (said_by b) (said_then (said_by c) (said_then (said_by d)
    (said_then (said_by e) (said_by f)))))
said_of_six a b c d e f =
    said_by-append a (b ++ (c ++ (d ++ (e ++ f)))) ∙ ap (said_then (said_by a))
    (said_by-append b (c ++ (d ++ (e ++ f))) ∙ ap (said_then (said_by b))
    (said_by-append c (d ++ (e ++ f)) ∙ ap (said_then (said_by c))
    (said_by-append d (e ++ f) ∙ ap (said_then (said_by d)) (said_by-append e f))))

both_then : (a b c d : Said) → a ≡ b → c ≡ d → said_then a c ≡ said_then b d
both_then a b c d first next = ap (λ (s : Said). said_then s c) first ∙ ap (said_then b) next

offered_said : (own : Settings) → own.local_as < 2 ^ 32 → said_by (offered own) ≡ all_said own
offered_said own fits =
    said_of_six (field_when own.ipv4 cap_family (family_field Ipv4))
    (field_when own.ipv6 cap_family (family_field Ipv6))
    (field_when own.refresh cap_refresh []) (field_when own.extended cap_extended [])
    (field_when true cap_as (to_be_bytes w32 own.local_as)) (paths_field (way_offered own Ipv4) (way_offered own Ipv6))
    ∙ both_then _ _ _ _ (ipv4_said own.ipv4) (both_then _ _ _ _ (ipv6_said own.ipv6)
    (both_then _ _ _ _ (refresh_said own.refresh) (both_then _ _ _ _ (extended_said own.extended)
    (both_then _ _ _ _ (as_said_so own.local_as fits)
    (ways_said (way_offered own Ipv4) (way_offered own Ipv6))))))

-- what is said of families, where there is one
one_family : (a b : Bool) → IsTrue (a || b) → ((a || false) || not (a || (b || false))) ≡ a
one_family true b some = refl
one_family false true some = refl
one_family false false some = absurd cc

-- an OPEN, by its parts
abbrev made : ℕ → ℕ → ℕ → Bool → Bool → Bool → Bool → Path → Path → Open
made asn hold id ipv4 ipv6 refresh extended ipv4_path ipv6_path = record {
  asn = asn;
  hold = hold;
  id = id;
  ipv4 = ipv4;
  ipv6 = ipv6;
  refresh = refresh;
  extended = extended;
  ipv4_path = ipv4_path;
  ipv6_path = ipv6_path;
}

same_open : (n h i j k : ℕ) (a b c d e f g x : Bool) (p q r s : Path) → h ≡ j → i ≡ k → a ≡ b → c ≡ d → e ≡ f → g ≡ x
    → p ≡ q → r ≡ s → made n h i a c e g p r ≡ made n j k b d f x q s
same_open n h i j k a b c d e f g x p q r s hold id ipv4 ipv6 refresh extended first second =
    rw (hold, id, ipv4, ipv6, refresh, extended, first, second) refl

body_said : (own : Settings) → IsOffer own → open_by (open_body own) (all_said own) own.local_as ≡ offer_of own
unfolding open_body
body_said own offer =
    same_open own.local_as _ _ own.hold own.router_id _ own.ipv4 _ own.ipv6 _ own.refresh _ own.extended _
    (way_offered own Ipv4) _ (way_offered own Ipv6)
    (number_read w16 (2 ^ 16) wide16 own.hold
    (to_be_bytes w32 own.router_id ++ (length (parameter_text own) ∷ parameter_text own)) offer.hold)
    (number_read w32 (2 ^ 32) wide32 own.router_id (length (parameter_text own) ∷ parameter_text own) offer.id)
    (one_family own.ipv4 own.ipv6 offer.family) (any_none own.ipv6) (any_none own.refresh) (any_none own.extended)
    (some_way_or (way_offered own Ipv4)) (some_way_or (way_offered own Ipv6))

judged_ok : (own : Settings) (said : Open) → said.asn ≡ own.peer_as → said.id ≢ 0 → said.hold ≢ 1 → said.hold ≢ 2
    → judged own said ≡ Ok said
judged_ok own said same known not_one not_two =
    let asn : (said.asn == own.peer_as) ≡ true = eq-eqb _ _ same in
    let id : (said.id == 0) ≡ false = ne_eqb _ _ known in
    let one : (said.hold == 1) ≡ false = ne_eqb _ _ not_one in
    let two : (said.hold == 2) ≡ false = ne_eqb _ _ not_two in
    rw (asn, id, one, two) refl

abbrev opens_read : Settings → List ℕ → Result (List Field) Refusal → Result Open Refusal
opens_read own body read = do
  caps ← read
  asn ← ok_or (first_as caps) (wants_as own.local_as)
  judged own (open_of body caps asn)

abbrev opens_said : Settings → List ℕ → Said → Result Open Refusal
opens_said own body said = ok_or said.asn (wants_as own.local_as) >>= λ n. judged own (open_by body said n)

right_version : (own theirs : Settings) → opens theirs (open_body own) ≡ opens_four theirs (open_body own)
unfolding open_body
right_version own theirs = refl

pub written_read : WrittenIsRead
written_read own theirs offer same =
    right_version own theirs ∙ ap (opens_read theirs (open_body own)) (caps_of_body own)
    ∙ ap (opens_said theirs (open_body own)) (offered_said own offer.asn) ∙ ap (judged theirs) (body_said own offer)
    ∙ judged_ok theirs (offer_of own) (sym same) offer.known offer.not_one offer.not_two
