-- The sections of a file: what is kept of them as they are read.
use Rattle.std.proofs.Common.{ℕ, ◌≡◌, ◌+◌, ◌<◌, ◌≤◌, Bool, true, false, not, cond, List, [], ◌∷◌, ◌++◌, map, filter}
use Rattle.std.proofs.Common.{length, Option, Some, None, Result, Ok, Err, refl, sym, ◌∙◌, ap, subst, inl, inr, arith}
use Rattle.std.specs.Prelude.{find, is_none}
use Rattle.std.specs.List.{AllByRecursion, flat_map}
use Rattle.std.proofs.lemmas.List.Sums.{sum_by-append}
use Rattle.arrayvec.specs.ArrayVec.{ArrayVec}
use Rattle.route_values.specs.Sent.{first_places}
use Rattle.token_reader.specs.declared.token.Place.{Place}
use Rattle.token_reader.specs.FileTokens.{end_of_file, tokens_of_file}
use Rattle.token_reader.specs.Places.{start}
use Rattle.token_reader.specs.Tokens.{Placed, front_token}
use Rattle.token_reader.proofs.FileLemmas.{length-file_tokens}
use Rattle.config_model.specs.declared.fault.ConfigKind.TheVariants as kind
use Rattle.config_model.specs.declared.sections.Neighbor.{Neighbor}
use Rattle.config_model.specs.declared.sections.Process.{Process as ProcessSection}
use Rattle.config_model.specs.declared.slots.Slots.{Slots}
use Rattle.config_model.specs.Checked.{first_unknown, names_in, unknown_in}
use Rattle.config_model.specs.Sections.{Sections, place_of_name, place_of_peer, routes_in, same_name}
use Rattle.config_reader.specs.declared.fault.ConfigError.{ConfigError}
use Rattle.config_reader.specs.declared.fault.ConfigError.TheVariants.{Refused, NoMemory}
use Rattle.config_reader.specs.declared.keywords.Section.{Section}
use Rattle.config_reader.specs.declared.keywords.Section.TheVariants.{Process, Neighbor as NeighborSection}
use Rattle.config_reader.specs.declared.written.FileRead.{FileRead}
use Rattle.config_reader.specs.declared.written.Heard.{Heard}
use Rattle.config_reader.specs.declared.written.NeighborRead.{NeighborRead}
use Rattle.config_reader.specs.Answered.{Answers}
use Rattle.config_reader.specs.Files.{IsRead, IsSecond, IsSection, first_pass, is_full, nothing_read, section_at}
use Rattle.config_reader.specs.Files.{sections_read}
use Rattle.config_reader.specs.Files.{section_body, stranger, with_heard, with_read}
use Rattle.config_reader.specs.Neighbors.{names_of, neighbor_at}
use Rattle.config_reader.specs.Processes.{process_at}
use Rattle.config_reader.specs.Rules.{Gives, Outcome, Stops, Until, done, is_end, more, saying, where_so}
use Rattle.config_reader.specs.Words.{word_or}
use Rattle.config_reader.proofs.KeepLemmas.{said_keeps}
use Rattle.config_reader.proofs.NeighborLemmas.{neighbor_counts, neighbor_keeps, neighbor_names, neighbor_new}
use Rattle.config_reader.proofs.ProcessLemmas.{process_keeps, process_new}
use Rattle.config_reader.proofs.RuleLemmas.{goes_on, stops}
use Rattle.config_reader.proofs.ShrinkLemmas.{Keeps, Shrinks, front_passed}

-- COUNTS

routes_added : (neighbors : List Neighbor) (neighbor : Neighbor)
    → routes_in (neighbors ++ neighbor ∷ []) ≡ routes_in neighbors + length neighbor.statics
routes_added neighbors neighbor =
    omega (arith, sum_by-append (λ (one : Neighbor). length one.statics) neighbors (neighbor ∷ []))

body_counts : (read after : FileRead) (which : Section) (end : Place) (tokens rest : List Placed)
    → section_body read which end tokens (Gives after rest)
    → routes_in after.sections.neighbors + length rest ≤ routes_in read.sections.neighbors + length tokens
body_counts read after Process end tokens rest (one, mid, here, is) =
    let after_is : after ≡ with_read read one = cc in
    let rest_is : rest ≡ mid = cc in
    omega (
      arith,
      ap (λ (r : FileRead). routes_in r.sections.neighbors) after_is,
      ap length rest_is,
      process_keeps read.sections.processes end tokens mid one here,
    )
body_counts read after NeighborSection end tokens rest (one, mid, here, is) =
    let after_is : after ≡ with_heard read one = cc in
    let rest_is : rest ≡ mid = cc in
    omega (
      arith,
      ap (λ (r : FileRead). routes_in r.sections.neighbors) after_is,
      ap length rest_is,
      routes_added read.sections.neighbors one.neighbor,
      neighbor_counts read.sections.neighbors one end tokens mid here,
    )

-- each static route of a section is at least one token, and so is the section's first word
pub section_counts : (slots : Slots) (read after : FileRead) (end : Place) (tokens rest : List Placed)
    → section_at slots read end tokens (Gives after rest)
    → routes_in after.sections.neighbors + length rest < routes_in read.sections.neighbors + length tokens
section_counts slots read after end tokens rest (which, mid, here, is) =
    omega (arith, front_passed tokens mid here.0 here.1 here.4, body_counts read after which end mid rest is)

body_keeps : (read : FileRead) (which : Section) → Keeps (section_body read which)
body_keeps read Process = said_keeps (process_at read.sections.processes) _ (process_keeps read.sections.processes)
body_keeps read NeighborSection =
    said_keeps (neighbor_at read.sections.neighbors) _ (neighbor_keeps read.sections.neighbors)

pub section_shrinks : (slots : Slots) (read : FileRead) → Shrinks (section_at slots read)
section_shrinks slots read end tokens rest value (which, mid, here, is) =
    omega (arith, front_passed tokens mid here.0 here.1 here.4, body_keeps read which end mid rest value is)

-- NAMES

all_append : {X : Type 0} (P : X → Type 0) (xs ys : List X) → AllByRecursion P xs → AllByRecursion P ys
    → AllByRecursion P (xs ++ ys)
all_append P [] ys none all = all
all_append P (x ∷ xs) ys (this, these) all = (this, all_append P xs ys these all)

all_front : {X : Type 0} (P : X → Type 0) (xs ys : List X) → AllByRecursion P (xs ++ ys) → AllByRecursion P xs
all_front P [] ys all = tt
all_front P (x ∷ xs) ys (this, these) = (this, all_front P xs ys these)

all_back : {X : Type 0} (P : X → Type 0) (xs ys : List X) → AllByRecursion P (xs ++ ys) → AllByRecursion P ys
all_back P [] ys all = all
all_back P (x ∷ xs) ys (this, these) = all_back P xs ys these

all_kept : {X : Type 0} (P : X → Type 0) (x : X) (xs : List X) (keep : Bool) → P x → AllByRecursion P xs
    → AllByRecursion P (cond keep (x ∷ xs) xs)
all_kept P x xs true this these = (this, these)
all_kept P x xs false this these = these

all_filtered : {X : Type 0} (P : X → Type 0) (test : X → Bool) (xs : List X) → AllByRecursion P xs
    → AllByRecursion P (filter test xs)
all_filtered P test [] all = tt
all_filtered P test (x ∷ xs) (this, these) =
    all_kept P x (filter test xs) (test x) this (all_filtered P test xs these)

all_first : {X : Type 0} (P : X → Type 0) (same : X → X → Bool) (xs : List X) → AllByRecursion P xs
    → AllByRecursion P (first_places same xs)
all_first P same [] all = tt
all_first P same (x ∷ xs) (this, these) =
    (this, all_filtered P (λ y. not (same x y)) (first_places same xs) (all_first P same xs these))

all_names : (P : ArrayVec ℕ → Type 0) (heard : List Heard) → AllByRecursion (λ (one : Heard). P one.name) heard
    → AllByRecursion P (map (λ (one : Heard). one.name) heard)
all_names P [] all = tt
all_names P (one ∷ heard) (this, these) = (this, all_names P heard these)

names_all : (P : ArrayVec ℕ → Type 0) (heard : List Heard) → AllByRecursion (λ (one : Heard). P one.name) heard
    → AllByRecursion P (names_of heard)
names_all P heard all =
    all_first P (λ (a b : ArrayVec ℕ). same_name a.items b.items) (map (λ (one : Heard). one.name) heard)
    (all_names P heard all)

-- what holds of the names that are heard holds of those that neighbours have
abbrev Covers : FileRead → Type 0
Covers read =
    (test : List ℕ → Bool) → AllByRecursion (λ (one : Heard). test one.name.items ≡ false) read.heard
    → AllByRecursion (λ (name : ArrayVec ℕ). test name.items ≡ false) (names_in read.sections.neighbors)

names_added : (P : ArrayVec ℕ → Type 0) (neighbors : List Neighbor) (neighbor : Neighbor)
    → AllByRecursion P (names_in neighbors) → AllByRecursion P neighbor.processes
    → AllByRecursion P (names_in (neighbors ++ neighbor ∷ []))
names_added P [] neighbor before these = all_append P neighbor.processes [] these tt
names_added P (first ∷ others) neighbor before these =
    all_append P first.processes (names_in (others ++ neighbor ∷ []))
    (all_front P first.processes (names_in others) before)
    (names_added P others neighbor (all_back P first.processes (names_in others) before) these)

covers_more : (read : FileRead) (one : NeighborRead) → Covers read → one.neighbor.processes ≡ names_of one.heard
    → Covers (with_heard read one)
covers_more read one covers is test all =
    let P : ArrayVec ℕ → Type 0 = λ name. test name.items ≡ false in
    let H : Heard → Type 0 = λ one. test one.name.items ≡ false in
    names_added P read.sections.neighbors one.neighbor (covers test (all_front H read.heard one.heard all))
    (subst (AllByRecursion P) (sym is) (names_all P one.heard (all_back H read.heard one.heard all)))

body_covers : (read after : FileRead) (which : Section) (end : Place) (tokens rest : List Placed)
    → section_body read which end tokens (Gives after rest) → Covers read → Covers after
body_covers read after Process end tokens rest (one, mid, here, is) covers =
    let after_is : after ≡ with_read read one = cc in
    subst Covers (sym after_is) (λ test all. covers test all)
body_covers read after NeighborSection end tokens rest (one, mid, here, is) covers =
    let after_is : after ≡ with_heard read one = cc in
    subst Covers (sym after_is)
    (covers_more read one covers (neighbor_names read.sections.neighbors one end tokens mid here))

covers_until : (slots : Slots) (end : Place) (read all : FileRead) (tokens rest : List Placed) → Covers read
    → Until is_end (section_at slots) end read tokens (Gives all rest) → Covers all
covers_until slots end read all tokens rest covers (done known left is) = covers
covers_until slots end read all tokens rest covers
    (more known after left mid outcome is (which, next, first, second) behind) =
    covers_until slots end after all mid rest (body_covers known after which end next mid second covers) behind

-- THE SECOND PASS

find_step : {X : Type 0} (test : X → Bool) (x : X) (xs : List X) (passes : Bool) → test x ≡ passes
    → cond passes (Some x) (find test xs) ≡ None → (passes ≡ false) × (find test xs ≡ None)
find_step test x xs true is none = absurd (cc)
find_step test x xs false is none = (refl, none)

none_found : {X : Type 0} (test : X → Bool) (xs : List X) → find test xs ≡ None
    → AllByRecursion (λ x. test x ≡ false) xs
none_found test [] none = tt
none_found test (x ∷ xs) none =
    let step = find_step test x xs (test x) refl none in (step.0, none_found test xs step.1)

find_none : {X : Type 0} (test : X → Bool) (xs : List X) → AllByRecursion (λ x. test x ≡ false) xs
    → find test xs ≡ None
find_none test [] all = refl
find_none test (x ∷ xs) (this, these) =
    ap (λ (passes : Bool). cond passes (Some x) (find test xs)) this ∙ find_none test xs these

-- where each name that is heard has a process, so has each that a neighbour has
pub all_known : (slots : Slots) (end : Place) (read : FileRead) (tokens rest : List Placed)
    → Until is_end (section_at slots) end nothing_read tokens (Gives read rest) → stranger read ≡ None
    → first_unknown read.sections ≡ None
all_known slots end read tokens rest passed none =
    let unknown : List ℕ → Bool = λ name. is_none (place_of_name read.sections.processes name) in
    let covers = covers_until slots end nothing_read read tokens rest (λ test all. tt) passed in
    find_none (λ (name : ArrayVec ℕ). unknown name.items) (names_in read.sections.neighbors)
    (covers unknown (none_found (λ (one : Heard). unknown one.name.items) read.heard none))

-- THE END

at_end : (tokens : List Placed) → is_end (front_token tokens) ≡ true → tokens ≡ []
at_end [] is = refl
at_end (first ∷ others) is = absurd (cc)

-- nothing is left behind the last section
pub nothing_left : (slots : Slots) (end : Place) (read all : FileRead) (tokens rest : List Placed)
    → Until is_end (section_at slots) end read tokens (Gives all rest) → rest ≡ []
nothing_left slots end read all tokens rest (done known left is) = at_end left is
nothing_left slots end read all tokens rest (more known after left mid outcome is here behind) =
    nothing_left slots end after all mid rest behind

-- WHOLE FILES

pub tokens_few : (bytes : List ℕ) (tokens : List Placed) → tokens ≡ tokens_of_file bytes → length bytes ≤ 1048576
    → length tokens ≤ 1048576
tokens_few bytes tokens is few = omega (arith, ap length is, length-file_tokens start 0 bytes, few)

-- the tokens that are read are those of the bytes
of_bytes : (slots : Slots) (bytes : List ℕ) (end : Place) (tokens : List Placed) (outcome : Outcome FileRead)
    → tokens ≡ tokens_of_file bytes → end ≡ end_of_file bytes → sections_read slots end tokens outcome
    → first_pass slots bytes outcome
of_bytes slots bytes end tokens outcome tokens_are end_is passed =
    subst (λ (place : Place). sections_read slots place (tokens_of_file bytes) outcome) end_is
    (subst (λ (these : List Placed). sections_read slots end these outcome) tokens_are passed)

passed_whole : (bytes : List ℕ) (slots : Slots) (end : Place) (tokens left : List Placed) (read : FileRead)
    → tokens ≡ tokens_of_file bytes → end ≡ end_of_file bytes → sections_read slots end tokens (Gives read left)
    → first_pass slots bytes (Gives read [])
passed_whole bytes slots end tokens left read tokens_are end_is passed =
    subst (λ (rest : List Placed). first_pass slots bytes (Gives read rest))
    (nothing_left slots end nothing_read read tokens left passed)
    (of_bytes slots bytes end tokens (Gives read left) tokens_are end_is passed)

pub read_stops : (bytes : List ℕ) (slots : Slots) (end : Place) (tokens left : List Placed) (error : ConfigError)
    → tokens ≡ tokens_of_file bytes → end ≡ end_of_file bytes → length bytes ≤ 1048576
    → Answers (sections_read slots) end tokens left (Err error) → IsRead bytes slots (Err error)
read_stops bytes slots end tokens left (Refused fault) tokens_are end_is few is =
    inr (few, inl (of_bytes slots bytes end tokens (Stops fault) tokens_are end_is is))
read_stops bytes slots end tokens left NoMemory tokens_are end_is few is = tt

pub read_ends : (bytes : List ℕ) (slots : Slots) (end : Place) (tokens left : List Placed) (read : FileRead)
    (answer : Result Sections ConfigError) → tokens ≡ tokens_of_file bytes → end ≡ end_of_file bytes
    → length bytes ≤ 1048576 → sections_read slots end tokens (Gives read left) → IsSecond read answer
    → IsRead bytes slots answer
read_ends bytes slots end tokens left read (Ok configured) tokens_are end_is few passed is =
    (few, read, passed_whole bytes slots end tokens left read tokens_are end_is passed, is.0, is.1)
read_ends bytes slots end tokens left read (Err (Refused fault)) tokens_are end_is few passed is =
    inr (few, inr (read, is.0, passed_whole bytes slots end tokens left read tokens_are end_is passed, is.1, is.2))
read_ends bytes slots end tokens left read (Err NoMemory) tokens_are end_is few passed is = absurd is

-- SECTIONS THAT ARE READ

pub process_stops : (read : FileRead) (stood : List ProcessSection) (end : Place) (tokens left other : List Placed)
    (error : ConfigError) → stood ≡ read.sections.processes → Answers (process_at stood) end tokens left (Err error)
    → Answers (section_body read Process) end tokens other (Err error)
process_stops read stood end tokens left other error is answers =
    stops (process_at read.sections.processes) (λ one. saying (with_read read one)) end tokens left other error
    (subst (λ (these : List ProcessSection). Answers (process_at these) end tokens left (Err error)) is answers)

pub process_goes : (read after : FileRead) (stood : List ProcessSection) (one : ProcessSection) (end : Place)
    (tokens left : List Placed) → stood ≡ read.sections.processes → process_at stood end tokens (Gives one left)
    → after ≡ with_read read one → Answers (section_body read Process) end tokens left (Ok after)
process_goes read after stood one end tokens left is answers after_is = (
  one,
  left,
  subst (λ (these : List ProcessSection). process_at these end tokens (Gives one left)) is answers,
  ap (λ (r : FileRead). Gives r left) after_is,
)

pub process_fits : (read : FileRead) (stood : List ProcessSection) (one : ProcessSection) (end : Place)
    (tokens left : List Placed) → stood ≡ read.sections.processes → process_at stood end tokens (Gives one left)
    → place_of_name read.sections.processes one.name.items ≡ None
process_fits read stood one end tokens left is answers =
    subst (λ (these : List ProcessSection). place_of_name these one.name.items ≡ None) is
    (process_new stood one end tokens left answers)

pub neighbor_stops : (read : FileRead) (before : List Neighbor) (end : Place) (tokens left other : List Placed)
    (error : ConfigError) → before ≡ read.sections.neighbors
    → Answers (neighbor_at before) end tokens left (Err error)
    → Answers (section_body read NeighborSection) end tokens other (Err error)
neighbor_stops read before end tokens left other error is answers =
    stops (neighbor_at read.sections.neighbors) (λ one. saying (with_heard read one)) end tokens left other error
    (subst (λ (these : List Neighbor). Answers (neighbor_at these) end tokens left (Err error)) is answers)

pub neighbor_goes : (read after : FileRead) (before : List Neighbor) (one : NeighborRead) (end : Place)
    (tokens left : List Placed) → before ≡ read.sections.neighbors → neighbor_at before end tokens (Gives one left)
    → after ≡ with_heard read one → Answers (section_body read NeighborSection) end tokens left (Ok after)
neighbor_goes read after before one end tokens left is answers after_is = (
  one,
  left,
  subst (λ (these : List Neighbor). neighbor_at these end tokens (Gives one left)) is answers,
  ap (λ (r : FileRead). Gives r left) after_is,
)

pub neighbor_fits : (read : FileRead) (before : List Neighbor) (one : NeighborRead) (end : Place)
    (tokens left : List Placed) → before ≡ read.sections.neighbors → neighbor_at before end tokens (Gives one left)
    → place_of_peer read.sections.neighbors one.neighbor.settings.peer ≡ None
neighbor_fits read before one end tokens left is answers =
    subst (λ (these : List Neighbor). place_of_peer these one.neighbor.settings.peer ≡ None) is
    (neighbor_new before one end tokens left answers)

-- a section, by its first word
pub section_goes : (slots : Slots) (read : FileRead) (section which : Section) (end mid_end : Place)
    (tokens mid left : List Placed) (answer : Result FileRead ConfigError)
    → word_or IsSection (λ section. where_so kind.Many (is_full slots read.sections section)) end tokens
    (Gives section mid) → mid_end ≡ end → section ≡ which
    → Answers (section_body read which) mid_end mid left answer → Answers (section_at slots read) end tokens left answer
section_goes slots read section which end mid_end tokens mid left answer here end_is is behind =
    goes_on (word_or IsSection (λ section. where_so kind.Many (is_full slots read.sections section)))
    (section_body read) end mid_end tokens mid left section answer here end_is
    (subst (λ (one : Section). Answers (section_body read one) mid_end mid left answer) (sym is) behind)
