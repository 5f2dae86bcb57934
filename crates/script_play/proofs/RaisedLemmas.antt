-- Sessions that are brought up one after another, and slots that are gone through in the same order.
use Rattle.std.proofs.Common.{ℕ, zero, suc, ◌≡◌, ◌+◌, ◌<◌, Ok, Err, List, [], ◌∷◌, ◌++◌, Some, take, ap, sym, refl}
use Rattle.std.proofs.Common.{subst}
use Rattle.std.proofs.Common.{◌∙◌, arith, length, map, take_all, get_or, ◌≤◌}
use Rattle.std.specs.Prelude.{slice_get}
use Rattle.std.proofs.lemmas.List.{length-map, map-append, take_more}
use Rattle.std.proofs.lemmas.Option.{same_Some}
use Rattle.outside.specs.Seen.{SinkSeen}
use Rattle.route_values.specs.declared.settings.Settings.{Settings}
use Rattle.config_model.specs.declared.sections.Neighbor.{Neighbor}
use Rattle.config_model.specs.Sections.{Sections}
use Rattle.book_history.specs.declared.outcomes.Spawn.{Spawn}
use Rattle.book_history.specs.declared.outcomes.Up.{Up}
use Rattle.book_history.specs.Entries.{Entry, History}
use Rattle.book_history.specs.Entries.Entry.{CameUp, SpawnAsked}
use Rattle.answer_texts.specs.Shown.{all_of, encoded}
use Rattle.text_history.specs.Adding.{Adding}
use Rattle.text_history.specs.Encodes.{AddsCuts, AddsUp, caps_sent, numbered}
use Rattle.text_history.specs.Plays.{IsDrain}
use Rattle.script_play.specs.declared.halt.Halt.{Halt}
use Rattle.script_play.specs.declared.player.Player.{Player}
use Rattle.script_play.specs.Player.{PlayerStands}
use Rattle.script_play.specs.Encoding.{Added, AddedBy, AddsAll, FrontAdded, Started, WorksOff, settings_of}
use Rattle.script_play.proofs.AddedLemmas.{added_both, added_none, added_one, adding_both, front_both}
use Rattle.script_play.proofs.AddedLemmas.{front_one, writes_later}

-- the slot of this number, which comes next, has this neighbour
pub record IsSlot (first n place : ℕ) (neighbors : List Neighbor) (neighbor : Neighbor) : Type 0 where
  pub behind : List Neighbor
  pub more : numbered first (take (suc n) neighbors) ≡ numbered first (take n neighbors) ++ (place, neighbor) ∷ []
  pub all : numbered first neighbors
      ≡ numbered first (take n neighbors) ++ (place, neighbor) ∷ numbered (place + 1) behind

slot_first : (first place : ℕ) (neighbor : Neighbor) (neighbors : List Neighbor) → first ≡ place
    → IsSlot first zero place (neighbor ∷ neighbors) neighbor
slot_first first place neighbor neighbors same = record {
  behind = neighbors;
  more = ap (λ n. (n, neighbor) ∷ []) same;
  all = ap (λ n. (n, neighbor) ∷ numbered (n + 1) neighbors) same;
}

slot_next : (first n place : ℕ) (other : Neighbor) (neighbors : List Neighbor) (neighbor : Neighbor)
    → IsSlot (first + 1) n place neighbors neighbor → IsSlot first (suc n) place (other ∷ neighbors) neighbor
slot_next first n place other neighbors neighbor slot = record {
  behind = slot.behind;
  more = ap (λ (rest : List (ℕ × Neighbor)). (first, other) ∷ rest) slot.more;
  all = ap (λ (rest : List (ℕ × Neighbor)). (first, other) ∷ rest) slot.all;
}

slot_at : (first n place : ℕ) (neighbors : List Neighbor) → place ≡ first + n → n < length neighbors
    → (neighbor : Neighbor) × (slice_get neighbors n ≡ Some neighbor) × IsSlot first n place neighbors neighbor
slot_at first n place [] is within = absurd (omega (arith, within))
slot_at first zero place (neighbor ∷ neighbors) is within =
    (neighbor, refl, slot_first first place neighbor neighbors (omega (arith, is)))
slot_at first (suc n) place (other ∷ neighbors) is within =
    let rest = slot_at (first + 1) n place neighbors (omega (arith, is)) (omega (arith, within)) in
    (rest.0, rest.1, slot_next first n place other neighbors rest.0 rest.2)

-- the settings that stand at a slot's place
settings_at : (n : ℕ) (neighbors : List Neighbor) (neighbor : Neighbor) → slice_get neighbors n ≡ Some neighbor
    → slice_get (settings_of neighbors) n ≡ Some neighbor.settings
settings_at n [] neighbor is = absurd cc
settings_at zero (first ∷ neighbors) neighbor is = ap (λ (one : Neighbor). Some one.settings)
    (same_Some first neighbor is)
settings_at (suc n) (first ∷ neighbors) neighbor is = settings_at n neighbors neighbor is

-- the settings of one neighbour more
pub settings_more : (items neighbors : List Neighbor) (n : ℕ) (neighbor : Neighbor) (all more : List Settings)
    → items ≡ neighbors → n < length items → neighbor ≡ get_or items n neighbor
    → all ≡ settings_of (take n neighbors) → more ≡ all ++ neighbor.settings ∷ []
    → more ≡ settings_of (take (n + 1) neighbors)
settings_more items neighbors n neighbor all more same within is are made =
    let settings : Neighbor → Settings = λ one. one.settings in
    let next : take (n + 1) items ≡ take n items ++ neighbor ∷ [] =
    take_more items n neighbor within ∙ ap (λ (one : Neighbor). take n items ++ one ∷ []) (sym is) in
    made
    ∙ ap (λ (front : List Settings). front ++ neighbor.settings ∷ [])
    (are ∙ ap (λ (some : List Neighbor). settings_of (take n some)) (sym same))
    ∙ sym (map-append settings (take n items) (neighbor ∷ [])) ∙ ap (map settings) (sym next)
    ∙ ap (λ (some : List Neighbor). settings_of (take (n + 1) some)) same

pub settings_all : (items neighbors : List Neighbor) (n : ℕ) (all : List Settings) → items ≡ neighbors
    → length items ≤ n → all ≡ settings_of (take n neighbors) → all ≡ settings_of neighbors
settings_all items neighbors n all same past are =
    are
    ∙ ap settings_of (take_all n neighbors (omega (arith, past, ap (length {A = Neighbor}) same)))

-- the sessions of the first neighbours are up
pub record RaisedSoFar (cfg : Sections) (neighbors : List Neighbor) (n : ℕ) (player : Player) : Type 0 where
  pub started : Spawn
  pub raised : History
  pub ups : Adding AddsUp (SpawnAsked 0 0 started ∷ []) (numbered 0 (take n neighbors)) raised
  pub stands : PlayerStands cfg raised player
  pub silent : all_of encoded raised ≡ []

pub raised_none : (cfg : Sections) (neighbors : List Neighbor) (player : Player) (given : Spawn)
    → PlayerStands cfg (SpawnAsked 0 0 given ∷ []) player → RaisedSoFar cfg neighbors 0 player
raised_none cfg neighbors player given stands = record {
  started = given;
  raised = SpawnAsked 0 0 given ∷ [];
  ups = refl;
  stands = stands;
  silent = refl;
}

raised_slot : (cfg : Sections) (neighbors : List Neighbor) (n : ℕ) (neighbor : Neighbor) (between player : Player)
    (given : Up) → IsSlot 0 n n neighbors neighbor → (was : RaisedSoFar cfg neighbors n between)
    → PlayerStands cfg (CameUp n neighbor.settings (caps_sent neighbor.settings) given ∷ was.raised) player
    → RaisedSoFar cfg neighbors (suc n) player
raised_slot cfg neighbors n neighbor between player given slot was stands =
    let entry : Entry = CameUp n neighbor.settings (caps_sent neighbor.settings) given in
    record {
      started = was.started;
      raised = entry ∷ was.raised;
      ups =
          subst (λ (slots : List (ℕ × Neighbor)). Adding AddsUp (SpawnAsked 0 0 was.started ∷ []) slots
          (entry ∷ was.raised)) (sym slot.more)
          (adding_both AddsUp (SpawnAsked 0 0 was.started ∷ []) was.raised (entry ∷ was.raised)
          (numbered 0 (take n neighbors)) ((n, neighbor) ∷ []) was.ups (entry ∷ [], (given, refl), refl));
      stands = stands;
      silent = ap (λ (front : List ℕ). front ++ []) was.silent;
    }

pub raised_more : (cfg : Sections) (neighbors : List Neighbor) (all : List Settings) (n next : ℕ) (settings : Settings)
    (between player : Player) (given : Up) → all ≡ settings_of neighbors → n < length all
    → slice_get all n ≡ Some settings → next ≡ n + 1 → (was : RaisedSoFar cfg neighbors n between)
    → PlayerStands cfg (CameUp n settings (caps_sent settings) given ∷ was.raised) player
    → RaisedSoFar cfg neighbors next player
raised_more cfg neighbors all n next settings between player given are within is next_is was stands =
    let count : length all ≡ length neighbors =
    ap (length {A = Settings}) are ∙ length-map neighbors (λ (one : Neighbor). one.settings) in
    let slot = slot_at 0 n n neighbors (omega arith) (omega (arith, count, within)) in
    let same : settings ≡ slot.0.settings =
    same_Some settings slot.0.settings
    (sym is ∙ ap (λ (some : List Settings). slice_get some n) are ∙ settings_at n neighbors slot.0 slot.1) in
    let on : next ≡ suc n = omega (arith, next_is) in
    subst (λ m. RaisedSoFar cfg neighbors m player) (sym on)
    (raised_slot cfg neighbors n slot.0 between player given slot.2 was
    (subst (λ (one : Settings). PlayerStands cfg (CameUp n one (caps_sent one) given ∷ was.raised) player) same stands))

pub raised_all : (cfg : Sections) (neighbors : List Neighbor) (all : List Settings) (count : ℕ) (player : Player)
    → all ≡ settings_of neighbors → count ≡ length all → RaisedSoFar cfg neighbors count player
    → Started cfg neighbors player
raised_all cfg neighbors all count player are is was =
    let len : length all ≡ length neighbors =
    ap (length {A = Settings}) are ∙ length-map neighbors (λ (one : Neighbor). one.settings) in
    record {
      started = was.started;
      raised = was.raised;
      ups =
          subst (λ (some : List Neighbor). Adding AddsUp (SpawnAsked 0 0 was.started ∷ []) (numbered 0 some) was.raised)
          (take_all count neighbors (omega (arith, is, len))) was.ups;
      stands = was.stands;
      silent = was.silent;
    }

-- the messages of the first slots were cut
pub record SlotsCut (cfg : Sections) (H : History) (neighbors : List Neighbor) (n : ℕ) (player : Player)
    (sink sink' : SinkSeen) : Type 0 where
  pub cuts : Added (AddedBy AddsCuts H (numbered 0 (take n neighbors))) cfg H player sink sink'

pub slots_none : (cfg : Sections) (H : History) (neighbors : List Neighbor) (player : Player) (sink : SinkSeen)
    → PlayerStands cfg H player → SlotsCut cfg H neighbors 0 player sink sink
slots_none cfg H neighbors player sink stands = record { cuts = added_none AddsCuts cfg H player sink stands }

pub slots_more : (cfg : Sections) (H : History) (neighbors : List Neighbor) (n next : ℕ) (between player : Player)
    (sink mid sink' : SinkSeen) → n < length neighbors → next ≡ n + 1
    → (was : SlotsCut cfg H neighbors n between sink mid)
    → Added (IsDrain n) cfg (was.cuts.added ++ H) player mid sink' → SlotsCut cfg H neighbors next player sink sink'
slots_more cfg H neighbors n next between player sink mid sink' within next_is was one =
    let slot = slot_at 0 n n neighbors (omega arith) within in
    let on : next ≡ suc n = omega (arith, next_is) in
    subst (λ m. SlotsCut cfg H neighbors m player sink sink') (sym on)
    (record {
      cuts =
          subst (λ (slots : List (ℕ × Neighbor)). Added (AddedBy AddsCuts H slots) cfg H player sink sink')
          (sym slot.2.more)
          (added_both AddsCuts cfg H (numbered 0 (take n neighbors)) ((n, slot.0) ∷ []) between player sink mid sink'
          was.cuts
          (added_one AddsCuts cfg (was.cuts.added ++ H) (n, slot.0) player mid sink' one));
    })

pub slots_all : (cfg : Sections) (H : History) (neighbors : List Neighbor) (count : ℕ) (player : Player)
    (sink sink' : SinkSeen) → length neighbors ≡ count → SlotsCut cfg H neighbors count player sink sink'
    → WorksOff AddsCuts (numbered 0 neighbors) cfg H player sink sink' (Ok tt)
slots_all cfg H neighbors count player sink sink' is was =
    subst (λ (some : List Neighbor). Added (AddedBy AddsCuts H (numbered 0 some)) cfg H player sink sink')
    (take_all count neighbors (omega (arith, is))) was.cuts

pub slots_stopped : (cfg : Sections) (H : History) (neighbors : List Neighbor) (n : ℕ) (between player now : Player)
    (sink mid sink' : SinkSeen) (halted : Halt) → n < length neighbors
    → (was : SlotsCut cfg H neighbors n between sink mid)
    → AddsAll (IsDrain n) cfg (was.cuts.added ++ H) player mid sink' (Err halted)
    → WorksOff AddsCuts (numbered 0 neighbors) cfg H now sink sink' (Err halted)
slots_stopped cfg H neighbors n between player now sink mid sink' halted within was (part, stops) =
    let slot = slot_at 0 n n neighbors (omega arith) within in (
      subst (λ (slots : List (ℕ × Neighbor)). FrontAdded AddsCuts slots cfg H sink sink') (sym slot.2.all)
          (front_both AddsCuts cfg H (numbered 0 (take n neighbors)) ((n, slot.0) ∷ numbered (n + 1) slot.2.behind)
          between sink mid sink' was.cuts
          (front_one AddsCuts cfg (was.cuts.added ++ H) (n, slot.0) (numbered (n + 1) slot.2.behind) mid sink' part)),
      writes_later sink mid sink' halted was.cuts.wrote.same stops,
    )
