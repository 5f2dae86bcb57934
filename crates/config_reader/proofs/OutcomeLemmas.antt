-- The law of files.
use Rattle.std.proofs.Common.{ℕ, ◌≡◌, ◌<◌, ◌≤◌, ◌⊎◌, List, [], length, Option, Some, None, sym, ◌∙◌, ap, inl, inr}
use Rattle.std.proofs.Common.{arith}
use Rattle.token_reader.specs.FileTokens.{end_of_file, tokens_of_file}
use Rattle.config_model.specs.declared.fault.ConfigFault.{ConfigFault}
use Rattle.config_model.specs.declared.fault.ConfigKind.TheVariants as kind
use Rattle.config_model.specs.declared.slots.Slots.{Slots}
use Rattle.config_model.specs.Sections.{Sections}
use Rattle.config_reader.specs.declared.written.FileRead.{FileRead}
use Rattle.config_reader.specs.declared.written.Heard.{Heard}
use Rattle.config_reader.specs.Files.{Configures, IsFirstFault, IsStranger, first_pass, stranger}
use Rattle.config_reader.specs.Outcomes.{FilesDoOne, FilesFaultOnce, FilesGiveOne}
use Rattle.config_reader.specs.Rules.{Outcome, Gives, Stops, fault_at}
use Rattle.config_reader.proofs.SectionOneLemmas.{sections_decide}

passes_one : (bytes : List ℕ) (slots : Slots) (one other : Outcome FileRead) → first_pass slots bytes one
    → first_pass slots bytes other → one ≡ other
passes_one bytes slots one other is also =
    sections_decide slots (end_of_file bytes) (tokens_of_file bytes) one other is also

same_read : (bytes : List ℕ) (slots : Slots) (read read' : FileRead) → first_pass slots bytes (Gives read [])
    → first_pass slots bytes (Gives read' []) → read ≡ read'
same_read bytes slots read read' is also =
    let same = passes_one bytes slots (Gives read []) (Gives read' []) is also in cc

no_stop : (bytes : List ℕ) (slots : Slots) (read : FileRead) (fault : ConfigFault)
    → first_pass slots bytes (Gives read []) → first_pass slots bytes (Stops fault) → ⊥
no_stop bytes slots read fault is also =
    let no = passes_one bytes slots (Gives read []) (Stops fault) is also in cc

pub give_one : FilesGiveOne
give_one bytes slots one other (few, read, passed, none, is) (few', read', passed', none', is') =
    is ∙ ap (λ (r : FileRead). r.sections) (same_read bytes slots read read' passed passed') ∙ sym is'

pub do_one : FilesDoOne
do_one bytes slots configured fault (few, read, passed, none, is) (inl (long, fault_is)) = omega (arith, few, long)
do_one bytes slots configured fault (few, read, passed, none, is) (inr (few', inl stops)) =
    no_stop bytes slots read fault passed stops
do_one bytes slots configured fault (few, read, passed, none, is)
    (inr (few', inr (read', one, passed', strange, fault_is))) =
    let no : None ≡ Some one =
    sym none ∙ ap stranger (same_read bytes slots read read' passed passed') ∙ strange in cc

same_stranger : (read read' : FileRead) (one one' : Heard) → read ≡ read' → stranger read ≡ Some one
    → stranger read' ≡ Some one' → one ≡ one'
same_stranger read read' one one' same is is' =
    let both : Some one ≡ Some one' = sym is ∙ ap stranger same ∙ is' in cc

pub fault_once : FilesFaultOnce
fault_once bytes slots one other (inl (long, is)) (inl (long', is')) = is ∙ sym is'
fault_once bytes slots one other (inl (long, is)) (inr (few, either)) = absurd (omega (arith, long, few))
fault_once bytes slots one other (inr (few, either)) (inl (long, is)) = absurd (omega (arith, long, few))
fault_once bytes slots one other (inr (few, inl stops)) (inr (few', inl stops')) =
    let same = passes_one bytes slots (Stops one) (Stops other) stops stops' in cc
fault_once bytes slots one other (inr (few, inl stops)) (inr (few', inr (read, name, passed, strange, is))) =
    absurd (no_stop bytes slots read one passed stops)
fault_once bytes slots one other (inr (few, inr (read, name, passed, strange, is))) (inr (few', inl stops)) =
    absurd (no_stop bytes slots read other passed stops)
fault_once bytes slots one other (inr (few, inr (read, name, passed, strange, is)))
    (inr (few', inr (read', name', passed', strange', is'))) =
    let same = same_stranger read read' name name' (same_read bytes slots read read' passed passed') strange strange' in
    is ∙ ap (λ (heard : Heard). fault_at kind.Process heard.place) same ∙ sym is'
