-- The items that a reader has read so far, and its answers.
use Rattle.std.proofs.Common.{ℕ, ◌≡◌, true, false, Bool, List, [], ◌∷◌, ◌++◌, Option, Some, Result, Ok, Err, ap, sym}
use Rattle.std.proofs.Common.{◌∙◌, refl, subst}
use Rattle.std.proofs.Common.{bytes_eq}
use Rattle.std.proofs.lemmas.Slice.Eq.{bytes_eq-Decides}
use Rattle.std.specs.List.{list_any}
use Rattle.route_values.specs.declared.addr.Family.{Family}
use Rattle.token_reader.specs.declared.token.Place.{Place}
use Rattle.token_reader.specs.Tokens.{Token, Mark, Word, Quoted, Unclosed, Placed, front_token, behind_front}
use Rattle.route_grammar.specs.declared.fault.LineFault.TheVariants.{BadToken}
use Rattle.route_grammar.specs.declared.fault.ReadFault.{ReadFault}
use Rattle.route_grammar.specs.declared.fault.ReadFault.TheVariants.{Line}
use Rattle.route_grammar.specs.declared.items.Item.{Item}
use Rattle.route_grammar.specs.declared.items.Items.{Items}
use Rattle.route_grammar.specs.declared.kind.Kind.{Kind}
use Rattle.route_grammar.specs.declared.kind.Kinds.{Kinds}
use Rattle.route_grammar.specs.Limits.{in_force}
use Rattle.route_grammar.specs.Productions.{OneToken, nothing_further}
use Rattle.route_grammar.specs.Answered.{Answers, Reads, column}
use Rattle.route_grammar.specs.Items.{keyword, kind_of, Operand, OneItem, ItemOf, AllDiffer, AreDifferent, ReadsItems}
use Rattle.route_grammar.specs.Items.{all_kinds, is_among, put, put_all, none_written, items_further}
use Rattle.route_grammar.specs.Kinds.{HasKinds}
use Rattle.route_grammar.proofs.ProductionLemmas.{IsChosen, leads_all}
use Rattle.route_grammar.proofs.AnsweredLemmas.{fault_answers, then_answers, chosen_answers}
use Rattle.route_grammar.proofs.AlongLemmas.{IsAlong, along_none, along_more, along_reads, along_stops, along_faults}
use Rattle.route_grammar.proofs.GrowLemmas.{item_grows}
use Rattle.route_grammar.proofs.InsideLemmas.{IsNext}
use Rattle.route_grammar.proofs.ItemLemmas.{seen_behind, differ_more, put_more}
use Rattle.route_grammar.proofs.MarkLemmas.{token_grows, token_reads}
use Rattle.route_grammar.proofs.OperandLemmas.{operand_kind, lead_kind, item_is_next, starts_keyword, items_start}
use Rattle.route_grammar.proofs.OperandLemmas.{item_twice}
use Rattle.route_grammar.proofs.WordLemmas.{bad_answers}

-- ONE ITEM

-- behind the word of an item stands its operand
pub item_answers : (family : Option Family) (one : Kind) (tokens mid left : List Placed) (end : Place)
    (result : Result Item ReadFault) → front_token tokens ≡ Some (Word (keyword one)) → mid ≡ behind_front tokens
    → Answers (Operand family one) nothing_further in_force mid left end result
    → Answers (ItemOf family one) nothing_further in_force tokens left end result
item_answers family one tokens mid left end result at mid_is answers =
    then_answers (OneToken (Word (keyword one))) (λ (word : Unit {0}). Operand family one) nothing_further
    nothing_further in_force tokens mid left end tt result
    (leads_all nothing_further (λ (word : Unit {0}). Operand family one)) (token_grows (Word (keyword one)))
    (token_reads (Word (keyword one)) in_force tokens mid at mid_is) answers

item_chosen : (family : Option Family) (one : Kind)
    → IsChosen (ItemOf family one) (OneItem family) nothing_further (Some (Word (keyword one)))
item_chosen family one = record {
  wider = λ limits tokens value read. (one, read.1, read.2, read.3, (keyword one, read.4, refl), read.5);
  same = λ limits tokens others value at ends read.
      let kind_same : read.0 ≡ one = lead_kind family one limits tokens others value read at in (
        tt,
        read.1,
        read.2,
        read.3,
        read.4.1 ∙ ap (λ (word : List ℕ). Word word ∷ []) (read.4.2 ∙ ap keyword kind_same),
        subst (λ (kind_read : Kind). Operand family kind_read limits read.2 value) kind_same read.5,
      );
}

item_reads : (family : Option Family) (one : Kind) (mid left : List Placed) (end : Place) (item : Item)
    → front_token mid ≡ Some (Word (keyword one))
    → Reads (ItemOf family one) nothing_further in_force mid left item
    → Reads (OneItem family) nothing_further in_force mid left item
item_reads family one mid left end item at read =
    chosen_answers (ItemOf family one) (OneItem family) nothing_further in_force mid left end
    (Some (Word (keyword one))) (Ok item) (item_chosen family one) at read

said_kind : (family : Option Family) (one : Kind) (mid left : List Placed) (item : Item)
    → Reads (ItemOf family one) nothing_further in_force mid left item → kind_of item ≡ one
said_kind family one mid left item (before, is, read) =
    operand_kind family one in_force read.found.2 item read.found.5

-- the front word is that of a kind
pub keyword_front : (left : List Placed) (word : List ℕ) (one : Kind) → front_token left ≡ Some (Word word)
    → word ≡ keyword one → front_token left ≡ Some (Word (keyword one))
keyword_front left word one at is = at ∙ ap (λ (text : List ℕ). Some (Word text)) is

refuted : (test : Bool) → (test ≡ true → ⊥) → test ≡ false
refuted false never = refl
refuted true never = absurd (never refl)

no_keyword : (word : List ℕ) (kinds : List Kind) → ((one : Kind) → word ≡ keyword one → ⊥)
    → list_any (λ one. bytes_eq word (keyword one)) kinds ≡ false
no_keyword word [] none = refl
no_keyword word (one ∷ kinds) none =
    rw (refuted (bytes_eq word (keyword one)) (λ same. none one ((bytes_eq-Decides word (keyword one)).0 same)))
    (no_keyword word kinds none)

no_item_at : (token : Token) → ((word : List ℕ) (one : Kind) → Some token ≡ Some (Word word) → word ≡ keyword one → ⊥)
    → items_further (Some token) ≡ false
no_item_at (Mark sign) none = refl
no_item_at (Word word) none = no_keyword word all_kinds (λ one is. none word one refl is)
no_item_at (Quoted word) none = refl
no_item_at Unclosed none = refl

-- where no word of an item is in front, items end
pub no_item : (left : List Placed)
    → ((word : List ℕ) (one : Kind) → front_token left ≡ Some (Word word) → word ≡ keyword one → ⊥)
    → items_further (front_token left) ≡ false
no_item [] none = refl
no_item (first ∷ others) none = no_item_at first.token none

-- ITEMS SO FAR

pub record AreRead (family : Option Family) (tokens left : List Placed) (read : Items) (seen : Kinds) : Type 0 where
  pub items : List Item
  pub along : IsAlong (OneItem family) items_further in_force tokens left items
  pub differ : AllDiffer [] items
  pub read_is : read ≡ put_all none_written items
  pub seen_are : HasKinds seen (seen_behind [] items)

pub none_read : (family : Option Family) (tokens : List Placed) (read : Items) (seen : Kinds) → read ≡ none_written
    → HasKinds seen [] → AreRead family tokens tokens read seen
none_read family tokens read seen read_is seen_are = record {
  items = [];
  along = along_none (OneItem family) items_further in_force tokens;
  differ = tt;
  read_is = read_is;
  seen_are = seen_are;
}

seen_more : (seen : List Kind) (items : List Item) (one : Item)
    → seen_behind seen (items ++ one ∷ []) ≡ kind_of one ∷ seen_behind seen items
seen_more seen [] one = refl
seen_more seen (first ∷ items) one = seen_more (kind_of first ∷ seen) items one

-- what a set of kinds says of a kind
abbrev pub Tells : Kinds → Kind → Bool → Type 0
Tells seen one said = (kinds : List Kind) → HasKinds seen kinds → said ≡ is_among one kinds

told : (family : Option Family) (tokens left : List Placed) (read : Items) (seen : Kinds) (one : Kind)
    (said wanted : Bool) (are : AreRead family tokens left read seen) → Tells seen one said → said ≡ wanted
    → is_among one (seen_behind [] are.items) ≡ wanted
told family tokens left read seen one said wanted are tells is =
    sym (tells (seen_behind [] are.items) are.seen_are) ∙ is

pub more_read : (family : Option Family) (tokens mid left : List Placed) (end : Place) (read more : Items)
    (seen also : Kinds) (one : Kind) (said : Bool) (item : Item) → AreRead family tokens mid read seen
    → front_token mid ≡ Some (Word (keyword one)) → Tells seen one said → said ≡ false
    → Reads (ItemOf family one) nothing_further in_force mid left item → more ≡ put read item
    → ((kinds : List Kind) → HasKinds seen kinds → HasKinds also (one ∷ kinds))
    → AreRead family tokens left more also
more_read family tokens mid left end read more seen also one said item are at tells unseen reads more_is also_are =
    let kind_is : kind_of item ≡ one = said_kind family one mid left item reads in
    let new : is_among one (seen_behind [] are.items) ≡ false =
    told family tokens mid read seen one said false are tells unseen in
    let all : Items = put_all none_written are.items in
    record {
      items = are.items ++ item ∷ [];
      along = along_more (OneItem family) items_further in_force tokens mid left are.items item (items_start family)
          are.along (item_reads family one mid left end item at reads);
      differ = differ_more [] are.items item are.differ
          (subst (λ (kind : Kind). is_among kind (seen_behind [] are.items) ≡ false) (sym kind_is) new);
      read_is = more_is ∙ ap (λ (before : Items). put before item) are.read_is ∙ sym (put_more none_written are.items
          item);
      seen_are = subst (λ (kinds : List Kind). HasKinds also kinds)
          (sym (seen_more [] are.items item ∙ ap (λ (kind : Kind). kind ∷ seen_behind [] are.items) kind_is))
          (also_are (seen_behind [] are.items) are.seen_are);
    }

-- a second item of a kind is at fault
pub twice_answers : (family : Option Family) (tokens left : List Placed) (end : Place) (read : Items) (seen : Kinds)
    (one : Kind) (said : Bool) (fault : ReadFault) → AreRead family tokens left read seen
    → front_token left ≡ Some (Word (keyword one)) → Tells seen one said → said ≡ true
    → fault ≡ Line (BadToken (column left end))
    → Answers {V = Items} (ReadsItems family) items_further in_force tokens left end (Err fault)
twice_answers family tokens left end read seen one said fault are at tells is fault_is =
    let old : is_among one (seen_behind [] are.items) ≡ true =
    told family tokens left read seen one said true are tells is in
    bad_answers (ReadsItems family) items_further in_force tokens left end fault fault_is
    (along_stops (OneItem family) AreDifferent (put_all none_written) items_further in_force tokens left are.items
    are.along are.differ (ap items_further at ∙ starts_keyword one)
    (λ held next others value more at_next one_read fits.
    item_twice family one are.items more held next others value old (at_next ∙ at) one_read fits))

-- and so is what makes no item
pub item_fault : (family : Option Family) (tokens mid left : List Placed) (end : Place) (read : Items) (seen : Kinds)
    (one : Kind) (said : Bool) (fault : ReadFault) → AreRead family tokens mid read seen
    → front_token mid ≡ Some (Word (keyword one)) → Tells seen one said → said ≡ false
    → Answers {V = Item} (ItemOf family one) nothing_further in_force mid left end (Err fault)
    → Answers {V = Items} (ReadsItems family) items_further in_force tokens left end (Err fault)
item_fault family tokens mid left end read seen one said fault are at tells unseen answers =
    let new : is_among one (seen_behind [] are.items) ≡ false =
    told family tokens mid read seen one said false are tells unseen in
    let next : IsNext (ItemOf family one) (OneItem family) AreDifferent in_force are.items (front_token mid) =
    subst (λ (lead : Option Token). IsNext (ItemOf family one) (OneItem family) AreDifferent in_force are.items lead)
    (sym at) (item_is_next family one in_force are.items are.differ new) in
    fault_answers (ItemOf family one) (ReadsItems family) nothing_further items_further in_force mid tokens left end
    fault
    (λ over faults. along_faults (ItemOf family one) (OneItem family) AreDifferent (put_all none_written)
    items_further in_force tokens mid left over are.items (item_grows family) are.along
    (ap items_further at ∙ starts_keyword one) next faults) answers

pub all_read : (family : Option Family) (tokens left : List Placed) (read : Items) (seen : Kinds)
    → AreRead family tokens left read seen → items_further (front_token left) ≡ false
    → Reads (ReadsItems family) items_further in_force tokens left read
all_read family tokens left read seen are ends =
    subst (λ (all : Items). Reads (ReadsItems family) items_further in_force tokens left all) (sym are.read_is)
    (along_reads (OneItem family) AreDifferent (put_all none_written) items_further in_force tokens left are.items
    (items_start family) are.along are.differ ends)
