-- The words that items begin with, and what stands behind each.
use Rattle.std.proofs.Common.{ℕ, ◌≡◌, ◌+◌, ◌*◌, true, false, cond, eqb, get_or, length, List, [], ◌∷◌, ◌++◌}
use Rattle.std.proofs.Common.{Option, Some, ap, sym, ◌∙◌, refl, subst}
use Rattle.std.proofs.lemmas.Bool.{false≢true}
use Rattle.route_values.specs.declared.addr.Family.{Family}
use Rattle.token_reader.specs.Tokens.{Token, Word}
use Rattle.route_grammar.specs.declared.kind.Kind.{Kind}
use Rattle.route_grammar.specs.declared.kind.Kind.TheVariants as kind
use Rattle.route_grammar.specs.declared.items.Item.{Item}
use Rattle.route_grammar.specs.Limits.{Limits}
use Rattle.route_grammar.specs.Productions.{front}
use Rattle.route_grammar.specs.Items.{keyword, ItemOf, Operand, OneItem, AllDiffer, AreDifferent, is_among, kind_of}
use Rattle.route_grammar.specs.Items.{items_further}
use Rattle.route_grammar.proofs.RepeatedLemmas.{Starts}
use Rattle.route_grammar.proofs.InsideLemmas.{IsNext}
use Rattle.route_grammar.proofs.ItemLemmas.{seen_behind, differ_more, differ_next}

-- words of different kinds differ in their length or their first letter
kind_at : ℕ → Kind
kind_at n =
    cond (eqb n 2158) kind.NextHop (cond (eqb n 1647) kind.Origin (cond (eqb n 1889) kind.Path (cond (eqb n 877)
    kind.Med (cond (eqb n 4204) kind.LocalPref (cond (eqb n 4193) kind.Atomic (cond (eqb n 2657) kind.Aggregator
    (cond (eqb n 2403) kind.Communities (cond (eqb n 3439) kind.Originator (cond (eqb n 3171) kind.Clusters (cond
    (eqb n 4709) kind.Extended (cond (eqb n 3948) kind.Large (kind.PathId))))))))))))

word_code : List ℕ → ℕ
word_code word = 256 * length word + get_or word 0 0

kind_is : (one : Kind) → kind_at (word_code (keyword one)) ≡ one
unfolding kind_at word_code
kind_is kind.NextHop = refl
kind_is kind.Origin = refl
kind_is kind.Path = refl
kind_is kind.Med = refl
kind_is kind.LocalPref = refl
kind_is kind.Atomic = refl
kind_is kind.Aggregator = refl
kind_is kind.Communities = refl
kind_is kind.Originator = refl
kind_is kind.Clusters = refl
kind_is kind.Extended = refl
kind_is kind.Large = refl
kind_is kind.PathId = refl

pub keyword_one : (one other : Kind) → keyword one ≡ keyword other → one ≡ other
keyword_one one other same = sym (kind_is one) ∙ ap (λ (word : List ℕ). kind_at (word_code word)) same ∙ kind_is other

-- an operand says an item of its kind
pub operand_kind : (family : Option Family) (one : Kind) (limits : Limits) (tokens : List Token) (said : Item)
    → Operand family one limits tokens said → kind_of said ≡ one
operand_kind family kind.NextHop limits tokens said read = ap kind_of read.1
operand_kind family kind.Origin limits tokens said read = ap kind_of read.1
operand_kind family kind.Path limits tokens said read = ap kind_of read.1
operand_kind family kind.Med limits tokens said read = ap kind_of read.1
operand_kind family kind.LocalPref limits tokens said read = ap kind_of read.1
operand_kind family kind.Atomic limits tokens said read = ap kind_of read.1
operand_kind family kind.Aggregator limits tokens said read = ap kind_of read.1
operand_kind family kind.Communities limits tokens said read = ap kind_of read.1
operand_kind family kind.Originator limits tokens said read = ap kind_of read.1
operand_kind family kind.Clusters limits tokens said read = ap kind_of read.1
operand_kind family kind.Extended limits tokens said read = ap kind_of read.1
operand_kind family kind.Large limits tokens said read = ap kind_of read.1
operand_kind family kind.PathId limits tokens said read = ap kind_of read.1

word_same : (one other : List ℕ) → Some (Word one) ≡ Some (Word other) → one ≡ other
word_same one other same = cc

-- an item's kind is that of its first word
pub lead_kind : (family : Option Family) (one : Kind) (held : Limits) (text others : List Token) (said : Item)
    (read : OneItem family held text said) → front (text ++ others) ≡ Some (Word (keyword one)) → read.0 ≡ one
lead_kind family one held text others said read at =
    let text_is : text ≡ Word read.4.0 ∷ read.2 =
    read.3 ∙ ap (λ (tokens : List Token). tokens ++ read.2) read.4.1 in
    let word : read.4.0 ≡ keyword one =
    word_same read.4.0 (keyword one) (sym (ap (λ (tokens : List Token). front (tokens ++ others)) text_is) ∙ at) in
    keyword_one read.0 one (sym read.4.2 ∙ word)

pub item_is_next : (family : Option Family) (one : Kind) (limits : Limits) (items : List Item)
    → AllDiffer [] items → is_among one (seen_behind [] items) ≡ false
    → IsNext (ItemOf family one) (OneItem family) AreDifferent limits items (Some (Word (keyword one)))
item_is_next family one limits items differ unseen = record {
  wider = λ held text said least read. (
    (one, read.1, read.2, read.3, (keyword one, read.4, refl), read.5),
    differ_more [] items said differ
        (subst (λ (kind_said : Kind). is_among kind_said (seen_behind [] items) ≡ false)
        (sym (operand_kind family one held read.2 said read.5)) unseen),
  );
  same = λ held text others said more at read fits.
      let kind_same : read.0 ≡ one = lead_kind family one held text others said read at in (
        tt,
        read.1,
        read.2,
        read.3,
        read.4.1 ∙ ap (λ (word : List ℕ). Word word ∷ []) (read.4.2 ∙ ap keyword kind_same),
        subst (λ (kind_read : Kind). Operand family kind_read held read.2 said) kind_same read.5,
      );
}

pub starts_keyword : (one : Kind) → items_further (Some (Word (keyword one))) ≡ true
starts_keyword kind.NextHop = refl
starts_keyword kind.Origin = refl
starts_keyword kind.Path = refl
starts_keyword kind.Med = refl
starts_keyword kind.LocalPref = refl
starts_keyword kind.Atomic = refl
starts_keyword kind.Aggregator = refl
starts_keyword kind.Communities = refl
starts_keyword kind.Originator = refl
starts_keyword kind.Clusters = refl
starts_keyword kind.Extended = refl
starts_keyword kind.Large = refl
starts_keyword kind.PathId = refl

pub items_start : (family : Option Family) → Starts (OneItem family) items_further
items_start family limits tokens others said read =
    ap (λ (text : List Token). items_further (front (text ++ others)))
    (read.3 ∙ ap (λ (text : List Token). text ++ read.2) read.4.1)
    ∙ ap (λ (word : List ℕ). items_further (Some (Word word))) read.4.2 ∙ starts_keyword read.0

-- a second item of a kind isn't read
pub item_twice : (family : Option Family) (one : Kind) (items more : List Item) (held : Limits)
    (next others : List Token) (said : Item) → is_among one (seen_behind [] items) ≡ true
    → front (next ++ others) ≡ Some (Word (keyword one)) → OneItem family held next said
    → AllDiffer [] (items ++ said ∷ more) → ⊥
item_twice family one items more held next others said seen at read differ =
    let kind_same : kind_of said ≡ one =
    operand_kind family read.0 held read.2 said read.5 ∙ lead_kind family one held next others said read at in
    false≢true (sym (differ_next [] items more said differ)
    ∙ ap (λ (kind_said : Kind). is_among kind_said (seen_behind [] items)) kind_same ∙ seen)
