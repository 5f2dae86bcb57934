-- Routes: items, and what stands behind them.
use Rattle.std.proofs.Common.{ℕ, ◌≡◌, Bool, true, false, codes, List, [], ◌∷◌, ◌++◌, Option, Some, None, Result, Err}
use Rattle.std.proofs.Common.{Ok, arith, ap, sym, ◌∙◌, refl, subst, append_assoc}
use Rattle.std.proofs.lemmas.Bool.{false≢true}
use Rattle.route_values.specs.declared.addr.Family.{Family}
use Rattle.route_values.specs.declared.attrs.Hop.{Hop}
use Rattle.route_values.specs.declared.key.Key.{Key}
use Rattle.route_values.specs.declared.pick.Pick.{Pick}
use Rattle.route_values.specs.Addr.{family_of}
use Rattle.route_values.specs.Prefix.{Block}
use Rattle.text_forms.specs.Families.{IsBlockText}
use Rattle.token_reader.specs.declared.token.Place.{Place}
use Rattle.token_reader.specs.Tokens.{Token, Placed, Word}
use Rattle.route_grammar.specs.declared.fault.LineFault.TheVariants.{BadToken}
use Rattle.route_grammar.specs.declared.fault.ReadFault.{ReadFault}
use Rattle.route_grammar.specs.declared.fault.ReadFault.TheVariants.{Line}
use Rattle.route_grammar.specs.declared.items.Items.{Items}
use Rattle.route_grammar.specs.Limits.{Limits, in_force}
use Rattle.route_grammar.specs.Items.{ReadsItems, none_written, items_further}
use Rattle.route_grammar.specs.Productions.{Production, OneToken, OneWord, Then, Saying, front}
use Rattle.route_grammar.specs.Productions.{nothing_further, all_further}
use Rattle.route_grammar.specs.Answered.{Answers, Reads, column}
use Rattle.route_grammar.proofs.ProductionLemmas.{Leads, leads_all, HasReading}
use Rattle.route_grammar.proofs.AnsweredLemmas.{then_answers, first_answers, saying_answers, saying_reads}
use Rattle.route_grammar.proofs.GrowLemmas.{items_grow}
use Rattle.route_grammar.proofs.ItemLemmas.{items_hopped}
use Rattle.command_grammar.specs.declared.command.Command.{Command}
use Rattle.command_grammar.specs.declared.command.Command.TheVariants as said
use Rattle.command_grammar.specs.declared.keywords.Form.TheVariants.{Attributes}
use Rattle.command_grammar.specs.Forms.{Ended, Where}
use Rattle.command_grammar.specs.Routes.{key_from, keys_from, family_for, KeysOf, Listed, Announced, Withdrawn}
use Rattle.command_grammar.proofs.FormLemmas.{behind_ok, behind_err, ended_some, where_answers, word_grows}
use Rattle.command_grammar.proofs.FormLemmas.{Completes, completed_answers, unfinished}
use Rattle.command_grammar.proofs.SampleLemmas.{block_of_some}
use Rattle.command_grammar.proofs.SelectorLemmas.{lead_token}

-- ---- behind items

-- what stands behind items, where a next hop has to be among them
abbrev pub Hopped : {W : Type 0} → (Items → Production W) → Items → Production W
Hopped R items = Where (λ limits. items.has_hop ≡ true) (R items)

items_none : (family : Option Family) (limits : Limits) → ReadsItems family limits [] none_written
items_none family limits = ([], refl, tt, refl)

pub items_some : {W : Type 0} (family : Option Family) (R : Items → Production W)
    → ((items : Items) → HasReading (R items)) → HasReading (Then (ReadsItems family) R)
items_some family R some limits =
    let rest = some none_written limits in
    (rest.0, rest.1, (none_written, [], rest.0, refl, items_none family limits, rest.2))

-- items that are read go on, with `next-hop self` where no next hop is written
hopped_more : {W : Type 0} (family : Option Family) (R : Items → Production W) (limits : Limits) (tokens : List Token)
    (items : Items) (has : Bool) → ((read : Items) → HasReading (R read)) → items.has_hop ≡ has
    → ReadsItems family limits tokens items
    → (behind : List Token) × (value : W) × Then (ReadsItems family) (Hopped R) limits (tokens ++ behind) value
hopped_more family R limits tokens items true some has reads =
    let rest = some items limits in
    (rest.0, rest.1, (items, tokens, rest.0, refl, reads, (has, rest.2)))
hopped_more family R limits tokens items false some has reads =
    let hopped = items_hopped family limits tokens items reads has in
    let rest = some hopped.0 limits in
    let hop : List Token = Word (codes "next-hop") ∷ Word (codes "self") ∷ [] in (
      hop ++ rest.0,
      rest.1,
      (hopped.0, tokens ++ hop, rest.0, sym (append_assoc tokens hop rest.0), hopped.1, (hopped.2, rest.2)),
    )

hopped_completes : {W : Type 0} (family : Option Family) (R : Items → Production W)
    → ((items : Items) → HasReading (R items)) → Completes (ReadsItems family) (Hopped R)
hopped_completes family R some = record {
  more = λ limits tokens items reads. hopped_more family R limits tokens items items.has_hop some refl reads;
}

pub hopped_some : {W : Type 0} (family : Option Family) (R : Items → Production W)
    → ((items : Items) → HasReading (R items)) → HasReading (Then (ReadsItems family) (Hopped R))
hopped_some family R some limits =
    hopped_more family R limits [] none_written false some refl (items_none family limits)

-- what stands behind items begins with none
abbrev pub Follows : {W : Type 0} → (Items → Production W) → Type 0
Follows R = Leads items_further all_further R

hopped_follows : {W : Type 0} (R : Items → Production W) → Follows R → Follows (Hopped R)
hopped_follows R leads limits items tokens others value (has, is) ends = leads limits items tokens others value is ends

pub hopped_err : {W : Type 0} (family : Option Family) (R : Items → Production W) (tokens left : List Placed)
    (end : Place) (error : ReadFault) → Follows R → ((items : Items) → HasReading (R items))
    → Answers (ReadsItems family) items_further in_force tokens left end (Err error)
    → Answers (Then (ReadsItems family) (Hopped R)) all_further in_force tokens left end (Err error)
hopped_err family R tokens left end error leads some given =
    completed_answers (ReadsItems family) (Hopped R) items_further all_further tokens left end error
    (hopped_follows R leads) (hopped_completes family R some) given

-- no next hop is written
pub hopped_none : {W : Type 0} (family : Option Family) (R : Items → Production W) (tokens left : List Placed)
    (end : Place) (items : Items) (error : ReadFault) → Follows R → ((read : Items) → HasReading (R read))
    → error ≡ Line (BadToken (column left end)) → items.has_hop ≡ false
    → Reads (ReadsItems family) items_further in_force tokens left items
    → Answers (Then (ReadsItems family) (Hopped R)) all_further in_force tokens left end (Err error)
hopped_none family R tokens left end items error leads some blames none read =
    unfinished (ReadsItems family) (Hopped R) items_further all_further tokens left end items error blames
    (hopped_follows R leads) (hopped_completes family R some)
    (λ limits others value is. false≢true (sym none ∙ is.0)) read

pub hopped_ok : {W : Type 0} (family : Option Family) (R : Items → Production W) (tokens mid left : List Placed)
    (end : Place) (items : Items) (answer : Result W ReadFault) → Follows R → items.has_hop ≡ true
    → Reads (ReadsItems family) items_further in_force tokens mid items
    → Answers (R items) all_further in_force mid left end answer
    → Answers (Then (ReadsItems family) (Hopped R)) all_further in_force tokens left end answer
hopped_ok family R tokens mid left end items answer leads has read given =
    then_answers (ReadsItems family) (Hopped R) items_further all_further in_force tokens mid left end items answer
    (hopped_follows R leads) (items_grow family) read
    (where_answers (λ limits. items.has_hop ≡ true) (R items) all_further mid left end answer
    (record { now = has; more = λ which. has }) given)

pub items_err : {W : Type 0} (family : Option Family) (R : Items → Production W) (tokens left : List Placed)
    (end : Place) (error : ReadFault) → Follows R → ((items : Items) → HasReading (R items))
    → Answers (ReadsItems family) items_further in_force tokens left end (Err error)
    → Answers (Then (ReadsItems family) R) all_further in_force tokens left end (Err error)
items_err family R tokens left end error leads some given =
    first_answers (ReadsItems family) R items_further all_further in_force tokens left end error leads some given

pub items_ok : {W : Type 0} (family : Option Family) (R : Items → Production W) (tokens mid left : List Placed)
    (end : Place) (items : Items) (answer : Result W ReadFault) → Follows R
    → Reads (ReadsItems family) items_further in_force tokens mid items
    → Answers (R items) all_further in_force mid left end answer
    → Answers (Then (ReadsItems family) R) all_further in_force tokens left end answer
items_ok family R tokens mid left end items answer leads read given =
    then_answers (ReadsItems family) R items_further all_further in_force tokens mid left end items answer leads
    (items_grow family) read given

-- ---- what it is: the end, or listed prefixes

end_no_item : (token : Option Token) → all_further token ≡ false → items_further token ≡ false
end_no_item None ends = refl
end_no_item (Some token) ends = absurd (false≢true (sym ends))

pub ended_follows : (say : Items → Command) → Follows (λ (items : Items). Ended (say items))
ended_follows say limits items tokens others value is ends =
    ap (λ (all : List Token). items_further (front (all ++ others))) is.0 ∙ end_no_item (front others) ends

pub ended_has : (say : Items → Command) (items : Items) → HasReading (Ended (say items))
ended_has say items = ended_some (say items)

-- what is said of the keys of prefixes behind `nlri`
abbrev pub SaysKeys : (Items → List Key → Command) → Items → Production Command
SaysKeys say items = Saying (say items) (Listed items.id items.attrs.hop)

pub listed_follows : (say : Items → List Key → Command) → Follows (SaysKeys say)
listed_follows say limits items tokens others value (keys, is, read) ends =
    ap items_further (lead_token (Word (codes "nlri")) tokens read.1 read.2 others read.3 read.4)

keys_some : (id : ℕ) (wanted : Option Family) → HasReading (KeysOf id wanted)
keys_some id wanted limits =
    let sample = block_of_some wanted in (
      Word sample.word ∷ [],
      keys_from id (sample.value ∷ []),
      (
        sample.value,
        Word sample.word ∷ [],
        [],
        refl,
        (sample.word, refl, sample.spelled),
        ([], refl, (refl, omega arith)),
      ),
    )

listed_some : (id : ℕ) (hop : Hop) → HasReading (Listed id hop)
listed_some id hop limits =
    let keys = keys_some id (family_for hop) limits in (
      Word (codes "nlri") ∷ keys.0,
      keys.1,
      (tt, Word (codes "nlri") ∷ [], keys.0, refl, refl, keys.2),
    )

pub listed_has : (say : Items → List Key → Command) (items : Items) → HasReading (SaysKeys say items)
listed_has say items limits =
    let keys = listed_some items.id items.attrs.hop limits in (keys.0, say items keys.1, (keys.1, refl, keys.2))

pub listed_err : (id : ℕ) (hop : Hop) (tokens left : List Placed) (end : Place) (error : ReadFault)
    → Answers (OneToken (Word (codes "nlri"))) nothing_further in_force tokens left end (Err error)
    → Answers (Listed id hop) all_further in_force tokens left end (Err error)
listed_err id hop tokens left end error first =
    behind_err (codes "nlri") (KeysOf id (family_for hop)) all_further tokens left end error
    (keys_some id (family_for hop)) first

pub listed_ok : (id : ℕ) (hop : Hop) (wanted : Option Family) (tokens mid left : List Placed) (end : Place)
    (answer : Result (List Key) ReadFault) → wanted ≡ family_for hop
    → Reads (OneToken (Word (codes "nlri"))) nothing_further in_force tokens mid tt
    → Answers (KeysOf id wanted) all_further in_force mid left end answer
    → Answers (Listed id hop) all_further in_force tokens left end answer
listed_ok id hop wanted tokens mid left end answer is first second =
    let goal : Option Family → Type 0 = λ one. Answers (KeysOf id one) all_further in_force mid left end answer in
    behind_ok (codes "nlri") (KeysOf id (family_for hop)) all_further tokens mid left end answer first
    (subst goal is second)

-- ---- behind a prefix

pub block_err : (S : Block → Production Command) (tokens left : List Placed) (end : Place) (error : ReadFault)
    → ((block : Block) → HasReading (S block))
    → Answers (OneWord IsBlockText) nothing_further in_force tokens left end (Err error)
    → Answers (Then (OneWord IsBlockText) S) all_further in_force tokens left end (Err error)
block_err S tokens left end error some given =
    first_answers (OneWord IsBlockText) S nothing_further all_further in_force tokens left end error
    (leads_all all_further S) some given

pub block_ok : (S : Block → Production Command) (tokens mid left : List Placed) (end : Place) (block : Block)
    (answer : Result Command ReadFault) → Reads (OneWord IsBlockText) nothing_further in_force tokens mid block
    → Answers (S block) all_further in_force mid left end answer
    → Answers (Then (OneWord IsBlockText) S) all_further in_force tokens left end answer
block_ok S tokens mid left end block answer read given =
    then_answers (OneWord IsBlockText) S nothing_further all_further in_force tokens mid left end block answer
    (leads_all all_further S) (word_grows IsBlockText) read given

-- ---- what routes say

abbrev pub announces_one : List Pick → Block → Items → Command
announces_one pick block items = said.Announce pick (key_from items.id block ∷ []) items.attrs

abbrev pub withdraws_one : List Pick → Block → Items → Command
withdraws_one pick block items = said.Withdraw pick (key_from items.id block ∷ [])

abbrev pub announces : List Pick → Items → List Key → Command
announces pick items keys = said.Announce pick keys items.attrs

abbrev pub withdraws : List Pick → Items → List Key → Command
withdraws pick items keys = said.Withdraw pick keys

-- behind a prefix that is announced, or withdrawn
abbrev pub AnnouncedBehind : List Pick → Block → Production Command
AnnouncedBehind pick block =
    Then (ReadsItems (Some (family_of block.addr))) (Hopped (λ items. Ended (announces_one pick block items)))

abbrev pub WithdrawnBehind : List Pick → Block → Production Command
WithdrawnBehind pick block =
    Then (ReadsItems (Some (family_of block.addr))) (λ items. Ended (withdraws_one pick block items))

pub announced_behind : (pick : List Pick) (block : Block) → HasReading (AnnouncedBehind pick block)
announced_behind pick block =
    hopped_some (Some (family_of block.addr)) (λ items. Ended (announces_one pick block items))
    (ended_has (announces_one pick block))

pub withdrawn_behind : (pick : List Pick) (block : Block) → HasReading (WithdrawnBehind pick block)
withdrawn_behind pick block =
    items_some (Some (family_of block.addr)) (λ items. Ended (withdraws_one pick block items))
    (ended_has (withdraws_one pick block))

-- items of a family that is known by another name
by_family : (family known : Family) (tokens left : List Placed) (end : Place) (answer : Result Items ReadFault)
    → family ≡ known → Answers (ReadsItems (Some family)) items_further in_force tokens left end answer
    → Answers (ReadsItems (Some known)) items_further in_force tokens left end answer
by_family family known tokens left end answer is given =
    let goal : Family → Type 0 =
    λ one. Answers (ReadsItems (Some one)) items_further in_force tokens left end answer in
    subst goal is given

pub announced_items_err : (pick : List Pick) (block : Block) (family : Family) (tokens left : List Placed)
    (end : Place) (error : ReadFault) → family ≡ family_of block.addr
    → Answers (ReadsItems (Some family)) items_further in_force tokens left end (Err error)
    → Answers (AnnouncedBehind pick block) all_further in_force tokens left end (Err error)
announced_items_err pick block family tokens left end error is given =
    hopped_err (Some (family_of block.addr)) (λ items. Ended (announces_one pick block items)) tokens left end error
    (ended_follows (announces_one pick block)) (ended_has (announces_one pick block))
    (by_family family (family_of block.addr) tokens left end (Err error) is given)

pub announced_none : (pick : List Pick) (block : Block) (family : Family) (tokens left : List Placed) (end : Place)
    (items : Items) (error : ReadFault) → family ≡ family_of block.addr → error ≡ Line (BadToken (column left end))
    → items.has_hop ≡ false → Reads (ReadsItems (Some family)) items_further in_force tokens left items
    → Answers (AnnouncedBehind pick block) all_further in_force tokens left end (Err error)
announced_none pick block family tokens left end items error is blames none read =
    hopped_none (Some (family_of block.addr)) (λ items. Ended (announces_one pick block items)) tokens left end items
    error (ended_follows (announces_one pick block)) (ended_has (announces_one pick block)) blames none
    (by_family family (family_of block.addr) tokens left end (Ok items) is read)

pub announced_ok : (pick : List Pick) (block : Block) (family : Family) (tokens mid left : List Placed) (end : Place)
    (items : Items) (answer : Result Command ReadFault) → family ≡ family_of block.addr → items.has_hop ≡ true
    → Reads (ReadsItems (Some family)) items_further in_force tokens mid items
    → Answers (Ended (announces_one pick block items)) all_further in_force mid left end answer
    → Answers (AnnouncedBehind pick block) all_further in_force tokens left end answer
announced_ok pick block family tokens mid left end items answer is has read given =
    hopped_ok (Some (family_of block.addr)) (λ items. Ended (announces_one pick block items)) tokens mid left end items
    answer (ended_follows (announces_one pick block)) has
    (by_family family (family_of block.addr) tokens mid end (Ok items) is read) given

pub withdrawn_items_err : (pick : List Pick) (block : Block) (family : Family) (tokens left : List Placed)
    (end : Place) (error : ReadFault) → family ≡ family_of block.addr
    → Answers (ReadsItems (Some family)) items_further in_force tokens left end (Err error)
    → Answers (WithdrawnBehind pick block) all_further in_force tokens left end (Err error)
withdrawn_items_err pick block family tokens left end error is given =
    items_err (Some (family_of block.addr)) (λ items. Ended (withdraws_one pick block items)) tokens left end error
    (ended_follows (withdraws_one pick block)) (ended_has (withdraws_one pick block))
    (by_family family (family_of block.addr) tokens left end (Err error) is given)

pub withdrawn_ok : (pick : List Pick) (block : Block) (family : Family) (tokens mid left : List Placed) (end : Place)
    (items : Items) (answer : Result Command ReadFault) → family ≡ family_of block.addr
    → Reads (ReadsItems (Some family)) items_further in_force tokens mid items
    → Answers (Ended (withdraws_one pick block items)) all_further in_force mid left end answer
    → Answers (WithdrawnBehind pick block) all_further in_force tokens left end answer
withdrawn_ok pick block family tokens mid left end items answer is read given =
    items_ok (Some (family_of block.addr)) (λ items. Ended (withdraws_one pick block items)) tokens mid left end items
    answer (ended_follows (withdraws_one pick block))
    (by_family family (family_of block.addr) tokens mid end (Ok items) is read) given

-- the end, behind the one key
pub announced_ended : (pick : List Pick) (block : Block) (items : Items) (keys : List Key) (left : List Placed)
    (end : Place) (answer : Result Command ReadFault) → keys ≡ key_from items.id block ∷ []
    → Answers (Ended (said.Announce pick keys items.attrs)) all_further in_force left left end answer
    → Answers (Ended (announces_one pick block items)) all_further in_force left left end answer
announced_ended pick block items keys left end answer is given =
    let goal : List Key → Type 0 =
    λ some. Answers (Ended (said.Announce pick some items.attrs)) all_further in_force left left end answer in
    subst goal is given

pub withdrawn_ended : (pick : List Pick) (block : Block) (items : Items) (keys : List Key) (left : List Placed)
    (end : Place) (answer : Result Command ReadFault) → keys ≡ key_from items.id block ∷ []
    → Answers (Ended (said.Withdraw pick keys)) all_further in_force left left end answer
    → Answers (Ended (withdraws_one pick block items)) all_further in_force left left end answer
withdrawn_ended pick block items keys left end answer is given =
    let goal : List Key → Type 0 =
    λ some. Answers (Ended (said.Withdraw pick some)) all_further in_force left left end answer in
    subst goal is given

-- ---- items in front of prefixes

pub announced_listed_err : (pick : List Pick) (tokens left : List Placed) (end : Place) (error : ReadFault)
    → Answers (ReadsItems None) items_further in_force tokens left end (Err error)
    → Answers (Announced pick Attributes) all_further in_force tokens left end (Err error)
announced_listed_err pick tokens left end error given =
    hopped_err None (SaysKeys (announces pick)) tokens left end error (listed_follows (announces pick))
    (listed_has (announces pick)) given

pub announced_listed_none : (pick : List Pick) (tokens left : List Placed) (end : Place) (items : Items)
    (error : ReadFault) → error ≡ Line (BadToken (column left end)) → items.has_hop ≡ false
    → Reads (ReadsItems None) items_further in_force tokens left items
    → Answers (Announced pick Attributes) all_further in_force tokens left end (Err error)
announced_listed_none pick tokens left end items error blames none read =
    hopped_none None (SaysKeys (announces pick)) tokens left end items error (listed_follows (announces pick))
    (listed_has (announces pick)) blames none read

pub announced_listed_ok : (pick : List Pick) (tokens mid left : List Placed) (end : Place) (items : Items)
    (answer : Result Command ReadFault) → items.has_hop ≡ true
    → Reads (ReadsItems None) items_further in_force tokens mid items
    → Answers (SaysKeys (announces pick) items) all_further in_force mid left end answer
    → Answers (Announced pick Attributes) all_further in_force tokens left end answer
announced_listed_ok pick tokens mid left end items answer has read given =
    hopped_ok None (SaysKeys (announces pick)) tokens mid left end items answer (listed_follows (announces pick)) has
    read given

pub withdrawn_listed_err : (pick : List Pick) (tokens left : List Placed) (end : Place) (error : ReadFault)
    → Answers (ReadsItems None) items_further in_force tokens left end (Err error)
    → Answers (Withdrawn pick Attributes) all_further in_force tokens left end (Err error)
withdrawn_listed_err pick tokens left end error given =
    items_err None (SaysKeys (withdraws pick)) tokens left end error (listed_follows (withdraws pick))
    (listed_has (withdraws pick)) given

pub withdrawn_listed_ok : (pick : List Pick) (tokens mid left : List Placed) (end : Place) (items : Items)
    (answer : Result Command ReadFault) → Reads (ReadsItems None) items_further in_force tokens mid items
    → Answers (SaysKeys (withdraws pick) items) all_further in_force mid left end answer
    → Answers (Withdrawn pick Attributes) all_further in_force tokens left end answer
withdrawn_listed_ok pick tokens mid left end items answer read given =
    items_ok None (SaysKeys (withdraws pick)) tokens mid left end items answer (listed_follows (withdraws pick)) read
    given

pub says_err : (say : Items → List Key → Command) (items : Items) (tokens left : List Placed) (end : Place)
    (error : ReadFault)
    → Answers (Listed items.id items.attrs.hop) all_further in_force tokens left end (Err error)
    → Answers (SaysKeys say items) all_further in_force tokens left end (Err error)
says_err say items tokens left end error given =
    saying_answers (say items) (Listed items.id items.attrs.hop) all_further in_force tokens left end error given

pub says_ok : (say : Items → List Key → Command) (items : Items) (tokens left : List Placed) (keys : List Key)
    → Reads (Listed items.id items.attrs.hop) all_further in_force tokens left keys
    → Reads (SaysKeys say items) all_further in_force tokens left (say items keys)
says_ok say items tokens left keys read =
    saying_reads (say items) (Listed items.id items.attrs.hop) all_further in_force tokens left keys read
