-- What the printed items of an announcement say together: its attributes, as a command writes them.
use Rattle.std.proofs.Common.{ℕ, ◌≡◌, ◌==◌, Bool, true, false, List, [], ◌∷◌, ◌++◌, Option, Some, None, ap, ◌∙◌, refl}
use Rattle.std.proofs.Common.{arith}
use Rattle.std.proofs.Common.{if◌then◌else◌, sym}
use Rattle.std.proofs.lemmas.Bool.{eqb-true}
use Rattle.route_values.specs.declared.attrs.Aggregator.{Aggregator}
use Rattle.route_values.specs.declared.attrs.Hop.TheVariants.{Is}
use Rattle.route_values.specs.declared.attrs.Large.{Large}
use Rattle.route_values.specs.declared.attrs.WireAttrs.{WireAttrs}
use Rattle.route_values.specs.Attrs.{plain}
use Rattle.route_grammar.specs.declared.items.Item.{Item}
use Rattle.route_grammar.specs.declared.items.Item.TheVariants as item
use Rattle.route_grammar.specs.declared.items.Items.{Items}
use Rattle.route_grammar.specs.Items.{put, put_all, none_written}
use Rattle.text_printer.specs.Plain.{merged, plain_of}
use Rattle.text_printer.proofs.ItemLemmas.{item_if, item_where, item_some}
use Rattle.text_printer.proofs.RisingLemmas.{Between, between_append}

-- a path identifier, unless it is 0
abbrev pub id_items : Bool → ℕ → List Item
id_items none id = if none then [] else (item.PathId id ∷ [])

-- the items of attributes, in the order of their tokens
abbrev pub three_items : WireAttrs → List Item
three_items sent = item.NextHop (Is sent.hop) ∷ item.Origin sent.origin ∷ item.Path (merged sent.path) ∷ []

abbrev pub single_items : WireAttrs → List Item
single_items sent =
    item_if item.Med sent.med ++ item_if item.LocalPref sent.local_pref ++ item_where item.Atomic sent.atomic
    ++ item_if item.Aggregator sent.aggregator

abbrev pub list_items : WireAttrs → List Item
list_items sent =
    item_some item.Communities sent.communities ++ item_if item.Originator sent.originator
    ++ item_some item.Clusters sent.clusters ++ item_some item.Extended sent.extended
    ++ item_some item.Large sent.large

abbrev pub attrs_items : WireAttrs → List Item
attrs_items sent = three_items sent ++ single_items sent ++ list_items sent

-- THEIR KINDS

if_between : {V : Type 0} (say : V → Item) (value : Option V) (from to : ℕ) → Between from to []
    → ((one : V) → Between from to (say one ∷ [])) → Between from to (item_if say value)
if_between say None from to none some = none
if_between say (Some value) from to none some = some value

where_between : (one : Item) (stands : Bool) (from to : ℕ) → Between from to [] → Between from to (one ∷ [])
    → Between from to (item_where one stands)
where_between one true from to none some = some
where_between one false from to none some = none

some_between : {V : Type 0} (say : List V → Item) (values : List V) (from to : ℕ) → Between from to []
    → ((all : List V) → Between from to (say all ∷ [])) → Between from to (item_some say values)
some_between say [] from to none some = none
some_between say (value ∷ values) from to none some = some (value ∷ values)

pub id_between : (none : Bool) (id : ℕ) → Between 0 1 (id_items none id)
id_between true id = omega arith
id_between false id = (omega arith, omega arith)

three_between : (sent : WireAttrs) → Between 1 4 (three_items sent)
three_between sent = (omega arith, (omega arith, (omega arith, omega arith)))

single_between : (sent : WireAttrs) → Between 4 8 (single_items sent)
single_between sent =
    between_append 4 7 8 _ (item_if item.Aggregator sent.aggregator)
    (between_append 4 6 7 _ (item_where item.Atomic sent.atomic)
    (between_append 4 5 6 (item_if item.Med sent.med) (item_if item.LocalPref sent.local_pref)
    (if_between item.Med sent.med 4 5 (omega arith) (λ one. (omega arith, omega arith)))
    (if_between item.LocalPref sent.local_pref 5 6 (omega arith) (λ one. (omega arith, omega arith))))
    (where_between item.Atomic sent.atomic 6 7 (omega arith) (omega arith, omega arith)))
    (if_between item.Aggregator sent.aggregator 7 8 (omega arith) (λ one. (omega arith, omega arith)))

list_between : (sent : WireAttrs) → Between 8 13 (list_items sent)
list_between sent =
    between_append 8 12 13 _ (item_some item.Large sent.large)
    (between_append 8 11 12 _ (item_some item.Extended sent.extended)
    (between_append 8 10 11 _ (item_some item.Clusters sent.clusters)
    (between_append 8 9 10 (item_some item.Communities sent.communities) (item_if item.Originator sent.originator)
    (some_between item.Communities sent.communities 8 9 (omega arith) (λ all. (omega arith, omega arith)))
    (if_between item.Originator sent.originator 9 10 (omega arith) (λ one. (omega arith, omega arith))))
    (some_between item.Clusters sent.clusters 10 11 (omega arith) (λ all. (omega arith, omega arith))))
    (some_between item.Extended sent.extended 11 12 (omega arith) (λ all. (omega arith, omega arith))))
    (some_between item.Large sent.large 12 13 (omega arith) (λ all. (omega arith, omega arith)))

pub items_between : (none : Bool) (id : ℕ) (sent : WireAttrs)
    → Between 0 13 (id_items none id ++ attrs_items sent)
items_between none id sent =
    between_append 0 1 13 (id_items none id) (attrs_items sent) (id_between none id)
    (between_append 1 8 13 (three_items sent ++ single_items sent) (list_items sent)
    (between_append 1 4 8 (three_items sent) (single_items sent) (three_between sent) (single_between sent))
    (list_between sent))

-- WHAT THEY SAY

put_append : (read : Items) (items more : List Item) → put_all read (items ++ more) ≡ put_all (put_all read items) more
put_append read [] more = refl
put_append read (one ∷ items) more = put_append (put read one) items more

-- one row of items, and then another
put_both : (read between after : Items) (items more : List Item) → put_all read items ≡ between
    → put_all between more ≡ after → put_all read (items ++ more) ≡ after
put_both read between after items more first second =
    put_append read items more ∙ ap (λ (stage : Items). put_all stage more) first ∙ second

-- what items say that write all of these attributes, and this identifier
abbrev pub said_of : ℕ → WireAttrs → Items
said_of id sent = record { attrs = plain_of sent; id = id; has_hop = true }

-- the attributes as far as they are written behind each item
abbrev base : WireAttrs → WireAttrs
base sent = plain sent.hop sent.origin sent.path

abbrev with_med : WireAttrs → Option ℕ → WireAttrs
with_med sent value = record (base sent) { med = value }

abbrev with_local_pref : WireAttrs → Option ℕ → WireAttrs
with_local_pref sent value = record (with_med sent sent.med) { local_pref = value }

abbrev with_atomic : WireAttrs → Bool → WireAttrs
with_atomic sent value = record (with_local_pref sent sent.local_pref) { atomic = value }

abbrev with_aggregator : WireAttrs → Option Aggregator → WireAttrs
with_aggregator sent value = record (with_atomic sent sent.atomic) { aggregator = value }

abbrev with_communities : WireAttrs → List ℕ → WireAttrs
with_communities sent value = record (with_aggregator sent sent.aggregator) { communities = value }

abbrev with_originator : WireAttrs → Option ℕ → WireAttrs
with_originator sent value = record (with_communities sent sent.communities) { originator = value }

abbrev with_clusters : WireAttrs → List ℕ → WireAttrs
with_clusters sent value = record (with_originator sent sent.originator) { clusters = value }

abbrev with_extended : WireAttrs → List (List ℕ) → WireAttrs
with_extended sent value = record (with_clusters sent sent.clusters) { extended = value }

abbrev with_large : WireAttrs → List Large → WireAttrs
with_large sent value = record (with_extended sent sent.extended) { large = value }

put_if : {V : Type 0} (stage : Option V → Items) (say : V → Item) (value : Option V)
    → ((one : V) → put (stage None) (say one) ≡ stage (Some one))
    → put_all (stage None) (item_if say value) ≡ stage value
put_if stage say None same = refl
put_if stage say (Some value) same = same value

put_where : (stage : Bool → Items) (one : Item) (stands : Bool) → put (stage false) one ≡ stage true
    → put_all (stage false) (item_where one stands) ≡ stage stands
put_where stage one true same = same
put_where stage one false same = refl

put_some : {V : Type 0} (stage : List V → Items) (say : List V → Item) (values : List V)
    → ((all : List V) → put (stage []) (say all) ≡ stage all) → put_all (stage []) (item_some say values) ≡ stage values
put_some stage say [] same = refl
put_some stage say (value ∷ values) same = same (value ∷ values)

-- a path identifier is written, unless it is 0
abbrev pub with_id : ℕ → Items
with_id id = record none_written { id = id }

id_put : (id : ℕ) (none : Bool) → (id == 0) ≡ none → put_all none_written (id_items none id) ≡ with_id id
id_put id true is = ap with_id (sym (eqb-true id 0 is))
id_put id false is = refl

pub id_written : (id : ℕ) → put_all none_written (id_items (id == 0) id) ≡ with_id id
id_written id = id_put id (id == 0) refl

single_put : (id : ℕ) (sent : WireAttrs)
    → put_all (said_of id (base sent)) (single_items sent) ≡ said_of id (with_aggregator sent sent.aggregator)
single_put id sent =
    let start : Items = said_of id (base sent) in
    let med : List Item = item_if item.Med sent.med in
    let local_pref : List Item = item_if item.LocalPref sent.local_pref in
    let atomic : List Item = item_where item.Atomic sent.atomic in
    put_both start (said_of id (with_atomic sent sent.atomic)) (said_of id (with_aggregator sent sent.aggregator))
    (med ++ local_pref ++ atomic) (item_if item.Aggregator sent.aggregator)
    (put_both start (said_of id (with_local_pref sent sent.local_pref)) (said_of id (with_atomic sent sent.atomic))
    (med ++ local_pref) atomic
    (put_both start (said_of id (with_med sent sent.med)) (said_of id (with_local_pref sent sent.local_pref)) med
    local_pref
    (put_if (λ value. said_of id (with_med sent value)) item.Med sent.med (λ one. refl))
    (put_if (λ value. said_of id (with_local_pref sent value)) item.LocalPref sent.local_pref (λ one. refl)))
    (put_where (λ stands. said_of id (with_atomic sent stands)) item.Atomic sent.atomic refl))
    (put_if (λ value. said_of id (with_aggregator sent value)) item.Aggregator sent.aggregator (λ one. refl))

list_put : (id : ℕ) (sent : WireAttrs)
    → put_all (said_of id (with_aggregator sent sent.aggregator)) (list_items sent) ≡ said_of id sent
list_put id sent =
    let start : Items = said_of id (with_aggregator sent sent.aggregator) in
    let communities : List Item = item_some item.Communities sent.communities in
    let originator : List Item = item_if item.Originator sent.originator in
    let clusters : List Item = item_some item.Clusters sent.clusters in
    let extended : List Item = item_some item.Extended sent.extended in
    put_both start (said_of id (with_extended sent sent.extended)) (said_of id sent)
    (communities ++ originator ++ clusters ++ extended) (item_some item.Large sent.large)
    (put_both start (said_of id (with_clusters sent sent.clusters)) (said_of id (with_extended sent sent.extended))
    (communities ++ originator ++ clusters) extended
    (put_both start (said_of id (with_originator sent sent.originator)) (said_of id (with_clusters sent sent.clusters))
    (communities ++ originator) clusters
    (put_both start (said_of id (with_communities sent sent.communities))
    (said_of id (with_originator sent sent.originator)) communities originator
    (put_some (λ all. said_of id (with_communities sent all)) item.Communities sent.communities (λ all. refl))
    (put_if (λ value. said_of id (with_originator sent value)) item.Originator sent.originator (λ one. refl)))
    (put_some (λ all. said_of id (with_clusters sent all)) item.Clusters sent.clusters (λ all. refl)))
    (put_some (λ all. said_of id (with_extended sent all)) item.Extended sent.extended (λ all. refl)))
    (put_some (λ all. said_of id (with_large sent all)) item.Large sent.large (λ all. refl))

-- all items of an announcement
pub attrs_written : (id : ℕ) (sent : WireAttrs)
    → put_all none_written (id_items (id == 0) id ++ attrs_items sent) ≡ said_of id sent
attrs_written id sent =
    put_both none_written (with_id id) (said_of id sent) (id_items (id == 0) id) (attrs_items sent) (id_written id)
    (put_both (with_id id) (said_of id (with_aggregator sent sent.aggregator)) (said_of id sent)
    (three_items sent ++ single_items sent) (list_items sent)
    (put_both (with_id id) (said_of id (base sent)) (said_of id (with_aggregator sent sent.aggregator))
    (three_items sent) (single_items sent) refl (single_put id sent))
    (list_put id sent))
