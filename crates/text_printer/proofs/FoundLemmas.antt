-- The tokens of an effect are read as the command that tells it.
use Rattle.std.proofs.Common.{ℕ, ◌≡◌, ◌==◌, ◌<◌, ◌^◌, Bool, true, false, List, [], ◌∷◌, ◌++◌, Some, codes, decimal, sym}
use Rattle.std.proofs.Common.{refl}
use Rattle.std.proofs.Common.{inr, subst, append-nil, if◌then◌else◌}
use Rattle.std.specs.List.{AllByRecursion}
use Rattle.route_values.specs.declared.addr.Addr.{Addr}
use Rattle.route_values.specs.declared.addr.Family.{Family}
use Rattle.route_values.specs.declared.attrs.Hop.TheVariants.{Is}
use Rattle.route_values.specs.declared.attrs.WireAttrs.{WireAttrs}
use Rattle.route_values.specs.declared.key.Key.{Key}
use Rattle.route_values.specs.Addr.{family_of, number_of, bits_of, width_of}
use Rattle.route_values.specs.Key.{family_of_key}
use Rattle.text_forms.specs.Printed.{addr_text, prefix_text}
use Rattle.text_forms.proofs.SpelledLemmas.{block_spelled}
use Rattle.token_reader.specs.Tokens.{Token, Word}
use Rattle.route_grammar.specs.declared.items.Item.{Item}
use Rattle.route_grammar.specs.declared.items.Item.TheVariants as item
use Rattle.route_grammar.specs.Communities.{IsExtended}
use Rattle.route_grammar.specs.Items.{OneItem, ReadsItems}
use Rattle.route_grammar.specs.Limits.{in_force}
use Rattle.route_grammar.specs.Productions.{Repeated}
use Rattle.route_grammar.proofs.RepeatedLemmas.{repeated_append}
use Rattle.update_grammar.specs.declared.effect.Effect.TheVariants.{Gone, Here}
use Rattle.update_grammar.specs.Written.{IsSendable}
use Rattle.command_grammar.specs.declared.command.Command.TheVariants as said
use Rattle.command_grammar.specs.declared.keywords.Form.TheVariants as form
use Rattle.command_grammar.specs.declared.keywords.Verb.TheVariants as verb
use Rattle.command_grammar.specs.Lines.{ReadsLine}
use Rattle.text_printer.specs.Items.{named, path_tokens, origin_text, extended_text}
use Rattle.text_printer.specs.Laws.{IsKey}
use Rattle.text_printer.specs.Plain.{merged, plain_of}
use Rattle.text_printer.specs.Printable.{IsWritable}
use Rattle.text_printer.specs.Printing.{id_tokens, single_tokens, list_tokens, attrs_tokens, effect_tokens}
use Rattle.text_printer.proofs.ItemLemmas.{hop_row, origin_row, path_row, med_row, local_pref_row, atomic_row}
use Rattle.text_printer.proofs.ItemLemmas.{aggregator_row, communities_row, originator_row, clusters_row, extended_row}
use Rattle.text_printer.proofs.ItemLemmas.{large_row, id_row}
use Rattle.text_printer.proofs.RisingLemmas.{rising_differ}
use Rattle.text_printer.proofs.WrittenLemmas.{id_items, three_items, single_items, list_items, attrs_items}
use Rattle.text_printer.proofs.WrittenLemmas.{id_between, items_between, id_written, attrs_written, said_of, with_id}

id_read : (family : Family) (id : ℕ) (none : Bool) → id < 2 ^ 32
    → Repeated (OneItem (Some family)) in_force (if none then [] else named (codes "path-information") (decimal id))
    (id_items none id)
id_read family id true small = refl
id_read family id false small = id_row (Some family) id small

single_read : (family : Family) (sent : WireAttrs) → IsSendable family sent → IsWritable sent
    → Repeated (OneItem (Some family)) in_force (single_tokens sent) (single_items sent)
single_read family sent is can =
    repeated_append (OneItem (Some family)) in_force _ _ _ _
    (repeated_append (OneItem (Some family)) in_force _ _ _ _
    (repeated_append (OneItem (Some family)) in_force _ _ _ _ (med_row (Some family) sent.med is.med)
    (local_pref_row (Some family) sent.local_pref is.local_pref)) (atomic_row (Some family) sent.atomic))
    (aggregator_row (Some family) sent.aggregator is.aggregator can.aggregator)

-- a number that fits its family fits its address
fits_width : (family : Family) (addr : Addr) → family_of addr ≡ family → number_of addr < 2 ^ bits_of family
    → number_of addr < 2 ^ width_of addr
fits_width family addr is fits = subst (λ (one : Family). number_of addr < 2 ^ bits_of one) (sym is) fits

-- the rest of this file takes what is proved of extended communities by itself
module _ (Ext : List ℕ → Type 0) (ext_said : (bytes : List ℕ) → Ext bytes → IsExtended (extended_text bytes) bytes)
  where
    list_read : (family : Family) (sent : WireAttrs) → IsSendable family sent → IsWritable sent
        → AllByRecursion Ext sent.extended
        → Repeated (OneItem (Some family)) in_force (list_tokens sent) (list_items sent)
    list_read family sent is can exts =
        let limits = can.limits in
        repeated_append (OneItem (Some family)) in_force _ _ _ _
        (repeated_append (OneItem (Some family)) in_force _ _ _ _
        (repeated_append (OneItem (Some family)) in_force _ _ _ _
        (repeated_append (OneItem (Some family)) in_force _ _ _ _
        (communities_row (Some family) sent.communities is.communities limits.communities)
        (originator_row (Some family) sent.originator is.originator))
        (clusters_row (Some family) sent.clusters is.clusters limits.clusters))
        (extended_row (Some family) sent.extended Ext ext_said exts limits.extended))
        (large_row (Some family) sent.large is.large limits.large)

    attrs_read : (family : Family) (sent : WireAttrs) → IsSendable family sent → IsWritable sent
        → AllByRecursion Ext sent.extended
        → Repeated (OneItem (Some family)) in_force (attrs_tokens sent) (attrs_items sent)
    attrs_read family sent is can exts =
        let hop = is.hop in
        let limits = can.limits in
        let hop_tokens : List Token = named (codes "next-hop") (addr_text sent.hop) in
        let origin_tokens : List Token = named (codes "origin") (origin_text sent.origin) in
        let path : List Token = path_tokens sent.path in
        let hop_items : List Item = item.NextHop (Is sent.hop) ∷ [] in
        let origin_items : List Item = item.Origin sent.origin ∷ [] in
        let path_items : List Item = item.Path (merged sent.path) ∷ [] in
        repeated_append (OneItem (Some family)) in_force (hop_tokens ++ origin_tokens ++ path ++ single_tokens sent)
        (list_tokens sent) (three_items sent ++ single_items sent) (list_items sent)
        (repeated_append (OneItem (Some family)) in_force (hop_tokens ++ origin_tokens ++ path) (single_tokens sent)
        (three_items sent) (single_items sent)
        (repeated_append (OneItem (Some family)) in_force (hop_tokens ++ origin_tokens) path (hop_items ++ origin_items)
        path_items
        (repeated_append (OneItem (Some family)) in_force hop_tokens origin_tokens hop_items origin_items
        (hop_row family sent.hop (fits_width family sent.hop hop.of_family hop.fits) hop.of_family)
        (origin_row (Some family) sent.origin))
        (path_row (Some family) sent.path can.path is.path limits.numbers))
        (single_read family sent is can)) (list_read family sent is can exts)

    pub here_found : (key : Key) (sent : WireAttrs) → IsKey key → IsSendable (family_of_key key) sent → IsWritable sent
        → AllByRecursion Ext sent.extended
        → ReadsLine in_force (effect_tokens (Here key sent)) (said.Announce [] (key ∷ []) (plain_of sent))
    here_found key sent is_key is can exts =
        let family : Family = family_of_key key in
        let tokens : List Token = id_tokens key.id ++ attrs_tokens sent in
        let items : ReadsItems (Some family) in_force tokens (said_of key.id sent) = (
          id_items (key.id == 0) key.id ++ attrs_items sent,
          repeated_append (OneItem (Some family)) in_force (id_tokens key.id) (attrs_tokens sent)
              (id_items (key.id == 0) key.id) (attrs_items sent) (id_read family key.id (key.id == 0) is_key.id)
              (attrs_read family sent is can exts),
          rising_differ 0 13 [] (id_items (key.id == 0) key.id ++ attrs_items sent) tt
              (items_between (key.id == 0) key.id sent),
          sym (attrs_written key.id sent),
        ) in
        inr (inr (inr (
          verb.Announce,
          Word (codes "announce") ∷ [],
          Word (codes "route") ∷ Word (prefix_text key.prefix) ∷ tokens,
          refl,
          (codes "announce", refl, refl),
          (
            form.Route,
            Word (codes "route") ∷ [],
            Word (prefix_text key.prefix) ∷ tokens,
            refl,
            (codes "route", refl, refl),
            (
              key.prefix,
              Word (prefix_text key.prefix) ∷ [],
              tokens,
              refl,
              (prefix_text key.prefix, refl, block_spelled key.prefix is_key.prefix),
              (said_of key.id sent, tokens, [], sym (append-nil tokens), items, (refl, (refl, refl))),
            ),
          ),
        )))

pub gone_found : (key : Key) → IsKey key
    → ReadsLine in_force (effect_tokens (Gone key)) (said.Withdraw [] (key ∷ []))
gone_found key is_key =
    let family : Family = family_of_key key in
    let tokens : List Token = id_tokens key.id in
    let items : ReadsItems (Some family) in_force tokens (with_id key.id) = (
      id_items (key.id == 0) key.id,
      id_read family key.id (key.id == 0) is_key.id,
      rising_differ 0 1 [] (id_items (key.id == 0) key.id) tt (id_between (key.id == 0) key.id),
      sym (id_written key.id),
    ) in
    inr (inr (inr (
      verb.Withdraw,
      Word (codes "withdraw") ∷ [],
      Word (codes "route") ∷ Word (prefix_text key.prefix) ∷ tokens,
      refl,
      (codes "withdraw", refl, refl),
      (
        form.Route,
        Word (codes "route") ∷ [],
        Word (prefix_text key.prefix) ∷ tokens,
        refl,
        (codes "route", refl, refl),
        (
          key.prefix,
          Word (prefix_text key.prefix) ∷ [],
          tokens,
          refl,
          (prefix_text key.prefix, refl, block_spelled key.prefix is_key.prefix),
          (with_id key.id, tokens, [], sym (append-nil tokens), items, (refl, refl)),
        ),
      ),
    )))
