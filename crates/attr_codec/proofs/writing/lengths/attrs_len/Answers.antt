use Rattle.std.proofs.Common.{◌≡◌, ◌-◌, ◌+◌, ◌^◌, ◌∙◌, ap, sym, length, min}
use Rattle.attr_codec.specs.Sizes.{list_size, fixed_size}
use Rattle.attr_codec.proofs.GroupLemmas.{length-attributes_text}
use Rattle.attr_codec.proofs.SizeLemmas.{capped_more, capped_first}
use Rattle.attr_codec.proofs.writing.lengths.attrs_len.Goals as goal

pub returns-clause-value : goal.returns-clause-value
returns-clause-value c =
    let communities : c.list_len.result ≡ min (list_size (length c.args.attrs.now.communities) 4) (2 ^ 64 - 1) =
    c.list_len.ensures ∙ ap (λ n. min (list_size n 4) (2 ^ 64 - 1)) c.len.ensures in
    let clusters : c.list_len-2.result ≡ min (list_size (length c.args.attrs.now.clusters) 4) (2 ^ 64 - 1) =
    c.list_len-2.ensures ∙ ap (λ n. min (list_size n 4) (2 ^ 64 - 1)) c.len-2.ensures in
    let extended : c.exts_len.result ≡ min (list_size (length c.args.attrs.now.extended) 8) (2 ^ 64 - 1) =
    rw c.as_slice.ensures at c.exts_len.ensures.value in
    let large : c.list_len-3.result ≡ min (list_size (length c.args.attrs.now.large) 12) (2 ^ 64 - 1) =
    c.list_len-3.ensures ∙ ap (λ n. min (list_size n 12) (2 ^ 64 - 1)) c.len-3.ensures in
    let to_path = capped_first (2 ^ 64 - 1) (fixed_size c.args.family c.args.attrs.now) _ _ _ c.path_attr_len.ensures
    (c.saturating_add.ensures ∙ ap (λ n. min (n + c.path_attr_len.result) (2 ^ 64 - 1)) c.fixed_len.ensures) in
    let to_communities = capped_more (2 ^ 64 - 1) _ _ _ _ _ to_path communities c.saturating_add-2.ensures in
    let to_clusters = capped_more (2 ^ 64 - 1) _ _ _ _ _ to_communities clusters c.saturating_add-3.ensures in
    let to_extended = capped_more (2 ^ 64 - 1) _ _ _ _ _ to_clusters extended c.saturating_add-4.ensures in
    let to_large = capped_more (2 ^ 64 - 1) _ _ _ _ _ to_extended large c.saturating_add-5.ensures in
    to_large ∙ ap (λ n. min n (2 ^ 64 - 1)) (sym (length-attributes_text c.args.family c.args.attrs.now
    (rw c.as_slice.ensures at c.exts_len.ensures.eight)))
