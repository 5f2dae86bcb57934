use Rattle.std.proofs.Common.{sym, ◌∙◌, refl}
use Rattle.update_codec.proofs.AttributeLemmas.{put_kept, put_widened}
use Rattle.update_codec.proofs.writing.attribute.put_last.Goals as goal
use Rattle.update_codec.proofs.writing.attribute.put_last.Goals.{then-outgrows, else-outgrows}

pub returns-clause-bytes : goal.returns-clause-bytes
returns-clause-bytes c = λ before value after start_is end_is is. elim c.if-outgrows.branch [
  | then-outgrows w ↦
      put_widened before value after _ _ _ _ _ c.args.place.start c.args.place.end c.args.code _ _
      (sym c.outgrows.ensures ∙ w.if-outgrows.true) refl c.key_len-more.ensures.value c.insert_key.ensures.bytes
      w.widen.ensures.bytes (rw (w.out-is, c.growth.ensures) at c.put_head.ensures.bytes) start_is end_is is
  | else-outgrows w ↦
      put_kept before value after _ _ _ _ c.args.place.start c.args.place.end c.args.code _ _
      (sym c.outgrows.ensures ∙ w.if-outgrows.false) refl c.key_len-more.ensures.value c.insert_key.ensures.bytes
      (rw (w.out-is, c.growth.ensures) at c.put_head.ensures.bytes) start_is end_is is
]
