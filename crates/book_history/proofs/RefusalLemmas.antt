-- The wrong answers are refused: by what a whole batch leaves, by what is so where nothing is to be sent, or directly.
use Rattle.std.proofs.Common.{◌≡◌, ℕ, [], ◌∷◌, length, Some, None, refl, sym, ap, arith, inl, inr}
use Rattle.std.proofs.Common.{eq-eqb}
use Rattle.std.specs.Prelude.{Option, unwrap_or}
use Rattle.route_values.specs.declared.addr.Family.TheVariants.{Ipv4}
use Rattle.route_values.specs.declared.attrs.WireAttrs.{WireAttrs}
use Rattle.text_forms.specs.Lines.{Line}
use Rattle.update_grammar.specs.ReadAttributes.{raw_at, value_in, attr_of, attrs_in}
use Rattle.update_grammar.specs.ReadPrefixes.{key_at, keys_in}
use Rattle.update_grammar.specs.ReadUpdate.{field_at, effects_of, fields_in, effects_in}
use Rattle.update_grammar.specs.ReadValues.{origin_in, number_in, part_at, path_in}
use Rattle.update_grammar.specs.Steps.{each_of}
use Rattle.update_grammar.specs.Written.{attributes_text}
use Rattle.command_grammar.specs.declared.command.Command.{Command}
use Rattle.book_history.specs.declared.outcomes.Reload.TheVariants as reload
use Rattle.book_history.specs.Bounds.{max_queued}
use Rattle.book_history.specs.Entries.Entry.{Reloaded, WentDown}
use Rattle.book_history.specs.Headline.{WholeBatches, NothingPending}
use Rattle.book_history.specs.ReloadExamples.{own}
use Rattle.book_history.specs.Refusals.{FullQueueWaits, Refusals, with_static, later, on_and_off}
use Rattle.book_history.specs.Refusals.{static_lost, one_sent}
use Rattle.book_history.specs.Replies.{queued}
use Rattle.book_history.specs.Samples.{one, first, second, bare, with_med, wire, only_ipv4, here, gone, marker}
use Rattle.book_history.specs.Samples.{announce, done, comes_up, begun, sent_one}
use Rattle.book_history.proofs.QueueLemmas.{lacking, taken_by}

pub full_queue_waits : FullQueueWaits
full_queue_waits cfg H h inc line reading given full no_end no_wait legal may =
    let yes = eq-eqb (length (queued cfg h inc H)) max_queued full in
    elim may.1 [
      | inl is ↦
          let taken = taken_by cfg H h inc line reading given (λ e. no_end (sym e)) (λ e. no_wait (sym e)) (sym is) in
          let room = taken.0.room in cc
      | inr lacks ↦ let room = (lacking cfg H h inc lacks.1).room in cc
    ]

-- the MED of a value, or 0
med_of : Option WireAttrs → ℕ
med_of None = 0
med_of (Some w) = unwrap_or w.med 0

pub refusals : WholeBatches → NothingPending → (line : Command → Line) → Refusals line
unfolding med_of key_at keys_in field_at effects_of fields_in effects_in attributes_text raw_at value_in attr_of
    attrs_in origin_in number_in part_at path_in each_of
refusals whole pending line = record {
  without_effect = λ legal may.
      let leaves = whole one [] (done line (announce first bare) ∷ begun) 0 only_ipv4 marker (may, legal) refl in
      let e : None ≡ Some (wire bare) = leaves.table first in cc;
  later_value = λ legal may.
      let leaves = whole one [] (later line) 0 only_ipv4 (here (with_med 3) (second ∷ [])) (may, legal) refl in
      let e : 3 ≡ 2 = ap med_of (leaves.table second) in omega (arith, e);
  forgotten = λ legal may.
      let e : Some (wire bare) ≡ None = pending one [] (on_and_off line) 0 only_ipv4 [] (may, legal) refl first in cc;
  kept_at_up = λ legal may.
      let leaves = whole one [] (comes_up only_ipv4 ∷ WentDown 0 ∷ sent_one line) 0 only_ipv4 marker (may, legal)
      refl in
      let e : None ≡ Some (wire bare) = leaves.table first in cc;
  whole_view = λ legal may.
      let leaves = whole one [] (done line (announce second bare) ∷ sent_one line) 0 only_ipv4
      (here bare (first ∷ second ∷ [])) (may, legal) refl in
      let e : 1 ≡ 0 = leaves.named first in omega (arith, e);
  helper_dropped = λ legal may.
      let leaves = whole one [] (Reloaded one reload.Ok ∷ sent_one line) 0 only_ipv4 (gone (first ∷ [])) (may, legal)
      refl in
      let e : None ≡ Some (wire bare) = leaves.table first in cc;
  static_kept = λ legal may.
      let e : Some (wire own) ≡ None = pending with_static [] (static_lost line) 0 only_ipv4 [] (may, legal) refl second
      in cc;
  one_prefix = λ legal may.
      let leaves = whole one [] (one_sent line) 0 only_ipv4 (here bare (second ∷ [])) (may, legal) refl in
      let e = leaves.packed.0.full (refl {a = Ipv4}, refl {a = wire bare}) in omega (arith, e);
  sixth_start = λ legal may. cc;
}
