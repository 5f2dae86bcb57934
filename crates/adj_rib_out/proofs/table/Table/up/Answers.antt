use Rattle.std.proofs.Common.{Some, sym, ap, ◌∙◌}
use Rattle.adj_rib_out.specs.KeyPlaces.{KeyPlaces}
use Rattle.adj_rib_out.specs.Stock.{Stock}
use Rattle.adj_rib_out.proofs.AnewLemmas as anew
use Rattle.adj_rib_out.proofs.InsideLemmas.{parts}
use Rattle.adj_rib_out.proofs.RestartLemmas as restart
use Rattle.adj_rib_out.proofs.WholeLemmas.{sent_stands}
use Rattle.adj_rib_out.proofs.table.Table.up.Goals as goal

pub release_all-requires-clause-same_length : goal.release_all-requires-clause-same_length
release_all-requires-clause-same_length c = c.self.invariant.table.sents_length ∙ sym c.self.invariant.table.nows_length

pub release_all-requires-clause-counted : goal.release_all-requires-clause-counted
release_all-requires-clause-counted c = anew.sents_counted (parts c.self.inside) c.self.inside.keys.idle
    c.self.inside.values.routes c.self.inside.values.uses
    c.self.invariant

pub release_all-requires-clause-stand : goal.release_all-requires-clause-stand
release_all-requires-clause-stand c = sent_stands (parts c.self.inside) c.self.invariant.table

pub show_all-requires : goal.show_all-requires
show_all-requires c = anew.can_show (parts c.self.inside) c.self.inside.keys.idle c.self.inside.values.routes
    c.self.inside.values.uses
    c.self.invariant
    c.release_all.new.values.seen (ap (λ (s : Stock). s.seen) c.release_all.ensures.rest)
    c.reset.new.self (restart.fresh_down (parts c.self.inside) c.self.invariant.table c.reset.new.self
    c.reset.ensures.same_length
    c.reset.ensures.sent_length c.reset.ensures.nows c.reset.ensures.sents c.reset.ensures.left c.reset.ensures.even
    c.reset.ensures.odd c.reset.ensures.room)

pub invariant_of-self : goal.invariant_of-self
invariant_of-self c = anew.after_whole (parts c.self.inside) c.self.inside.keys.idle c.self.inside.values.routes
    c.self.inside.values.uses
    c.self.invariant
    c.args.self.now c.self.view_is (Some c.args.caps) c.show_all.new.slots
    (anew.fresh_up (parts c.self.inside) c.self.inside.keys.idle c.self.inside.values.routes c.self.inside.values.uses
    c.self.invariant c.release_all.new.values.seen
    (ap (λ (s : Stock). s.seen) c.release_all.ensures.rest) c.reset.new.self
    (restart.fresh_down (parts c.self.inside) c.self.invariant.table c.reset.new.self c.reset.ensures.same_length
    c.reset.ensures.sent_length c.reset.ensures.nows c.reset.ensures.sents c.reset.ensures.left c.reset.ensures.even
    c.reset.ensures.odd c.reset.ensures.room)
    c.args.caps c.show_all.new.slots _ c.deref.ensures.value c.show_all.ensures)
    c.note_all.new.keys.keys
    c.release_all.new.values.seen (ap (λ (k : KeyPlaces). k.keys) c.note_all.ensures.rest)
    (ap (λ (s : Stock). s.seen) c.release_all.ensures.rest)
    c.note_all.new.keys.idle c.release_all.new.values.routes c.release_all.new.values.uses
    (ap (λ (s : Stock). s.routes) c.release_all.ensures.rest) _ c.deref-2.ensures.value c.note_all.ensures.lone
    c.release_all.ensures.counts

pub returns-clause-restarts : goal.returns-clause-restarts
returns-clause-restarts c = anew.after_restarts (parts c.self.inside) c.self.inside.keys.idle
    c.self.inside.values.routes c.self.inside.values.uses
    c.self.invariant
    c.args.self.now c.self.view_is (Some c.args.caps) c.show_all.new.slots
    (anew.fresh_up (parts c.self.inside) c.self.inside.keys.idle c.self.inside.values.routes c.self.inside.values.uses
    c.self.invariant c.release_all.new.values.seen
    (ap (λ (s : Stock). s.seen) c.release_all.ensures.rest) c.reset.new.self
    (restart.fresh_down (parts c.self.inside) c.self.invariant.table c.reset.new.self c.reset.ensures.same_length
    c.reset.ensures.sent_length c.reset.ensures.nows c.reset.ensures.sents c.reset.ensures.left c.reset.ensures.even
    c.reset.ensures.odd c.reset.ensures.room)
    c.args.caps c.show_all.new.slots _ c.deref.ensures.value c.show_all.ensures)
    c.note_all.new.keys.keys
    c.release_all.new.values.seen (ap (λ (k : KeyPlaces). k.keys) c.note_all.ensures.rest)
    (ap (λ (s : Stock). s.seen) c.release_all.ensures.rest)

pub returns-clause-nodes : goal.returns-clause-nodes
returns-clause-nodes c = anew.after_fewer (parts c.self.inside) c.self.inside.keys.idle c.self.inside.values.routes
    c.self.inside.values.uses
    c.self.invariant
    c.args.self.now c.self.view_is (Some c.args.caps) c.show_all.new.slots
    (anew.fresh_up (parts c.self.inside) c.self.inside.keys.idle c.self.inside.values.routes c.self.inside.values.uses
    c.self.invariant c.release_all.new.values.seen
    (ap (λ (s : Stock). s.seen) c.release_all.ensures.rest) c.reset.new.self
    (restart.fresh_down (parts c.self.inside) c.self.invariant.table c.reset.new.self c.reset.ensures.same_length
    c.reset.ensures.sent_length c.reset.ensures.nows c.reset.ensures.sents c.reset.ensures.left c.reset.ensures.even
    c.reset.ensures.odd c.reset.ensures.room)
    c.args.caps c.show_all.new.slots _ c.deref.ensures.value c.show_all.ensures)
    c.note_all.new.keys.keys
    c.release_all.new.values.seen (ap (λ (k : KeyPlaces). k.keys) c.note_all.ensures.rest)
    (ap (λ (s : Stock). s.seen) c.release_all.ensures.rest)
