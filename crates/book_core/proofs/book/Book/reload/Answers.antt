use Rattle.std.proofs.Common.{◌≡◌, ◌∙◌, false, List, ◌∷◌, length, refl, sym, ap, subst}
use Rattle.std.proofs.lemmas.Bool.{false≢true}
use Rattle.std.specs.List.{AllByRecursion}
use Rattle.config_model.specs.Drafts.{IsNeighbor}
use Rattle.config_model.specs.Limits.{max_peers}
use Rattle.helper_book.specs.Seen.{Seen as Helper}
use Rattle.book_history.specs.Entries.Entry.{Reloaded}
use Rattle.book_history.specs.Legal.{Allows}
use Rattle.book_core.specs.declared.book.Book.TheInside.{Inside}
use Rattle.book_core.specs.Changing.{IsSection}
use Rattle.book_core.specs.Placing.{number_placed}
use Rattle.book_core.specs.Processes.{ReloadsHelpers}
use Rattle.book_core.specs.Seen.{fields}
use Rattle.book_core.specs.Settling.{section_in, ArePlaces, Reloads}
use Rattle.book_core.specs.Stands.{Stands}
use Rattle.book_core.proofs.ProcessLemmas.{helpers_stand}
use Rattle.book_core.proofs.ReloadLemmas.{reloads}
use Rattle.book_core.proofs.SettleLemmas.{got_all, reloads_count}
use Rattle.book_core.proofs.book.Book.reload.Goals as goal
use Rattle.book_core.proofs.book.Book.reload.Goals.{then-is_done, else-is_done}

pub known_sections-requires : goal.known_sections-requires
known_sections-requires c =
    subst (AllByRecursion IsNeighbor) (sym c.neighbors-sections.ensures.value)
    c.neighbors-sections.ensures.kept.draft.each

pub find_places-places-requires : goal.find_places-places-requires
find_places-places-requires c =
    subst (λ peers. length peers ≡ max_peers) (sym c.as_slice.ensures.value) c.self.invariant.peers

pub reload_peers-given-requires : goal.reload_peers-given-requires
reload_peers-given-requires c = record {
  peers = c.self.invariant.peers;
  places = c.find_places-places.ensures.kept_count;
  sections = λ n.
      got_all IsSection c.neighbors-sections.result.now
      (number_placed c.find_places-places.result.kept c.find_places-places.result.news n) c.known_sections.ensures;
}

pub reload_helpers-requires : goal.reload_helpers-requires
reload_helpers-requires c = c.self.invariant.helpers

pub invariant_of-self : goal.invariant_of-self
invariant_of-self c =
    let trimmed = c.trim_all.ensures.count
    ∙ reloads_count (section_in c.neighbors-sections.result.now c.find_places-places.result) c.self.inside.peers.items
    c.reload_peers-given.new.peers.items c.reload_peers-given.result c.reload_peers-given.ensures
    ∙ c.self.invariant.peers in
    record {
      helpers = elim c.if-is_done.branch [
        | then-is_done w ↦ ap (λ (inside : Inside). length inside.helpers.items) w.self-inside-is
            ∙ w.reload_helpers.ensures.count ∙ c.self.invariant.helpers
        | else-is_done w ↦ ap (λ (inside : Inside). length inside.helpers.items) w.self-inside-is
            ∙ c.self.invariant.helpers
      ];
      peers = elim c.if-is_done.branch [
        | then-is_done w ↦ ap (λ (inside : Inside). length inside.peers.items) w.self-inside-is ∙ trimmed
        | else-is_done w ↦ ap (λ (inside : Inside). length inside.peers.items) w.self-inside-is ∙ trimmed
      ];
    }

pub returns : goal.returns
returns c = λ cfg H is.
    let file = c.args.config in
    let old = fields c.self.inside in
    let stands : Stands cfg H old = subst (Stands cfg H) (sym c.self.view_is) is in
    let config = c.neighbors-sections.ensures.kept in
    let sections = c.neighbors-sections in
    let places = c.find_places-places.result in
    let given = c.reload_peers-given.result in
    let mid = c.reload_peers-given.new.peers.items in
    let are : ArePlaces file.neighbors old.peers places =
    subst (λ xs. ArePlaces xs old.peers places) sections.ensures.value
    (subst (λ slots. ArePlaces sections.result.now slots places) c.as_slice.ensures.value
    c.find_places-places.ensures) in
    let made : Reloads (section_in file.neighbors places) old.peers mid given =
    subst (λ xs. Reloads (section_in xs places) old.peers mid given) sections.ensures.value
    c.reload_peers-given.ensures in
    let law = λ (helpers : List Helper).
    reloads cfg H file old places mid c.trim_all.new.peers.items helpers given c.self.invariant config are made
    c.trim_all.ensures in
    let behind = λ (inside : Inside).
    Allows cfg H (Reloaded file given)
    × Stands cfg (Reloaded file given ∷ H) (record (fields inside) { reload_due = false }) in
    elim c.if-is_done.branch [
      | then-is_done w ↦
          let new = w.reload_helpers.new.helpers.items in
          subst behind (sym w.self-inside-is)
          (law new
          (λ done. helpers_stand cfg H file old.helpers new stands.held.slots.few_helpers c.self.invariant.helpers
          config.draft.few_processes w.reload_helpers.ensures.count
          (subst (λ processes. ReloadsHelpers processes old.helpers new) w.processes.ensures.value
          (w.reload_helpers.ensures.reloads cfg H stands.helpers)) stands.helpers)
          (λ undone. absurd (false≢true (sym undone ∙ sym c.is_done.ensures ∙ w.if-is_done.true))) stands)
      | else-is_done w ↦
          subst behind (sym w.self-inside-is)
          (law old.helpers
          (λ done. absurd (false≢true (sym w.if-is_done.false ∙ c.is_done.ensures ∙ done))) (λ undone. refl) stands)
    ]
