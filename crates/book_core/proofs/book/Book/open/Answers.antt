use Rattle.std.proofs.Common.{List, false, refl, subst}
use Rattle.std.specs.Prelude.{slice_get}
use Rattle.config_model.specs.declared.sections.Neighbor.{Neighbor}
use Rattle.config_model.specs.declared.sections.Process.{Process}
use Rattle.helper_book.specs.Seen.{Seen as Helper}
use Rattle.book_core.specs.declared.peering.Peering.{Peering}
use Rattle.book_core.specs.Changing.{IsSection}
use Rattle.book_core.specs.Opening.{Opens, OpensHelper}
use Rattle.book_core.specs.Seen.{Seen}
use Rattle.book_core.proofs.OpeningLemmas.{all_at, EachIs, helpers_opened, peers_opened}
use Rattle.book_core.proofs.OpenLemmas.{opened}
use Rattle.book_core.proofs.book.Book.open.Goals as goal

pub open_peers-requires : goal.open_peers-requires
open_peers-requires c = all_at IsSection c.neighbors-sections.result.now c.known_sections.ensures

pub returns : goal.returns
returns c =
    let book : Seen = record {
      helpers = c.in_ok-helpers.helpers.items;
      peers = c.in_ok-peers.peers.items;
      stopping = false;
      reload_due = false;
    } in
    opened c.args.config book c.neighbors-sections.ensures.kept
    (helpers_opened c.args.config book.helpers
    (subst (λ (processes : List Process). EachIs (λ h (helper : Helper). OpensHelper (slice_get processes h) helper)
    book.helpers) c.processes.ensures.value c.in_ok-helpers.ensures.each))
    (peers_opened c.args.config book.peers
    (subst (λ (sections : List Neighbor). EachIs (λ n (is : Peering). Opens (slice_get sections n) is)
    book.peers) c.neighbors-sections.ensures.value c.in_ok-peers.ensures.each))
    refl refl
