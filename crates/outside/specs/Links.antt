-- Links in memory.
use Rattle.std.specs.Prelude.{ℕ, ◌≡◌, List, [], ⊤}
use Rattle.std.specs.declared.option.Option.{Option}
use Rattle.std.specs.declared.option.Option.TheVariants.{Some}
use Rattle.outside.specs.declared.link.Recv.{Recv}
use Rattle.outside.specs.declared.link.Recv.TheVariants.{Got, End, Quiet, Failed}
use Rattle.outside.specs.declared.memory.sure_link.SureLink.{SureLink}
use Rattle.outside.specs.declared.memory.listed_link.MemoryLink.{MemoryLink}
use Rattle.outside.specs.declared.memory.ready.ReadyLink.{ReadyLink}
use Rattle.outside.specs.declared.memory.listed_dialer.MemoryDialer.{MemoryDialer}
use Rattle.outside.specs.Ended.{EndedLink, link_of}
use Rattle.outside.specs.Kept.{kept_bytes}
use Rattle.outside.specs.Plan.{Plan}
use Rattle.outside.specs.Waiting.{waiting_in}
use Rattle.outside.specs.declared.memory.sure_dialer.SureDialer.{SureDialer}
use Rattle.outside.specs.Supply.{rest_of, given_of}

-- all that a link has still to give
abbrev pub link_left : SureLink → List ℕ
link_left link = rest_of link.supply

-- a link ends, and is quiet, only where nothing was left to give
abbrev pub EndsEmpty : List ℕ → Recv → Type 0
EndsEmpty left (Got n) = ⊤
EndsEmpty left End = left ≡ []
EndsEmpty left Quiet = left ≡ []
EndsEmpty left Failed = ⊤

-- what a link gives and keeps, where it doesn't fail
abbrev pub sure_of : MemoryLink → SureLink
sure_of link = link.link

-- all that a link gives that is ready to be opened
abbrev pub ready_bytes : ReadyLink → List ℕ
ready_bytes link = link.content.now

-- what a link tells that never fails
abbrev pub sure_link_told : SureLink → Option EndedLink
sure_link_told link =
    link_of (Some link.dialled) (Some (given_of link.supply)) link.quiets link.ended (kept_bytes link.kept) 0

-- what a link tells
abbrev pub link_told : MemoryLink → Option EndedLink
link_told link =
    link_of (Some link.link.dialled) (Some (given_of link.link.supply)) link.link.quiets link.link.ended
    (kept_bytes link.link.kept) link.faults

-- the calls that connect and fail
abbrev pub dialer_plan : MemoryDialer → Plan
dialer_plan d = d.attempts.plan

-- all that a link has still to give that may fail
abbrev pub memory_link_left : MemoryLink → List ℕ
memory_link_left link = link_left link.link

-- what the links that are ready give, in order
abbrev pub links_waiting : MemoryDialer → List (List ℕ)
links_waiting d = waiting_in ready_bytes d.ready.items

-- the same, where no link fails
abbrev pub sure_links_waiting : SureDialer → List (List ℕ)
sure_links_waiting d = waiting_in ready_bytes d.ready.items
