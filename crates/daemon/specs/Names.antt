-- The names of the workers' passes, which are split off the gate's first pass in this order: those of a reader and a
-- replier for each helper slot, of a talker for each neighbour slot, of the keeper.
use Rattle.std.specs.Prelude.{ℕ, ◌≡◌, ◌+◌, ◌<◌, [], List}
use Rattle.book_gate.specs.Names.{child_name}

abbrev pub reader_of : ℕ → List ℕ
reader_of h = child_name [] (h + h)

-- where there are so many helper slots
abbrev pub talker_of : ℕ → ℕ → List ℕ
talker_of helpers n = child_name [] (helpers + helpers + n)

-- where there are so many helper and neighbour slots
abbrev pub keeper_of : ℕ → ℕ → List ℕ
keeper_of helpers peers = child_name [] (helpers + helpers + peers)

-- how many workers there are
abbrev pub workers : ℕ → ℕ → ℕ
workers helpers peers = helpers + helpers + peers + 1

-- a name is one of a worker's
abbrev pub IsWorker : ℕ → ℕ → List ℕ → Type 0
IsWorker helpers peers name = (k : ℕ) × (k < workers helpers peers) × (name ≡ child_name [] k)
