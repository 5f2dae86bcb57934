-- Jobs that go back into a stock, seen in places that are popped.
use Rattle.std.proofs.Common.{◌≡◌, List, [], ◌∷◌, ◌++◌, ap, sym, subst, ◌∙◌}
use Rattle.std.specs.Prelude.{map, reverse}
use Rattle.crew.specs.Jobs.{Job}
use Rattle.daemon.specs.declared.stock.Stock.{Stock}
use Rattle.daemon.specs.Laid.{AreWhole, Gains, HasRoom, files_of}
use Rattle.daemon.specs.Making.{Returns}
use Rattle.daemon.proofs.MakingLemmas.{pushed}
use Rattle.daemon.proofs.LaysLemmas.{turned_back}
use Rattle.daemon.proofs.ApartLemmas.{returns_none, returns_on}

module _ {F S D E C X : Type 0} (f : X → Job F S D E C) where
  -- the last of places has the first of the jobs
  pub popped : (old new : List X) (x : X) (job : Job F S D E C) → old ≡ new ++ x ∷ [] → f x ≡ job
      → reverse (map f old) ≡ job ∷ reverse (map f new)
  popped old new x job pop is =
      pushed f new old x pop ∙ ap (λ (first : Job F S D E C). first ∷ reverse (map f new)) is

  module _ (start : Stock S D E) (entry turned : List X) (turn : turned ≡ reverse entry) where
    -- no job went back yet
    pub back_none : AreWhole (map f entry) → HasRoom start (map f entry)
        → Returns start (reverse (map f turned)) start (reverse (map f turned))
    back_none whole room =
        returns_none start start (reverse (map f turned))
        (subst (λ (jobs : List (Job F S D E C)). AreWhole jobs) (sym (turned_back f entry turned turn)) whole)
        (subst (λ (jobs : List (Job F S D E C)). HasRoom start jobs) (sym (turned_back f entry turned turn)) room)

    module _ (mid : Stock S D E) (now : List X)
        (back : Returns start (reverse (map f turned)) mid (reverse (map f now))) where
      pub back_on : (new : Stock S D E) (left : List X)
          → Returns mid (reverse (map f now)) new (reverse (map f left))
          → Returns start (reverse (map f turned)) new (reverse (map f left))
      back_on new left more =
          returns_on start mid new (reverse (map f turned)) (reverse (map f now)) (reverse (map f left)) back more

      pub back_files : (files : F) → files_of (reverse (map f now)) ≡ files ∷ []
          → files_of (map f entry) ≡ files ∷ []
      back_files files is =
          sym (ap (λ (jobs : List (Job F S D E C)). files_of jobs) (turned_back f entry turned turn))
          ∙ (sym back.files_stay ∙ is)

      pub back_all : (last : Stock S D E) → Gains mid (reverse (map f now)) last → Gains start (map f entry) last
      back_all last gains =
          subst (λ (jobs : List (Job F S D E C)). Gains start jobs last) (turned_back f entry turned turn)
          (back.carries last gains)
