-- What became of readers and repliers in turn, then of talkers, and last of a keeper, by their places.
use Rattle.std.proofs.Common.{ℕ, ◌≡◌, ◌+◌, ◌<◌, ◌∙◌, suc, zero, List, [], ◌∷◌, length, get_or, drop, sym, ap, subst}
use Rattle.std.proofs.Common.{arith, refl, add-zero, suc-add, add-suc, le_of_suc-le-suc}

module _ {S D Q : Type 0} (R : ℕ → S → S → Q → Q → Type 0) (W : ℕ → Q → Q → Type 0)
    (T : ℕ → D → D → Q → Q → Type 0) (K : Q → Q → Type 0) where
  -- the keeper's
  abbrev pub KeeperEnds : List Q → List Q → Type 0
  KeeperEnds (q ∷ []) (q' ∷ []) = K q q'
  KeeperEnds _ _ = ⊥

  -- those of the talkers from the n-th slot on, and the keeper's
  abbrev pub TalkersEnd : ℕ → List D → List D → List Q → List Q → Type 0
  TalkersEnd n [] [] qs qs' = KeeperEnds qs qs'
  TalkersEnd n (d ∷ ds) (d' ∷ ds') (q ∷ qs) (q' ∷ qs') = T n d d' q q' × TalkersEnd (suc n) ds ds' qs qs'
  TalkersEnd _ _ _ _ _ = ⊥

  module _ (ds ds' : List D) where
    -- those of the readers and the repliers from the h-th slot on, and the others'
    abbrev pub HelpersEnd : ℕ → List S → List S → List Q → List Q → Type 0
    HelpersEnd h [] [] qs qs' = TalkersEnd 0 ds ds' qs qs'
    HelpersEnd h (s ∷ ss) (s' ∷ ss') (q ∷ v ∷ qs) (q' ∷ v' ∷ qs') =
        R h s s' q q' × W h v v' × HelpersEnd (suc h) ss ss' qs qs'
    HelpersEnd _ _ _ _ _ = ⊥

  pub keeper_count : (qs qs' : List Q) → KeeperEnds qs qs' → length qs' ≡ length qs
  keeper_count (q ∷ []) (q' ∷ []) h = refl
  keeper_count [] qs' h = absurd h
  keeper_count (q ∷ []) [] h = absurd h
  keeper_count (q ∷ []) (q' ∷ v' ∷ qs') h = absurd h
  keeper_count (q ∷ v ∷ qs) qs' h = absurd h

  pub keeper_at : (qs qs' : List Q) (d : Q) → KeeperEnds qs qs' → K (get_or qs 0 d) (get_or qs' 0 d)
  keeper_at (q ∷ []) (q' ∷ []) d h = h
  keeper_at [] qs' d h = absurd h
  keeper_at (q ∷ []) [] d h = absurd h
  keeper_at (q ∷ []) (q' ∷ v' ∷ qs') d h = absurd h
  keeper_at (q ∷ v ∷ qs) qs' d h = absurd h

  pub talkers_count : (n : ℕ) (ds ds' : List D) (qs qs' : List Q) → TalkersEnd n ds ds' qs qs' → length qs' ≡ length qs
  talkers_count n [] [] qs qs' h = keeper_count qs qs' h
  talkers_count n (d ∷ ds) (d' ∷ ds') (q ∷ qs) (q' ∷ qs') h = ap suc (talkers_count (suc n) ds ds' qs qs' h.1)
  talkers_count n [] (d' ∷ ds') qs qs' h = absurd h
  talkers_count n (d ∷ ds) [] qs qs' h = absurd h
  talkers_count n (d ∷ ds) (d' ∷ ds') [] qs' h = absurd h
  talkers_count n (d ∷ ds) (d' ∷ ds') (q ∷ qs) [] h = absurd h

  pub talkers_at : (n : ℕ) (ds ds' : List D) (qs qs' : List Q) (i : ℕ) (d : D) (q : Q) → TalkersEnd n ds ds' qs qs'
      → i < length ds → T (n + i) (get_or ds i d) (get_or ds' i d) (get_or qs i q) (get_or qs' i q)
  talkers_at n (d ∷ ds) (d' ∷ ds') (q ∷ qs) (q' ∷ qs') zero e v h lt = subst (λ k. T k d d' q q') (sym (add-zero n)) h.0
  talkers_at n (d ∷ ds) (d' ∷ ds') (q ∷ qs) (q' ∷ qs') (suc i) e v h lt =
      subst (λ k. T k (get_or ds i e) (get_or ds' i e) (get_or qs i v) (get_or qs' i v)) (suc-add n i ∙ sym
      (add-suc n i))
      (talkers_at (suc n) ds ds' qs qs' i e v h.1 (le_of_suc-le-suc lt))
  talkers_at n [] ds' qs qs' i e v h lt = absurd (omega arith)
  talkers_at n (d ∷ ds) [] qs qs' i e v h lt = absurd h
  talkers_at n (d ∷ ds) (d' ∷ ds') [] qs' i e v h lt = absurd h
  talkers_at n (d ∷ ds) (d' ∷ ds') (q ∷ qs) [] i e v h lt = absurd h

  pub behind_talkers : (n : ℕ) (ds ds' : List D) (qs qs' : List Q) (q : Q) → TalkersEnd n ds ds' qs qs'
      → K (get_or qs (length ds) q) (get_or qs' (length ds) q)
  behind_talkers n [] [] qs qs' v h = keeper_at qs qs' v h
  behind_talkers n (d ∷ ds) (d' ∷ ds') (q ∷ qs) (q' ∷ qs') v h = behind_talkers (suc n) ds ds' qs qs' v h.1
  behind_talkers n [] (d' ∷ ds') qs qs' v h = absurd h
  behind_talkers n (d ∷ ds) [] qs qs' v h = absurd h
  behind_talkers n (d ∷ ds) (d' ∷ ds') [] qs' v h = absurd h
  behind_talkers n (d ∷ ds) (d' ∷ ds') (q ∷ qs) [] v h = absurd h

  -- two numbers more for each helper slot
  twice : (n : ℕ) → suc n + suc n ≡ suc (suc (n + n))
  twice n = omega arith

  module _ (ds ds' : List D) where
    pub helpers_count : (h : ℕ) (ss ss' : List S) (qs qs' : List Q) → HelpersEnd ds ds' h ss ss' qs qs'
        → length qs' ≡ length qs
    helpers_count h [] [] qs qs' ends = talkers_count 0 ds ds' qs qs' ends
    helpers_count h (s ∷ ss) (s' ∷ ss') (q ∷ v ∷ qs) (q' ∷ v' ∷ qs') ends =
        ap (λ n. suc (suc n)) (helpers_count (suc h) ss ss' qs qs' ends.2)
    helpers_count h [] (s' ∷ ss') qs qs' ends = absurd ends
    helpers_count h (s ∷ ss) [] qs qs' ends = absurd ends
    helpers_count h (s ∷ ss) (s' ∷ ss') [] qs' ends = absurd ends
    helpers_count h (s ∷ ss) (s' ∷ ss') (q ∷ []) qs' ends = absurd ends
    helpers_count h (s ∷ ss) (s' ∷ ss') (q ∷ v ∷ qs) [] ends = absurd ends
    helpers_count h (s ∷ ss) (s' ∷ ss') (q ∷ v ∷ qs) (q' ∷ []) ends = absurd ends

    pub readers_at : (h : ℕ) (ss ss' : List S) (qs qs' : List Q) (i : ℕ) (s : S) (q : Q)
        → HelpersEnd ds ds' h ss ss' qs qs' → i < length ss
        → R (h + i) (get_or ss i s) (get_or ss' i s) (get_or qs (i + i) q) (get_or qs' (i + i) q)
    readers_at h (s ∷ ss) (s' ∷ ss') (q ∷ v ∷ qs) (q' ∷ v' ∷ qs') zero e u ends lt =
        subst (λ k. R k s s' q q') (sym (add-zero h)) ends.0
    readers_at h (s ∷ ss) (s' ∷ ss') (q ∷ v ∷ qs) (q' ∷ v' ∷ qs') (suc i) e u ends lt =
        subst (λ k. R k (get_or ss i e) (get_or ss' i e) (get_or (q ∷ v ∷ qs) (suc i + suc i) u)
        (get_or (q' ∷ v' ∷ qs') (suc i + suc i) u)) (suc-add h i ∙ sym (add-suc h i))
        (subst (λ k. R (suc h + i) (get_or ss i e) (get_or ss' i e) (get_or (q ∷ v ∷ qs) k u) (get_or
        (q' ∷ v' ∷ qs') k u))
        (sym (twice i)) (readers_at (suc h) ss ss' qs qs' i e u ends.2 (le_of_suc-le-suc lt)))
    readers_at h [] ss' qs qs' i e u ends lt = absurd (omega arith)
    readers_at h (s ∷ ss) [] qs qs' i e u ends lt = absurd ends
    readers_at h (s ∷ ss) (s' ∷ ss') [] qs' i e u ends lt = absurd ends
    readers_at h (s ∷ ss) (s' ∷ ss') (q ∷ []) qs' i e u ends lt = absurd ends
    readers_at h (s ∷ ss) (s' ∷ ss') (q ∷ v ∷ qs) [] i e u ends lt = absurd ends
    readers_at h (s ∷ ss) (s' ∷ ss') (q ∷ v ∷ qs) (q' ∷ []) i e u ends lt = absurd ends

    pub repliers_at : (h : ℕ) (ss ss' : List S) (qs qs' : List Q) (i : ℕ) (q : Q)
        → HelpersEnd ds ds' h ss ss' qs qs' → i < length ss
        → W (h + i) (get_or qs (i + i + 1) q) (get_or qs' (i + i + 1) q)
    repliers_at h (s ∷ ss) (s' ∷ ss') (q ∷ v ∷ qs) (q' ∷ v' ∷ qs') zero u ends lt =
        subst (λ k. W k v v') (sym (add-zero h)) ends.1
    repliers_at h (s ∷ ss) (s' ∷ ss') (q ∷ v ∷ qs) (q' ∷ v' ∷ qs') (suc i) u ends lt =
        let far : suc (suc (i + i + 1)) ≡ suc i + suc i + 1 = omega arith in
        subst (λ k. W k (get_or (q ∷ v ∷ qs) (suc i + suc i + 1) u) (get_or (q' ∷ v' ∷ qs') (suc i + suc i + 1) u))
        (suc-add h i ∙ sym (add-suc h i))
        (subst (λ k. W (suc h + i) (get_or (q ∷ v ∷ qs) k u) (get_or (q' ∷ v' ∷ qs') k u)) far
        (repliers_at (suc h) ss ss' qs qs' i u ends.2 (le_of_suc-le-suc lt)))
    repliers_at h [] ss' qs qs' i u ends lt = absurd (omega arith)
    repliers_at h (s ∷ ss) [] qs qs' i u ends lt = absurd ends
    repliers_at h (s ∷ ss) (s' ∷ ss') [] qs' i u ends lt = absurd ends
    repliers_at h (s ∷ ss) (s' ∷ ss') (q ∷ []) qs' i u ends lt = absurd ends
    repliers_at h (s ∷ ss) (s' ∷ ss') (q ∷ v ∷ qs) [] i u ends lt = absurd ends
    repliers_at h (s ∷ ss) (s' ∷ ss') (q ∷ v ∷ qs) (q' ∷ []) i u ends lt = absurd ends

    -- what stands behind the readers and the repliers
    pub behind_helpers : (h : ℕ) (ss ss' : List S) (qs qs' : List Q) → HelpersEnd ds ds' h ss ss' qs qs'
        → TalkersEnd 0 ds ds' (drop (length ss + length ss) qs) (drop (length ss + length ss) qs')
    behind_helpers h [] [] qs qs' ends = ends
    behind_helpers h (s ∷ ss) (s' ∷ ss') (q ∷ v ∷ qs) (q' ∷ v' ∷ qs') ends =
        subst (λ k. TalkersEnd 0 ds ds' (drop k (q ∷ v ∷ qs)) (drop k (q' ∷ v' ∷ qs'))) (sym (twice (length ss)))
        (behind_helpers (suc h) ss ss' qs qs' ends.2)
    behind_helpers h [] (s' ∷ ss') qs qs' ends = absurd ends
    behind_helpers h (s ∷ ss) [] qs qs' ends = absurd ends
    behind_helpers h (s ∷ ss) (s' ∷ ss') [] qs' ends = absurd ends
    behind_helpers h (s ∷ ss) (s' ∷ ss') (q ∷ []) qs' ends = absurd ends
    behind_helpers h (s ∷ ss) (s' ∷ ss') (q ∷ v ∷ qs) [] ends = absurd ends
    behind_helpers h (s ∷ ss) (s' ∷ ss') (q ∷ v ∷ qs) (q' ∷ []) ends = absurd ends
