-- Values told of two lists, place by place.
use Rattle.std.proofs.Common.{List, [], ◌∷◌, ◌++◌}
use Rattle.std.specs.List.{AllZip}

module _ {A B : Type 0} (R : A → B → Type 0) where
  -- the values of one list, and then those of another
  pub zipped_both : (front behind : List A) (told others : List B) → AllZip R front told → AllZip R behind others
      → AllZip R (front ++ behind) (told ++ others)
  zipped_both [] behind [] others first then = then
  zipped_both [] behind (value ∷ told) others first then = absurd first
  zipped_both (one ∷ front) behind [] others first then = absurd first
  zipped_both (one ∷ front) behind (value ∷ told) others first then =
      (first.0, zipped_both front behind told others first.1 then)
