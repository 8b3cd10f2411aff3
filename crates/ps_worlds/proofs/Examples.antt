-- What images say, by examples that a near neighbour of the definition fails.
use Rattle.std.proofs.Common.{◌≡◌, refl, [], ◌∷◌}
use Rattle.ps_worlds.specs.Images.{cut_at}

-- each name has its own bytes, also one that has none
three : cut_at (2 ∷ 0 ∷ 1 ∷ []) (97 ∷ 98 ∷ 99 ∷ []) ≡ (97 ∷ 98 ∷ []) ∷ [] ∷ (99 ∷ []) ∷ []
three = refl

-- the same bytes are other names by other lengths
other : cut_at (1 ∷ 2 ∷ []) (97 ∷ 98 ∷ 99 ∷ []) ≡ (97 ∷ []) ∷ (98 ∷ 99 ∷ []) ∷ []
other = refl
