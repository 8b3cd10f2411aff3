-- The first step that is such as is sought, one step further.
use Rattle.std.proofs.Common.{◌≡◌, ◌<◌, ◌≤◌, ℕ, suc, ◌+◌, List, [], ◌∷◌, Option, Some, None, length, inl, inr, refl, subst, sym, arith}
use Rattle.ps_language.specs.Schedules.{Move}
use Rattle.ps_language.specs.World.{World}
use Rattle.ps_places.specs.declared.origins.Origin.{Origin}
use Rattle.ps_states.specs.Sought.{Sought}
use Rattle.ps_walks.specs.Finds.{FitsIn, IsFound}
use Rattle.ps_walks.specs.Walks.{walked}

module _ (file : List ℕ) (sought : Sought) (past : ℕ) (now : World) where
  -- where no step is left, none is
  pub found_none : (left : List Move) → left ≡ [] → IsFound file sought past now left None
  unfolding IsFound
  found_none left is = subst (λ moves. IsFound file sought past now moves None) (sym is) refl

  module _ (move : Move) (moves left : List Move) (is : left ≡ move ∷ moves)
      (origins : List Origin) where
    -- the next one is
    pub found_here : FitsIn file sought now move origins
        → IsFound file sought past now left (Some (past + 1))
    unfolding IsFound
    found_here fits = subst (λ steps. IsFound file sought past now steps (Some (past + 1))) (sym is)
        (origins, inl (fits, refl))

    -- it isn't, and then the one that is found behind it
    pub found_further : (found : Option ℕ) → (¬ FitsIn file sought now move origins)
        → IsFound file sought (past + 1) (walked now move) moves found
        → IsFound file sought past now left found
    unfolding IsFound
    found_further found fits further =
        subst (λ steps. IsFound file sought past now steps found) (sym is)
        (origins, inr (fits, further))

-- what is found is one of these steps
pub found_among : (file : List ℕ) (sought : Sought) (past : ℕ) (now : World) (moves : List Move)
    (at : ℕ) → IsFound file sought past now moves (Some at)
    → (past < at) × (at ≤ past + length moves)
unfolding IsFound
found_among file sought past now [] at is = cc
found_among file sought past now (move ∷ moves) at is = elim (is.1) [
  | inl here ↦ let same : at ≡ past + 1 = cc (here.1) in
      (omega (arith, same), omega (arith, same))
  | inr further ↦
      let rest = found_among file sought (past + 1) (walked now move) moves at further.1 in
      (omega (arith, rest.0), omega (arith, rest.1))
]
