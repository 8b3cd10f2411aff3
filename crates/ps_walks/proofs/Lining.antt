-- The lines of steps, one behind another.
use Rattle.std.proofs.Common.{◌≡◌, ◌∙◌, ℕ, zero, suc, ◌+◌, ◌≤◌, List, [], ◌∷◌, ◌++◌, length, take, refl, sym, ap, arith, append_assoc, append-nil}
use Rattle.ps_language.specs.Schedules.{Move}
use Rattle.ps_language.specs.World.{World}
use Rattle.ps_places.specs.declared.origins.Origin.{Origin}
use Rattle.ps_walks.specs.StepLines.{AreStepLines, line_of}
use Rattle.ps_walks.specs.Walks.{walked, walked_all}

-- none yet
pub steps_none : (file : List ℕ) (past : ℕ) (now : World) → AreStepLines file past now [] []
unfolding AreStepLines
steps_none file past now = refl

module _ (file : List ℕ) (move : Move) (origins : List Origin) (line : List ℕ) where
  -- and one more
  pub steps_more : (past : ℕ) (now : World) (done : List Move) (told : List ℕ)
      → AreStepLines file past now done told
      → line ≡ line_of file (past + length done + 1) (walked_all now done) move origins
      → AreStepLines file past now (done ++ move ∷ []) (told ++ line)
  unfolding AreStepLines walked_all
  steps_more past now [] told is one =
      let same : past + 0 + 1 ≡ past + 1 = omega arith in (
        origins,
        [],
        ap (λ text. text ++ line) is ∙ one ∙ ap (λ step. line_of file step now move origins) same
            ∙ sym (append-nil (line_of file (past + 1) now move origins)),
        refl,
      )
  steps_more past now (first ∷ done) told is one =
      let same : past + suc (length done) + 1 ≡ past + 1 + length done + 1 = omega arith in (
        is.0,
        is.1 ++ line,
        ap (λ text. text ++ line) is.2
            ∙ append_assoc (line_of file (past + 1) now first is.0) is.1 line,
        steps_more (past + 1) (walked now first) done is.1 is.3
            (one ∙ ap (λ step. line_of file step (walked_all (walked now first) done) move origins)
            same),
      )

-- so many of the first are those that were made
pub done_first : (all done left : List Move) (n : ℕ) → all ≡ done ++ left → n ≡ length done
    → take n all ≡ done
done_first all done left n is count = ap (take n) is ∙ ap (λ k. take k (done ++ left)) count
    ∙ first_all done left
  where
    first_all : (done left : List Move) → take (length done) (done ++ left) ≡ done
    first_all [] left = refl
    first_all (move ∷ done) left = ap (λ rest. move ∷ rest) (first_all done left)

-- and where none is left, all of them are
pub done_all : (all done left : List Move) (n : ℕ) → all ≡ done ++ left → left ≡ []
    → length done ≤ n → take n all ≡ done
done_all all done left n is none few = ap (take n) (is ∙ ap (λ rest. done ++ rest) none
    ∙ append-nil done) ∙ all_first done n few
  where
    all_first : (done : List Move) (n : ℕ) → length done ≤ n → take n done ≡ done
    all_first [] zero few = refl
    all_first [] (suc n) few = refl
    all_first (move ∷ done) zero few = absurd (omega (arith, few))
    all_first (move ∷ done) (suc n) few =
        ap (λ rest. move ∷ rest) (all_first done n (omega (arith, few)))
