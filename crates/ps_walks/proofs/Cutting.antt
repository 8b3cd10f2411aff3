-- The lines of cuts, one behind another, and the steps that are made between them.
use Rattle.std.proofs.Common.{◌≡◌, ◌∙◌, ℕ, zero, suc, ◌+◌, ◌-◌, ◌<◌, ◌≤◌, List, [], ◌∷◌, ◌++◌, drop, take, refl, sym, ap, subst, arith, append-nil}
use Rattle.std.proofs.Math.Seq.{take-add}
use Rattle.std.proofs.lemmas.List.{drop-drop}
use Rattle.ps_language.specs.Schedules.{Move}
use Rattle.ps_language.specs.World.{World}
use Rattle.ps_places.specs.declared.origins.Origin.{Origin}
use Rattle.ps_states.specs.Cuts.{cut_text}
use Rattle.ps_views.specs.declared.cuts.CutAt.{CutAt}
use Rattle.ps_views.specs.Cuts.{AreRising}
use Rattle.ps_walks.specs.Cuts.{AreCutLines}
use Rattle.ps_walks.specs.StepLines.{chart_in}
use Rattle.ps_walks.specs.Walks.{walked, walked_all}
use Rattle.ps_walks.proofs.Following.{walked_none, walked_on}

-- ---- so many steps of those that are left

pub taken_none : (now : World) (left : List Move) (more : ℕ) → left ≡ []
    → walked_all now (take more left) ≡ now
taken_none now left more none =
    ap (λ list. walked_all now (take more list)) none ∙ by more
  where
    by : (n : ℕ) → walked_all now (take n []) ≡ now
    by zero = walked_none now
    by (suc n) = walked_none now

module _ (left rest : List Move) (move : Move) (is : left ≡ move ∷ rest) where
  pub taken_one : (now : World) (more : ℕ) → 0 < more
      → walked_all now (take more left) ≡ walked_all (walked now move) (take (more - 1) rest)
  unfolding walked_all
  taken_one now zero some = absurd (omega (arith, some))
  taken_one now (suc more) some =
      let less : more ≡ suc more - 1 = omega arith in
      ap (λ list. walked_all now (take (suc more) list)) is
      ∙ ap (λ n. walked_all (walked now move) (take n rest)) less

  pub dropped_one : (more : ℕ) → 0 < more → drop more left ≡ drop (more - 1) rest
  dropped_one zero some = absurd (omega (arith, some))
  dropped_one (suc more) some =
      let less : more ≡ suc more - 1 = omega arith in
      ap (drop (suc more)) is ∙ ap (λ n. drop n rest) less

pub taken_zero : (now : World) (left : List Move) (more : ℕ) → more ≡ 0
    → walked_all now (take more left) ≡ now
unfolding walked_all
taken_zero now left more none = ap (λ n. walked_all now (take n left)) none

-- from one number of steps to another
module _ (all : List Move) (past behind : ℕ) (less : past ≤ behind) where
  between : past + (behind - past) ≡ behind
  between = omega (arith, less)

  pub walked_between : (w : World)
      → walked_all (walked_all w (take past all)) (take (behind - past) (drop past all))
      ≡ walked_all w (take behind all)
  walked_between w =
      sym (walked_on w (take past all) (take (behind - past) (drop past all)))
      ∙ (ap (walked_all w) (sym (take-add past (behind - past) all))
      ∙ ap (λ n. walked_all w (take n all)) between)

  pub dropped_between : drop (behind - past) (drop past all) ≡ drop behind all
  dropped_between = drop-drop (behind - past) past all ∙ ap (λ n. drop n all) between

-- ---- lines

pub lines_none : (file : List ℕ) (behind : ℕ → World) → AreCutLines file behind [] []
unfolding AreCutLines
lines_none file behind = refl

-- the line of the next one, before those of the others
pub lines_next : (file : List ℕ) (behind : ℕ → World) (cut : CutAt) (left cuts : List CutAt)
    (origins : List Origin) (rest : List ℕ) → left ≡ cut ∷ cuts → AreCutLines file behind cuts rest
    → AreCutLines file behind left
    (cut_text (chart_in file (behind cut.behind) origins) (behind cut.behind) cut ++ rest)
unfolding AreCutLines
lines_next file behind cut left cuts origins rest is are =
    let line = cut_text (chart_in file (behind cut.behind) origins) (behind cut.behind) cut in
    subst (λ (list : List CutAt). AreCutLines file behind list (line ++ rest)) (sym is)
    (origins, rest, refl, are)

-- behind the last there is none
pub lines_end : (file : List ℕ) (behind : ℕ → World) (left cuts : List CutAt) (told : List ℕ)
    → left ≡ []
    → ((rest : List ℕ) → AreCutLines file behind left rest → AreCutLines file behind cuts (told ++ rest))
    → AreCutLines file behind cuts told
lines_end file behind left cuts told none all =
    subst (AreCutLines file behind cuts) (append-nil told)
    (all [] (subst (λ (list : List CutAt). AreCutLines file behind list []) (sym none)
    (lines_none file behind)))

pub rising_next : (past : ℕ) (cut : CutAt) (left cuts : List CutAt) → left ≡ cut ∷ cuts
    → AreRising past left → (past ≤ cut.behind) × AreRising cut.behind cuts
rising_next past cut left cuts is rising =
    subst (AreRising past) is rising
