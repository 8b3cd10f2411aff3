-- The lines of endings and of their cuts, and the runs of their orders.
use Rattle.std.proofs.Common.{◌≡◌, ◌+◌, ◌<◌, ◌^◌, ◌∙◌, ℕ, zero, suc, Option, Some, None, List, [], ◌∷◌, ◌++◌, length, drop, map, inl, inr, refl, sym, ap, subst, arith}
use Rattle.std.specs.Prelude.{All, slice_get, unwrap_or}
use Rattle.std.proofs.lemmas.Option.{slice_get_within, unwrap_or-slice_get}
use Rattle.ps_language.specs.declared.schedules.Entry.{Entry}
use Rattle.ps_language.specs.Schedules.{count_of, moves}
use Rattle.ps_language.specs.Worlds.{starting_world}
use Rattle.ps_cuts.specs.Cuts.{IsOrder, cuts, cuts_at}
use Rattle.ps_cuts.proofs.Marking.{cuts_counted}
use Rattle.ps_cuts.specs.declared.endings.Ending.{Ending}
use Rattle.ps_run_schedules.specs.Keeping.{Kept}
use Rattle.ps_searches.specs.declared.found.Told.{Told}
use Rattle.ps_views.specs.declared.cuts.CutAt.{CutAt}
use Rattle.ps_walks.specs.Cuts.{AreCutLines}
use Rattle.ps_walks.specs.Walks.{world_behind}
use Rattle.ps_walks.proofs.Cutting.{lines_none}
use Rattle.ps_run.specs.Orders.{AreCutsTold, AreLinesBehind, line_told, report_of}

-- there is one of each
pub length_reports : (endings : List (Ending × Told Kept))
    → length (map report_of endings) ≡ length endings
length_reports [] = refl
length_reports (told ∷ rest) = ap suc (length_reports rest)

-- ---- the lines

-- where no number of cuts is, there is no line of one
pub no_cuts_told : (file program : List ℕ) (schedule : List Entry)
    → cuts program (moves schedule) ≡ 0 → AreCutsTold file program schedule []
no_cuts_told file program schedule none =
    let list = cuts_at (starting_world program) [] (moves schedule) in
    let empty : list ≡ [] = nothing list (cuts_counted (starting_world program) [] (moves schedule)
    ∙ none) in
    subst (λ (found : List CutAt). AreCutLines file (world_behind program schedule) found [])
    (sym empty) (lines_none file (world_behind program schedule))
  where
    nothing : (found : List CutAt) → length found ≡ 0 → found ≡ []
    nothing [] is = refl
    nothing (cut ∷ found) is = absurd (omega (arith, is))

-- an order has few steps
pub few_steps : (program : List ℕ) (steps : ℕ) (schedule : List Entry) → steps < 2 ^ 32
    → IsOrder program steps schedule → count_of schedule < 2 ^ 64
few_steps program steps schedule few order = elim order.whole [
  | inl all ↦ omega (arith, all, few)
  | inr fewer ↦ let less = fewer.0 in omega (arith, less, few)
]

-- what is told of each
pub each_told : (P : Ending × Told Kept → Type 0) (endings : List (Ending × Told Kept))
    (place : ℕ) (one : Ending × Told Kept) → All P endings → slice_get endings place ≡ Some one
    → P one
each_told P endings place one all is =
    subst P (sym (unwrap_or-slice_get endings place one)
    ∙ ap (λ (o : Option (Ending × Told Kept)). unwrap_or o one) is)
    (all place one (slice_get_within endings place one is))

module _ (file program : List ℕ) where
  -- the next lines are those of the next ending
  pub next_lines : (last place : ℕ) (endings : List (Ending × Told Kept)) (one : Ending × Told Kept)
      (cuts rest : List ℕ) → slice_get endings place ≡ Some one
      → AreCutsTold file program one.1.schedule.items cuts
      → AreLinesBehind file program (last + 1) (drop (place + 1) endings) rest
      → AreLinesBehind file program last (drop place endings)
      (line_told (last + 1) one ++ (cuts ++ rest))
  next_lines last zero (told ∷ left) one cuts rest is are others =
      let same : told ≡ one = ap (λ (o : Option (Ending × Told Kept)). unwrap_or o told) is in
      subst (λ (e : Ending × Told Kept). AreLinesBehind file program last (e ∷ left)
      (line_told (last + 1) one ++ (cuts ++ rest))) (sym same)
      (cuts, rest, refl, are, others)
  next_lines last (suc place) (told ∷ left) one cuts rest is are others =
      let next : suc (place + 1) ≡ suc place + 1 = omega arith in
      next_lines last place left one cuts rest is are
      (subst (λ n. AreLinesBehind file program (last + 1) (drop n (told ∷ left)) rest) (sym next)
      others)
  next_lines last zero [] one cuts rest is are others =
      absurd (let bad : None ≡ Some one = is in cc)
  next_lines last (suc place) [] one cuts rest is are others =
      absurd (let bad : None ≡ Some one = is in cc)

  -- behind all of them there is none
  pub lines_over : (last : ℕ) (endings : List (Ending × Told Kept))
      → AreLinesBehind file program last (drop (length endings) endings) []
  lines_over last [] = refl
  lines_over last (told ∷ rest) = lines_over last rest
