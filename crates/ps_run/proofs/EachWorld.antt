-- The lines of endings, and the runs of their orders.
use Rattle.std.proofs.Common.{◌≡◌, ◌+◌, ◌∙◌, ℕ, zero, suc, Option, Some, None, List, [], ◌∷◌, ◌++◌, length, drop, map, refl, sym, ap, arith}
use Rattle.std.specs.Prelude.{slice_get, unwrap_or}
use Rattle.ps_cuts.specs.declared.endings.Ending.{Ending}
use Rattle.ps_run_schedules.specs.Keeping.{Kept}
use Rattle.ps_run.specs.Worlds.{line_told, lines_behind, way_report}

-- there is one of each
pub length_ways : (endings : List (Ending × Kept)) → length (map way_report endings) ≡ length endings
length_ways [] = refl
length_ways (told ∷ rest) = ap suc (length_ways rest)

-- the next lines begin with that of the next ending
pub next_line : (last place : ℕ) (endings : List (Ending × Kept)) (one : Ending × Kept)
    → slice_get endings place ≡ Some one → lines_behind last (drop place endings)
    ≡ line_told (last + 1) one ++ lines_behind (last + 1) (drop (place + 1) endings)
next_line last zero (told ∷ left) one is =
    let same : told ≡ one = ap (λ (o : Option (Ending × Kept)). unwrap_or o told) is in
    ap (λ (e : Ending × Kept). line_told (last + 1) e ++ lines_behind (last + 1) left) same
next_line last (suc place) (told ∷ left) one is =
    let next : suc (place + 1) ≡ suc place + 1 = omega arith in
    next_line last place left one is
    ∙ ap (λ n. line_told (last + 1) one ++ lines_behind (last + 1) (drop n (told ∷ left))) next
next_line last zero [] one is = absurd (let bad : None ≡ Some one = is in cc)
next_line last (suc place) [] one is = absurd (let bad : None ≡ Some one = is in cc)

-- behind all of them there is none
pub lines_over : (last : ℕ) (endings : List (Ending × Kept))
    → lines_behind last (drop (length endings) endings) ≡ []
lines_over last [] = refl
lines_over last (told ∷ rest) = lines_over last rest
