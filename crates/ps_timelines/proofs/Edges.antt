-- Edges of columns, from left to right.
use Rattle.std.proofs.Common.{◌≡◌, ap, sym, ◌∙◌, ℕ, ◌+◌, ◌*◌, ◌/◌, ◌≤◌, List, ◌∷◌, length, slice_index, add-one, arith}
use Rattle.std.proofs.lemmas.List.{get_or_past}
use Rattle.std.proofs.Math.Nat.{mul-div_cancel_left}
use Rattle.ps_timelines.specs.declared.series.Series.{Series}
use Rattle.ps_timelines.specs.Series.{edge_text, column_text}

pub edge_is : (series : Series) (levels : List ℕ) (column before level x : ℕ) → before ≡ slice_index (0 ∷ levels) column
    → level ≡ slice_index levels column → x ≡ column * 1000 / length levels
    → edge_text series before level x ≡ column_text series levels column
unfolding column_text
edge_is series levels column before level x b l e =
    ap (λ v. edge_text series v level x) b
    ∙ ap (λ v. edge_text series (slice_index (0 ∷ levels) column) v x) l
    ∙ ap (edge_text series (slice_index (0 ∷ levels) column) (slice_index levels column)) e

-- beyond the last column the level is 0
pub last_edge : (series : Series) (levels : List ℕ) (column before : ℕ) → 1 ≤ length levels → column ≡ length levels
    → before ≡ slice_index (0 ∷ levels) column
    → edge_text series before 0 1000 ≡ column_text series levels (length levels)
last_edge series levels column before some e b =
    edge_is series levels (length levels) before 0 1000 (b ∙ ap (slice_index (0 ∷ levels)) e)
    (sym (get_or_past levels (length levels) 0 (omega arith))) (sym (mul-div_cancel_left 1000 (omega arith)))

pub next_before : (levels : List ℕ) (column : ℕ) → slice_index levels column ≡ slice_index (0 ∷ levels) (column + 1)
next_before levels column = sym (ap (slice_index (0 ∷ levels)) (add-one column))
