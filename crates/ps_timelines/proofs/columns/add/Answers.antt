-- Columns before the interval and behind it have nothing of it.
use Rattle.std.proofs.Common.{◌≡◌, refl, ℕ, ◌+◌, ◌<◌, ◌≤◌, inl, inr, min, get_or, arith}
use Rattle.std.proofs.lemmas.Bool.{cases_lt}
use Rattle.ps_timelines.specs.Columns.{covered}
use Rattle.ps_timelines.proofs.Covering.{none_before, none_behind}
use Rattle.ps_timelines.proofs.columns.add.Goals as goal

unchanged : (old new part steps : ℕ) → new ≡ old → old ≤ steps → part ≡ 0 → new ≡ min (old + part) steps
unchanged old new part steps same h e = omega (arith, same, h, e)

either : (k column old new part steps : ℕ) → (k < column → new ≡ min (old + part) steps)
    → (column ≤ k → new ≡ old) → (column ≤ k → part ≡ 0) → old ≤ steps → new ≡ min (old + part) steps
either k column old new part steps done rest none h = elim (cases_lt k column) [
  | inl below ↦ done below
  | inr above ↦ unchanged old new part steps (rest above) h (none above)
]

pub loop-column-init : goal.loop-column-init
loop-column-init c = record {
  size = c.requires.size;
  done = λ k h w. unchanged _ _ (covered c.args.steps k c.args.interval) c.args.steps refl (c.requires.full k w)
      (none_before c.args.steps k c.columns-width.result c.args.interval c.columns-width.ensures.is h);
  rest = λ k h. refl;
}

pub returns-clause-each : goal.returns-clause-each
returns-clause-each c = λ k w.
    either k c.loop-column.column (get_or c.args.parts.now.items k 0) (get_or c.loop-column.parts.items k 0)
    (covered c.args.steps k c.args.interval) c.args.steps (λ h. c.loop-column.invariant.done k h w)
    (c.loop-column.invariant.rest k)
    (λ h. none_behind c.args.steps k c.columns-width.result c.args.interval c.columns-width.ensures.is (omega arith)
    (omega (arith, c.min-column-end.ensures)))
    (c.requires.full k w)
