-- Stretches of marked steps, from the other end: a step more.
use Rattle.std.proofs.Common.{◌≡◌, ◌≢◌, ◌∙◌, ap, sym, refl, ℕ, zero, suc, ◌+◌, ◌<◌, Bool, true, false, List, [], ◌∷◌, ◌++◌, length, get_or, map, inl, inr, arith}
use Rattle.std.specs.Prelude.{◌==◌, replicate, if◌then◌else◌}
use Rattle.std.proofs.lemmas.Bool.{eq-eqb, ne_eqb}
use Rattle.std.proofs.lemmas.Bool.Decides.{eqb_tells}
use Rattle.std.proofs.lemmas.List.{get_or_read}
use Rattle.std.proofs.Math.ListN.{set}
use Rattle.ps_timelines.specs.declared.columns.Interval.{Interval}
use Rattle.ps_timelines.specs.declared.levels.LaneIntervals.{LaneIntervals}
use Rattle.ps_timelines.specs.declared.moments.Moment.{Moment}
use Rattle.ps_timelines.specs.declared.series.Series.{Series}
use Rattle.ps_timelines.specs.declared.series.Series.TheVariants.{Ready, Lock, Condition, Join, Steps, Owner, Print, Error}
use Rattle.ps_timelines.specs.Levels.{intervals_of}
use Rattle.ps_timelines.specs.Moments.{Show, away, before, is_marked, single, stretches, stretches_of}

-- a step behind stretches: it lengthens the last of them, where that ends at it
abbrev pub behind : (step : ℕ) → List Interval → List Interval
behind step [] = single step ∷ []
behind step (last ∷ []) = if last.to == step then record { from = last.from; to = suc step } ∷ []
    else last ∷ single step ∷ []
behind step (first ∷ next ∷ rest) = first ∷ behind step (next ∷ rest)

-- ---- tests

applied : (f : List Interval → List Interval) (b : Bool) (xs ys : List Interval)
    → f (if b then xs else ys) ≡ (if b then f xs else f ys)
applied f true xs ys = refl
applied f false xs ys = refl

exchanged : (b c : Bool) (p q r s : List Interval)
    → (if c then (if b then p else q) else (if b then r else s))
    ≡ (if b then (if c then p else r) else (if c then q else s))
exchanged true true p q r s = refl
exchanged true false p q r s = refl
exchanged false true p q r s = refl
exchanged false false p q r s = refl

same_test : (a b : ℕ) → (a == b) ≡ (b == a)
same_test a b = elim (eqb_tells a b) [
  | inl same ↦ same.0 ∙ sym (eq-eqb b a (sym same.1))
  | inr other ↦ other.0 ∙ sym (ne_eqb b a (λ is. other.1 (sym is)))
]

-- ---- one step at each end

before_behind : (from step : ℕ) (xs : List Interval)
    → before from (behind step xs) ≡ behind step (before from xs)
before_behind from step [] =
    let whole : Interval = record { from = from; to = suc step } in
    ap (λ b. if b then whole ∷ [] else single from ∷ single step ∷ []) (same_test step (suc from))
before_behind from step (x ∷ []) =
    let longer : Interval = record { from = x.from; to = suc step } in
    let joined : Interval = record { from = from; to = x.to } in
    let whole : Interval = record { from = from; to = suc step } in
    let b = x.from == suc from in
    let c = x.to == step in
    applied (before from) c (longer ∷ []) (x ∷ single step ∷ [])
    ∙ exchanged b c (whole ∷ []) (single from ∷ longer ∷ []) (joined ∷ single step ∷ [])
    (single from ∷ x ∷ single step ∷ [])
    ∙ ap (λ l. if b then (if c then whole ∷ [] else joined ∷ single step ∷ []) else l)
    (sym (applied (λ l. single from ∷ l) c (longer ∷ []) (x ∷ single step ∷ [])))
    ∙ sym (applied (behind step) b (joined ∷ []) (single from ∷ x ∷ []))
before_behind from step (x ∷ y ∷ rest) =
    let joined : Interval = record { from = from; to = x.to } in
    sym (applied (behind step) (x.from == suc from) (joined ∷ y ∷ rest) (single from ∷ x ∷ y ∷ rest))

pub one_marked : (from step : ℕ) (marks : List Bool) → step ≡ from + length marks
    → stretches from (marks ++ true ∷ []) ≡ behind step (stretches from marks)
unfolding stretches
one_marked from step [] at =
    let same : from ≡ step = omega (arith, at) in
    ap (λ n. single n ∷ []) same
one_marked from step (false ∷ rest) at = one_marked (suc from) step rest (omega (arith, at))
one_marked from step (true ∷ rest) at =
    ap (before from) (one_marked (suc from) step rest (omega (arith, at)))
    ∙ before_behind from step (stretches (suc from) rest)

pub not_marked : (from : ℕ) (marks : List Bool)
    → stretches from (marks ++ false ∷ []) ≡ stretches from marks
unfolding stretches
not_marked from [] = refl
not_marked from (false ∷ rest) = not_marked (suc from) rest
not_marked from (true ∷ rest) = ap (before from) (not_marked (suc from) rest)

-- ---- in place

set_last : (xs : List Interval) (n step : ℕ) (d : Interval) → suc n ≡ length xs
    → (get_or xs n d).to ≡ step
    → set xs n (record { from = (get_or xs n d).from; to = suc step }) ≡ behind step xs
set_last [] n step d count ends = absurd (omega (arith, count))
set_last (x ∷ []) zero step d count ends =
    let longer : Interval = record { from = x.from; to = suc step } in
    sym (ap (λ b. if b then longer ∷ [] else x ∷ single step ∷ []) (eq-eqb x.to step ends))
set_last (x ∷ []) (suc n) step d count ends = absurd (omega (arith, count))
set_last (x ∷ y ∷ rest) zero step d count ends = absurd (omega (arith, count))
set_last (x ∷ y ∷ rest) (suc n) step d count ends =
    ap (λ l. x ∷ l) (set_last (y ∷ rest) n step d (omega (arith, count)) ends)

add_last : (xs : List Interval) (n step : ℕ) (d : Interval) → suc n ≡ length xs
    → (get_or xs n d).to ≢ step → xs ++ single step ∷ [] ≡ behind step xs
add_last [] n step d count ends = absurd (omega (arith, count))
add_last (x ∷ []) zero step d count ends =
    let longer : Interval = record { from = x.from; to = suc step } in
    sym (ap (λ b. if b then longer ∷ [] else x ∷ single step ∷ []) (ne_eqb x.to step ends))
add_last (x ∷ []) (suc n) step d count ends = absurd (omega (arith, count))
add_last (x ∷ y ∷ rest) zero step d count ends = absurd (omega (arith, count))
add_last (x ∷ y ∷ rest) (suc n) step d count ends =
    ap (λ l. x ∷ l) (add_last (y ∷ rest) n step d (omega (arith, count)) ends)

add_first : (xs : List Interval) (step : ℕ) → length xs ≡ 0
    → xs ++ single step ∷ [] ≡ behind step xs
add_first [] step none = refl
add_first (x ∷ rest) step none = absurd (omega (arith, none))

next_step : (step : ℕ) → suc step ≡ step + 1
next_step step = omega arith

module _ (xs : List Interval) (n step : ℕ) where
  pub lengthened : (seen last : Interval) → suc n ≡ length xs → seen ≡ get_or xs n seen
      → seen.to ≡ step → last ≡ get_or xs n last
      → set xs n (record { from = last.from; to = step + 1 }) ≡ behind step xs
  lengthened seen last count is ends kept =
      let within : n < length xs = omega (arith, count) in
      let same : seen ≡ get_or xs n last = get_or_read xs n seen within is last in
      let at : (get_or xs n last).to ≡ step = ap (λ i. i.to) (sym same) ∙ ends in
      ap (λ i. set xs n (record { from = i.from; to = step + 1 })) kept
      ∙ ap (λ m. set xs n (record { from = (get_or xs n last).from; to = m })) (sym (next_step step))
      ∙ set_last xs n step last count at

  pub begun : (seen : Interval) → suc n ≡ length xs → seen ≡ get_or xs n seen → seen.to ≢ step
      → xs ++ record { from = step; to = step + 1 } ∷ [] ≡ behind step xs
  begun seen count is ends =
      ap (λ m. xs ++ record { from = step; to = m } ∷ []) (sym (next_step step))
      ∙ add_last xs n step seen count (λ at. ends (ap (λ i. i.to) is ∙ at))

  pub first_begun : length xs ≡ 0 → xs ++ record { from = step; to = step + 1 } ∷ [] ≡ behind step xs
  first_begun none =
      ap (λ m. xs ++ record { from = step; to = m } ∷ []) (sym (next_step step))
      ∙ add_first xs step none

-- what is marked, by the stretches before
pub marked_more : (marks : List Bool) (mark : Bool) (step : ℕ) (old new : List Interval)
    → length marks ≡ step → old ≡ stretches 0 marks → mark ≡ true → new ≡ behind step old
    → new ≡ stretches 0 (marks ++ mark ∷ [])
marked_more marks mark step old new count so true_is is =
    let at : step ≡ 0 + length marks = omega (arith, count) in
    is ∙ ap (behind step) so ∙ sym (one_marked 0 step marks at)
    ∙ ap (λ b. stretches 0 (marks ++ b ∷ [])) (sym true_is)

-- ---- moments

mapped_more : (f : Moment → Bool) (moments : List Moment) (moment : Moment)
    → map f (moments ++ moment ∷ []) ≡ map f moments ++ f moment ∷ []
mapped_more f [] moment = refl
mapped_more f (first ∷ rest) moment = ap (λ l. f first ∷ l) (mapped_more f rest moment)

-- what is shown of one moment more
pub moment_more : (series : Series) (moments : List Moment) (moment : Moment) (mark : Bool)
    (xs : List Interval) → mark ≡ is_marked series moment
    → xs ≡ stretches 0 (map (is_marked series) moments ++ mark ∷ [])
    → xs ≡ stretches_of (moments ++ moment ∷ []) series
moment_more series moments moment mark xs told is =
    is ∙ ap (λ b. stretches 0 (map (is_marked series) moments ++ b ∷ [])) told
    ∙ ap (stretches 0) (sym (mapped_more (is_marked series) moments moment))

pub moments_count : (series : Series) (moments : List Moment)
    → length (map (is_marked series) moments) ≡ length moments
moments_count series [] = refl
moments_count series (first ∷ rest) = ap suc (moments_count series rest)

unmarked : (series : Series) → is_marked series away ≡ false
unmarked Ready = refl
unmarked Lock = refl
unmarked Condition = refl
unmarked Join = refl
unmarked Steps = refl
unmarked Owner = refl
unmarked Print = refl
unmarked Error = refl

blank : (series : Series) (from n : ℕ)
    → stretches from (map (is_marked series) (replicate n away)) ≡ []
unfolding stretches
blank series from zero = refl
blank series from (suc n) =
    ap (λ b. stretches from (b ∷ map (is_marked series) (replicate n away))) (unmarked series)
    ∙ blank series (suc from) n

-- nothing is drawn of a context that was away
pub none_drawn : (series : Series) (n : ℕ) (xs : List Interval) → xs ≡ []
    → xs ≡ stretches_of (replicate n away) series
none_drawn series n xs none = none ∙ sym (blank series 0 n)

-- all series together
pub shown : (drawn : LaneIntervals) (moments : List Moment)
    → drawn.ready.items ≡ stretches_of moments Ready → drawn.lock.items ≡ stretches_of moments Lock
    → drawn.condition.items ≡ stretches_of moments Condition
    → drawn.join.items ≡ stretches_of moments Join → drawn.steps.items ≡ stretches_of moments Steps
    → drawn.owner.items ≡ stretches_of moments Owner
    → drawn.print.items ≡ stretches_of moments Print
    → drawn.error.items ≡ stretches_of moments Error → Show drawn moments
unfolding Show
shown drawn moments ready lock condition join steps owner print error = each
  where
    each : (series : Series) → intervals_of drawn series ≡ stretches_of moments series
    each Ready = ready
    each Lock = lock
    each Condition = condition
    each Join = join
    each Steps = steps
    each Owner = owner
    each Print = print
    each Error = error

pub of_series : (drawn : LaneIntervals) (moments : List Moment) → Show drawn moments
    → (series : Series) → intervals_of drawn series ≡ stretches_of moments series
unfolding Show
of_series drawn moments so = so
