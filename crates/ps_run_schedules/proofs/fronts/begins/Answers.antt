use Rattle.std.proofs.Common.{ℕ, List, length, ap, sym, ◌∙◌, arith, refl}
use Rattle.ps_language.specs.declared.schedules.Entry.{Entry}
use Rattle.std.proofs.lemmas.Bool.{true≢false}
use Rattle.ps_language.specs.Schedules.{Begins, moves}
use Rattle.ps_run_schedules.proofs.Heads.{no_head, same_front, other_front, none_first, some_first, still_first}
use Rattle.ps_run_schedules.proofs.fronts.begins.Goals as goal

pub loop-first-init : goal.loop-first-init
loop-first-init c =
    still_first (moves c.args.part) _ (moves c.args.whole) _
    (Begins c.args.part c.args.whole) (sym (no_head _ c.args.part refl))
    (sym (no_head _ c.args.whole refl)) (λ h. h, λ h. h)

pub returns-in_default : goal.returns-in_default
returns-in_default c = (
  λ _. c.loop-first.invariant.0 (none_first c.loop-first.first c.loop-first.part_left _
      c.if-first-eq0.true (ap {B = ℕ} (λ (left : List Entry). length left) c.in_default.ensures.0)),
  λ _. refl,
)

pub loop-first-preserved-then-first-eq0 : goal.loop-first-preserved-then-first-eq0
loop-first-preserved-then-first-eq0 c =
    still_first _ _ _ _ (Begins c.args.part c.args.whole)
    (no_head c.loop-first.first c.loop-first.part_left c.if-first-eq0.true
    ∙ ap moves c.in-Some.ensures) refl c.loop-first.invariant

pub returns-in_default-next : goal.returns-in_default-next
returns-in_default-next c = (
  λ no. absurd (true≢false (sym no)),
  λ all. absurd (some_first c.loop-first.first c.loop-first.second c.loop-first.part_left
      c.loop-first.whole_left (omega (arith, c.if-first-eq0.false)) c.if-second-eq0.true
      (ap {B = ℕ} (λ (left : List Entry). length left) c.in_default-next.ensures.0) (c.loop-first.invariant.1 all)),
)

pub loop-first-preserved-then-second-eq0 : goal.loop-first-preserved-then-second-eq0
loop-first-preserved-then-second-eq0 c =
    still_first _ _ _ _ (Begins c.args.part c.args.whole) refl
    (no_head c.loop-first.second c.loop-first.whole_left c.if-second-eq0.true
    ∙ ap moves c.in-Some-next.ensures) c.loop-first.invariant

pub returns-then-not-has_same_front : goal.returns-then-not-has_same_front
returns-then-not-has_same_front c = (
  λ no. absurd (true≢false (sym no)),
  λ all. absurd (other_front c.loop-first.first c.loop-first.second c.loop-first.part_left
      c.loop-first.whole_left c.min-both.result
      (omega (arith, c.min-both.ensures)) (omega (arith, c.min-both.ensures))
      (λ same. true≢false (sym (c.has_same_front.ensures.1 same) ∙ c.if-not-has_same_front.true))
      (c.loop-first.invariant.1 all)),
)

pub loop-first-preserved : goal.loop-first-preserved
loop-first-preserved c =
    let both = same_front c.loop-first.first c.loop-first.second c.loop-first.part_left
    c.loop-first.whole_left c.min-both.result
    (omega (arith, c.min-both.ensures)) (omega (arith, c.min-both.ensures))
    (c.has_same_front.ensures.0 c.if-not-has_same_front.false) in
    rw (c.behind-first.ensures, c.behind-second.ensures)
    (λ h. c.loop-first.invariant.0 (both.0 h), λ h. both.1 (c.loop-first.invariant.1 h))
