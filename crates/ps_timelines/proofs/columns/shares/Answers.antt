-- Each interval adds what it covers.
use Rattle.std.proofs.Common.{◌≡◌, sym, ◌∙◌, ap, subst, ℕ, ◌+◌, ◌<◌, min, get_or, List, length, take, arith}
use Rattle.std.proofs.lemmas.List.{length-replicate, get_or-replicate, take_all}
use Rattle.ps_timelines.specs.declared.columns.Interval.{Interval}
use Rattle.ps_timelines.specs.Columns.{columns, covered, share}
use Rattle.ps_timelines.proofs.Covering.{none_yet, at_most_whole, one_more}
use Rattle.ps_timelines.proofs.columns.shares.Goals as goal

pub loop-interval-init : goal.loop-interval-init
loop-interval-init c =
    let is = c.in_ok-parts.ensures.items_if_clones_equal (λ y h. h) in
    record {
      size = ap length is ∙ length-replicate _ _ ∙ c.columns.ensures.is;
      each = λ k w. ap (λ l. get_or l k 0) is
          ∙ get_or-replicate c.columns.result k 0 0 (omega (arith, c.columns.ensures.is))
          ∙ sym (none_yet c.args.steps k);
    }

pub add-requires-clause-full : goal.add-requires-clause-full
add-requires-clause-full c = λ k w.
    let is = c.loop-interval.invariant.each k w in
    omega (arith, is, at_most_whole c.args.steps k (take c.loop-interval.interval-index c.args.intervals.now))

pub loop-interval-preserved : goal.loop-interval-preserved
loop-interval-preserved c = record {
  size = c.add.ensures.size;
  each = λ k w.
      let none : Interval = record { from = 0; to = 0 } in
      c.add.ensures.each k w
      ∙ ap (λ n. min (n + covered c.args.steps k (get_or c.args.intervals.now c.loop-interval.interval-index none)) c.args.steps)
      (c.loop-interval.invariant.each k w)
      ∙ sym (one_more c.args.steps k c.args.intervals.now c.loop-interval.interval-index none c.loop-interval-test.true);
}

pub returns-clause-each : goal.returns-clause-each
returns-clause-each c =
    subst (λ (intervals : List Interval). (k : ℕ) → k < columns c.args.steps
    → get_or c.loop-interval.parts.items k 0 ≡ share c.args.steps intervals k)
    (take_all c.loop-interval.interval-index c.args.intervals.now (omega arith)) c.loop-interval.invariant.each
