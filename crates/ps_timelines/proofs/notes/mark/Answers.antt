-- The last stretch is longer, or there is one more, or none is.
use Rattle.std.proofs.Common.{◌≡◌, ◌∙◌, ◌+◌, ◌-◌, ◌++◌, ◌∷◌, [], suc, length, sym, ap, arith}
use Rattle.ps_timelines.specs.Moments.{stretches}
use Rattle.ps_timelines.proofs.Stretching.{behind, begun, first_begun, lengthened, marked_more, not_marked}
use Rattle.ps_timelines.proofs.notes.mark.Goals as goal
use Rattle.ps_timelines.proofs.notes.mark.Goals.{else-count-ne0-via-then-count-ne0+else-index-step, else-count-ne0-via-else-count-ne0}

pub returns-then-not-is_marked : goal.returns-then-not-is_marked
returns-then-not-is_marked c = λ marks count so.
    so ∙ sym (not_marked 0 marks)
    ∙ ap (λ b. stretches 0 (marks ++ b ∷ [])) (sym c.if-not-is_marked.true)

pub returns-then-index-step : goal.returns-then-index-step
returns-then-index-step c = λ marks count so.
    let old = c.args.marked.now.items in
    let size : suc (c.len-count.result - 1) ≡ length old =
    omega (arith, c.len-count.ensures, c.if-count-ne0.true) in
    marked_more marks c.args.is_marked c.args.step old _ count so c.if-not-is_marked.false
    (lengthened old (c.len-count.result - 1) c.args.step c.index.result.now c.index_mut.result.now
    size c.index.ensures c.if-index-step.true c.index_mut.ensures.value)

pub returns : goal.returns
returns c = λ marks count so.
    let old = c.args.marked.now.items in
    let more : (old ++ record { from = c.args.step; to = c.args.step + 1 } ∷ []) ≡ behind c.args.step old =
    elim c.else-count-ne0.branch [
      | else-count-ne0-via-then-count-ne0+else-index-step w ↦
          let size : suc (c.len-count.result - 1) ≡ length old =
          omega (arith, c.len-count.ensures, w.if-count-ne0.true) in
          begun old (c.len-count.result - 1) c.args.step w.index.result.now size w.index.ensures
          w.if-index-step.false
      | else-count-ne0-via-else-count-ne0 w ↦
          first_begun old 0 c.args.step (omega (arith, c.len-count.ensures, w.if-count-ne0.false))
    ] in
    marked_more marks c.args.is_marked c.args.step old _ count so c.if-not-is_marked.false
    (c.in_ok-push.ensures.items ∙ more)
