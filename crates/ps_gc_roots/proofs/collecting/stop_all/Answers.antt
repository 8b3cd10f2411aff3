use Rattle.std.proofs.Common.{Bool, None, false, ap, ◌∙◌}
use Rattle.ps_mem.specs.Heap.{Space}
use Rattle.ps_core_laws.specs.Collected.{may_open, one_more_if}
use Rattle.ps_gc_roots.proofs.Moving.{keeps-then}
use Rattle.ps_gc_roots.proofs.collecting.stop_all.Goals as goal

pub whole_cycle-requires : goal.whole_cycle-requires
whole_cycle-requires g c =
    record { steady = (c.end_cycle.ensures.kept None).steady c.requires.steady }

pub returns-clause-kept : goal.returns-clause-kept
returns-clause-kept g c = λ calling.
    keeps-then _ _ _ (c.end_cycle.ensures.kept calling) (c.whole_cycle.ensures.kept calling)

pub returns-clause-lives : goal.returns-clause-lives
returns-clause-lives g c = λ left w at.
    let flips = ap (λ (s : Space). s.flips) c.end_cycle.ensures.space in
    let was = (g.M.Memory.heap c.args.runtime.now.memory).space.flips in
    c.whole_cycle.ensures.lives (c.whole_cycle.ensures.answer
    ∙ (λ i. may_open (c.end_cycle.ensures.quiet.cycle_open i) (flips i))
    ∙ ap (λ (b : Bool). may_open false (one_more_if b was)) c.end_cycle.ensures.ended
    ∙ left) w ((c.end_cycle.ensures.kept None).at w at)
