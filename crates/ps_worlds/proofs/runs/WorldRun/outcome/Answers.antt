-- A context is left, and one is ready, or none.
use Rattle.std.proofs.Common.{Bool, List, subst, sym, true, true≢false, ◌∙◌}
use Rattle.ps_vault.proofs.Readiness.{all_waiting, steps_out}
use Rattle.ps_worlds.specs.Runs.{standing, IsFirstTrue, IsNoneTrue}
use Rattle.ps_worlds.proofs.Following.{least_of, none_of}
use Rattle.ps_worlds.proofs.runs.WorldRun.outcome.Goals as goal

pub returns-in-Some : goal.returns-in-Some
returns-in-Some g c = λ w at.
    let run = standing g.M.Memory.heap g.M.Memory.grants c.args.self.now in
    let least = least_of run 0 c.in-Some.field-0
    (subst (λ (ready : List Bool). IsFirstTrue ready 0 c.in-Some.field-0)
    c.deref.ensures.value c.in-Some.ensures.some) c.requires w at in
    steps_out w true c.in-Some.field-0
    (sym (c.is_all_over.ensures _ _ w at.contexts) ∙ c.if-is_all_over.false) least.above
    least.ready (λ bad. absurd (true≢false bad))

pub returns-in-None : goal.returns-in-None
returns-in-None g c = λ w at.
    let run = standing g.M.Memory.heap g.M.Memory.grants c.args.self.now in
    all_waiting w (sym (c.is_all_over.ensures _ _ w at.contexts) ∙ c.if-is_all_over.false)
    (none_of run 0 (subst (λ (ready : List Bool). IsNoneTrue ready 0) c.deref.ensures.value
    c.in-None.ensures.none) c.requires w at)
