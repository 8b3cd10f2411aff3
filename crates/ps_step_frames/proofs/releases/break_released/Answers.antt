-- Nothing is told, or the error is.
use Rattle.std.proofs.Common.{arith, false, refl, ap, ◌∙◌}
use Rattle.std.specs.Prelude.{is_some}
use Rattle.ps_ops_state.specs.Lent.{Lent, lent_of}
use Rattle.ps_step_frames.proofs.Releasing.{release_unmade, released}
use Rattle.ps_step_frames.proofs.releases.break_released.Goals as goal

pub returns-in-Ok : goal.returns-in-Ok
returns-in-Ok g c =
    let l : Lent = lent_of g.M.Memory.heap g.M.Memory.grants c.args.context.now c.args.runtime.now in
    rw c.untold.ensures
    (released l c.requires.good c.args.lock c.requires.known c.args.attempt c.args.cause
    (λ s shown. c.place_of_told.ensures.value c.args.runtime.now.shared.names s c.requires.good.first
    c.requires.good.names.different shown.shows ∙ ap is_some c.in-None.is)
    _ _ (rw c.place_of_told.ensures.heap at c.release.ensures.keeps) c.release.ensures.sound
    (rw (c.in-Ok.is, c.place_of_told.ensures.grants) at c.release.ensures.logs)
    (rw (c.in-Ok.is, c.place_of_told.ensures.heap) at c.release.ensures.shows))

pub returns-in-Err : goal.returns-in-Err
returns-in-Err g c =
    let l : Lent = lent_of g.M.Memory.heap g.M.Memory.grants c.args.context.now c.args.runtime.now in
    rw (c.in-Err.ensures.unmade ∙ c.place_of_told.ensures.heap)
    (release_unmade l c.requires.good c.args.lock c.requires.known c.args.attempt c.args.cause false
    (λ s shown. c.place_of_told.ensures.value c.args.runtime.now.shared.names s c.requires.good.first
    c.requires.good.names.different shown.shows ∙ ap is_some c.in-None.is)
    _ (rw c.place_of_told.ensures.grants at c.in-Err.ensures.logs)
    c.in-Err.reason 1 (omega arith) refl
    (rw c.place_of_told.ensures.grants at c.in-Err.ensures.reason))
