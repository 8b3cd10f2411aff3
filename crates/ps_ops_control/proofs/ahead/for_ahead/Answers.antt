-- The next control value, or the end.
use Rattle.std.proofs.Common.{rules, sym, [], ◌∷◌, ◌∙◌, ◌+ℤ◌, w32, w64}
use Rattle.std.proofs.lemmas.Int.{to_z-of_z}
use mir.Val.{SFits}
use Rattle.ps_language.specs.declared.operators.Operator.TheVariants.{For as ForOperator}
use Rattle.ps_mem.specs.Heap.{birth_at}
use Rattle.ps_ops_operands.proofs.Ready.{plain_value, plain_within}
use Rattle.ps_ops_control.specs.declared.frames.Frame.TheVariants.{For}
use Rattle.ps_ops_control.proofs.Courses.{course_goes}
use Rattle.ps_ops_control.proofs.Entering.{some_frame, one_fits, room_kept}
use Rattle.ps_ops_control.proofs.Loops.{for_is, for_held, for_ends}
use Rattle.ps_ops_control.proofs.Turning.{turns_entered}
use Rattle.ps_ops_control.proofs.ahead.for_ahead.Goals as goal

pub returns-then-is_past-clause-turns : goal.returns-then-is_past-clause-turns
returns-then-is_past-clause-turns c =
    let control_fits : SFits w64 c.args.state.control = search rules in
    let increment_fits : SFits w32 c.args.state.increment = search rules in
    let limit_fits : SFits w32 c.args.state.limit = search rules in
    let past = simp to_z-of_z at c.is_past.ensures in
    λ h size ready.
    rw (c.leave.ensures)
    (for_ends h size _ _ ready c.args.state.control c.args.state.increment c.args.state.limit c.args.state.body
    (sym c.requires.top) (sym past ∙ c.if-is_past.true))

pub returns-clause-turns : goal.returns-clause-turns
returns-clause-turns c =
    let operands = c.args.operands.now in
    let frames = c.args.frames.now in
    let body = c.args.state.body in
    let control = c.args.state.control in
    let increment = c.args.state.increment in
    let limit = c.args.state.limit in
    let control_fits : SFits w64 control = search rules in
    let increment_fits : SFits w32 increment = search rules in
    let limit_fits : SFits w32 limit = search rules in
    let past = simp to_z-of_z at c.is_past.ensures in
    let sum_fits : SFits w64 (control +ℤ increment) = search rules in
    let increment_wide : SFits w64 increment = search rules in
    let going = sym past ∙ c.if-is_past.false in
    let top = sym c.requires.top in
    let written = simp to_z-of_z at c.push_control.ensures.frames in
    let word = c.control_word-word.result in
    λ h size ready.
    rw (c.push_control.ensures.operands, written)
    (turns_entered ForOperator h size operands frames ready
    (some_frame frames (For control increment limit body) top) (word ∷ [])
    (For (control +ℤ increment) increment limit body) body
    (for_held h size operands frames ready control increment limit body top word
    (plain_value h _ c.control_word-word.ensures.plain)
    (λ names store. plain_within (birth_at h) names store _ c.control_word-word.ensures.plain)
    (course_goes control increment limit c.requires.course increment_fits limit_fits going))
    (for_is h size operands frames ready control increment limit body top word
    (λ births names. simp to_z-of_z at c.control_word-word.ensures.value births names) going)
    (c.may_enter.ensures.operands c.if-not-may_enter.false)
    (c.may_enter.ensures.body c.if-not-may_enter.false)
    (one_fits frames (c.may_enter.ensures.frames c.if-not-may_enter.false)))

pub returns-clause-room : goal.returns-clause-room
returns-clause-room c =
    rw (c.push_control.ensures.frames)
    (room_kept c.args.frames.now (c.may_enter.ensures.frames c.if-not-may_enter.false))
