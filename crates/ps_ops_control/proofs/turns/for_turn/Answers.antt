-- The next control value, or the end.
use Rattle.std.proofs.Common.{rules, sym, ◌∙◌, ◌+ℤ◌, w32, w64}
use Rattle.std.proofs.lemmas.Int.{to_z-of_z}
use mir.Val.{SFits}
use Rattle.ps_mem.specs.Heap.{birth_at}
use Rattle.ps_ops_operands.proofs.Ready.{plain_value, plain_within}
use Rattle.ps_ops_control.proofs.Courses.{course_goes}
use Rattle.ps_ops_control.proofs.Loops.{for_is, for_held, for_ends}
use Rattle.ps_ops_control.proofs.turns.for_turn.Goals as goal

pub returns-then-is_past-clause-turns : goal.returns-then-is_past-clause-turns
returns-then-is_past-clause-turns c =
    let control_fits : SFits w64 c.args.state.control = search rules in
    let increment_fits : SFits w32 c.args.state.increment = search rules in
    let limit_fits : SFits w32 c.args.state.limit = search rules in
    let past = simp to_z-of_z at c.is_past.ensures in
    λ h size ready. rw (c.leave.ensures)
    (for_ends h size _ _ ready c.args.state.control c.args.state.increment c.args.state.limit c.args.state.body (sym c.requires.top)
    (sym past ∙ c.if-is_past.true))

pub returns-clause-turns : goal.returns-clause-turns
returns-clause-turns c =
    let control_fits : SFits w64 c.args.state.control = search rules in
    let increment_fits : SFits w32 c.args.state.increment = search rules in
    let limit_fits : SFits w32 c.args.state.limit = search rules in
    let past = simp to_z-of_z at c.is_past.ensures in
    let sum_fits : SFits w64 (c.args.state.control +ℤ c.args.state.increment) = search rules in
    let increment_wide : SFits w64 c.args.state.increment = search rules in
    let going = sym past ∙ c.if-is_past.false in
    let top = sym c.requires.top in
    λ h size ready. (simp to_z-of_z at c.go_on.ensures.turns _ h size ready)
    (for_held h size _ _ ready c.args.state.control c.args.state.increment c.args.state.limit c.args.state.body top _
    (plain_value h _ c.control_word.ensures.plain)
    (λ names store. plain_within (birth_at h) names store _ c.control_word.ensures.plain)
    (course_goes c.args.state.control c.args.state.increment c.args.state.limit c.requires.course increment_fits limit_fits going))
    (for_is h size _ _ ready c.args.state.control c.args.state.increment c.args.state.limit c.args.state.body top _
    (λ births names. simp to_z-of_z at c.control_word.ensures.value births names) going)
