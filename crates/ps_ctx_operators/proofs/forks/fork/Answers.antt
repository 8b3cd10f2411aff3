-- A context is made; or one of the errors, or there is no room for its $error or its stacks.
use Rattle.std.proofs.Common.{◌∙◌, refl, sym, ap, length, arith, w32}
use Rattle.std.proofs.lemmas.List.{length-drop}
use Rattle.std.proofs.lemmas.Int.{to_z_pos}
use Rattle.ps_language.specs.declared.errors.ErrorName.TheVariants.{InvalidAccess, LimitCheck}
use Rattle.ps_language.specs.Readers.{integer}
use Rattle.ps_mem.specs.Shows.{IsValue}
use Rattle.ps_mem.proofs.KeepsLemmas.{Keeps-Extends}
use Rattle.ps_ops_operands.proofs.Held.{first_held}
use Rattle.ps_ops_state.specs.Lent.{Lent, lent_of}
use Rattle.ps_ops_state.proofs.Acting.{raised_acts, wanting_acts}
use Rattle.ps_ops_state.proofs.Meeting.{at_least-same}
use Rattle.ps_ctx_operators.specs.Rows.{fork_caller}
use Rattle.ps_ctx_operators.proofs.ForkLemmas.{fork_deep, fork_hidden, fork_seatless, fork_making, fork_refused}
use Rattle.ps_ctx_operators.proofs.ForkLemmas.{fork_wants, fork_acts, fork_begins, granted_logs, below_first}
use Rattle.ps_ctx_operators.proofs.forks.fork.Goals as goal

pub returns-then-not-is_executable-clause-forks : goal.returns-then-not-is_executable-clause-forks
returns-then-not-is_executable-clause-forks g c =
    raised_acts _ c.args.attempt _ _ c.requires.good InvalidAccess
    (fork_hidden _ _ c.in-Some.ensures c.in-Some-procedure_of.body
    c.in-Some-procedure_of.ensures.part c.in-Some-mark_depth.depth
    c.in-Some-mark_depth.ensures.found c.args.seat
    (sym c.is_executable.ensures ∙ c.if-not-is_executable.true))

pub returns-in_default-seat-clause-forks : goal.returns-in_default-seat-clause-forks
returns-in_default-seat-clause-forks g c =
    raised_acts _ c.args.attempt _ _ c.requires.good LimitCheck
    (fork_seatless _ _ c.in-Some.ensures c.in-Some-procedure_of.body
    c.in-Some-procedure_of.ensures.part c.in-Some-mark_depth.depth
    c.in-Some-mark_depth.ensures.found c.args.seat
    (sym c.is_executable.ensures ∙ c.if-not-is_executable.false) c.in_default-seat.is)

pub returns-then-attempt-clause-forks : goal.returns-then-attempt-clause-forks
returns-then-attempt-clause-forks g c =
    fork_refused _ _ c.in-Some.ensures c.in-Some-procedure_of.body
    c.in-Some-procedure_of.ensures.part c.in-Some-mark_depth.depth
    c.in-Some-mark_depth.ensures.found c.args.seat
    (sym c.is_executable.ensures ∙ c.if-not-is_executable.false) c.in-Some-seat.identifier
    c.in-Some-seat.is c.requires.good c.args.attempt c.if-attempt.true

pub returns-in_default-empty_context-clause-forks :
    goal.returns-in_default-empty_context-clause-forks
returns-in_default-empty_context-clause-forks g c = (
  refl,
  c.if-attempt.false,
  fork_making _ _ c.in-Some.ensures c.in-Some-procedure_of.body
      c.in-Some-procedure_of.ensures.part c.in-Some-mark_depth.depth
      c.in-Some-mark_depth.ensures.found c.args.seat
      (sym c.is_executable.ensures ∙ c.if-not-is_executable.false) c.in-Some-seat.identifier
      c.in-Some-seat.is,
)

pub returns-in-Err-clause-forks : goal.returns-in-Err-clause-forks
returns-in-Err-clause-forks g c =
    let l : Lent = lent_of g.M.Memory.heap g.M.Memory.grants c.args.context.now c.args.runtime.now in
    let grants = g.M.Memory.grants c.granted.new.memory in
    rw c.granted.ensures.heap
    (wanting_acts (fork_caller c.args.seat) c.args.attempt _ l c.requires.good grants l.room l.scratch
    (omega arith) (at_least-same _) c.requires.good.empty
    (granted_logs l.grants grants c.args.attempt.slot c.granted.ensures.kept) c.in-Err.reason
    (fork_wants l _ c.in-Some.ensures c.in-Some-procedure_of.body
    c.in-Some-procedure_of.ensures.part c.in-Some-mark_depth.depth
    c.in-Some-mark_depth.ensures.found c.args.seat
    (sym c.is_executable.ensures ∙ c.if-not-is_executable.false) c.in-Some-seat.identifier
    c.in-Some-seat.is c.requires.good c.args.attempt c.if-attempt.false grants c.in-Err.reason
    c.in-Err.ensures.reason))

pub overflow_sub-depth : goal.overflow_sub-depth
overflow_sub-depth g c =
    let l : Lent = lent_of g.M.Memory.heap g.M.Memory.grants c.args.context.now c.args.runtime.now in
    fork_deep l _ c.in-Some.ensures c.in-Some-procedure_of.body
    c.in-Some-procedure_of.ensures.part c.in-Some-mark_depth.depth
    c.in-Some-mark_depth.ensures.found

pub replace-requires : goal.replace-requires
replace-requires g c =
    let l : Lent = lent_of g.M.Memory.heap g.M.Memory.grants c.args.context.now c.args.runtime.now in
    let bound = c.in-Some-mark_depth.ensures.bound in
    let size = ap length c.discard.ensures ∙ length-drop 1 c.args.context.now.operands in (
      omega arith,
      (
        fork_deep l _ c.in-Some.ensures c.in-Some-procedure_of.body
            c.in-Some-procedure_of.ensures.part c.in-Some-mark_depth.depth
            c.in-Some-mark_depth.ensures.found,
        omega (arith, bound, size),
      ),
    )

pub returns-clause-forks : goal.returns-clause-forks
returns-clause-forks g c =
    let l : Lent = lent_of g.M.Memory.heap g.M.Memory.grants c.args.context.now c.args.runtime.now in
    let new = g.M.Memory.heap c.make_error_dictionary.new.memory in
    let bound = c.requires.seat c.in-Some-seat.identifier c.in-Some-seat.is in
    let extends = rw c.granted.ensures.heap at c.make_error_dictionary.ensures.extends in
    rw (
      c.replace.ensures,
      c.discard.ensures,
      below_first c.args.context.now.operands c.in-Some-mark_depth.depth,
    )
    (fork_acts l _ c.in-Some.ensures c.in-Some-procedure_of.body
    c.in-Some-procedure_of.ensures.part c.in-Some-mark_depth.depth
    c.in-Some-mark_depth.ensures.found c.args.seat
    (sym c.is_executable.ensures ∙ c.if-not-is_executable.false) c.in-Some-seat.identifier
    c.in-Some-seat.is c.requires.good c.args.attempt c.if-attempt.false new
    (g.M.Memory.grants c.granted.new.memory)
    (g.M.Memory.grants c.make_error_dictionary.new.memory) c.make_error_dictionary.result
    (Keeps-Extends l.heap new extends) c.make_error_dictionary.ensures.sound
    c.granted.ensures.kept c.make_error_dictionary.ensures.grants
    (λ s shows. (rw c.granted.ensures.heap at c.make_error_dictionary.ensures.shows) l.names s
    shows c.requires.good.names.different c.requires.good.first) c.integer.result c.integer.ensures.plain
    (λ births names. c.integer.ensures.value births names
    ∙ ap integer (to_z_pos w32 c.in-Some-seat.identifier (omega (arith, bound)))))

pub returns-clause-forked : goal.returns-clause-forked
returns-clause-forked g c =
    let l : Lent = lent_of g.M.Memory.heap g.M.Memory.grants c.args.context.now c.args.runtime.now in
    let new = g.M.Memory.heap c.make_error_dictionary.new.memory in
    let extends = rw c.granted.ensures.heap at c.make_error_dictionary.ensures.extends in
    rw (
      c.begin.ensures.operands,
      c.begin.ensures.dictionaries,
      c.begin.ensures.frames,
      c.begin.ensures.error,
      c.discard.ensures,
    )
    (fork_begins l _ c.in-Some.ensures c.in-Some-procedure_of.body
    c.in-Some-procedure_of.ensures.part c.in-Some-mark_depth.depth
    c.in-Some-mark_depth.ensures.found c.requires.good new
    (g.M.Memory.grants c.make_error_dictionary.new.memory) c.make_error_dictionary.result
    (Keeps-Extends l.heap new extends) c.make_error_dictionary.ensures.sound
    (λ s shows. (rw c.granted.ensures.heap at c.make_error_dictionary.ensures.shows) l.names s
    shows c.requires.good.names.different c.requires.good.first)
    c.make_error_dictionary.ensures.known c.make_error_dictionary.ensures.address
    (rw c.granted.ensures.heap at c.make_error_dictionary.ensures.birth)
    (c.in-Some-procedure_of.ensures.held l.heap
    (first_held (IsValue l.heap) _ c.requires.good.operands _ c.in-Some.ensures)))
