-- A procedure is taken off, and a loop turns.
use Rattle.std.proofs.Common.{◌<◌, arith, length, sym}
use Rattle.std.proofs.lemmas.Bool.Decides.{nat_tests}
use Rattle.std.proofs.lemmas.List.{length-drop}
use Rattle.ps_ops_operands.proofs.Operands.{first_split}
use Rattle.ps_ops_state.specs.Lent.{Lent, lent}
use Rattle.ps_step.proofs.Ahead.{procedure_begins, made_turn, no_asks}
use Rattle.ps_step.proofs.runs.begin_with.Goals as goal

pub returns-else-is_full-clause-begins : goal.returns-else-is_full-clause-begins
returns-else-is_full-clause-begins g c =
    let l : Lent = lent (g.M.Memory.heap c.args.memory.now) (g.M.Memory.grants c.args.memory.now)
    c.args.context.now c.args.shared.now in
    let few : length l.frames < 250 =
    grind (arith, nat_tests, c.is_full.ensures, c.if-is_full.false) in
    record {
      few = omega arith;
      room = rw c.drop_top.ensures.frames (omega (arith, few, length-drop 1 l.frames));
      makes = rw c.drop_top.ensures.frames
          (procedure_begins l c.in-Procedure.rest
          (first_split _ _ (rw c.in-Procedure.is at (sym c.requires.top))) c.requires.good);
    }

pub returns-in-Enters-clause-begins : goal.returns-in-Enters-clause-begins
returns-in-Enters-clause-begins g c =
    let l : Lent = lent (g.M.Memory.heap c.args.memory.now) (g.M.Memory.grants c.args.memory.now)
    c.args.context.now c.args.shared.now in
    record {
      few = omega arith;
      room = rw c.in-Enters.is at c.turn_ahead.ensures.room;
      makes = made_turn l _ c.args.top c.in_default.not-Text c.requires.top c.requires.good
          no_asks (rw c.in-Enters.is at (c.turn_ahead.ensures.goes no_asks));
    }

pub returns-in-Goes-clause-begins : goal.returns-in-Goes-clause-begins
returns-in-Goes-clause-begins g c =
    let l : Lent = lent (g.M.Memory.heap c.args.memory.now) (g.M.Memory.grants c.args.memory.now)
    c.args.context.now c.args.shared.now in
    made_turn l _ c.args.top c.in_default.not-Text c.requires.top c.requires.good no_asks
    (rw c.in-Goes.is at (c.turn_ahead.ensures.goes no_asks))
