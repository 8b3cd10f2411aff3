-- The tokens of a text, or the turn of another frame.
use Rattle.std.proofs.Common.{arith, refl}
use Rattle.ps_ops_state.specs.Lent.{Lent, lent_of}
use Rattle.ps_step_interpreter.proofs.Running.{run_none}
use Rattle.ps_step.proofs.Ahead.{turned_behind}
use Rattle.ps_step.proofs.runs.run_turns.Goals as goal

pub returns-in_default-top : goal.returns-in_default-top
returns-in_default-top g c =
    let l : Lent = lent_of g.M.Memory.heap g.M.Memory.grants c.args.context.now c.args.runtime.now in
    record {
      within = c.with_turn.ensures.within;
      fewer = λ some. omega (arith, c.requires.some, c.with_turn.ensures.behind some);
      more = λ none. omega (arith, c.with_turn.ensures.more none);
      runs = c.with_turn.ensures.runs g.O.Operate.asks c.args.slot l _
          (turned_behind g.O.Operate.asks c.args.slot 0 l l _ (run_none l c.requires.good)
          c.requires.framed c.turn_frame-turn.result c.turn_frame-turn.ensures) refl;
    }
