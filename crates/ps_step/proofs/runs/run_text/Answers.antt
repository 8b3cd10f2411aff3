-- Token after token, until one is not done by operands alone.
use Rattle.std.proofs.Common.{◌≡◌, ◌∷◌, ◌≤◌, List, arith, drop, length, refl, sym, subst}
use Rattle.std.proofs.lemmas.Bool.{true≢false}
use Rattle.std.proofs.lemmas.Bool.Decides.{nat_tests}
use Rattle.ps_ops_operands.proofs.Operands.{first_split}
use Rattle.ps_ops_control.specs.declared.frames.Frame.{Frame}
use Rattle.ps_ops_control.specs.declared.frames.Frame.TheVariants.{Text}
use Rattle.ps_ops_state.specs.Lent.{Lent, lent_of}
use Rattle.ps_step_interpreter.specs.OwnSteps.{HasRun}
use Rattle.ps_step_interpreter.proofs.Running.{run_none}
use Rattle.ps_step.proofs.Reading.{read_more, read_behind}
use Rattle.ps_step.proofs.runs.run_text.Goals as goal

pub loop-made-init : goal.loop-made-init
loop-made-init g c =
    let l : Lent = lent_of g.M.Memory.heap g.M.Memory.grants c.args.context.now c.args.runtime.now in
    let top : l.frames ≡ Text c.args.cursor.source c.args.cursor.at ∷ drop 1 l.frames =
    first_split _ _ (sym c.requires.top) in
    rw (c.read_source.ensures.heap, c.read_source.ensures.grants) (record {
      within = omega arith;
      framed = subst (λ (frames : List Frame). 1 ≤ length frames) (sym top) (omega arith);
      window = c.read_source.ensures.window;
      makes = subst (λ (frames : List Frame). HasRun 0 l (record l { frames = frames })) top
          (run_none l c.requires.good);
    })

pub loop-made-preserved : goal.loop-made-preserved
loop-made-preserved g c =
    let takes = rw c.in-Ok.is at c.read_token.ensures.takes in
    record {
      within = omega (arith, nat_tests, c.loop-made-test.true);
      framed = subst (λ (frames : List Frame). 1 ≤ length frames) (sym takes.0)
          c.loop-made.invariant.framed;
      window = rw c.in-Ok.is at c.read_token.ensures.window;
      makes = read_more g.O.Operate.asks c.args.slot c.loop-made.made _
          (lent_of g.M.Memory.heap g.M.Memory.grants c.loop-made.context c.loop-made.runtime) c.loop-made.place.source c.loop-made.place.at
          c.loop-made.invariant.makes _ takes.1;
    }

pub returns-in-Err : goal.returns-in-Err
returns-in-Err g c = record {
  within = c.with_turn.ensures.within;
  fewer = λ some. omega (arith, nat_tests, c.loop-made-test.true, c.with_turn.ensures.behind some);
  more = λ none. omega (arith, c.with_turn.ensures.more none);
  runs = c.with_turn.ensures.runs g.O.Operate.asks c.args.slot _ _
      (read_behind g.O.Operate.asks c.args.slot c.loop-made.made _
      (lent_of g.M.Memory.heap g.M.Memory.grants c.loop-made.context c.loop-made.runtime) c.loop-made.place.source c.loop-made.place.at
      c.loop-made.invariant.makes _ _ (rw c.in-Err.is at c.read_token.ensures.takes)) refl;
}

pub returns : goal.returns
returns g c = record {
  within = c.loop-made.invariant.within;
  fewer = λ some. absurd (true≢false (sym some));
  more = λ none. omega (
    arith,
    nat_tests,
    c.requires.some,
    c.loop-made.invariant.within,
    c.loop-made-test.false,
  );
  runs = rw c.replace_top.ensures c.loop-made.invariant.makes;
}
