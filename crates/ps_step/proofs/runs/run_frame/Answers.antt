-- The steps of a procedure, that of a loop, or the turn of another frame.
use Rattle.std.proofs.Common.{◌≤◌, arith, sym}
use Rattle.std.proofs.lemmas.Bool.{true≢false}
use Rattle.ps_step.specs.Steps.{own_asks}
use Rattle.ps_step.proofs.Ahead.{runs_then, some_made}
use Rattle.ps_step.proofs.runs.run_frame.Goals as goal

pub run_entered-run-requires-clause-good : goal.run_entered-run-requires-clause-good
run_entered-run-requires-clause-good g c =
    rw (c.begin_with.ensures.heap, c.begin_with.ensures.grants)
    (rw c.in-Enters.is at c.begin_with.ensures.begins).makes.good

pub run_entered-run-requires-clause-room : goal.run_entered-run-requires-clause-room
run_entered-run-requires-clause-room g c = (rw c.in-Enters.is at c.begin_with.ensures.begins).room

pub returns-in-Enters : goal.returns-in-Enters
returns-in-Enters g c =
    let begins = rw c.in-Enters.is at c.begin_with.ensures.begins in
    let few : c.in-Enters.made ≤ 1 = begins.few in
    record {
      left = λ none. absurd (true≢false none);
      within = omega (arith, few, c.requires.some, c.run_entered-run.ensures.within);
      fewer = λ some.
          let fewer = c.run_entered-run.ensures.fewer some in
          omega (arith, few, c.requires.some, fewer);
      more = λ none. some_made c.args.most c.in-Enters.made c.run_entered-run.result.made
          c.requires.some (c.run_entered-run.ensures.more none);
      runs = runs_then (own_asks g.O.Operate.asks) c.args.slot c.in-Enters.made
          c.run_entered-run.result.made c.run_entered-run.result.next _ _ _ begins.makes
          (rw (c.begin_with.ensures.heap, c.begin_with.ensures.grants) at c.run_entered-run.ensures.runs);
    }

pub returns-in-Goes : goal.returns-in-Goes
returns-in-Goes g c = record {
  left = λ none. absurd (true≢false none);
  within = c.requires.some;
  fewer = λ some. absurd (true≢false (sym some));
  more = λ none. omega arith;
  runs = rw (c.begin_with.ensures.heap, c.begin_with.ensures.grants)
      (rw c.in-Goes.is at c.begin_with.ensures.begins);
}
