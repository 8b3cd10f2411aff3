-- What a search promises, and what is made of it.
use Rattle.std.proofs.Common.{rules, ◌∙◌, ◌<◌, ◌^◌, ℕ, ap, arith, length}
use Rattle.ps_run.specs.Orders.{AreOrders}
use Rattle.ps_run.proofs.EachOrder.{length_reports}
use Rattle.ps_run.proofs.orders.explore_all.Goals as goal

pub lines_of-requires : goal.lines_of-requires
lines_of-requires g c =
    let few : c.args.steps < 2 ^ 32 = search rules in (
      c.args.steps,
      few,
      c.in_ok-found.ensures.each,
    )

pub returns-clause-told : goal.returns-clause-told
returns-clause-told g c =
    let found = c.in_ok-found.found in
    let are : AreOrders c.args.runs.now.task.program.now c.args.steps c.args.bounds (record {
      endings = found.endings.entries;
      below = found.below;
      runs = found.runs;
    }) = record {
      every = c.in_ok-found.ensures.every;
      each = c.in_ok-found.ensures.each;
      some = c.in_ok-found.ensures.some (omega (arith, c.from.ensures, c.requires.some));
      fewer = c.in_ok-found.ensures.fewer;
      below = c.in_ok-found.ensures.below;
      met = λ low. c.in_ok-found.ensures.met low ∙ c.from.ensures;
      runs = omega (arith, c.in_ok-found.ensures.runs, c.from.ensures);
    } in
    record {
      orders = record {
        endings = found.endings.entries;
        below = found.below;
        runs = found.runs;
      };
      are = are;
      are_reports = c.in_ok-reports.ensures;
      are_lines = c.in_ok-lines.ensures;
    }

pub returns-clause-few : goal.returns-clause-few
returns-clause-few g c =
    let found = c.in_ok-found.found in
    let fewer = c.in_ok-found.ensures.fewer in
    let runs = c.in_ok-found.ensures.runs in
    let same = ap {B = ℕ} length c.in_ok-reports.ensures ∙ length_reports found.endings.entries in
    omega (arith, fewer, runs, same, c.from.ensures)

pub returns-clause-fits : goal.returns-clause-fits
returns-clause-fits g c =
    let found = c.in_ok-found.found in
    let fewer = c.in_ok-found.ensures.fewer in
    let runs = c.in_ok-found.ensures.runs in
    let same = ap {B = ℕ} length c.in_ok-reports.ensures ∙ length_reports found.endings.entries in
    let most : c.args.bounds.runs < 2 ^ 32 = search rules in
    omega (arith, fewer, runs, same, c.from.ensures, most)
