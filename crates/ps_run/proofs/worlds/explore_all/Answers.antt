-- What a search promises, and what is made of it.
use Rattle.std.proofs.Common.{rules, ◌∙◌, ◌<◌, ◌^◌, ℕ, ap, arith, length}
use Rattle.ps_run.proofs.EachWorld.{length_ways}
use Rattle.ps_run.proofs.worlds.explore_all.Goals as goal

pub returns-clause-told : goal.returns-clause-told
returns-clause-told g c =
    let found = c.in_ok-covered.covered in (
      record {
        endings = found.endings.entries;
        worlds = found.worlds;
        steps = found.steps;
        extent = found.extent;
      },
      record {
        every = c.in_ok-covered.ensures.every;
        each = c.in_ok-covered.ensures.each;
        fewer = c.in_ok-covered.ensures.fewer;
        within = c.in_ok-covered.ensures.within;
        met = c.in_ok-covered.ensures.met;
      },
      c.in_ok-reports.ensures,
      c.in_ok-lines.ensures,
    )

pub returns-clause-few : goal.returns-clause-few
returns-clause-few g c =
    let found = c.in_ok-covered.covered in
    let fewer = c.in_ok-covered.ensures.fewer in
    let within = c.in_ok-covered.ensures.within in
    let same = ap {B = ℕ} length c.in_ok-reports.ensures ∙ length_ways found.endings.entries in
    omega (arith, fewer, within, same)

pub returns-clause-fits : goal.returns-clause-fits
returns-clause-fits g c =
    let found = c.in_ok-covered.covered in
    let fewer = c.in_ok-covered.ensures.fewer in
    let within = c.in_ok-covered.ensures.within in
    let same = ap {B = ℕ} length c.in_ok-reports.ensures ∙ length_ways found.endings.entries in
    let most : c.args.most < 2 ^ 32 = search rules in
    omega (arith, fewer, within, same, most)
