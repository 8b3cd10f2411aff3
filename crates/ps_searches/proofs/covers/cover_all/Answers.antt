use Rattle.std.proofs.Common.{◌≡◌, ◌<◌, ◌≤◌, ℕ, [], length, ap, arith, refl, subst, ◌∙◌}
use Rattle.ps_searches.specs.Graphs.{AreBetween}
use Rattle.ps_searches.proofs.Worlds.{are_all, every_end, longer, more_between, more_followed, none_followed}
use Rattle.ps_searches.proofs.covers.cover_all.Goals as goal

pub loop-place-init : goal.loop-place-init
loop-place-init g c =
    let none : length c.args.cover.now.endings.entries ≡ 0 = ap length c.requires.endings in
    record {
      within = omega arith;
      fewer = omega (arith, none);
      kept = c.keep.ensures.kept;
      each = λ k d within. absurd (omega (arith, within, none));
      most = refl;
      steps = omega (arith, c.requires.steps);
      between = c.requires.steps;
      followed = none_followed (g.G.RunGraph.price c.args.graph.now)
          (g.G.RunGraph.IsImage c.args.graph.now) g.G.RunGraph.Makes g.G.RunGraph.steps
          (g.G.RunGraph.Ends c.args.graph.now) c.keep.new.kept.entries
          c.args.cover.now.endings.entries _ (ap length c.in_ok-run.ensures.path)
          (c.in_ok-keep.ensures.known [] c.in_ok-run.ensures.at) c.keep.ensures.near;
    }

pub loop-place-preserved : goal.loop-place-preserved
loop-place-preserved g c =
    let old = c.loop-place.cover.kept.entries in
    let new = c.follow.new.cover.kept.entries in
    let inside : c.loop-place.place < length old =
    omega (arith, c.loop-place-test.true, c.len.ensures.len) in
    let more : length old ≤ length new = longer old new c.in_ok-follow.ensures.grows in
    record {
      within = omega (arith, inside, more);
      fewer = omega (arith, c.follow.ensures.fewer, c.loop-place.invariant.fewer);
      kept = c.in_ok-follow.ensures.kept;
      each = c.in_ok-follow.ensures.each;
      most = c.in_ok-follow.ensures.most ∙ c.loop-place.invariant.most;
      steps = omega (arith, c.in_ok-follow.ensures.steps);
      between = more_between (g.G.RunGraph.price c.args.graph.now)
          (g.G.RunGraph.IsImage c.args.graph.now) g.G.RunGraph.Makes g.G.RunGraph.steps old new
          c.loop-place.place c.loop-place.cover.steps c.follow.new.cover.steps
          c.in_ok-follow.ensures.grows c.loop-place.invariant.between
          c.in_ok-follow.ensures.ways;
      followed = more_followed (g.G.RunGraph.price c.args.graph.now)
          (g.G.RunGraph.IsImage c.args.graph.now) g.G.RunGraph.Makes g.G.RunGraph.steps
          (g.G.RunGraph.Ends c.args.graph.now) c.follow.new.cover.most old new
          c.loop-place.cover.endings.entries c.follow.new.cover.endings.entries
          c.loop-place.place c.in_ok-follow.ensures.grows inside c.in_ok-follow.ensures.keeps
          c.in_ok-follow.ensures.kept c.loop-place.invariant.followed
          c.in_ok-follow.ensures.near c.in_ok-follow.ensures.followed
          c.in_ok-follow.ensures.told;
    }

pub returns-clause-every : goal.returns-clause-every
returns-clause-every g c =
    every_end (g.G.RunGraph.price c.args.graph.now) (g.G.RunGraph.IsImage c.args.graph.now)
    g.G.RunGraph.Makes g.G.RunGraph.steps (g.G.RunGraph.Ends c.args.graph.now)
    c.loop-place.cover.most c.loop-place.cover.kept.entries c.loop-place.cover.endings.entries
    c.loop-place.place (omega (arith, c.loop-place-test.false, c.len.ensures.len))
    c.loop-place.invariant.kept c.loop-place.invariant.followed

pub returns-clause-all : goal.returns-clause-all
returns-clause-all g c =
    are_all (g.G.RunGraph.price c.args.graph.now) (g.G.RunGraph.IsImage c.args.graph.now)
    g.G.RunGraph.Makes g.G.RunGraph.steps (g.G.RunGraph.Ends c.args.graph.now)
    c.loop-place.cover.most c.loop-place.cover.kept.entries c.loop-place.cover.endings.entries
    c.loop-place.place (omega (arith, c.loop-place-test.false, c.len.ensures.len))
    c.loop-place.invariant.kept c.loop-place.invariant.followed

pub returns-clause-between : goal.returns-clause-between
returns-clause-between g c =
    let all : c.loop-place.place ≡ length c.loop-place.cover.kept.entries =
    omega (arith, c.loop-place-test.false, c.len.ensures.len, c.loop-place.invariant.within) in
    subst (λ (count : ℕ). AreBetween (g.G.RunGraph.price c.args.graph.now)
    (g.G.RunGraph.IsImage c.args.graph.now) g.G.RunGraph.Makes g.G.RunGraph.steps
    c.loop-place.cover.kept.entries count c.loop-place.cover.steps) all
    c.loop-place.invariant.between
