use Rattle.std.proofs.Common.{◌≡◌, ◌+◌, ◌++◌, ◌∷◌, [], ℕ, List, length, length-append, ap, arith, refl, rules, subst, sym, ◌∙◌}
use Rattle.ps_searches.specs.Searches.{IsNextAbove, IsProper}
use Rattle.ps_searches.specs.Graphs.{count_to}
use Rattle.ps_searches.proofs.Worlds.{all_followed, count_next, grows_not, grows_twice, known_further, longer, near_further, none_can, none_counted, one_followed, proper_push, some_at, still_at, was_at}
use Rattle.ps_searches.proofs.covers.follow_each.Goals as goal

-- no context has the number 0
pub loop-context-init : goal.loop-context-init
loop-context-init g c =
    record {
      same = refl;
      kept = c.requires.kept;
      near = c.requires.near;
      grows = grows_not c.args.cover.now.kept.entries;
      most = refl;
      endings = refl;
      steps = omega (arith, c.requires.steps);
      ways = λ one is path image. none_counted (g.G.RunGraph.price c.args.graph.now) path
          c.args.cover.now.steps;
      few = omega arith;
      followed = λ one is path image context below can.
          let zero : context ≡ 0 = omega (arith, below) in
          absurd (none_can (g.G.RunGraph.price c.args.graph.now path context)
          (ap (g.G.RunGraph.price c.args.graph.now path) zero
          ∙ g.met.G.RunGraph.from_one c.args.graph.now path) can);
    }

pub come_to-requires : goal.come_to-requires
come_to-requires g c =
    let more = longer c.args.cover.now.kept.entries c.loop-context.cover.kept.entries
    c.loop-context.invariant.grows in
    record {
      each = c.loop-context.invariant.kept.each;
      within = omega (arith, more, c.requires.within);
    }

pub step-requires-clause-can : goal.step-requires-clause-can
step-requires-clause-can g c =
    let some = some_at c.args.cover.now.kept.entries c.args.place c.requires.within in
    let own = g.G.RunGraph.path c.in_ok-other.other in
    (c.in-Some.ensures.some own (subst (λ run. g.G.RunGraph.IsAt c.args.graph.now run own)
    (sym c.loop-context.invariant.same) (c.requires.at.all some.0 some.1 own
    (c.in_ok-other.ensures.at.image some.0 (still_at c.args.cover.now.kept.entries
    c.loop-context.cover.kept.entries c.args.place some.0 c.loop-context.invariant.grows
    some.1))))).can

pub keep-requires-clause-proper : goal.keep-requires-clause-proper
keep-requires-clause-proper g c =
    let some = some_at c.args.cover.now.kept.entries c.args.place c.requires.within in
    let own = g.G.RunGraph.path c.in_ok-other.other in
    subst (IsProper (g.G.RunGraph.price c.args.graph.now) []) (sym c.in_ok-step.ensures.path)
    (proper_push (g.G.RunGraph.price c.args.graph.now) [] own c.in-Some.context
    c.in_ok-other.ensures.at.proper
    (c.in-Some.ensures.some own (subst (λ run. g.G.RunGraph.IsAt c.args.graph.now run own)
    (sym c.loop-context.invariant.same) (c.requires.at.all some.0 some.1 own
    (c.in_ok-other.ensures.at.image some.0 (still_at c.args.cover.now.kept.entries
    c.loop-context.cover.kept.entries c.args.place some.0 c.loop-context.invariant.grows
    some.1))))).can)

-- the step is one more
pub keep-requires-clause-near : goal.keep-requires-clause-near
keep-requires-clause-near g c =
    let some = some_at c.args.cover.now.kept.entries c.args.place c.requires.within in
    let own = g.G.RunGraph.path c.in_ok-other.other in
    let old = c.loop-context.cover.kept.entries in
    let still = still_at c.args.cover.now.kept.entries old c.args.place some.0
    c.loop-context.invariant.grows some.1 in
    let one = c.requires.at.count some.0 some.1 in
    let other = c.in_ok-other.ensures.at.count some.0 still in
    let long = ap length c.in_ok-step.ensures.path
    ∙ length-append own (c.in-Some.context ∷ []) in
    near_further (g.G.RunGraph.price c.args.graph.now) (g.G.RunGraph.IsImage c.args.graph.now)
    g.G.RunGraph.Makes g.G.RunGraph.steps old (length (g.G.RunGraph.path c.args.run.now) + 1)
    (length (g.G.RunGraph.path c.step.new.run)) (omega (arith, one, other, long))
    c.loop-context.invariant.near

pub loop-context-preserved : goal.loop-context-preserved
loop-context-preserved g c =
    let price = g.G.RunGraph.price c.args.graph.now in
    let IsImage = g.G.RunGraph.IsImage c.args.graph.now in
    let IsAt = g.G.RunGraph.IsAt c.args.graph.now in
    let Makes = g.G.RunGraph.Makes in
    let count = g.G.RunGraph.steps in
    let start = c.args.cover.now.kept.entries in
    let old = c.loop-context.cover.kept.entries in
    let new = c.keep.new.kept.entries in
    let back = sym c.loop-context.invariant.same in
    let next : (path : List ℕ) → IsAt c.args.run.now path
    → IsNextAbove price path c.loop-context.after c.in-Some.context =
    λ path at. c.in-Some.ensures.some path (subst (λ run. IsAt run path) back at) in
    let own = g.G.RunGraph.path c.args.run.now in
    let some = some_at start c.args.place c.requires.within in
    let still = still_at start old c.args.place some.0 c.loop-context.invariant.grows some.1 in
    let one_is = c.requires.at.count some.0 some.1 in
    let other_is = c.in_ok-other.ensures.at.count some.0 still in
    let long = ap length c.in_ok-step.ensures.path
    ∙ length-append (g.G.RunGraph.path c.in_ok-other.other) (c.in-Some.context ∷ []) in
    record {
      same = c.next.ensures.same ∙ c.loop-context.invariant.same;
      kept = c.keep.ensures.kept;
      near = near_further price IsImage Makes count new
          (length (g.G.RunGraph.path c.step.new.run)) (length own + 1)
          (omega (arith, one_is, other_is, long)) c.keep.ensures.near;
      grows = grows_twice start old new c.loop-context.invariant.grows c.keep.ensures.grows;
      most = c.loop-context.invariant.most;
      endings = c.loop-context.invariant.endings;
      steps = omega (arith, c.loop-context.invariant.steps, (next own c.requires.at.here).above);
      ways = λ one is path image.
          let before = c.loop-context.invariant.ways one is path image in
          let more = count_next price path c.loop-context.after c.in-Some.context
          (next path (c.requires.at.all one is path image)) in
          omega (arith, before, more);
      few = search rules;
      followed = λ one is.
          let here = still_at start old c.args.place one c.loop-context.invariant.grows is in
          let counted = c.in_ok-other.ensures.at.count one here in
          one_followed price IsImage Makes count old new one c.loop-context.after
          c.in-Some.context c.keep.ensures.grows
          (λ path image. next path (c.requires.at.all one is path image))
          (c.loop-context.invariant.followed one is)
          (λ path image. known_further price IsImage Makes count new
          (length (g.G.RunGraph.path c.step.new.run)) (count one.1 + 1)
          (path ++ c.in-Some.context ∷ []) (omega (arith, counted, long))
          (c.in_ok-keep.ensures.known (path ++ c.in-Some.context ∷ [])
          (c.in_ok-step.ensures.at path (c.in_ok-other.ensures.at.all one here path image))));
    }

pub returns-clause-followed : goal.returns-clause-followed
returns-clause-followed g c one is =
    let start = c.args.cover.now.kept.entries in
    let now = c.loop-context.cover.kept.entries in
    let was = was_at start now c.args.place one c.loop-context.invariant.grows
    c.requires.within is in
    all_followed (g.G.RunGraph.price c.args.graph.now) (g.G.RunGraph.IsImage c.args.graph.now)
    g.G.RunGraph.Makes g.G.RunGraph.steps now one c.loop-context.after
    (λ path image. c.in_default.ensures.none path
    (subst (λ run. g.G.RunGraph.IsAt c.args.graph.now run path)
    (sym c.loop-context.invariant.same) (c.requires.at.all one was path image)))
    (c.loop-context.invariant.followed one was)

pub returns-clause-steps : goal.returns-clause-steps
returns-clause-steps g c =
    omega (arith, c.loop-context.invariant.steps, c.loop-context.invariant.few)

pub returns-clause-ways : goal.returns-clause-ways
returns-clause-ways g c =
    let start = c.args.cover.now.kept.entries in
    let some = some_at start c.args.place c.requires.within in
    let own = g.G.RunGraph.path c.args.run.now in
    let image = c.requires.at.image some.0 some.1 in (
      count_to (g.G.RunGraph.price c.args.graph.now) own c.loop-context.after,
      c.loop-context.invariant.ways some.0 some.1 own image,
      record {
        one = some.0;
        at = some.1;
        path = own;
        image = image;
        has = record {
          last = c.loop-context.after;
          none = c.in_default.ensures.none own
              (subst (λ run. g.G.RunGraph.IsAt c.args.graph.now run own)
              (sym c.loop-context.invariant.same) c.requires.at.here);
          count = refl;
        };
      },
    )
