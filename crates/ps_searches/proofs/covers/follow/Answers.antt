use Rattle.std.proofs.Common.{◌≡◌, ℕ, ◌+◌, ◌≤◌, length, ap, arith, refl, subst, sym, ◌∙◌}
use Rattle.std.proofs.lemmas.Result.{on_ok_weaker}
use Rattle.ps_searches.specs.Graphs.{IsComeTo, count_to}
use Rattle.ps_searches.specs.Searches.{IsAmongTold}
use Rattle.ps_searches.proofs.Telling.{added_is, added_keeps}
use Rattle.ps_searches.proofs.Worlds.{added_ends, all_followed, least_here, near_further, none_can, none_counted, over_all, some_at, was_at}
use Rattle.ps_searches.proofs.covers.follow.Goals as goal

pub follow_each-requires-clause-near : goal.follow_each-requires-clause-near
follow_each-requires-clause-near g c =
    let some = some_at c.args.cover.now.kept.entries c.args.place c.requires.within in
    let counted = c.in_ok-run.ensures.at.count some.0 some.1 in
    let same = ap (λ run. length (g.G.RunGraph.path run)) c.next.ensures.same in
    near_further (g.G.RunGraph.price c.args.graph.now) (g.G.RunGraph.IsImage c.args.graph.now)
    g.G.RunGraph.Makes g.G.RunGraph.steps c.args.cover.now.kept.entries
    (g.G.RunGraph.steps some.0.1 + 1) (length (g.G.RunGraph.path c.next.new.run) + 1)
    (omega (arith, counted, same)) (c.requires.before.near some.0 some.1)

pub returns-in_err-add_ending-clause-keeps : goal.returns-in_err-add_ending-clause-keeps
returns-in_err-add_ending-clause-keeps g c schedule among =
    subst (λ told. IsAmongTold (g.G.RunGraph.Ends c.args.graph.now) told schedule)
    (sym c.in_err-add_ending.ensures.none) among

pub returns-in_default-clause-each : goal.returns-in_default-clause-each
returns-in_default-clause-each g c =
    let price = g.G.RunGraph.price c.args.graph.now in
    let IsImage = g.G.RunGraph.IsImage c.args.graph.now in
    let Makes = g.G.RunGraph.Makes in
    let count = g.G.RunGraph.steps in
    let Ends = g.G.RunGraph.Ends c.args.graph.now in
    let IsAt = g.G.RunGraph.IsAt c.args.graph.now in
    let kept = c.args.cover.now.kept.entries in
    let own = g.G.RunGraph.path c.next.new.run in
    let some = some_at kept c.args.place c.requires.within in
    let at = subst (λ run. IsComeTo price IsImage Makes count (IsAt run) kept c.args.place
    (g.G.RunGraph.path run)) (sym c.next.ensures.same) c.in_ok-run.ensures.at in
    added_ends price IsImage Makes count Ends g.G.Ending.PartialEq.eq _ _ _
    c.in_ok-add_ending.ensures.added c.requires.each
    (λ none. record {
      path = own;
      makes = c.in_ok-ending.ensures.makes;
      proper = at.proper;
      over = over_all price own (g.met.G.RunGraph.from_one c.args.graph.now own)
          (c.in_default.ensures.none own
          (subst (λ run. IsAt run own) c.next.ensures.same at.here));
      ends = c.in_ok-ending.ensures.ends own at.here;
      least = λ other proper over ends.
          subst (λ (n : ℕ). n ≤ length other) (sym (at.count some.0 some.1))
          (least_here price IsImage Makes count Ends g.G.Ending.PartialEq.eq
          (g.met.G.RunGraph.equal c.args.graph.now) c.args.cover.now.most kept
          c.args.cover.now.endings.entries c.args.place some.0 _ c.requires.kept
          c.requires.before some.1 none other proper over ends);
    })

pub returns-in_default-clause-keeps : goal.returns-in_default-clause-keeps
returns-in_default-clause-keeps g c =
    added_keeps (g.G.RunGraph.Ends c.args.graph.now) _ (g.met.G.RunGraph.equal c.args.graph.now)
    _ _ _ c.in_ok-add_ending.ensures.added

pub returns-in_default-clause-ways : goal.returns-in_default-clause-ways
returns-in_default-clause-ways g c =
    let price = g.G.RunGraph.price c.args.graph.now in
    let IsAt = g.G.RunGraph.IsAt c.args.graph.now in
    let kept = c.args.cover.now.kept.entries in
    let own = g.G.RunGraph.path c.next.new.run in
    let some = some_at kept c.args.place c.requires.within in
    let at = subst (λ run. IsComeTo price (g.G.RunGraph.IsImage c.args.graph.now)
    g.G.RunGraph.Makes g.G.RunGraph.steps (IsAt run) kept c.args.place
    (g.G.RunGraph.path run)) (sym c.next.ensures.same) c.in_ok-run.ensures.at in (
      count_to price own 0,
      none_counted price own c.args.cover.now.steps,
      record {
        one = some.0;
        at = some.1;
        path = own;
        image = at.image some.0 some.1;
        has = record {
          last = 0;
          none = c.in_default.ensures.none own
              (subst (λ run. IsAt run own) c.next.ensures.same at.here);
          count = refl;
        };
      },
    )

pub returns-in_default-clause-near : goal.returns-in_default-clause-near
returns-in_default-clause-near g c = c.requires.before.near

pub returns-in_default-clause-followed : goal.returns-in_default-clause-followed
returns-in_default-clause-followed g c one is =
    let price = g.G.RunGraph.price c.args.graph.now in
    all_followed price (g.G.RunGraph.IsImage c.args.graph.now) g.G.RunGraph.Makes
    g.G.RunGraph.steps c.args.cover.now.kept.entries one 0
    (λ path image. c.in_default.ensures.none path (c.in_ok-run.ensures.at.all one is path image))
    (λ path image context below can.
    let zero : context ≡ 0 = omega (arith, below) in
    absurd (none_can (price path context)
    (ap (price path) zero ∙ g.met.G.RunGraph.from_one c.args.graph.now path) can))

pub returns-in_default-clause-told : goal.returns-in_default-clause-told
returns-in_default-clause-told g c one is path image over =
    added_is (g.G.RunGraph.Ends c.args.graph.now) _ (g.met.G.RunGraph.equal c.args.graph.now)
    _ _ _ path c.in_ok-add_ending.ensures.added
    (c.in_ok-ending.ensures.ends path
    (subst (λ run. g.G.RunGraph.IsAt c.args.graph.now run path) (sym c.next.ensures.same)
    (c.in_ok-run.ensures.at.all one is path image)))

pub returns-clause-keeps : goal.returns-clause-keeps
returns-clause-keeps g c = rw c.follow_each.ensures.endings (λ schedule among. among)

pub returns-clause-near : goal.returns-clause-near
returns-clause-near g c =
    on_ok_weaker c.follow_each.result
    (λ near one is.
    let counted = c.in_ok-run.ensures.at.count one is in
    let same = ap (λ run. length (g.G.RunGraph.path run)) c.next.ensures.same in
    near_further (g.G.RunGraph.price c.args.graph.now) (g.G.RunGraph.IsImage c.args.graph.now)
    g.G.RunGraph.Makes g.G.RunGraph.steps c.follow_each.new.cover.kept.entries
    (length (g.G.RunGraph.path c.next.new.run) + 1) (g.G.RunGraph.steps one.1 + 1)
    (omega (arith, counted, same)) near) c.follow_each.ensures.near

-- a context can step there
pub returns-clause-told : goal.returns-clause-told
returns-clause-told g c =
    on_ok_weaker c.follow_each.result
    (λ followed one is path image over.
    let was = was_at c.args.cover.now.kept.entries c.follow_each.new.cover.kept.entries
    c.args.place one c.follow_each.ensures.grows c.requires.within is in
    absurd (none_can _ (over _)
    (c.in-Some.ensures.some path (c.in_ok-run.ensures.at.all one was path image)).can))
    c.follow_each.ensures.followed
