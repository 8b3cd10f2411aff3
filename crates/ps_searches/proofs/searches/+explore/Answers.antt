use Rattle.std.proofs.Common.{◌≡◌, ◌-◌, ◌<◌, ◌≤◌, ◌++◌, ◌∷◌, [], ℕ, Some, List, ap, arith, rules, subst, sym, ◌∙◌, refl}
use Rattle.std.proofs.lemmas.Result.{on_ok_weaker}
use Rattle.ps_searches.specs.declared.found.Bounds.{Bounds}
use Rattle.ps_searches.specs.Searches.{AllTold, IsNextAbove, IsNoneAbove, MayGoOn}
use Rattle.ps_searches.proofs.Covering.{one_more, told_here, told_over, told_step, told_used_up}
use Rattle.ps_searches.proofs.Paths.{none_some, on_way_freely, on_way_further, on_way_same}
use Rattle.ps_searches.proofs.searches.+explore.Goals as goal

pub explore-returns-in_default-clause-all : goal.explore-returns-in_default-clause-all
explore-returns-in_default-clause-all g t c =
    c.loop-rest.invariant.rest c.loop-rest.search.endings.entries (λ schedule among. among)
    (told_over (g.T.RunTree.price c.args.tree.now) (g.T.RunTree.Ends c.args.tree.now)
    c.loop-rest.rest.steps c.loop-rest.rest.price (g.T.RunTree.path c.loop-rest.run)
    c.loop-rest.search.endings.entries c.in_default.ensures.over
    (omega (arith, c.if-rest-eq0.false, c.loop-rest.invariant.toll)))

-- no context has the number 0
pub explore-loop-context-init : goal.explore-loop-context-init
explore-loop-context-init g t c =
    let here = g.T.RunTree.path c.first.new.run in
    record {
      of = c.first.ensures.of;
      path = refl;
      told = c.loop-rest.invariant.told;
      runs = c.loop-rest.invariant.runs;
      more = omega arith;
      bounds = refl;
      at = refl;
      keeps = λ schedule among. among;
      others = λ context one below other costs fits.
          let zero : context ≡ 0 = omega (arith, below) in
          absurd (none_some (sym (ap (g.T.RunTree.price c.args.tree.now here) zero
          ∙ g.met.T.RunTree.from_one c.args.tree.now here) ∙ costs));
    }

pub explore-loop-context-preserved : goal.explore-loop-context-preserved
explore-loop-context-preserved g t c =
    let price = g.T.RunTree.price c.args.tree.now in
    let Ends = g.T.RunTree.Ends c.args.tree.now in
    let here = g.T.RunTree.path c.first.new.run in
    let same : g.T.RunTree.path c.next.new.run ≡ here =
    c.next.ensures.path ∙ c.loop-context.invariant.path in
    let on = c.explore_other.ensures.on in
    record {
      of = c.explore_other.ensures.of;
      path = c.explore_other.ensures.path ∙ same;
      told = on.told;
      runs = on.runs;
      more = let before = c.loop-context.invariant.more in omega (arith, on.more, before);
      bounds = on.bounds ∙ c.loop-context.invariant.bounds;
      at = on.same ∙ c.loop-context.invariant.at;
      keeps = λ schedule among. on.keeps schedule
          (c.loop-context.invariant.keeps schedule among);
      others = one_more price Ends (c.loop-rest.rest.steps - 1) c.loop-rest.rest.price here
          c.loop-context.search.endings.entries c.explore_other.new.search.endings.entries
          c.loop-context.after c.in-Some-next.context c.in-Some.first
          (subst (λ (p : List ℕ). IsNextAbove price p c.loop-context.after
          c.in-Some-next.context) c.loop-context.invariant.path c.in-Some-next.ensures.some)
          on.keeps c.loop-context.invariant.others
          (λ differs. subst (λ (p : List ℕ). (one : ℕ) → price p c.in-Some-next.context ≡ Some one
          → one ≤ c.loop-rest.rest.price → AllTold price Ends (c.loop-rest.rest.steps - 1)
          (c.loop-rest.rest.price - one) (p ++ c.in-Some-next.context ∷ [])
          c.explore_other.new.search.endings.entries) same c.in_ok-explore_other.ensures.all);
    }

pub explore-loop-rest-preserved : goal.explore-loop-rest-preserved
explore-loop-rest-preserved g t c =
    let price = g.T.RunTree.price c.args.tree.now in
    let Ends = g.T.RunTree.Ends c.args.tree.now in
    let start = g.T.RunTree.path c.loop-rest.run in
    let here = g.T.RunTree.path c.first.new.run in
    let some : 0 < c.loop-rest.rest.steps = omega (arith, c.loop-rest-test.true) in
    let next : g.T.RunTree.path c.step.new.run ≡ here ++ c.in-Some.first ∷ [] =
    c.in_ok-step.ensures.path ∙ ap (λ (p : List ℕ). p ++ c.in-Some.first ∷ [])
    (c.next.ensures.path ∙ c.loop-context.invariant.path) in
    let free : price here c.in-Some.first ≡ Some 0 =
    subst (λ (p : List ℕ). price p c.in-Some.first ≡ Some 0) (sym c.first.ensures.path)
    c.in-Some.ensures.free.free in
    record {
      within = omega (arith, c.loop-rest.invariant.within);
      toll = c.loop-rest.invariant.toll;
      of = c.in_ok-step.ensures.of;
      way = on_way_freely price _ _ c.loop-rest.rest.steps c.loop-rest.rest.price here
          (g.T.RunTree.path c.step.new.run) c.in-Some.first
          (on_way_same price _ _ _ _ c.loop-rest.rest.steps c.loop-rest.rest.price start here
          (ap (λ (b : Bounds). b.steps) (sym c.loop-context.invariant.bounds))
          (sym c.loop-context.invariant.at) (sym c.first.ensures.path)
          c.loop-rest.invariant.way) free some next;
      told = c.loop-context.invariant.told;
      runs = c.loop-context.invariant.runs;
      more = omega (arith, c.loop-rest.invariant.more, c.loop-context.invariant.more);
      bounds = c.loop-context.invariant.bounds ∙ c.loop-rest.invariant.bounds;
      at = c.loop-context.invariant.at ∙ c.loop-rest.invariant.at;
      keeps = λ schedule among. c.loop-context.invariant.keeps schedule
          (c.loop-rest.invariant.keeps schedule among);
      rest = λ final keeps all. c.loop-rest.invariant.rest final
          (λ schedule among. keeps schedule (c.loop-context.invariant.keeps schedule among))
          (subst (λ (p : List ℕ). AllTold price Ends c.loop-rest.rest.steps
          c.loop-rest.rest.price p final) c.first.ensures.path
          (told_step price Ends c.loop-rest.rest.steps c.loop-rest.rest.price here
          (g.T.RunTree.path c.step.new.run) c.loop-context.search.endings.entries final
          c.in-Some.first c.loop-context.after
          (omega (arith, c.if-rest-eq0.false, c.loop-rest.invariant.toll)) free
          (subst (λ (p : List ℕ). IsNoneAbove price p c.loop-context.after)
          c.loop-context.invariant.path c.in_default-next.ensures.none)
          c.loop-context.invariant.others keeps next all));
    }

pub explore-returns-clause-all : goal.explore-returns-clause-all
explore-returns-clause-all g t c =
    c.loop-rest.invariant.rest c.loop-rest.search.endings.entries (λ schedule among. among)
    (told_used_up (g.T.RunTree.price c.args.tree.now) (g.T.RunTree.Ends c.args.tree.now)
    c.loop-rest.rest.steps c.loop-rest.rest.price (g.T.RunTree.path c.loop-rest.run)
    c.loop-rest.search.endings.entries (omega (arith, c.loop-rest-test.false))
    (omega (arith, c.if-rest-eq0.false, c.loop-rest.invariant.toll)))

pub explore_other-explore-requires : goal.explore_other-explore-requires
explore_other-explore-requires g t c κs within =
    let may : MayGoOn (g.T.RunTree.price c.args.tree.now) (g.T.RunTree.Ends c.args.tree.now)
    g.T.RunTree.Makes c.args.search.now (g.T.RunTree.path c.step.new.run)
    (c.args.rest.steps - 1) (c.args.rest.price - c.price-one.result) = record {
      way = on_way_further (g.T.RunTree.price c.args.tree.now) _ _ c.args.rest.steps
          c.args.rest.price (g.T.RunTree.path c.args.run.now) (g.T.RunTree.path c.step.new.run)
          c.args.context c.price-one.result c.requires.may.way c.price-one.ensures.price
          (omega (arith, c.if-one-rest.false)) c.requires.some
          (c.in_ok-step.ensures.path ∙ ap (λ (p : List ℕ). p ++ c.args.context ∷ [])
          (c.in_ok-other.ensures.path ∙ c.price-one.ensures.path));
      told = c.requires.may.told;
      runs = c.requires.may.runs;
    } in
    search rules

pub explore_other-returns-clause-all : goal.explore_other-returns-clause-all
explore_other-returns-clause-all g t c =
    on_ok_weaker c.explore.result
    (λ all one here fits. told_here (g.T.RunTree.price c.args.tree.now)
    (g.T.RunTree.Ends c.args.tree.now) (c.args.rest.steps - 1) c.args.rest.price
    (g.T.RunTree.path c.args.run.now) (g.T.RunTree.path c.step.new.run)
    c.explore.new.search.endings.entries c.args.context c.price-one.result one
    (c.in_ok-step.ensures.path ∙ ap (λ (p : List ℕ). p ++ c.args.context ∷ [])
    (c.in_ok-other.ensures.path ∙ c.price-one.ensures.path))
    c.price-one.ensures.price all here) c.explore.ensures.all
