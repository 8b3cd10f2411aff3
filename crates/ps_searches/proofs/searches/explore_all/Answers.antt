use Rattle.std.proofs.Common.{◌+◌, ℕ, inl, inr, arith, sym, ◌∙◌, ap, subst}
use Rattle.std.proofs.lemmas.Bool.{cases_lt}
use Rattle.ps_searches.specs.declared.found.Bounds.{Bounds}
use Rattle.ps_searches.specs.Searches.{EveryEnding}
use Rattle.ps_searches.proofs.Covering.{one_price_more}
use Rattle.ps_searches.proofs.searches.explore_all.Goals as goal

pub loop-below-preserved : goal.loop-below-preserved
loop-below-preserved g c =
    let price = g.T.RunTree.price c.args.tree.now in
    let Ends = g.T.RunTree.Ends c.args.tree.now in
    record {
      within = omega (arith, c.loop-below-test.true, c.from.ensures);
      most = c.loop-below.invariant.most;
      bounds = c.in-Ok.ensures.on.bounds ∙ c.loop-below.invariant.bounds;
      runs = c.in-Ok.ensures.on.runs;
      one = λ some.
          let more = c.in-Ok.ensures.on.more in
          elim (cases_lt 0 c.loop-below.below) [
            | inl later ↦
                let before = c.loop-below.invariant.one later in
                omega (arith, before, more)
            | inr first ↦ c.in-Ok.ensures.one (omega (arith, first))
          ];
      told = record {
        each = c.in-Ok.ensures.on.told.each;
        cheaper = subst (λ (n : ℕ). EveryEnding price Ends n (c.loop-below.below + 1)
            c.explore.new.search.endings.entries)
            (ap (λ (b : Bounds). b.steps) (sym c.in-Ok.ensures.on.bounds))
            (one_price_more price Ends c.loop-below.search.bounds.steps c.loop-below.below
            (g.T.RunTree.path c.in_ok-run.run') c.loop-below.search.endings.entries
            c.explore.new.search.endings.entries c.in_ok-run.ensures.path
            c.loop-below.invariant.told.cheaper c.in-Ok.ensures.on.keeps c.in-Ok.ensures.all);
      };
    }
