use Rattle.std.proofs.Common.{◌≤◌, ap, arith, refl, subst, sym}
use Rattle.ps_searches.specs.declared.found.Bounds.{Bounds}
use Rattle.ps_searches.specs.Searches.{IsAmongTold}
use Rattle.ps_searches.proofs.Covering.{added_told, told_entries, told_freely, told_same}
use Rattle.ps_searches.proofs.Telling.{added_count, added_is, added_keeps}
use Rattle.ps_searches.proofs.searches.tell_end.Goals as goal

pub returns-in_err-tell-clause-on : goal.returns-in_err-tell-clause-on
returns-in_err-tell-clause-on g c = record {
  told = told_same (g.T.RunTree.price c.args.tree.now) (g.T.RunTree.Ends c.args.tree.now)
      g.T.RunTree.Makes _ _ _ _ _
      (ap (λ (b : Bounds). b.steps) (sym c.tell.ensures.bounds)) (sym c.tell.ensures.price)
      (told_entries (g.T.RunTree.price c.args.tree.now) (g.T.RunTree.Ends c.args.tree.now)
      g.T.RunTree.Makes _ _ _ _ (sym c.in_err-tell.ensures.none) c.requires.may.told);
  keeps = λ schedule among. subst
      (λ told. IsAmongTold (g.T.RunTree.Ends c.args.tree.now) told schedule)
      (sym c.in_err-tell.ensures.none) among;
  runs = record {
    within = subst (λ (b : Bounds). c.tell.new.self.runs ≤ b.runs) (sym c.tell.ensures.bounds)
        (omega (arith, c.in_err-tell.ensures.no_run, c.if-search.false));
    fewer = rw c.in_err-tell.ensures.none
        (let before = c.requires.may.runs.fewer in
        omega (arith, before, c.in_err-tell.ensures.no_run));
    some = rw c.in_err-tell.ensures.none (λ some. c.requires.may.runs.some
        (omega (arith, some, c.in_err-tell.ensures.no_run)));
  };
  more = omega (arith, c.in_err-tell.ensures.no_run);
  bounds = c.tell.ensures.bounds;
  same = c.tell.ensures.price;
}

pub returns-clause-on : goal.returns-clause-on
returns-clause-on g c = record {
  told = told_same (g.T.RunTree.price c.args.tree.now) (g.T.RunTree.Ends c.args.tree.now)
      g.T.RunTree.Makes _ _ _ _ _
      (ap (λ (b : Bounds). b.steps) (sym c.tell.ensures.bounds)) (sym c.tell.ensures.price)
      (added_told (g.T.RunTree.price c.args.tree.now) (g.T.RunTree.Ends c.args.tree.now) _
      (g.met.T.RunTree.equal c.args.tree.now) g.T.RunTree.Makes _ _ c.args.left
      (g.T.RunTree.path c.args.run) _ _ _ c.requires.may.told c.in_ok-tell.ensures.endings refl
      c.requires.may.way c.in_ok-ending.ensures);
  keeps = added_keeps (g.T.RunTree.Ends c.args.tree.now) _
      (g.met.T.RunTree.equal c.args.tree.now) _ _ _ c.in_ok-tell.ensures.endings;
  runs = let count = added_count _ _ _ _ _ c.in_ok-tell.ensures.endings in record {
    within = subst (λ (b : Bounds). c.tell.new.self.runs ≤ b.runs) (sym c.tell.ensures.bounds)
        (omega (arith, c.in_ok-tell.ensures.runs, c.if-search.false));
    fewer = let before = c.requires.may.runs.fewer in
        omega (arith, before, count.0, c.in_ok-tell.ensures.runs);
    some = λ some. count.1;
  };
  more = omega (arith, c.in_ok-tell.ensures.runs);
  bounds = c.tell.ensures.bounds;
  same = c.tell.ensures.price;
}

pub returns-clause-all : goal.returns-clause-all
returns-clause-all g c =
    told_freely (g.T.RunTree.price c.args.tree.now) (g.T.RunTree.Ends c.args.tree.now) c.args.left
    (g.T.RunTree.path c.args.run) _ _ c.in_ok-ending.ensures.goes
    (added_is (g.T.RunTree.Ends c.args.tree.now) _
    (g.met.T.RunTree.equal c.args.tree.now) _ _ _ _ c.in_ok-tell.ensures.endings c.in_ok-ending.ensures.ends)
