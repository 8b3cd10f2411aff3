use Rattle.std.proofs.Common.{◌≡◌, ◌-◌, ◌++◌, [], inr, List, ℕ, ap, append-nil, append_assoc, arith, length-append, refl, subst, sym, ◌∙◌}
use Rattle.std.specs.Prelude.{replicate}
use Rattle.std.proofs.lemmas.List.{length-replicate}
use Rattle.ps_language.specs.Schedules.{moves, plain_move}
use Rattle.ps_language.specs.Worlds.{IsProper}
use Rattle.ps_ctx.specs.Steps.{AllFrom}
use Rattle.ps_vault.specs.Order.{IsNoEnd, Tells}
use Rattle.ps_vault.specs.Stories.{world_at}
use Rattle.ps_searches.specs.Searches.{GoesFreely, IsOver}
use Rattle.ps_cuts.specs.Cuts.{price}
use Rattle.ps_cuts.specs.Runs.{contexts_of}
use Rattle.ps_cuts.proofs.Batches.{more_contexts}
use Rattle.ps_cuts.proofs.Standing.{goes_further, over_there}
use Rattle.ps_cuts.proofs.trees.Runs.go_on.Goals as goal

pub loop-left-init : goal.loop-left-init
loop-left-init g c = record {
  same = refl;
  made = c.requires.made;
  freely = ([], sym (append-nil _), omega arith, λ proper. tt);
}

pub returns-in_default-clause-freely : goal.returns-in_default-clause-freely
returns-in_default-clause-freely g c =
    let program = c.args.self.now.task.program.now in
    let first = contexts_of c.args.run.now.vault.schedule in
    let freely = c.loop-left.invariant.freely in
    let count = freely.2 in
    subst (λ run. IsProper run.vault.program run.vault.schedule
    → GoesFreely (price program) c.args.steps first (contexts_of run.vault.schedule))
    (sym c.due.ensures.same)
    (λ proper. record {
      more = freely.0;
      is = freely.1;
      free = freely.3 proper;
      end = inr (
        omega (arith, count),
        subst (IsOver (price program)) freely.1
            (over_there program c.loop-left.run.vault
            (c.loop-left.invariant.same ∙ c.requires.same) c.loop-left.invariant.made.plain
            c.in_default.ensures.none),
      );
    })

pub loop-left-preserved : goal.loop-left-preserved
loop-left-preserved g c =
    let program = c.args.self.now.task.program.now in
    let first = contexts_of c.args.run.now.vault.schedule in
    let story = c.loop-left.run.vault in
    let new = c.make.new.self.vault in
    let n = c.in_ok-left.field-0 in
    let context = c.in-Some.context in
    let freely = c.loop-left.invariant.freely in
    let count = freely.2 in
    let most = c.in_ok-left.ensures.most in
    let size = length-append freely.0 (replicate n context) in
    let many = length-replicate n context in
    let kept : new.program ≡ story.program =
    c.in_ok-left.ensures.program ∙ ap (λ run. run.vault.program) c.due.ensures.same in
    let steps : moves new.schedule ≡ moves story.schedule ++ replicate n (plain_move context) =
    c.in_ok-left.ensures.steps
    ∙ ap (λ run. moves run.vault.schedule ++ replicate n (plain_move context))
    c.due.ensures.same in
    record {
      same = kept ∙ c.loop-left.invariant.same;
      made = c.in_ok-left.ensures.made;
      freely = (
        freely.0 ++ replicate n context,
        more_contexts story.schedule new.schedule n context steps
            ∙ (ap (λ (cs : List ℕ). cs ++ replicate n context) freely.1
            ∙ append_assoc first freely.0 (replicate n context)),
        omega (arith, count, most, size, many),
        goes_further program first freely.0 story new context n
            (c.loop-left.invariant.same ∙ c.requires.same) kept
            c.loop-left.invariant.made.plain c.in_ok-left.ensures.some
            (sym c.in-Some.is ∙ c.due.ensures.due) steps
            (subst (λ run. AllFrom (Tells IsNoEnd) (world_at run.vault)
            (replicate (n - 1) (plain_move context))) c.due.ensures.same
            c.in_ok-left.ensures.keeps) freely.1 freely.3,
      );
    }
