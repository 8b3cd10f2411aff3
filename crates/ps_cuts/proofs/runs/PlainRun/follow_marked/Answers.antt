-- Some steps more, of which the first alone may be a cut.
use Rattle.std.proofs.Common.{◌≡◌, ◌-◌, ◌+◌, ◌++◌, List, ℕ, ap, append-nil, append_assoc, arith, length, length-append, refl, subst, sym, true, ◌∙◌}
use Rattle.std.specs.Prelude.{replicate}
use Rattle.std.proofs.lemmas.List.{length-replicate, replicate-append-replicate}
use Rattle.ps_language.specs.Schedules.{Move, moves, plain_move}
use Rattle.ps_language.specs.World.{World}
use Rattle.ps_language.specs.Worlds.{after_moves, all_ready, starting_world}
use Rattle.ps_ctx.specs.Steps.{AllFrom}
use Rattle.ps_vault.specs.Order.{IsNoEnd, Tells}
use Rattle.ps_vault.specs.Stories.{world_at}
use Rattle.ps_views.specs.declared.cuts.CutAt.{CutAt}
use Rattle.ps_cuts.specs.Cuts.{cut_at, cuts_at, due}
use Rattle.ps_cuts.proofs.Marking.{cuts_none, more_cuts}
use Rattle.ps_cuts.proofs.Standing.{ready_behind, ready_front, world_is, world_more}
use Rattle.ps_cuts.proofs.runs.PlainRun.follow_marked.Goals as goal

pub loop-left-init : goal.loop-left-init
loop-left-init g c =
    let steps = c.args.steps in
    let move = plain_move c.args.context in
    let made = moves c.args.self.now.vault.schedule in
    let start = starting_world c.args.self.now.vault.program in
    let none : steps - steps ≡ 0 = omega arith in
    record {
      within = omega arith;
      program = refl;
      made = c.requires.made;
      steps = sym (append-nil made)
          ∙ ap (λ (k : ℕ). made ++ replicate k move) (sym none);
      ready = c.requires.ready;
      here = c.requires.counted;
      counted = refl;
      cuts = sym (append-nil c.args.marks.now.cuts.items)
          ∙ ap (λ (cuts : List CutAt). c.args.marks.now.cuts.items ++ cuts)
          (sym (cuts_none start made)
          ∙ ap (λ (k : ℕ). cuts_at start made (replicate k move)) (sym none));
    }

pub loop-left-preserved : goal.loop-left-preserved
loop-left-preserved g c =
    let n = c.in_ok-made.made in
    let left = c.loop-left.left in
    let before = c.args.steps - left in
    let move = plain_move c.args.context in
    let story = c.loop-left.self.vault in
    let new = c.make.new.self.vault in
    let from = moves c.args.self.now.vault.schedule in
    let start = starting_world c.args.self.now.vault.program in
    let found = c.args.marks.now.cuts.items in
    let most = c.in_ok-made.ensures.most in
    let some = c.in_ok-made.ensures.some in
    let within = c.loop-left.invariant.within in
    let counted = c.loop-left.invariant.counted in
    let all : n + (left - n) ≡ left = omega (arith, most) in
    let made : before + n ≡ c.args.steps - (left - n) = omega (arith, most, within) in
    let kept : new.program ≡ story.program =
    c.in_ok-made.ensures.program ∙ ap (λ run. run.vault.program) c.mark.ensures.same in
    let steps : moves new.schedule ≡ moves story.schedule ++ replicate n move =
    c.in_ok-made.ensures.steps
    ∙ ap (λ run. moves run.vault.schedule ++ replicate n move) c.mark.ensures.same in
    let ready : all_ready (world_at story) (replicate n move ++ replicate (left - n) move) ≡ true =
    ap (all_ready (world_at story))
    (replicate-append-replicate n (left - n) move ∙ ap (λ (k : ℕ). replicate k move) all)
    ∙ c.loop-left.invariant.ready in
    let at : List CutAt = cut_at c.loop-left.marks.steps
    (due (starting_world story.program) (moves story.schedule)) c.args.context in
    let marked : c.mark.new.marks.cuts.items ≡ c.loop-left.marks.cuts.items ++ at =
    c.in_ok-mark.ensures.cuts in
    let same : start ≡ starting_world story.program =
    ap starting_world (sym c.loop-left.invariant.program) in
    let world : world_at story ≡ after_moves start (moves story.schedule) =
    world_is story ∙ ap (λ (w : World). after_moves w (moves story.schedule)) (sym same) in
    let tells : AllFrom (Tells IsNoEnd) (world_at story) (replicate (n - 1) move) =
    subst (λ run. AllFrom (Tells IsNoEnd) (world_at run.vault) (replicate (n - 1) move))
    c.mark.ensures.same c.in_ok-made.ensures.keeps in
    let here : at ≡ cut_at (length (moves story.schedule)) (due start (moves story.schedule))
    c.args.context =
    ap (λ (k : ℕ). cut_at k (due (starting_world story.program) (moves story.schedule))
    c.args.context) c.loop-left.invariant.here
    ∙ ap (λ (w : World). cut_at (length (moves story.schedule)) (due w (moves story.schedule))
    c.args.context) (sym same) in
    let more : cuts_at start from (replicate before move)
    ++ cut_at (length (moves story.schedule)) (due start (moves story.schedule)) c.args.context
    ≡ cuts_at start from (replicate (before + n) move) =
    more_cuts start c.args.context before n from (moves story.schedule) some
    c.loop-left.invariant.steps
    (ap (λ (w : World). all_ready w (replicate n move)) (sym world)
    ∙ ready_front (world_at story) (replicate n move) (replicate (left - n) move) ready)
    (subst (λ (w : World). AllFrom (Tells IsNoEnd) w (replicate (n - 1) move)) world tells) in
    let long = length-append (moves story.schedule) (replicate n move) in
    let many = length-replicate n move in
    let size = ap {B = ℕ} length steps in
    let here_before = c.loop-left.invariant.here in
    let marks_kept : c.mark.new.marks.steps ≡ c.loop-left.marks.steps = c.mark.ensures.steps in
    let count : c.from.result ≡ n = c.from.ensures in
    record {
      within = omega (arith, within);
      program = kept ∙ c.loop-left.invariant.program;
      made = c.in_ok-made.ensures.made;
      steps = steps
          ∙ (ap (λ (ms : List Move). ms ++ replicate n move) c.loop-left.invariant.steps
          ∙ (append_assoc from (replicate before move) (replicate n move)
          ∙ ap (λ (ms : List Move). from ++ ms)
          (replicate-append-replicate before n move ∙ ap (λ (k : ℕ). replicate k move) made)));
      ready = ap (λ (w : World). all_ready w (replicate (left - n) move))
          (world_more story new (replicate n move) kept steps)
          ∙ ready_behind (world_at story) (replicate n move) (replicate (left - n) move) ready;
      here = omega (arith, long, many, size, here_before, marks_kept, count);
      counted = omega (arith, counted, marks_kept, count, most);
      cuts = marked ∙ (ap (λ (cuts : List CutAt). cuts ++ at) c.loop-left.invariant.cuts
          ∙ (append_assoc found (cuts_at start from (replicate before move)) at
          ∙ ap (λ (cuts : List CutAt). found ++ cuts)
          (ap (λ (cuts : List CutAt). cuts_at start from (replicate before move) ++ cuts) here
          ∙ (more ∙ ap (λ (k : ℕ). cuts_at start from (replicate k move)) made))));
    }
