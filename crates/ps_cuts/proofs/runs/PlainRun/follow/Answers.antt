use Rattle.std.proofs.Common.{◌≡◌, ◌-◌, ◌+◌, ◌++◌, List, ℕ, ap, append_assoc, arith, ◌∙◌}
use Rattle.std.specs.Prelude.{replicate}
use Rattle.std.proofs.lemmas.List.{replicate-append-replicate}
use Rattle.ps_language.specs.Schedules.{Move, moves, plain_move}
use Rattle.ps_language.specs.World.{World}
use Rattle.ps_language.specs.Worlds.{all_ready}
use Rattle.ps_vault.specs.Stories.{world_at}
use Rattle.ps_cuts.proofs.Standing.{ready_behind, world_more}
use Rattle.ps_cuts.proofs.runs.PlainRun.follow.Goals as goal

pub loop-left-preserved : goal.loop-left-preserved
loop-left-preserved g c =
    let n = c.in_ok-left.field-0 in
    let move = plain_move c.args.context in
    let most = c.in_ok-left.ensures.most in
    let some = c.in_ok-left.ensures.some in
    let within = c.loop-left.invariant.within in
    let left : n + (c.loop-left.left - n) ≡ c.loop-left.left = omega (arith, most) in
    let made : c.args.steps - c.loop-left.left + n ≡ c.args.steps - (c.loop-left.left - n) =
    omega (arith, most, within) in
    record {
      within = omega (arith, within);
      program = c.in_ok-left.ensures.program ∙ c.loop-left.invariant.program;
      made = c.in_ok-left.ensures.made;
      steps = c.in_ok-left.ensures.steps
          ∙ (ap (λ (ms : List Move). ms ++ replicate n move) c.loop-left.invariant.steps
          ∙ (append_assoc (moves c.args.self.now.vault.schedule)
          (replicate (c.args.steps - c.loop-left.left) move) (replicate n move)
          ∙ ap (λ (ms : List Move). moves c.args.self.now.vault.schedule ++ ms)
          (replicate-append-replicate (c.args.steps - c.loop-left.left) n move
          ∙ ap (λ (k : ℕ). replicate k move) made)));
      ready = ap (λ (w : World). all_ready w (replicate (c.loop-left.left - n) move))
          (world_more c.loop-left.self.vault c.make.new.self.vault (replicate n move)
          c.in_ok-left.ensures.program c.in_ok-left.ensures.steps)
          ∙ ready_behind (world_at c.loop-left.self.vault) (replicate n move)
          (replicate (c.loop-left.left - n) move)
          (ap (all_ready (world_at c.loop-left.self.vault))
          (replicate-append-replicate n (c.loop-left.left - n) move
          ∙ ap (λ (k : ℕ). replicate k move) left) ∙ c.loop-left.invariant.ready);
    }
