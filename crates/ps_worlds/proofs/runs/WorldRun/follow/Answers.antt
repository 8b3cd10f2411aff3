-- One step more.
use Rattle.std.proofs.Common.{◌≡◌, ◌-◌, ◌++◌, ◌∷◌, [], List, ℕ, suc, ap, append_assoc, arith, ◌∙◌}
use Rattle.std.specs.Prelude.{replicate}
use Rattle.ps_language.specs.Schedules.{Move, moves, plain_move}
use Rattle.ps_cuts.proofs.Batches.{one_more}
use Rattle.ps_worlds.proofs.Following.{first_ready, rest_ready}
use Rattle.ps_worlds.proofs.runs.WorldRun.follow.Goals as goal

pub make-requires-clause-ready : goal.make-requires-clause-ready
make-requires-clause-ready g c =
    first_ready _ c.loop-left.left c.args.context c.loop-left-test.true
    c.loop-left.invariant.ready

pub loop-left-preserved : goal.loop-left-preserved
loop-left-preserved g c =
    let within = c.loop-left.invariant.within in
    let some = c.loop-left-test.true in
    let move : Move = plain_move c.args.context in
    let before = c.args.steps - c.loop-left.left in
    let first = moves c.args.self.now.path.items in
    let one : c.loop-left.left ≡ suc (c.loop-left.left - 1) = omega (arith, some) in
    let next : suc before ≡ c.args.steps - (c.loop-left.left - 1) = omega (arith, within, some) in
    record {
      within = omega (arith, within);
      program = c.in_ok-make.ensures.program ∙ c.loop-left.invariant.program;
      made = c.in_ok-make.ensures.made;
      steps = c.in_ok-make.ensures.steps
          ∙ (ap (λ (ms : List Move). ms ++ move ∷ []) c.loop-left.invariant.steps
          ∙ (append_assoc first (replicate before move) (move ∷ [])
          ∙ ap (λ (ms : List Move). first ++ ms)
          (one_more before c.args.context ∙ ap (λ (k : ℕ). replicate k move) next)));
      ready = rest_ready c.loop-left.self.runtime.shared.program.now
          c.make.new.self.runtime.shared.program.now c.loop-left.self.path.items
          c.make.new.self.path.items c.args.context c.loop-left.left (c.loop-left.left - 1)
          c.in_ok-make.ensures.program c.in_ok-make.ensures.steps one
          c.loop-left.invariant.ready;
    }
