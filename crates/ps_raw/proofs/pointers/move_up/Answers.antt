use Rattle.ps_raw.proofs.Moves.{moved_up, put_between}
use Rattle.std.proofs.Common.{◌≡◌, ℕ, arith, ◌+◌, ◌-◌, take, drop, ◌∙◌, subst}
use Rattle.ps_raw.proofs.pointers.move_up.Goals as goal

pub loop-i-preserved : goal.loop-i-preserved
loop-i-preserved c =
    let old = c.args.words.now in
    let i : ℕ = c.loop-i.i - 1 in
    let left : c.loop-i.i ≡ i + 1 = omega arith in
    let so_far : c.loop-i.words
    ≡ put_between old (c.args.to + (i + 1)) (drop (i + 1) (take c.args.count (drop c.args.from old)))
    (c.args.to + c.args.count) =
    subst (λ (k : ℕ). c.loop-i.words
    ≡ put_between old (c.args.to + k) (drop k (take c.args.count (drop c.args.from old)))
    (c.args.to + c.args.count)) left c.loop-i.invariant in
    c.write_at.ensures ∙ moved_up old c.loop-i.words c.args.from c.args.to c.args.count i c.read_at-word.result
    c.requires.higher (omega arith) (omega arith) so_far c.read_at-word.ensures
