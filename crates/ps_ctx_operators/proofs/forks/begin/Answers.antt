-- So many words have room.
use Rattle.std.proofs.Common.{◌≡◌, take, length, ap, ◌∙◌, arith}
use Rattle.std.proofs.lemmas.List.{length-reverse, length-take-le}
use Rattle.ps_ctx_operators.proofs.forks.begin.Goals as goal

pub push_all-requires : goal.push_all-requires
push_all-requires c =
    let n = c.args.count in
    let operands = c.args.parent.now.operands in
    let size : length c.topmost.result.now ≡ n = ap length c.topmost.ensures
    ∙ (length-reverse (take n operands) ∙ length-take-le n operands c.requires.count) in
    let none = ap length c.requires.operands in
    let small = c.requires.small in
    (omega arith, omega (arith, size, none, small))
