use Rattle.std.proofs.Common.{arith, ◌≡◌, ℕ, List, ap}
use Rattle.std.specs.Prelude.{slice_index}
use Rattle.ps_table.proofs.Facts.{few_logged}
use Rattle.ps_table.proofs.mirror.Mirror.is_full.Goals as goal

pub overflow_add-result : goal.overflow_add-result
overflow_add-result c =
    let v = c.args.seat.now.me.0.vm in
    let below = rw c.index.ensures.is at c.index.ensures.within in
    let few = few_logged v c.requires.runs c.args.slot below in
    let low = few.0 in let high = few.1 in
    let head : slice_index c.args.self.now.heads c.args.slot ≡ slice_index v.heads c.args.slot =
    ap (λ (hs : List ℕ). slice_index hs c.args.slot) c.requires.mirrors.heads_are in
    rw c.index-2.ensures.is (omega arith)
