use Rattle.std.proofs.Common.{arith, ◌≡◌, ℕ, List, ap}
use Rattle.std.specs.Prelude.{slice_index}
use Rattle.ps_core_laws.proofs.Cycles.{grants}
use Rattle.ps_table.proofs.Facts.{few_logged, knows}
use Rattle.ps_table.proofs.mirror.Mirror.left.Goals as goal

pub overflow_add-free : goal.overflow_add-free
overflow_add-free c =
    let v = c.args.seat.now.me.0.vm in
    let below = rw c.index.ensures.is at c.index.ensures.within in
    let few = few_logged v c.requires.runs c.args.slot below in
    let low = few.0 in let high = few.1 in
    let head : slice_index c.args.self.now.heads c.args.slot ≡ slice_index v.heads c.args.slot =
    ap (λ (hs : List ℕ). slice_index hs c.args.slot) c.requires.mirrors.heads_are in
    rw c.index.ensures.is (omega arith)

pub returns : goal.returns
returns c =
    let s = c.requires in
    let v = c.args.seat.now.me.0.vm in
    let below = rw c.index.ensures.is at c.index.ensures.within in
    let all = (grants v (knows v s.runs) c.args.slot below s.open).left s.shut in
    let logged = s.mirrors.logged_is c.args.slot below in
    let head : slice_index c.args.self.now.heads c.args.slot ≡ slice_index v.heads c.args.slot =
    ap (λ (hs : List ℕ). slice_index hs c.args.slot) s.mirrors.heads_are in
    let free : slice_index c.args.self.now.heads c.index.result
    ≡ slice_index c.args.self.now.heads c.args.slot =
    ap (λ n. slice_index c.args.self.now.heads n) c.index.ensures.is in
    let taken : slice_index c.args.self.now.logged c.index-2.result
    ≡ slice_index c.args.self.now.logged c.args.slot =
    ap (λ n. slice_index c.args.self.now.logged n) c.index-2.ensures.is in
    omega arith
