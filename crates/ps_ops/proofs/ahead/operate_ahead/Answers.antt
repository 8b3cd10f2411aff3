-- Each operator by its name and by what its own contract says.
use Rattle.std.proofs.Common.{refl}
use Rattle.ps_step_execute.specs.Values.{over_heap}
use Rattle.ps_ops.proofs.Acted.{ahead, alone, alone_over, copied_alone, marked, read}
use Rattle.ps_ops.proofs.ahead.operate_ahead.Goals as goal

pub returns-in-Pop-clause-acts : goal.returns-in-Pop-clause-acts
returns-in-Pop-clause-acts g c =
    alone _ _ _ (g.M.Memory.heap c.args.memory.now) c.in-Pop.is refl refl c.is_ok.ensures.value c.of.ensures c.pop.ensures.row c.pop.ensures.kept

pub returns-in-Exch-clause-acts : goal.returns-in-Exch-clause-acts
returns-in-Exch-clause-acts g c =
    alone _ _ _ (g.M.Memory.heap c.args.memory.now) c.in-Exch.is refl refl c.is_ok-in-Exch.ensures.value c.of-in-Exch.ensures c.exch.ensures.row
    c.exch.ensures.kept

pub returns-in-Dup-clause-acts : goal.returns-in-Dup-clause-acts
returns-in-Dup-clause-acts g c =
    alone _ _ _ (g.M.Memory.heap c.args.memory.now) c.in-Dup.is refl refl c.is_ok-in-Dup.ensures.value c.of-in-Dup.ensures c.dup.ensures.row
    c.dup.ensures.kept

pub returns-in-Copy-clause-acts : goal.returns-in-Copy-clause-acts
returns-in-Copy-clause-acts g c = copied_alone _ _ (g.M.Memory.heap c.args.memory.now) _ _ _ c.in-Copy.is c.of-in-Copy.ensures c.copy_quickly.ensures

pub returns-in-Index-clause-acts : goal.returns-in-Index-clause-acts
returns-in-Index-clause-acts g c =
    alone _ _ _ (g.M.Memory.heap c.args.memory.now) c.in-Index.is refl refl c.is_ok-in-Index.ensures.value c.of-in-Index.ensures c.index.ensures.row
    c.index.ensures.kept

pub returns-in-Roll-clause-acts : goal.returns-in-Roll-clause-acts
returns-in-Roll-clause-acts g c =
    alone _ _ _ (g.M.Memory.heap c.args.memory.now) c.in-Roll.is refl refl c.is_ok-in-Roll.ensures.value c.of-in-Roll.ensures c.roll.ensures.row
    c.roll.ensures.kept

pub returns-in-Clear-clause-acts : goal.returns-in-Clear-clause-acts
returns-in-Clear-clause-acts g c =
    alone _ _ _ (g.M.Memory.heap c.args.memory.now) c.in-Clear.is refl refl c.is_ok-in-Clear.ensures.value c.of-in-Clear.ensures c.clear.ensures.row
    c.clear.ensures.kept

pub returns-in-Count-clause-acts : goal.returns-in-Count-clause-acts
returns-in-Count-clause-acts g c =
    alone _ _ _ (g.M.Memory.heap c.args.memory.now) c.in-Count.is refl refl c.is_ok-in-Count.ensures.value c.of-in-Count.ensures c.count.ensures.row
    c.count.ensures.kept

pub returns-in-ClearToMark-clause-acts : goal.returns-in-ClearToMark-clause-acts
returns-in-ClearToMark-clause-acts g c =
    alone _ _ _ (g.M.Memory.heap c.args.memory.now) c.in-ClearToMark.is refl refl c.is_ok-in-ClearToMark.ensures.value c.of-in-ClearToMark.ensures
    c.cleartomark.ensures.row c.cleartomark.ensures.kept

pub returns-in-CountToMark-clause-acts : goal.returns-in-CountToMark-clause-acts
returns-in-CountToMark-clause-acts g c =
    alone _ _ _ (g.M.Memory.heap c.args.memory.now) c.in-CountToMark.is refl refl c.is_ok-in-CountToMark.ensures.value c.of-in-CountToMark.ensures
    c.counttomark.ensures.row c.counttomark.ensures.kept

pub returns-in-Add-clause-acts : goal.returns-in-Add-clause-acts
returns-in-Add-clause-acts g c =
    alone _ _ _ (g.M.Memory.heap c.args.memory.now) c.in-Add.is refl refl c.is_ok-in-Add.ensures.value c.of-in-Add.ensures c.add.ensures.row
    c.add.ensures.kept

pub returns-in-Sub-clause-acts : goal.returns-in-Sub-clause-acts
returns-in-Sub-clause-acts g c =
    alone _ _ _ (g.M.Memory.heap c.args.memory.now) c.in-Sub.is refl refl c.is_ok-in-Sub.ensures.value c.of-in-Sub.ensures c.sub.ensures.row
    c.sub.ensures.kept

pub returns-in-Mul-clause-acts : goal.returns-in-Mul-clause-acts
returns-in-Mul-clause-acts g c =
    alone _ _ _ (g.M.Memory.heap c.args.memory.now) c.in-Mul.is refl refl c.is_ok-in-Mul.ensures.value c.of-in-Mul.ensures c.mul.ensures.row
    c.mul.ensures.kept

pub returns-in-Idiv-clause-acts : goal.returns-in-Idiv-clause-acts
returns-in-Idiv-clause-acts g c =
    alone _ _ _ (g.M.Memory.heap c.args.memory.now) c.in-Idiv.is refl refl c.is_ok-in-Idiv.ensures.value c.of-in-Idiv.ensures c.idiv.ensures.row
    c.idiv.ensures.kept

pub returns-in-Mod-clause-acts : goal.returns-in-Mod-clause-acts
returns-in-Mod-clause-acts g c =
    alone _ _ _ (g.M.Memory.heap c.args.memory.now) c.in-Mod.is refl refl c.is_ok-in-Mod.ensures.value c.of-in-Mod.ensures c.modulo.ensures.row
    c.modulo.ensures.kept

pub returns-in-Neg-clause-acts : goal.returns-in-Neg-clause-acts
returns-in-Neg-clause-acts g c =
    alone _ _ _ (g.M.Memory.heap c.args.memory.now) c.in-Neg.is refl refl c.is_ok-in-Neg.ensures.value c.of-in-Neg.ensures c.neg.ensures.row
    c.neg.ensures.kept

pub returns-in-Abs-clause-acts : goal.returns-in-Abs-clause-acts
returns-in-Abs-clause-acts g c =
    alone _ _ _ (g.M.Memory.heap c.args.memory.now) c.in-Abs.is refl refl c.is_ok-in-Abs.ensures.value c.of-in-Abs.ensures c.abs.ensures.row
    c.abs.ensures.kept

pub returns-in-Eq-clause-acts : goal.returns-in-Eq-clause-acts
returns-in-Eq-clause-acts g c =
    alone_over (g.M.Memory.heap c.args.memory.now) _ _ _ c.in-Eq.is refl refl c.of-in-Eq.ensures c.equality_quickly.ensures.done
    c.equality_quickly.ensures.same
    c.equality_quickly.ensures.kept

pub returns-in-Ne-clause-acts : goal.returns-in-Ne-clause-acts
returns-in-Ne-clause-acts g c =
    alone_over (g.M.Memory.heap c.args.memory.now) _ _ _ c.in-Ne.is refl refl c.of-in-Ne.ensures c.equality_quickly-in-Ne.ensures.done
    c.equality_quickly-in-Ne.ensures.same
    c.equality_quickly-in-Ne.ensures.kept

pub returns-in-Gt-clause-acts : goal.returns-in-Gt-clause-acts
returns-in-Gt-clause-acts g c =
    alone_over (g.M.Memory.heap c.args.memory.now) _ _ _ c.in-Gt.is refl refl c.of-in-Gt.ensures c.order_quickly.ensures.done c.order_quickly.ensures.same
    c.order_quickly.ensures.kept

pub returns-in-Ge-clause-acts : goal.returns-in-Ge-clause-acts
returns-in-Ge-clause-acts g c =
    alone_over (g.M.Memory.heap c.args.memory.now) _ _ _ c.in-Ge.is refl refl c.of-in-Ge.ensures c.order_quickly-in-Ge.ensures.done
    c.order_quickly-in-Ge.ensures.same
    c.order_quickly-in-Ge.ensures.kept

pub returns-in-Lt-clause-acts : goal.returns-in-Lt-clause-acts
returns-in-Lt-clause-acts g c =
    alone_over (g.M.Memory.heap c.args.memory.now) _ _ _ c.in-Lt.is refl refl c.of-in-Lt.ensures c.order_quickly-in-Lt.ensures.done
    c.order_quickly-in-Lt.ensures.same
    c.order_quickly-in-Lt.ensures.kept

pub returns-in-Le-clause-acts : goal.returns-in-Le-clause-acts
returns-in-Le-clause-acts g c =
    alone_over (g.M.Memory.heap c.args.memory.now) _ _ _ c.in-Le.is refl refl c.of-in-Le.ensures c.order_quickly-in-Le.ensures.done
    c.order_quickly-in-Le.ensures.same
    c.order_quickly-in-Le.ensures.kept

pub returns-in-And-clause-acts : goal.returns-in-And-clause-acts
returns-in-And-clause-acts g c =
    alone _ _ _ (g.M.Memory.heap c.args.memory.now) c.in-And.is refl refl c.is_ok-in-And.ensures.value c.of-in-And.ensures c.and.ensures.row
    c.and.ensures.kept

pub returns-in-Or-clause-acts : goal.returns-in-Or-clause-acts
returns-in-Or-clause-acts g c =
    alone _ _ _ (g.M.Memory.heap c.args.memory.now) c.in-Or.is refl refl c.is_ok-in-Or.ensures.value c.of-in-Or.ensures c.or.ensures.row c.or.ensures.kept

pub returns-in-Xor-clause-acts : goal.returns-in-Xor-clause-acts
returns-in-Xor-clause-acts g c =
    alone _ _ _ (g.M.Memory.heap c.args.memory.now) c.in-Xor.is refl refl c.is_ok-in-Xor.ensures.value c.of-in-Xor.ensures c.xor.ensures.row
    c.xor.ensures.kept

pub returns-in-Not-clause-acts : goal.returns-in-Not-clause-acts
returns-in-Not-clause-acts g c =
    alone _ _ _ (g.M.Memory.heap c.args.memory.now) c.in-Not.is refl refl c.is_ok-in-Not.ensures.value c.of-in-Not.ensures c.not.ensures.row
    c.not.ensures.kept

pub returns-in-Bitshift-clause-acts : goal.returns-in-Bitshift-clause-acts
returns-in-Bitshift-clause-acts g c =
    alone _ _ _ (g.M.Memory.heap c.args.memory.now) c.in-Bitshift.is refl refl c.is_ok-in-Bitshift.ensures.value c.of-in-Bitshift.ensures
    c.bitshift.ensures.row c.bitshift.ensures.kept

pub returns-in-Mark-clause-acts : goal.returns-in-Mark-clause-acts
returns-in-Mark-clause-acts g c =
    marked (g.M.Memory.heap c.args.memory.now) _ _ c.in-Mark.is c.is_ok-in-Mark.ensures.value c.of-in-Mark.ensures c.mark.ensures.row
    c.mark.ensures.kept

pub returns-in-If-clause-acts : goal.returns-in-If-clause-acts
returns-in-If-clause-acts g c =
    ahead (g.M.Memory.heap c.args.memory.now) _ _ _ _ c.in-If.is refl refl c.if_ahead.ensures.operands c.if_ahead.ensures.controls

pub returns-in-IfElse-clause-acts : goal.returns-in-IfElse-clause-acts
returns-in-IfElse-clause-acts g c =
    ahead (g.M.Memory.heap c.args.memory.now) _ _ _ _ c.in-IfElse.is refl refl c.if_else_ahead.ensures.operands
    c.if_else_ahead.ensures.controls

pub returns-in-Get-clause-acts : goal.returns-in-Get-clause-acts
returns-in-Get-clause-acts g c =
    read (g.M.Memory.heap c.args.memory.now) _ _ c.in-Get.is c.of-in-Get.ensures
    c.get_ahead.ensures.acts c.get_ahead.ensures.same

pub returns-in-Length-clause-acts : goal.returns-in-Length-clause-acts
returns-in-Length-clause-acts g c =
    read (g.M.Memory.heap c.args.memory.now) _ _ c.in-Length.is c.of-in-Length.ensures
    (λ yes l. c.length_quickly.ensures.acts yes (over_heap (g.M.Memory.heap c.args.memory.now) l))
    c.length_quickly.ensures.same
