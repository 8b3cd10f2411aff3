-- Each operator by its name and by what its own contract says.
use Rattle.std.proofs.Common.{refl}
use Rattle.ps_ops_state.proofs.Asking.{array_made, end_array_made, string_made}
use Rattle.ps_ops_state.proofs.Lifts.{does_acts, operands_acts, observes_acts, controls_acts, ready, held, under_first}
use Rattle.ps_ops_state.proofs.Changing.{makes_acts}
use Rattle.ps_ops.proofs.Exiting.{exit_acts}
use Rattle.ps_ops.proofs.Named.{named}
use Rattle.ps_ops.proofs.dispatch.operate.Goals as goal

pub returns-in-Pop : goal.returns-in-Pop
returns-in-Pop g c = named c.in-Pop.is c.made.ensures
    (does_acts _ c.requires.good _ _ _ _ c.pop.ensures.row c.pop.ensures.kept)

pub returns-in-Exch : goal.returns-in-Exch
returns-in-Exch g c = named c.in-Exch.is c.made-in-Exch.ensures
    (does_acts _ c.requires.good _ _ _ _ c.exch.ensures.row c.exch.ensures.kept)

pub returns-in-Dup : goal.returns-in-Dup
returns-in-Dup g c = named c.in-Dup.is c.made-in-Dup.ensures
    (does_acts _ c.requires.good _ _ _ _ c.dup.ensures.row c.dup.ensures.kept)

pub returns-in-Index : goal.returns-in-Index
returns-in-Index g c = named c.in-Index.is c.made-in-Index.ensures
    (does_acts _ c.requires.good _ _ _ _ c.index.ensures.row c.index.ensures.kept)

pub returns-in-Roll : goal.returns-in-Roll
returns-in-Roll g c = named c.in-Roll.is c.made-in-Roll.ensures
    (does_acts _ c.requires.good _ _ _ _ c.roll.ensures.row c.roll.ensures.kept)

pub returns-in-Clear : goal.returns-in-Clear
returns-in-Clear g c = named c.in-Clear.is c.made-in-Clear.ensures
    (does_acts _ c.requires.good _ _ _ _ c.clear.ensures.row c.clear.ensures.kept)

pub returns-in-Count : goal.returns-in-Count
returns-in-Count g c = named c.in-Count.is c.made-in-Count.ensures
    (does_acts _ c.requires.good _ _ _ _ c.count.ensures.row c.count.ensures.kept)

pub returns-in-Mark : goal.returns-in-Mark
returns-in-Mark g c = named c.in-Mark.is c.made-in-Mark.ensures
    (does_acts _ c.requires.good _ _ _ _ c.mark.ensures.row c.mark.ensures.kept)

pub returns-in-ClearToMark : goal.returns-in-ClearToMark
returns-in-ClearToMark g c = named c.in-ClearToMark.is c.made-in-ClearToMark.ensures
    (does_acts _ c.requires.good _ _ _ _ c.cleartomark.ensures.row c.cleartomark.ensures.kept)

pub returns-in-CountToMark : goal.returns-in-CountToMark
returns-in-CountToMark g c = named c.in-CountToMark.is c.made-in-CountToMark.ensures
    (does_acts _ c.requires.good _ _ _ _ c.counttomark.ensures.row c.counttomark.ensures.kept)

pub returns-in-Add : goal.returns-in-Add
returns-in-Add g c = named c.in-Add.is c.made-in-Add.ensures
    (does_acts _ c.requires.good _ _ _ _ c.add.ensures.row c.add.ensures.kept)

pub returns-in-Sub : goal.returns-in-Sub
returns-in-Sub g c = named c.in-Sub.is c.made-in-Sub.ensures
    (does_acts _ c.requires.good _ _ _ _ c.sub.ensures.row c.sub.ensures.kept)

pub returns-in-Mul : goal.returns-in-Mul
returns-in-Mul g c = named c.in-Mul.is c.made-in-Mul.ensures
    (does_acts _ c.requires.good _ _ _ _ c.mul.ensures.row c.mul.ensures.kept)

pub returns-in-Idiv : goal.returns-in-Idiv
returns-in-Idiv g c = named c.in-Idiv.is c.made-in-Idiv.ensures
    (does_acts _ c.requires.good _ _ _ _ c.idiv.ensures.row c.idiv.ensures.kept)

pub returns-in-Mod : goal.returns-in-Mod
returns-in-Mod g c = named c.in-Mod.is c.made-in-Mod.ensures
    (does_acts _ c.requires.good _ _ _ _ c.modulo.ensures.row c.modulo.ensures.kept)

pub returns-in-Neg : goal.returns-in-Neg
returns-in-Neg g c = named c.in-Neg.is c.made-in-Neg.ensures
    (does_acts _ c.requires.good _ _ _ _ c.neg.ensures.row c.neg.ensures.kept)

pub returns-in-Abs : goal.returns-in-Abs
returns-in-Abs g c = named c.in-Abs.is c.made-in-Abs.ensures
    (does_acts _ c.requires.good _ _ _ _ c.abs.ensures.row c.abs.ensures.kept)

pub returns-in-And : goal.returns-in-And
returns-in-And g c = named c.in-And.is c.made-in-And.ensures
    (does_acts _ c.requires.good _ _ _ _ c.and.ensures.row c.and.ensures.kept)

pub returns-in-Or : goal.returns-in-Or
returns-in-Or g c = named c.in-Or.is c.made-in-Or.ensures
    (does_acts _ c.requires.good _ _ _ _ c.or.ensures.row c.or.ensures.kept)

pub returns-in-Xor : goal.returns-in-Xor
returns-in-Xor g c = named c.in-Xor.is c.made-in-Xor.ensures
    (does_acts _ c.requires.good _ _ _ _ c.xor.ensures.row c.xor.ensures.kept)

pub returns-in-Not : goal.returns-in-Not
returns-in-Not g c = named c.in-Not.is c.made-in-Not.ensures
    (does_acts _ c.requires.good _ _ _ _ c.not.ensures.row c.not.ensures.kept)

pub returns-in-Bitshift : goal.returns-in-Bitshift
returns-in-Bitshift g c = named c.in-Bitshift.is c.made-in-Bitshift.ensures
    (does_acts _ c.requires.good _ _ _ _ c.bitshift.ensures.row c.bitshift.ensures.kept)

pub returns-in-BeginArray : goal.returns-in-BeginArray
returns-in-BeginArray g c = named c.in-BeginArray.is c.made-in-BeginArray.ensures
    (does_acts _ c.requires.good _ _ _ _ c.mark-in-BeginArray.ensures.row
    c.mark-in-BeginArray.ensures.kept)

pub returns-in-Get : goal.returns-in-Get
returns-in-Get g c = named c.in-Get.is refl (c.get.ensures.acts _)

pub returns-in-Aload : goal.returns-in-Aload
returns-in-Aload g c = named c.in-Aload.is c.made-in-Aload.ensures
    (observes_acts _ c.requires.good _ _ _ _ _ _ c.aload.ensures.heap c.aload.ensures.grants
    c.aload.ensures.does c.aload.ensures.ready)

pub returns-in-BeginDict : goal.returns-in-BeginDict
returns-in-BeginDict g c = named c.in-BeginDict.is c.made-in-BeginDict.ensures
    (does_acts _ c.requires.good _ _ _ _ c.mark-in-BeginDict.ensures.row
    c.mark-in-BeginDict.ensures.kept)

pub returns-in-Exec : goal.returns-in-Exec
returns-in-Exec g c = named c.in-Exec.is c.made-in-Exec.ensures
    (controls_acts _ c.requires.good _ _ _ _ _
    (c.exec.ensures.controls _ _ (ready c.requires.good)) c.exec.ensures.framed)

pub returns-in-If : goal.returns-in-If
returns-in-If g c = named c.in-If.is c.made-in-If.ensures
    (controls_acts _ c.requires.good _ _ _ _ _
    (c.if_then.ensures.controls _ _ (ready c.requires.good)) c.if_then.ensures.framed)

pub returns-in-IfElse : goal.returns-in-IfElse
returns-in-IfElse g c = named c.in-IfElse.is c.made-in-IfElse.ensures
    (controls_acts _ c.requires.good _ _ _ _ _
    (c.if_then_else.ensures.controls _ _ (ready c.requires.good)) c.if_then_else.ensures.framed)

pub returns-in-For : goal.returns-in-For
returns-in-For g c = named c.in-For.is c.made-in-For.ensures
    (controls_acts _ c.requires.good _ _ _ _ _
    (c.begin_for.ensures.controls _ _ (ready c.requires.good)) c.begin_for.ensures.framed)

pub returns-in-Repeat : goal.returns-in-Repeat
returns-in-Repeat g c = named c.in-Repeat.is c.made-in-Repeat.ensures
    (controls_acts _ c.requires.good _ _ _ _ _
    (c.begin_repeat.ensures.controls _ _ (ready c.requires.good)) c.begin_repeat.ensures.framed)

pub returns-in-Loop : goal.returns-in-Loop
returns-in-Loop g c = named c.in-Loop.is c.made-in-Loop.ensures
    (controls_acts _ c.requires.good _ _ _ _ _
    (c.begin_loop.ensures.controls _ _ (ready c.requires.good)) c.begin_loop.ensures.framed)

pub returns-in-Stopped : goal.returns-in-Stopped
returns-in-Stopped g c = named c.in-Stopped.is c.made-in-Stopped.ensures
    (controls_acts _ c.requires.good _ _ _ _ _
    (c.begin_stopped.ensures.controls _ _ (ready c.requires.good)) c.begin_stopped.ensures.framed)

pub returns-in-Bind : goal.returns-in-Bind
returns-in-Bind g c = named c.in-Bind.is c.made-in-Bind.ensures
    (controls_acts _ c.requires.good _ _ _ _ _
    (c.begin_bind.ensures.controls _ _ (ready c.requires.good)) c.begin_bind.ensures.framed)

pub returns-in-Rcheck : goal.returns-in-Rcheck
returns-in-Rcheck g c = named c.in-Rcheck.is c.made-in-Rcheck.ensures
    (observes_acts _ c.requires.good _ _ _ _ _ _ c.rcheck.ensures.heap c.rcheck.ensures.grants
    c.rcheck.ensures.row c.rcheck.ensures.ready)

pub returns-in-Wcheck : goal.returns-in-Wcheck
returns-in-Wcheck g c = named c.in-Wcheck.is c.made-in-Wcheck.ensures
    (observes_acts _ c.requires.good _ _ _ _ _ _ c.wcheck.ensures.heap c.wcheck.ensures.grants
    c.wcheck.ensures.row c.wcheck.ensures.ready)

pub returns-in-TypeOf : goal.returns-in-TypeOf
returns-in-TypeOf g c = named c.in-TypeOf.is c.made-in-TypeOf.ensures
    (operands_acts _ c.requires.good _ _ _ _ (c.type_of.ensures.row _ (held c.requires.good))
    (c.type_of.ensures.ready _ (held c.requires.good)))

pub returns-in-Cvlit : goal.returns-in-Cvlit
returns-in-Cvlit g c = named c.in-Cvlit.is c.made-in-Cvlit.ensures
    (operands_acts _ c.requires.good _ _ _ _
    (under_first _ _ _ _ _ (c.cvlit.ensures.row _ (held c.requires.good)))
    (c.cvlit.ensures.ready _ (held c.requires.good)))

pub returns-in-Cvx : goal.returns-in-Cvx
returns-in-Cvx g c = named c.in-Cvx.is c.made-in-Cvx.ensures
    (operands_acts _ c.requires.good _ _ _ _
    (under_first _ _ _ _ _ (c.cvx.ensures.row _ (held c.requires.good)))
    (c.cvx.ensures.ready _ (held c.requires.good)))

pub returns-in-Xcheck : goal.returns-in-Xcheck
returns-in-Xcheck g c = named c.in-Xcheck.is c.made-in-Xcheck.ensures
    (operands_acts _ c.requires.good _ _ _ _
    (under_first _ _ _ _ _ (c.xcheck.ensures.row _ (held c.requires.good)))
    (c.xcheck.ensures.ready _ (held c.requires.good)))

pub returns-in-ExecuteOnly : goal.returns-in-ExecuteOnly
returns-in-ExecuteOnly g c = named c.in-ExecuteOnly.is c.made-in-ExecuteOnly.ensures
    (operands_acts _ c.requires.good _ _ _ _ (under_first _ _ _ _ _ c.executeonly.ensures.row)
    c.executeonly.ensures.ready)

pub returns-in-AnchorSearch : goal.returns-in-AnchorSearch
returns-in-AnchorSearch g c = named c.in-AnchorSearch.is c.made-in-AnchorSearch.ensures
    (observes_acts _ c.requires.good _ _ _ _ _ _ c.anchorsearch.ensures.heap
    c.anchorsearch.ensures.grants c.anchorsearch.ensures.does c.anchorsearch.ensures.ready)

pub returns-in-MakeString : goal.returns-in-MakeString
returns-in-MakeString g c = named c.in-MakeString.is c.tried.ensures
    (makes_acts _ c.requires.good _ _ _ _ c.string.ensures.keeps _ _ string_made
    c.string.ensures.does c.string.ensures.ready c.string.ensures.spends)

pub returns-in-Array : goal.returns-in-Array
returns-in-Array g c = named c.in-Array.is c.tried-in-Array.ensures
    (makes_acts _ c.requires.good _ _ _ _ c.array.ensures.keeps _ _ array_made c.array.ensures.does
    c.array.ensures.ready c.array.ensures.spends)

pub returns-in-EndArray : goal.returns-in-EndArray
returns-in-EndArray g c = named c.in-EndArray.is c.tried-in-EndArray.ensures
    (makes_acts _ c.requires.good _ _ _ _ c.end_array.ensures.keeps _ _ end_array_made
    c.end_array.ensures.does c.end_array.ensures.ready c.end_array.ensures.spends)

pub returns-in-Put : goal.returns-in-Put
returns-in-Put g c = named c.in-Put.is refl c.put_apart.ensures.acts

pub returns-in-Exit : goal.returns-in-Exit
returns-in-Exit g c = named c.in-Exit.is refl
    (exit_acts _ c.requires.good _ _ (c.exit.ensures (g.M.Memory.heap c.args.runtime.now.memory) _))

pub returns-in-Equals : goal.returns-in-Equals
returns-in-Equals g c = named c.in-Equals.is refl (c.equals.ensures.acts _)

pub returns-in-EqualsEquals : goal.returns-in-EqualsEquals
returns-in-EqualsEquals g c = named c.in-EqualsEquals.is refl (c.equals_equals.ensures.acts _)

pub returns-in-Stack : goal.returns-in-Stack
returns-in-Stack g c = named c.in-Stack.is refl (c.show_stack.ensures.acts _)

pub returns-in-Pstack : goal.returns-in-Pstack
returns-in-Pstack g c = named c.in-Pstack.is refl (c.show_stack-in-Pstack.ensures.acts _)

pub returns-in-Print : goal.returns-in-Print
returns-in-Print g c = named c.in-Print.is refl (c.print.ensures.acts _)

pub returns-in-Begin : goal.returns-in-Begin
returns-in-Begin g c = named c.in-Begin.is refl (c.begin.ensures.acts _)

pub returns-in-End : goal.returns-in-End
returns-in-End g c = named c.in-End.is refl (c.end.ensures.acts _)

pub returns-in-MaxLength : goal.returns-in-MaxLength
returns-in-MaxLength g c = named c.in-MaxLength.is refl (c.maxlength.ensures.acts _)

pub returns-in-CurrentDict : goal.returns-in-CurrentDict
returns-in-CurrentDict g c = named c.in-CurrentDict.is refl (c.currentdict.ensures.acts _)

pub returns-in-CountDictStack : goal.returns-in-CountDictStack
returns-in-CountDictStack g c = named c.in-CountDictStack.is refl (c.countdictstack.ensures.acts _)

pub returns-in-ClearDictStack : goal.returns-in-ClearDictStack
returns-in-ClearDictStack g c = named c.in-ClearDictStack.is refl (c.cleardictstack.ensures.acts _)

pub returns-in-Known : goal.returns-in-Known
returns-in-Known g c = named c.in-Known.is refl (c.known.ensures.acts _)

pub returns-in-Load : goal.returns-in-Load
returns-in-Load g c = named c.in-Load.is refl (c.load.ensures.acts _)

pub returns-in-Where : goal.returns-in-Where
returns-in-Where g c = named c.in-Where.is refl (c.where_key.ensures.acts _)

pub returns-in-GetInterval : goal.returns-in-GetInterval
returns-in-GetInterval g c = named c.in-GetInterval.is refl (c.getinterval.ensures.acts _)

pub returns-in-Astore : goal.returns-in-Astore
returns-in-Astore g c = named c.in-Astore.is refl c.astore.ensures.acts

pub returns-in-Length : goal.returns-in-Length
returns-in-Length g c = named c.in-Length.is refl (c.length.ensures.acts _)

pub returns-in-PutInterval : goal.returns-in-PutInterval
returns-in-PutInterval g c = named c.in-PutInterval.is refl c.putinterval.ensures.acts

pub returns-in-Forall : goal.returns-in-Forall
returns-in-Forall g c = named c.in-Forall.is refl (c.forall.ensures.acts _)

pub returns-in-ReadOnly : goal.returns-in-ReadOnly
returns-in-ReadOnly g c = named c.in-ReadOnly.is refl c.readonly.ensures

pub returns-in-NoAccess : goal.returns-in-NoAccess
returns-in-NoAccess g c = named c.in-NoAccess.is refl c.noaccess.ensures

pub returns-in-Eq : goal.returns-in-Eq
returns-in-Eq g c = named c.in-Eq.is refl (c.equality.ensures.acts _)

pub returns-in-Ne : goal.returns-in-Ne
returns-in-Ne g c = named c.in-Ne.is refl (c.equality-in-Ne.ensures.acts _)

pub returns-in-Gt : goal.returns-in-Gt
returns-in-Gt g c = named c.in-Gt.is refl (c.order.ensures.acts _)

pub returns-in-Ge : goal.returns-in-Ge
returns-in-Ge g c = named c.in-Ge.is refl (c.order-in-Ge.ensures.acts _)

pub returns-in-Lt : goal.returns-in-Lt
returns-in-Lt g c = named c.in-Lt.is refl (c.order-in-Lt.ensures.acts _)

pub returns-in-Le : goal.returns-in-Le
returns-in-Le g c = named c.in-Le.is refl (c.order-in-Le.ensures.acts _)

pub returns-in-Search : goal.returns-in-Search
returns-in-Search g c = named c.in-Search.is refl (c.search.ensures.acts _)

pub returns-in-Dict : goal.returns-in-Dict
returns-in-Dict g c = named c.in-Dict.is refl c.dict.ensures.acts

pub returns-in-Cvi : goal.returns-in-Cvi
returns-in-Cvi g c = named c.in-Cvi.is refl (c.cvi.ensures.acts _)

pub returns-in-Cvn : goal.returns-in-Cvn
returns-in-Cvn g c = named c.in-Cvn.is refl (c.cvn.ensures.acts _)

pub returns-in-Cvs : goal.returns-in-Cvs
returns-in-Cvs g c = named c.in-Cvs.is refl c.cvs.ensures.acts

pub returns-in-Def : goal.returns-in-Def
returns-in-Def g c = named c.in-Def.is refl c.def_apart.ensures.acts

pub returns-in-Store : goal.returns-in-Store
returns-in-Store g c = named c.in-Store.is refl c.store.ensures.acts

pub returns-in-Undef : goal.returns-in-Undef
returns-in-Undef g c = named c.in-Undef.is refl c.undef.ensures.acts

pub returns-in-EndDict : goal.returns-in-EndDict
returns-in-EndDict g c = named c.in-EndDict.is refl c.end_dict.ensures.acts

pub returns-in-ErrorDict : goal.returns-in-ErrorDict
returns-in-ErrorDict g c =
    named c.in-ErrorDict.is refl (c.error_dictionary.ensures.acts c.args.attempt)
