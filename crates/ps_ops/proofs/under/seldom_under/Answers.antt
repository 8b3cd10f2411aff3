-- Each operator by its name and by what its own contract says.
use Rattle.std.proofs.Common.{refl}
use Rattle.ps_ops_state.proofs.Alike.{came_acts}
use Rattle.ps_ops_state.proofs.Lifts.{held, observes_acts, operands_acts, under_first}
use Rattle.ps_ops.proofs.Unframed.{acted}
use Rattle.ps_ops.proofs.under.seldom_under.Goals as goal

pub returns-in-GetInterval-clause-acts : goal.returns-in-GetInterval-clause-acts
returns-in-GetInterval-clause-acts g c =
    acted _ _ _ c.getinterval.ensures.frames c.in-GetInterval.is c.came.ensures refl (λ scene frames. refl)
    (c.getinterval.ensures.acts _)

pub returns-in-PutInterval-clause-acts : goal.returns-in-PutInterval-clause-acts
returns-in-PutInterval-clause-acts g c =
    acted _ _ _ c.putinterval.ensures.frames c.in-PutInterval.is c.came-in-PutInterval.ensures refl (λ scene frames. refl)
    c.putinterval.ensures.acts

pub returns-in-Astore-clause-acts : goal.returns-in-Astore-clause-acts
returns-in-Astore-clause-acts g c =
    acted _ _ _ c.astore.ensures.frames c.in-Astore.is c.came-in-Astore.ensures refl (λ scene frames. refl)
    c.astore.ensures.acts

pub returns-in-Search-clause-acts : goal.returns-in-Search-clause-acts
returns-in-Search-clause-acts g c =
    acted _ _ _ c.search.ensures.frames c.in-Search.is c.came-in-Search.ensures refl (λ scene frames. refl)
    (c.search.ensures.acts _)

pub returns-in-AnchorSearch-clause-acts : goal.returns-in-AnchorSearch-clause-acts
returns-in-AnchorSearch-clause-acts g c =
    acted _ _ _ refl c.in-AnchorSearch.is c.came-in-AnchorSearch.ensures refl (λ scene frames. refl)
    (came_acts _ _ _ _ _ _ _ c.made.ensures
    (observes_acts _ c.requires.good _ _ _ _ _ _ c.anchorsearch.ensures.heap
    c.anchorsearch.ensures.grants c.anchorsearch.ensures.does c.anchorsearch.ensures.ready))

pub returns-in-Cvs-clause-acts : goal.returns-in-Cvs-clause-acts
returns-in-Cvs-clause-acts g c =
    acted _ _ _ c.cvs.ensures.frames c.in-Cvs.is c.came-in-Cvs.ensures refl (λ scene frames. refl)
    c.cvs.ensures.acts

pub returns-in-Cvi-clause-acts : goal.returns-in-Cvi-clause-acts
returns-in-Cvi-clause-acts g c =
    acted _ _ _ c.cvi.ensures.frames c.in-Cvi.is c.came-in-Cvi.ensures refl (λ scene frames. refl)
    (c.cvi.ensures.acts _)

pub returns-in-Cvn-clause-acts : goal.returns-in-Cvn-clause-acts
returns-in-Cvn-clause-acts g c =
    acted _ _ _ c.cvn.ensures.frames c.in-Cvn.is c.came-in-Cvn.ensures refl (λ scene frames. refl)
    (c.cvn.ensures.acts _)

pub returns-in-Eq-clause-acts : goal.returns-in-Eq-clause-acts
returns-in-Eq-clause-acts g c =
    acted _ _ _ c.equality.ensures.frames c.in-Eq.is c.came-in-Eq.ensures refl (λ scene frames. refl)
    (c.equality.ensures.acts _)

pub returns-in-Ne-clause-acts : goal.returns-in-Ne-clause-acts
returns-in-Ne-clause-acts g c =
    acted _ _ _ c.equality-in-Ne.ensures.frames c.in-Ne.is c.came-in-Ne.ensures refl (λ scene frames. refl)
    (c.equality-in-Ne.ensures.acts _)

pub returns-in-Gt-clause-acts : goal.returns-in-Gt-clause-acts
returns-in-Gt-clause-acts g c =
    acted _ _ _ c.order.ensures.frames c.in-Gt.is c.came-in-Gt.ensures refl (λ scene frames. refl)
    (c.order.ensures.acts _)

pub returns-in-Ge-clause-acts : goal.returns-in-Ge-clause-acts
returns-in-Ge-clause-acts g c =
    acted _ _ _ c.order-in-Ge.ensures.frames c.in-Ge.is c.came-in-Ge.ensures refl (λ scene frames. refl)
    (c.order-in-Ge.ensures.acts _)

pub returns-in-Lt-clause-acts : goal.returns-in-Lt-clause-acts
returns-in-Lt-clause-acts g c =
    acted _ _ _ c.order-in-Lt.ensures.frames c.in-Lt.is c.came-in-Lt.ensures refl (λ scene frames. refl)
    (c.order-in-Lt.ensures.acts _)

pub returns-in-Le-clause-acts : goal.returns-in-Le-clause-acts
returns-in-Le-clause-acts g c =
    acted _ _ _ c.order-in-Le.ensures.frames c.in-Le.is c.came-in-Le.ensures refl (λ scene frames. refl)
    (c.order-in-Le.ensures.acts _)

pub returns-in-Where-clause-acts : goal.returns-in-Where-clause-acts
returns-in-Where-clause-acts g c =
    acted _ _ _ c.where_key.ensures.frames c.in-Where.is c.came-in-Where.ensures refl (λ scene frames. refl)
    (c.where_key.ensures.acts _)

pub returns-in-Store-clause-acts : goal.returns-in-Store-clause-acts
returns-in-Store-clause-acts g c =
    acted _ _ _ c.store.ensures.frames c.in-Store.is c.came-in-Store.ensures refl (λ scene frames. refl)
    c.store.ensures.acts

pub returns-in-Dict-clause-acts : goal.returns-in-Dict-clause-acts
returns-in-Dict-clause-acts g c =
    acted _ _ _ c.dict.ensures.frames c.in-Dict.is c.came-in-Dict.ensures refl (λ scene frames. refl)
    c.dict.ensures.acts

pub returns-in-CurrentDict-clause-acts : goal.returns-in-CurrentDict-clause-acts
returns-in-CurrentDict-clause-acts g c =
    acted _ _ _ c.currentdict.ensures.frames c.in-CurrentDict.is c.came-in-CurrentDict.ensures refl (λ scene frames. refl)
    (c.currentdict.ensures.acts _)

pub returns-in-TypeOf-clause-acts : goal.returns-in-TypeOf-clause-acts
returns-in-TypeOf-clause-acts g c =
    acted _ _ _ refl c.in-TypeOf.is c.came-in-TypeOf.ensures refl (λ scene frames. refl)
    (came_acts _ _ _ _ _ _ _ c.made-in-TypeOf.ensures
    (operands_acts _ c.requires.good _ _ _ _ (c.type_of.ensures.row _ (held c.requires.good))
    (c.type_of.ensures.ready _ (held c.requires.good))))

pub returns-in-Cvlit-clause-acts : goal.returns-in-Cvlit-clause-acts
returns-in-Cvlit-clause-acts g c =
    acted _ _ _ refl c.in-Cvlit.is c.came-in-Cvlit.ensures refl (λ scene frames. refl)
    (came_acts _ _ _ _ _ _ _ c.made-in-Cvlit.ensures
    (operands_acts _ c.requires.good _ _ _ _
    (under_first _ _ _ _ _ (c.cvlit.ensures.row _ (held c.requires.good)))
    (c.cvlit.ensures.ready _ (held c.requires.good))))

pub returns-in-Cvx-clause-acts : goal.returns-in-Cvx-clause-acts
returns-in-Cvx-clause-acts g c =
    acted _ _ _ refl c.in-Cvx.is c.came-in-Cvx.ensures refl (λ scene frames. refl)
    (came_acts _ _ _ _ _ _ _ c.made-in-Cvx.ensures
    (operands_acts _ c.requires.good _ _ _ _
    (under_first _ _ _ _ _ (c.cvx.ensures.row _ (held c.requires.good)))
    (c.cvx.ensures.ready _ (held c.requires.good))))

pub returns-in-Xcheck-clause-acts : goal.returns-in-Xcheck-clause-acts
returns-in-Xcheck-clause-acts g c =
    acted _ _ _ refl c.in-Xcheck.is c.came-in-Xcheck.ensures refl (λ scene frames. refl)
    (came_acts _ _ _ _ _ _ _ c.made-in-Xcheck.ensures
    (operands_acts _ c.requires.good _ _ _ _
    (under_first _ _ _ _ _ (c.xcheck.ensures.row _ (held c.requires.good)))
    (c.xcheck.ensures.ready _ (held c.requires.good))))
