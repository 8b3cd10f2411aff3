-- Each operator by its name and by what its own contract says.
use Rattle.std.proofs.Common.{refl}
use Rattle.ps_ops_state.proofs.Alike.{came_acts}
use Rattle.ps_ops_state.proofs.Asking.{array_made, end_array_made, string_made}
use Rattle.ps_ops_state.proofs.Changing.{makes_acts}
use Rattle.ps_ops_state.proofs.Lifts.{observes_acts}
use Rattle.ps_ops.proofs.Unframed.{acted}
use Rattle.ps_ops.proofs.under.often_under.Goals as goal

pub returns-in-Get-clause-acts : goal.returns-in-Get-clause-acts
returns-in-Get-clause-acts g c =
    acted _ _ _ c.get.ensures.frames c.in-Get.is c.came.ensures refl (λ scene frames. refl)
    (c.get.ensures.acts _)

pub returns-in-Length-clause-acts : goal.returns-in-Length-clause-acts
returns-in-Length-clause-acts g c =
    acted _ _ _ c.length.ensures.frames c.in-Length.is c.came-in-Length.ensures refl (λ scene frames. refl)
    (c.length.ensures.acts _)

pub returns-in-Aload-clause-acts : goal.returns-in-Aload-clause-acts
returns-in-Aload-clause-acts g c =
    acted _ _ _ refl c.in-Aload.is c.came-in-Aload.ensures refl (λ scene frames. refl)
    (came_acts _ _ _ _ _ _ _ c.made.ensures
    (observes_acts _ c.requires.good _ _ _ _ _ _ c.aload.ensures.heap c.aload.ensures.grants
    c.aload.ensures.does c.aload.ensures.ready))

pub returns-in-Array-clause-acts : goal.returns-in-Array-clause-acts
returns-in-Array-clause-acts g c =
    acted _ _ _ refl c.in-Array.is c.came-in-Array.ensures refl (λ scene frames. refl)
    (came_acts _ _ _ _ _ _ _ c.tried.ensures
    (makes_acts _ c.requires.good _ _ _ _ c.array-outcome.ensures.keeps _ _ array_made
    c.array-outcome.ensures.does c.array-outcome.ensures.ready c.array-outcome.ensures.spends))

pub returns-in-EndArray-clause-acts : goal.returns-in-EndArray-clause-acts
returns-in-EndArray-clause-acts g c =
    acted _ _ _ refl c.in-EndArray.is c.came-in-EndArray.ensures refl (λ scene frames. refl)
    (came_acts _ _ _ _ _ _ _ c.tried-in-EndArray.ensures
    (makes_acts _ c.requires.good _ _ _ _ c.end_array-outcome.ensures.keeps _ _ end_array_made
    c.end_array-outcome.ensures.does c.end_array-outcome.ensures.ready c.end_array-outcome.ensures.spends))

pub returns-in-MakeString-clause-acts : goal.returns-in-MakeString-clause-acts
returns-in-MakeString-clause-acts g c =
    acted _ _ _ refl c.in-MakeString.is c.came-in-MakeString.ensures refl (λ scene frames. refl)
    (came_acts _ _ _ _ _ _ _ c.tried-in-MakeString.ensures
    (makes_acts _ c.requires.good _ _ _ _ c.string-outcome.ensures.keeps _ _ string_made
    c.string-outcome.ensures.does c.string-outcome.ensures.ready c.string-outcome.ensures.spends))

pub returns-in-Load-clause-acts : goal.returns-in-Load-clause-acts
returns-in-Load-clause-acts g c =
    acted _ _ _ c.load.ensures.frames c.in-Load.is c.came-in-Load.ensures refl (λ scene frames. refl)
    (c.load.ensures.acts _)

pub returns-in-Known-clause-acts : goal.returns-in-Known-clause-acts
returns-in-Known-clause-acts g c =
    acted _ _ _ c.known.ensures.frames c.in-Known.is c.came-in-Known.ensures refl (λ scene frames. refl)
    (c.known.ensures.acts _)

pub returns-in-Begin-clause-acts : goal.returns-in-Begin-clause-acts
returns-in-Begin-clause-acts g c =
    acted _ _ _ c.begin.ensures.frames c.in-Begin.is c.came-in-Begin.ensures refl (λ scene frames. refl)
    (c.begin.ensures.acts _)

pub returns-in-End-clause-acts : goal.returns-in-End-clause-acts
returns-in-End-clause-acts g c =
    acted _ _ _ c.end.ensures.frames c.in-End.is c.came-in-End.ensures refl (λ scene frames. refl)
    (c.end.ensures.acts _)
