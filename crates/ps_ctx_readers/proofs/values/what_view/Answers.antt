use Rattle.std.proofs.Common.{ap}
use Rattle.ps_ctx_readers.specs.declared.views.WhatView.TheVariants.{Dictionary}
use Rattle.ps_ctx_readers.proofs.values.what_view.Goals as goal

pub returns-in-Dictionary-clause-view : goal.returns-in-Dictionary-clause-view
returns-in-Dictionary-clause-view g c =
    rw c.in-Dictionary.is (λ s shows.
    ap Dictionary (c.length.ensures.value c.args.names.now s shows))
