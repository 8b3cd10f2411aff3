-- By what the dictionary stack gives.
use Rattle.std.proofs.Common.{Ok, refl, sym, ap, ◌∙◌}
use Rattle.ps_step_frames.proofs.Binding.{name_unmet, name_unread, name_kept, name_replaced}
use Rattle.ps_step_frames.proofs.binds.bind_name.Goals as goal

pub returns-in-Some-clause-binds : goal.returns-in-Some-clause-binds
returns-in-Some-clause-binds g c =
    name_replaced _ c.args.dictionaries.now c.args.word c.requires.name c.look_up.result
    (λ names s here. c.look_up.ensures.value names s _ here.shows here.apart
    (refl, here.word_within)) c.in-Ok-Some.found
    (c.in-Ok-Some.is ∙ ap Ok c.in-Ok-Some.field-0-is) c.in-Some.field-0
    (sym c.in-Some.is ∙ c.as_operator.ensures)
    (rw c.in-Ok-Some.field-0-is at c.in-Ok-Some.ensures.held).1
    (λ names s here. (rw c.in-Ok-Some.field-0-is at
    (c.in-Ok-Some.ensures.within names s here.shows here.dictionaries_within)).1)

pub returns-in-None-clause-binds : goal.returns-in-None-clause-binds
returns-in-None-clause-binds g c =
    name_kept _ c.args.dictionaries.now c.args.word c.requires.name c.look_up.result
    (λ names s here. c.look_up.ensures.value names s _ here.shows here.apart
    (refl, here.word_within)) c.in-Ok-Some.found
    (c.in-Ok-Some.is ∙ ap Ok c.in-Ok-Some.field-0-is)
    (sym c.in-None.is ∙ c.as_operator.ensures)

pub returns-in-Ok-None-clause-binds : goal.returns-in-Ok-None-clause-binds
returns-in-Ok-None-clause-binds g c =
    name_unmet _ c.args.dictionaries.now c.args.word c.requires.name c.look_up.result
    (λ names s here. c.look_up.ensures.value names s _ here.shows here.apart
    (refl, here.word_within)) (c.in-Ok-None.is ∙ ap Ok c.in-Ok-None.field-0-is)

pub returns-in-Err-clause-binds : goal.returns-in-Err-clause-binds
returns-in-Err-clause-binds g c =
    name_unread _ c.args.dictionaries.now c.args.word c.requires.name c.look_up.result
    (λ names s here. c.look_up.ensures.value names s _ here.shows here.apart
    (refl, here.word_within)) _ c.in-Err.is
