-- It is gone into where it may be written.
use Rattle.std.proofs.Common.{sym, subst, ◌∙◌}
use Rattle.ps_word.specs.Format.{IsPart, IsContent}
use Rattle.ps_ops_control.specs.Frames.{IsHeld}
use Rattle.ps_step_execute.proofs.Executing.{array_held}
use Rattle.ps_step_frames.proofs.Binding.{procedure_kept, procedure_entered}
use Rattle.ps_step_frames.proofs.binds.bind_procedure.Goals as goal

pub array_word-requires : goal.array_word-requires
array_word-requires c =
    let part : IsPart c.args.part =
    subst IsContent c.requires.array c.requires.word.value.content in
    record { address = part.address; within = part.within }

pub returns-then-not-is_writable : goal.returns-then-not-is_writable
returns-then-not-is_writable c = λ h held.
    procedure_kept h c.args.dictionaries.now c.args.word c.args.part c.requires.array
    c.requires.executable (sym c.is_writable.ensures ∙ c.if-not-is_writable.true)

pub returns : goal.returns
returns c = λ h held.
    let stands : IsHeld h c.args.part =
    array_held h c.args.word c.args.part held c.requires.array in
    procedure_entered h c.args.dictionaries.now c.args.word c.args.part c.requires.array
    c.requires.executable (sym c.is_writable.ensures ∙ c.if-not-is_writable.false) stands
    c.array_word.result c.array_word.ensures.value (c.array_word.ensures.held h stands.stands)
    c.array_word.ensures.within
