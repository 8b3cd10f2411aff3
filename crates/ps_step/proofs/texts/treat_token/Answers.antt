-- The value is treated over the text that goes on, which is put back where it is not made.
use Rattle.std.proofs.Common.{◌∷◌, List, drop, ap, ◌∙◌, Ok, Err}
use Rattle.ps_ops_control.specs.declared.frames.Frame.{Frame}
use Rattle.ps_ops_control.specs.declared.frames.Frame.TheVariants.{Text}
use Rattle.ps_ops_state.specs.Lent.{Lent, lent_of}
use Rattle.ps_step.proofs.Reading.{over_good, text_goes, text_unmade, token_treated}
use Rattle.ps_step.proofs.texts.treat_token.Goals as goal

pub treat-requires-clause-good : goal.treat-requires-clause-good
treat-requires-clause-good g c =
    let l : Lent = lent_of g.M.Memory.heap g.M.Memory.grants c.args.context.now c.args.runtime.now in
    let read = c.requires.read in
    rw c.replace_top.ensures
    (over_good g.O.Operate.asks c.args.cursor.now.source c.args.cursor.now.at l c.requires.good c.args.attempt
    read.token
    c.args.end read.further read.scanned)

pub treat-requires-clause-word : goal.treat-requires-clause-word
treat-requires-clause-word g c = c.requires.read.held

pub treat-requires-clause-command : goal.treat-requires-clause-command
treat-requires-clause-command g c = c.requires.read.is.held _

pub returns-in-Ok : goal.returns-in-Ok
returns-in-Ok g c =
    let l : Lent = lent_of g.M.Memory.heap g.M.Memory.grants c.args.context.now c.args.runtime.now in
    let read = c.requires.read in
    text_goes g.O.Operate.asks c.args.cursor.now.source c.args.cursor.now.at l c.requires.good c.args.attempt
    read.token
    c.args.end read.further read.scanned c.in-Ok.turned _
    (token_treated g.O.Operate.asks c.args.cursor.now.source c.args.cursor.now.at l c.requires.good c.args.attempt
    read.token c.args.end read.further read.scanned c.args.element.word c.args.element.value read.is read.treats
    (Ok c.in-Ok.turned) _ (rw (c.replace_top.ensures, c.in-Ok.is) at c.treat.ensures))

pub returns-in-Err : goal.returns-in-Err
returns-in-Err g c =
    let l : Lent = lent_of g.M.Memory.heap g.M.Memory.grants c.args.context.now c.args.runtime.now in
    let read = c.requires.read in
    let turns = rw (c.replace_top.ensures, c.in-Err.is) at c.treat.ensures in
    rw (c.replace_top-in-Err.ensures
    ∙ ap (λ (fs : List Frame). Text c.args.cursor.now.source c.args.cursor.now.at ∷ drop 1 fs) turns.framed)
    (text_unmade g.O.Operate.asks c.args.cursor.now.source c.args.cursor.now.at l c.requires.good c.args.attempt
    read.token
    c.args.end read.further read.scanned c.in-Err.reason _
    (token_treated g.O.Operate.asks c.args.cursor.now.source c.args.cursor.now.at l c.requires.good c.args.attempt
    read.token c.args.end read.further read.scanned c.args.element.word c.args.element.value read.is read.treats
    (Err c.in-Err.reason) _ turns))
