-- The token is done over the text that goes on, which is put back where it is not made.
use Rattle.std.proofs.Common.{◌≡◌, ◌∷◌, List, drop, sym, ap, ◌∙◌}
use Rattle.ps_ops_operands.proofs.Operands.{first_split}
use Rattle.ps_ops_control.specs.declared.frames.Frame.{Frame}
use Rattle.ps_ops_control.specs.declared.frames.Frame.TheVariants.{Text}
use Rattle.ps_scan.specs.Shown.{token_of}
use Rattle.ps_ops_state.specs.Lent.{Lent, lent_of}
use Rattle.ps_step.proofs.Taking.{behind_good, token_goes, token_unmade}
use Rattle.ps_step.proofs.texts.take_token.Goals as goal

pub do_token-requires-clause-good : goal.do_token-requires-clause-good
do_token-requires-clause-good g c =
    let l : Lent = lent_of g.M.Memory.heap g.M.Memory.grants c.args.context.now c.args.runtime.now in
    let top : l.frames ≡ Text c.args.cursor.source c.args.cursor.at ∷ drop 1 l.frames =
    first_split _ _ (sym c.requires.top) in
    rw c.replace_top.ensures
    (behind_good l c.args.cursor.source c.args.cursor.at (drop 1 l.frames) top
    (token_of c.args.text.now c.args.token.now.kind) c.args.token.now.end c.requires.scanned g.O.Operate.asks
    c.requires.further c.requires.good c.args.attempt)

pub returns-in-Ok : goal.returns-in-Ok
returns-in-Ok g c =
    let l : Lent = lent_of g.M.Memory.heap g.M.Memory.grants c.args.context.now c.args.runtime.now in
    let top : l.frames ≡ Text c.args.cursor.source c.args.cursor.at ∷ drop 1 l.frames =
    first_split _ _ (sym c.requires.top) in
    token_goes l c.args.cursor.source c.args.cursor.at (drop 1 l.frames) top
    (token_of c.args.text.now c.args.token.now.kind) c.args.token.now.end c.requires.scanned g.O.Operate.asks
    c.requires.further c.requires.good c.args.attempt c.in-Ok.turned _
    (rw (c.replace_top.ensures, c.in-Ok.is) at c.do_token.ensures)

pub returns-in-Err : goal.returns-in-Err
returns-in-Err g c =
    let l : Lent = lent_of g.M.Memory.heap g.M.Memory.grants c.args.context.now c.args.runtime.now in
    let top : l.frames ≡ Text c.args.cursor.source c.args.cursor.at ∷ drop 1 l.frames =
    first_split _ _ (sym c.requires.top) in
    let turns = rw (c.replace_top.ensures, c.in-Err.is) at c.do_token.ensures in
    rw (c.replace_top-in-Err.ensures
    ∙ (ap (λ (fs : List Frame). Text c.args.cursor.source c.args.cursor.at ∷ drop 1 fs) turns.framed ∙ sym top))
    (token_unmade l c.args.cursor.source c.args.cursor.at (drop 1 l.frames) top
    (token_of c.args.text.now c.args.token.now.kind) c.args.token.now.end c.requires.scanned g.O.Operate.asks
    c.requires.further c.requires.good c.args.attempt c.in-Err.reason _ turns)
