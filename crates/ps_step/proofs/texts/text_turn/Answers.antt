-- What was scanned is that of the topmost frame.
use Rattle.std.proofs.Common.{◌≡◌, ◌∷◌, drop, refl, sym, subst}
use Rattle.ps_ops_operands.proofs.Operands.{first_split}
use Rattle.ps_ops_control.specs.declared.frames.Frame.TheVariants.{Text}
use Rattle.ps_ops_control.specs.Frames.{AreFramesWithin}
use Rattle.ps_ops_state.specs.Lent.{Lent, lent_of}
use Rattle.ps_step.proofs.Rereading.{no_window}
use Rattle.ps_step.proofs.texts.text_turn.Goals as goal

pub scanned_turn-requires-clause-scanned : goal.scanned_turn-requires-clause-scanned
scanned_turn-requires-clause-scanned g c =
    let l : Lent = lent_of g.M.Memory.heap g.M.Memory.grants c.args.context.now c.args.runtime.now in
    let top : l.frames ≡ Text c.args.cursor.source c.args.cursor.at ∷ drop 1 l.frames =
    first_split _ _ (sym c.requires.top) in
    rw (
      c.scan_source-scanned.ensures.heap,
      c.scan_source-scanned.ensures.grants,
      c.scanned_bytes-text.ensures,
    )
    (λ s shown.
    c.scan_source-scanned.ensures.scanned l.names s shown.shows
    (subst (AreFramesWithin l.heap l.names s) top shown.frames).0)

pub scanned_turn-requires-clause-token : goal.scanned_turn-requires-clause-token
scanned_turn-requires-clause-token g c =
    rw (c.scan_source-scanned.ensures.heap, c.scanned_bytes-text.ensures)
    c.scan_source-scanned.ensures.token

pub scan_source-scanned-requires-clause-window : goal.scan_source-scanned-requires-clause-window
scan_source-scanned-requires-clause-window g c =
    no_window (g.M.Memory.heap c.args.runtime.now.memory) c.args.cursor.source _ refl
    c.clear.ensures.items
