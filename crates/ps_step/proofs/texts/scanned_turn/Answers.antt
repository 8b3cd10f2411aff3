-- A token is done, nothing is left, there is a fault, or want of memory.
use Rattle.std.proofs.Common.{◌≡◌, ◌∷◌, drop, sym}
use Rattle.ps_language.specs.Value.{Store}
use Rattle.ps_ops_operands.proofs.Operands.{first_split}
use Rattle.ps_mem.specs.Heap.{birth_at}
use Rattle.ps_ops_control.specs.declared.frames.Frame.TheVariants.{Text}
use Rattle.ps_ops_control.specs.Frames.{source_of}
use Rattle.ps_ops_state.specs.Lent.{Lent, lent_of}
use Rattle.ps_step_outcome.proofs.Composing.{goes_on}
use Rattle.ps_step_frames.specs.Steps.{running_turn}
use Rattle.ps_step_frames.proofs.Framing.{below_good}
use Rattle.ps_step.specs.Texts.{scan_at, scanned_asks, text_asks}
use Rattle.ps_step.proofs.Listing.{listed_turns}
use Rattle.ps_step.proofs.Scanning.{exhausted_is, source_records, source_rooms}
use Rattle.ps_step.proofs.texts.scanned_turn.Goals as goal

pub take_token-requires-clause-scanned : goal.take_token-requires-clause-scanned
take_token-requires-clause-scanned g c = λ s shown.
    rw (c.in-Ok-Some.is, c.in-Ok-Some.field-0-is) at (c.requires.scanned s shown)

pub fault_turn-requires-clause-fault : goal.fault_turn-requires-clause-fault
fault_turn-requires-clause-fault g c = λ s shown. rw c.in-Err.is at (c.requires.scanned s shown)

pub returns-in-Ok-None : goal.returns-in-Ok-None
returns-in-Ok-None g c =
    let l : Lent = lent_of g.M.Memory.heap g.M.Memory.grants c.args.context.now c.args.runtime.now in
    let top : l.frames ≡ Text c.args.cursor.now.source c.args.cursor.now.at ∷ drop 1 l.frames =
    first_split _ _ (sym c.requires.top) in
    rw c.drop_top.ensures.frames
    (goes_on l l.operands (drop 1 l.frames)
    (text_asks g.O.Operate.asks c.args.cursor.now.source c.args.cursor.now.at (drop 1 l.frames)) running_turn
    c.args.attempt
    (below_good l c.requires.good)
    (λ s shown. exhausted_is l c.args.cursor.now.source c.args.cursor.now.at (drop 1 l.frames) top s
    (rw (c.in-Ok-None.is, c.in-Ok-None.field-0-is) at (c.requires.scanned s shown))) c.requires.good)

pub returns-in-Ok-Some : goal.returns-in-Ok-Some
returns-in-Ok-Some g c =
    let l : Lent = lent_of g.M.Memory.heap g.M.Memory.grants c.args.context.now c.args.runtime.now in
    listed_turns (λ (m : Lent) (s : Store). scanned_asks g.O.Operate.asks c.args.cursor.now.source
    (drop 1 l.frames) (scan_at c.args.cursor.now.source c.args.cursor.now.at m s) m s)
    (text_asks g.O.Operate.asks c.args.cursor.now.source c.args.cursor.now.at (drop 1 l.frames)) running_turn
    c.args.attempt
    c.take_token.result l _
    (λ s shown. source_records l _ (source_of (birth_at l.heap) c.args.cursor.now.source) _)
    (λ s shown. source_rooms l _ (source_of (birth_at l.heap) c.args.cursor.now.source) _)
    c.take_token.ensures
