-- A fault is raised, or there is want of memory.
use Rattle.std.proofs.Common.{◌≡◌, ◌∷◌, drop, sym}
use Rattle.ps_language.specs.declared.errors.ErrorName.TheVariants.{SyntaxError, LimitCheck}
use Rattle.ps_language.specs.Token.{syntax_fault, limit_fault}
use Rattle.ps_ops_operands.proofs.Operands.{first_split}
use Rattle.ps_ops_operands.proofs.Ready.{plain_value, plain_within}
use Rattle.ps_ops_operands.specs.declared.failure.NotMade.TheVariants.{Memory}
use Rattle.ps_mem.specs.Heap.{birth_at}
use Rattle.ps_ops_control.specs.declared.frames.Frame.TheVariants.{Text}
use Rattle.ps_ops_control.specs.Frames.{source_of}
use Rattle.ps_ops_state.specs.Lent.{Lent, lent_of}
use Rattle.ps_step_frames.specs.Steps.{running_turn}
use Rattle.ps_step_tokens.proofs.Alike.{raised, unmade}
use Rattle.ps_step.specs.Texts.{text_asks}
use Rattle.ps_step.proofs.Scanning.{fault_is, source_lacks, list_reason}
use Rattle.ps_step.proofs.texts.fault_turn.Goals as goal

pub raise-requires-clause-held : goal.raise-requires-clause-held
raise-requires-clause-held g c = plain_value _ _ c.null.ensures.plain

pub raise-requires-in-Limit-clause-held : goal.raise-requires-in-Limit-clause-held
raise-requires-in-Limit-clause-held g c = plain_value _ _ c.null-in-Limit.ensures.plain

pub returns-in-Syntax : goal.returns-in-Syntax
returns-in-Syntax g c =
    let l : Lent = lent_of g.M.Memory.heap g.M.Memory.grants c.args.context.now c.args.runtime.now in
    let top : l.frames ≡ Text c.args.cursor.source c.args.cursor.at ∷ drop 1 l.frames =
    first_split _ _ (sym c.requires.top) in
    raised (text_asks g.O.Operate.asks c.args.cursor.source c.args.cursor.at (drop 1 l.frames)) running_turn
    c.args.attempt c.raise.result l _ c.null.result
    (λ s shown. plain_within _ _ s _ c.null.ensures.plain) SyntaxError
    (λ s shown. fault_is l c.args.cursor.source c.args.cursor.at (drop 1 l.frames) top syntax_fault c.null.result
    (c.null.ensures.value _ _) s
    (rw c.in-Syntax.is at (c.requires.fault s shown))) c.raise.ensures

pub returns-in-Limit : goal.returns-in-Limit
returns-in-Limit g c =
    let l : Lent = lent_of g.M.Memory.heap g.M.Memory.grants c.args.context.now c.args.runtime.now in
    let top : l.frames ≡ Text c.args.cursor.source c.args.cursor.at ∷ drop 1 l.frames =
    first_split _ _ (sym c.requires.top) in
    raised (text_asks g.O.Operate.asks c.args.cursor.source c.args.cursor.at (drop 1 l.frames)) running_turn
    c.args.attempt c.raise-in-Limit.result l _ c.null-in-Limit.result
    (λ s shown. plain_within _ _ s _ c.null-in-Limit.ensures.plain) LimitCheck
    (λ s shown. fault_is l c.args.cursor.source c.args.cursor.at (drop 1 l.frames) top limit_fault
    c.null-in-Limit.result (c.null-in-Limit.ensures.value _ _) s
    (rw c.in-Limit.is at (c.requires.fault s shown))) c.raise-in-Limit.ensures

pub returns-in-Memory : goal.returns-in-Memory
returns-in-Memory g c =
    let l : Lent = lent_of g.M.Memory.heap g.M.Memory.grants c.args.context.now c.args.runtime.now in
    let asks = text_asks g.O.Operate.asks c.args.cursor.source c.args.cursor.at (drop 1 l.frames) in
    unmade asks running_turn c.args.attempt l c.requires.good Memory
    (λ s shown. list_reason c.args.attempt asks running_turn l l s
    (source_lacks l _ (source_of (birth_at l.heap) c.args.cursor.source) _
    (rw c.in-Memory.is at (c.requires.fault s shown))))
