use Rattle.std.proofs.Common.{◌≤◌, ◌∷◌, List, take, drop, length, sym, ap, subst, ◌∙◌, Ok, arith, length-drop}
use Rattle.std.specs.Prelude.{reverse}
use Rattle.ps_language.specs.RowsSequences.{astore_row}
use Rattle.ps_language.specs.Access.{with_part_elements}
use Rattle.ps_word.specs.declared.words.Word.{Word}
use Rattle.ps_mem.specs.Meaning.{part_of}
use Rattle.ps_mem.specs.Heap.{Heap, birth_at}
use Rattle.ps_mem.specs.Shows.{IsValue, IsReady, AreWithin, Shows}
use Rattle.ps_ops_sequences.specs.ArrayRows.{topmost_count}
use Rattle.ps_ops_operands.specs.Changes.{values_in, Changes}
use Rattle.ps_ops_operands.proofs.Held.{first_held}
use Rattle.ps_ops_sequences.proofs.AstoreLemmas.{astore_ready, astore_does}
use Rattle.ps_ops_sequences.proofs.array_changes.astore.Goals as goal

pub returns-clause-does : goal.returns-clause-does
returns-clause-does g c =
    let h = g.M.Memory.heap c.permitted.new.memory in
    let now = g.M.Memory.heap c.store_elements.new.memory in
    let old = c.args.operands.now in
    let asked = g.M.Memory.grants c.args.memory.now in
    let left = g.M.Memory.grants c.store_elements.new.memory in
    let ready = subst (λ (k : Heap). IsReady k old) (sym c.permitted.ensures.heap) c.requires.ready in
    let array = first_held (IsValue h) old ready.values _ c.in-Some.ensures in
    let part = c.in-Some-array_of.part in
    let rest = c.push_within.ensures ∙ ap (λ ws. c.in-Some.array ∷ ws) (c.discard-2.ensures
    ∙ ap (λ ws. drop part.length ws) c.discard.ensures) in
    let enough : part.length ≤ length (drop 1 old) = omega (arith, length-drop 1 old) in
    subst (λ (k : Heap). Changes astore_row topmost_count
    (Ok tt) c.args.slot asked left k now old c.push_within.new.operands) c.permitted.ensures.heap
    (astore_does h now old _ ready c.in-Some.array c.in-Some.ensures part rest c.store_elements.ensures.keeps
    c.args.slot asked left _
    (c.in-Some-array_of.ensures.stands h array) enough (λ births names. c.in-Some-array_of.ensures.part births names)
    (sym c.is_writable.ensures ∙ c.if-not-is_writable.false)
    c.store_elements.ensures.births
    (λ names s shows within.
    subst (λ (ws : List Word). Shows now names (with_part_elements s (part_of (birth_at h) part) 0
    (reverse (take part.length (values_in h names ws))))) c.discard.ensures
    (c.store_elements.ensures.shows names s shows
    (subst (λ (ws : List Word). AreWithin h names s ws) (sym c.discard.ensures) within))))

pub returns-clause-ready : goal.returns-clause-ready
returns-clause-ready g c =
    let h = g.M.Memory.heap c.permitted.new.memory in
    let now = g.M.Memory.heap c.store_elements.new.memory in
    let old = c.args.operands.now in
    let ready = subst (λ (k : Heap). IsReady k old) (sym c.permitted.ensures.heap) c.requires.ready in
    let part = c.in-Some-array_of.part in
    let rest = c.push_within.ensures ∙ ap (λ ws. c.in-Some.array ∷ ws) (c.discard-2.ensures
    ∙ ap (λ ws. drop part.length ws) c.discard.ensures) in
    astore_ready h now old _ ready c.in-Some.array c.in-Some.ensures part rest c.store_elements.ensures.keeps
    c.store_elements.ensures.sound
