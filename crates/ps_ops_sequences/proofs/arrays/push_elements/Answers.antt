use Rattle.std.proofs.Common.{◌≡◌, ◌+◌, ◌∷◌, ◌++◌, length, ap, arith, sym, refl, ◌∙◌}
use Rattle.std.specs.Prelude.{slice_get, slice_range, reverse}
use Rattle.ps_mem.specs.Heap.{Heap, fields_at}
use Rattle.ps_seq.proofs.ArrayLemmas.{array_reaches}
use Rattle.ps_ops_operands.proofs.Operands.{reverse-run_next, run_none, length-run}
use Rattle.ps_ops_sequences.proofs.arrays.push_elements.Goals as goal

pub loop-index-init : goal.loop-index-init
loop-index-init g c = (
  refl,
  refl,
  run_none (fields_at (g.M.Memory.heap c.args.memory.now) c.args.part.address) c.args.operands.now c.args.part.offset,
)

pub load-word-requires : goal.load-word-requires
load-word-requires g c =
    let h = g.M.Memory.heap c.args.memory.now in
    let p = c.args.part in
    let reach = array_reaches h p.address (p.offset + p.length) c.requires.stands in
    let same = ap (λ (k : Heap). length (fields_at k p.address)) c.loop-index.invariant.0 in
    let below = c.loop-index-test.true in
    record { place = omega (arith, reach, same, below) }

pub push_within-requires : goal.push_within-requires
push_within-requires g c =
    let h = g.M.Memory.heap c.args.memory.now in
    let p = c.args.part in
    let room = c.requires.room in
    let below = c.loop-index-test.true in
    omega (
      arith,
      room,
      below,
      ap length c.loop-index.invariant.2,
      length-run (fields_at h p.address) c.args.operands.now p.offset c.loop-index.index,
    )

pub loop-index-preserved : goal.loop-index-preserved
loop-index-preserved g c =
    let h = g.M.Memory.heap c.args.memory.now in
    let p = c.args.part in
    let same = ap (λ (k : Heap). fields_at k p.address) c.loop-index.invariant.0 in
    let read = ap (λ ws. slice_get ws (p.offset + c.loop-index.index)) (sym same) ∙ c.load-word.ensures.answer in (
      c.load-word.ensures.heap ∙ c.loop-index.invariant.0,
      c.load-word.ensures.grants ∙ c.loop-index.invariant.1,
      c.push_within.ensures ∙ (ap (λ ws. c.load-word.result ∷ ws) c.loop-index.invariant.2
          ∙ reverse-run_next (fields_at h p.address) c.args.operands.now p.offset c.loop-index.index c.load-word.result
          read),
    )

pub returns-clause-pushed : goal.returns-clause-pushed
returns-clause-pushed g c =
    let p = c.args.part in
    let all : c.loop-index.index ≡ p.length = omega arith in
    c.loop-index.invariant.2
    ∙ ap (λ n. reverse (slice_range (fields_at (g.M.Memory.heap c.args.memory.now) p.address) p.offset
    (p.offset + n)) ++ c.args.operands.now) all
