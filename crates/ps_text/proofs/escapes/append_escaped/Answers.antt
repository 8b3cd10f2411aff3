-- Each block is shown behind those before it.
use Rattle.std.proofs.Common.{◌≡◌, ℕ, ◌+◌, ◌≤◌, List, length, refl, ◌∙◌, subst, arith}
use Rattle.std.specs.Prelude.{slice_range}
use Rattle.std.specs.List.{flat_map}
use Rattle.ps_language.specs.Access.{bytes, part_bytes}
use Rattle.ps_language.specs.Texts.{escaped}
use Rattle.ps_language.specs.Value.{Store}
use Rattle.ps_word.specs.declared.values.Part.{Part}
use Rattle.ps_mem.specs.Heap.{Heap, birth_at}
use Rattle.ps_mem.specs.Meaning.{part_of}
use Rattle.ps_mem.specs.Shows.{Shows}
use Rattle.ps_text.proofs.Cuts.{err_given, goes_further}
use Rattle.ps_text.proofs.Rests.{part_end, full_is_all, texts_end}
use Rattle.ps_text.proofs.Runs.{shown_step, shown_full}
use Rattle.ps_text.proofs.escapes.append_escaped.Goals as goal

-- the block that was read is a run of the part
block_lies : (h now : Heap) (p q : Part) (i n : ℕ) (names : List (List ℕ)) (s : Store)
    → now ≡ h → q ≡ record p { offset = p.offset + i; length = n } → i + n ≤ p.length
    → (read : List ℕ) → (Shows now names s
    → q.offset + q.length ≤ length (bytes s (birth_at now q.address))
    → read ≡ part_bytes s (part_of (birth_at now) q)) → Shows h names s
    → p.offset + p.length ≤ length (bytes s (birth_at h p.address))
    → read ≡ slice_range (bytes s (birth_at h p.address)) (p.offset + i) (p.offset + i + n)
block_lies h now p q i n names s same is inside read reads shows within =
    subst (λ (k : Heap). (Shows k names s → p.offset + i + n ≤ length (bytes s
    (birth_at k p.address)) → read ≡ slice_range (bytes s (birth_at k p.address)) (p.offset + i)
    (p.offset + i + n))) same
    (subst (λ (r : Part). (Shows now names s
    → r.offset + r.length ≤ length (bytes s (birth_at now r.address))
    → read ≡ part_bytes s (part_of (birth_at now) r))) is reads) shows
    (omega (arith, within, inside))

pub loop-index-preserved : goal.loop-index-preserved
loop-index-preserved g c =
    let h = g.M.Memory.heap c.args.memory.now in
    let p = c.args.part in
    let i = c.loop-index.index in
    let n = c.min-count.result in
    let least = c.min-count.ensures in
    let below = c.loop-index-test.true in
    let grown = c.append_escapes.ensures.capacity in
    let before = c.loop-index.invariant.capacity in
    let read = c.read_part.new.text in
    let inside : i + n ≤ p.length = omega (arith, least, below) in
    record {
      heap = c.read_part.ensures.heap ∙ c.loop-index.invariant.heap;
      grants = c.read_part.ensures.grants ∙ c.loop-index.invariant.grants;
      within = inside;
      goes_on = goes_further _ _ _ _ c.loop-index.invariant.goes_on
          c.append_escapes.ensures.goes_on;
      capacity = omega (arith, grown, before);
      rest = λ names s shows within.
          shown_step (bytes s (birth_at h p.address)) p.offset p.length i n within inside read
          (flat_map escaped read) (block_lies h _ p c.interval.result i n names s
          c.loop-index.invariant.heap c.interval.ensures inside read
          (c.read_part.ensures.value names s) shows within) refl c.args.end _
          c.loop-index.output.items (c.loop-index.invariant.rest names s shows within) _
          c.in_ok-append_escapes.ensures.ok;
    }

pub returns-in_err-append_escapes-clause-full : goal.returns-in_err-append_escapes-clause-full
returns-in_err-append_escapes-clause-full g c = λ names s shows within.
    let h = g.M.Memory.heap c.args.memory.now in
    let p = c.args.part in
    let i = c.loop-index.index in
    let n = c.min-count.result in
    let least = c.min-count.ensures in
    let below = c.loop-index-test.true in
    let before = c.loop-index.invariant.capacity in
    let full = c.in_err-append_escapes.ensures.full in
    let read = c.read_part.new.text in
    let inside : i + n ≤ p.length = omega (arith, least, below) in
    err_given _ c.from_residual.result
    (shown_full (bytes s (birth_at h p.address)) p.offset p.length i n within inside read
    (flat_map escaped read) (block_lies h _ p c.interval.result i n names s
    c.loop-index.invariant.heap c.interval.ensures inside read
    (c.read_part.ensures.value names s) shows within) refl c.args.end _
    c.loop-index.output.items (c.loop-index.invariant.rest names s shows within) _
    (omega (arith, before, full)))

pub returns-then-len-end-clause-ok : goal.returns-then-len-end-clause-ok
returns-then-len-end-clause-ok g c = λ names s shows within.
    let long = c.loop-index.output.ok.0 in
    let seen = c.len.ensures in
    full_is_all c.args.end _ c.loop-index.output.items _
    (omega (arith, c.if-len-end.true, long, seen)) c.loop-index.invariant.goes_on.short
    (c.loop-index.invariant.rest names s shows within)

pub returns-clause-ok : goal.returns-clause-ok
returns-clause-ok g c = λ names s shows within.
    let p = c.args.part in
    let b = birth_at (g.M.Memory.heap c.args.memory.now) in
    texts_end c.args.end escaped _ c.loop-index.output.items _ (part_end (bytes s (b p.address))
    p.offset p.length c.loop-index.index c.loop-index-test.false)
    c.loop-index.invariant.goes_on.short (c.loop-index.invariant.rest names s shows within)
