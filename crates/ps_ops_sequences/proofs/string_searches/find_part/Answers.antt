use Rattle.std.proofs.Common.{List, ◌++◌, ◌≡◌, ◌+◌, ◌≤◌, length, ℕ, ap, subst, arith, ◌∙◌}
use Rattle.std.specs.Prelude.{IfOk}
use Rattle.ps_language.specs.Value.{Store}
use Rattle.ps_language.specs.Access.{bytes, part_bytes}
use Rattle.ps_language.specs.RowsSequences.{place_of}
use Rattle.ps_mem.specs.Heap.{Heap, birth_at}
use Rattle.ps_mem.specs.Meaning.{part_of}
use Rattle.ps_mem.specs.Shows.{Shows}
use Rattle.ps_ops_sequences.proofs.Beginnings.{length_run}
use Rattle.ps_ops_sequences.proofs.Windows.{longer_nowhere}
use Rattle.ps_ops_sequences.proofs.string_searches.find_part.Goals as goal

pub returns-then-wanted-part-clause-value : goal.returns-then-wanted-part-clause-value
returns-then-wanted-part-clause-value g c = λ names s shows in_part in_wanted.
    let births = birth_at (g.M.Memory.heap c.args.memory.now) in
    let part = c.args.part in
    let wanted = c.args.wanted in
    longer_nowhere (part_bytes s (part_of births part)) (part_bytes s (part_of births wanted)) (omega (
      arith,
      c.if-wanted-part.true,
      length_run (bytes s (births part.address)) part.offset part.length in_part,
      length_run (bytes s (births wanted.address)) wanted.offset wanted.length in_wanted,
    ))

pub returns-clause-value : goal.returns-clause-value
returns-clause-value g c = λ names s shows in_part in_wanted.
    let part = c.args.part in
    let births = birth_at (g.M.Memory.heap c.args.memory.now) in
    let needle = part_bytes s (part_of births c.args.wanted) in
    let before = c.find_early.ensures.heap in
    let read = (rw before at c.in_ok-append_bytes.ensures.value) names s shows in_wanted ∙ ap (λ
    (b : List ℕ). b ++ needle) c.requires.sought in
    let found = subst (λ (h : Heap). (names : List (List ℕ)) (s : Store) → Shows h names s
    → part.offset + part.length ≤ length (bytes s (birth_at h part.address))
    → IfOk c.find_by_windows-found.result (λ found. found ≡ place_of c.as_slice.result.now
    (part_bytes s (part_of (birth_at h) part)))) (c.in_ok-append_bytes.ensures.heap ∙ before)
    (λ names s shows within. c.find_by_windows-found.ensures.value names s shows within) in
    subst (λ (n : List ℕ). IfOk c.find_by_windows-found.result (λ found. found ≡ place_of n
    (part_bytes s (part_of births part)))) (c.as_slice.ensures.value ∙ read)
    (found names s shows in_part)
