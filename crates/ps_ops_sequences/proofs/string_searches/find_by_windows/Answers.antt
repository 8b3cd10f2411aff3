use Rattle.std.proofs.Common.{◌≡◌, ◌+◌, ◌≤◌, ◌++◌, ◌⊎◌, length, vec_len, true, sym, ap, subst, arith, rules, ◌∙◌, inl, inr}
use Rattle.std.specs.Prelude.{slice_range, is_some}
use Rattle.memchr.specs.Find.{FindsNeedle}
use Rattle.ps_language.specs.Access.{bytes, part_bytes}
use Rattle.ps_word.specs.declared.values.Part.{Part}
use Rattle.ps_mem.specs.Heap.{birth_at}
use Rattle.ps_mem.specs.Meaning.{part_of}
use Rattle.ps_ops_operands.proofs.Intervals.{inner_within}
use Rattle.ps_ops_sequences.proofs.Windows.{nowhere_before, window_read, window_first, window_place}
use Rattle.ps_ops_sequences.proofs.string_searches.find_by_windows.Goals as goal
use Rattle.ps_ops_sequences.proofs.string_searches.find_by_windows.Goals.{then-is_some-via-then-is_some, then-is_some-via-else-is_some+then-len-length}

pub returns-then-is_some-clause-value : goal.returns-then-is_some-clause-value
returns-then-is_some-clause-value g c = λ names s shows within.
    let part = c.args.part in
    let needle = c.args.sought.now in
    let births = birth_at (g.M.Memory.heap c.args.memory.now) in
    let t = bytes s (births part.address) in
    let before = c.loop-finder.invariant in
    let upto = before.upto in
    let reach = before.reach in
    let count = c.min-more.ensures in
    let end = c.len-end.result in
    let more = c.min-more.result in
    let end_is = c.len-end.ensures in
    let fits : end + more ≤ part.length = omega (arith, count, end_is, upto) in
    let read = c.append_bytes.new.output.items in
    let so_far : c.loop-finder.text.items ≡ slice_range t part.offset (part.offset + end) =
    before.read names s shows within
    ∙ ap (λ n. slice_range t part.offset (part.offset + n)) (sym end_is) in
    let next : read ≡ c.loop-finder.text.items ++ part_bytes s (part_of births c.interval.result) =
    (rw before.heap at c.in_ok-append_bytes.ensures.value) names s shows (inner_within births s part
    c.interval.result end more fits c.interval.ensures within) in
    let inner : c.interval.result.length ≡ more = ap (λ (p : Part). p.length) c.interval.ensures in
    let size = c.in_ok-append_bytes.ensures.length in
    let found : FindsNeedle read needle c.loop-finder.from c.find_behind-found.result =
    subst (λ n. FindsNeedle read n c.loop-finder.from c.find_behind-found.result)
    c.new-finder.ensures (subst (λ xs. FindsNeedle xs c.new-finder.result c.loop-finder.from
    c.find_behind-found.result) c.as_slice.ensures.value c.find_behind-found.ensures) in
    let ended : (is_some c.find_behind-found.result ≡ true) ⊎ (end + more ≡ part.length) =
    elim c.then-is_some.branch [
      | then-is_some-via-then-is_some w ↦ inl (sym c.is_some.ensures ∙ w.if-is_some.true)
      | then-is_some-via-else-is_some+then-len-length w ↦ inr (omega
          (arith, w.if-len-length.true, w.len.ensures, size, inner, end_is))
    ] in
    window_place s births part c.interval.result end more c.interval.ensures fits within
    c.loop-finder.text.items read needle so_far next c.loop-finder.from
    (λ some. let ends = reach some in omega (arith, ends, end_is))
    (before.none names s shows within) c.find_behind-found.result found ended

pub loop-finder-preserved : goal.loop-finder-preserved
loop-finder-preserved g c =
    let part = c.args.part in
    let needle = c.args.sought.now in
    let births = birth_at (g.M.Memory.heap c.args.memory.now) in
    let before = c.loop-finder.invariant in
    let upto = before.upto in
    let reach = before.reach in
    let count = c.min-more.ensures in
    let end = c.len-end.result in
    let more = c.min-more.result in
    let end_is = c.len-end.ensures in
    let fits : end + more ≤ part.length = omega (arith, count, end_is, upto) in
    let read = c.append_bytes.new.output.items in
    let inner : c.interval.result.length ≡ more = ap (λ (p : Part). p.length) c.interval.ensures in
    let size = c.in_ok-append_bytes.ensures.length in
    let size_is : end + more ≡ vec_len c.append_bytes.new.output = omega
    (arith, size, inner, end_is) in
    let overlap = c.saturating_sub-overlap.ensures in
    let from = c.saturating_sub-from.ensures in
    let all = c.len-in-loop-finder.ensures in
    record {
      heap = search rules;
      grants = search rules;
      upto = search rules;
      from = search rules;
      reach = λ some. omega (arith, some, from, overlap, all);
      kept = search rules;
      read = λ names s shows within.
          let t = bytes s (births part.address) in
          window_read s births part c.interval.result end more c.interval.ensures fits within
          c.loop-finder.text.items read needle
          (before.read names s shows within
          ∙ ap (λ n. slice_range t part.offset (part.offset + n)) (sym end_is))
          ((rw before.heap at c.in_ok-append_bytes.ensures.value) names s shows
          (inner_within births s part c.interval.result end more fits c.interval.ensures within))
          ∙ ap (λ n. slice_range t part.offset (part.offset + n)) size_is;
      none = λ names s shows within.
          let t = bytes s (births part.address) in
          let first = window_first s births part c.interval.result end more c.interval.ensures
          fits within c.loop-finder.text.items read needle
          (before.read names s shows within
          ∙ ap (λ n. slice_range t part.offset (part.offset + n)) (sym end_is))
          ((rw before.heap at c.in_ok-append_bytes.ensures.value) names s shows
          (inner_within births s part c.interval.result end more fits c.interval.ensures within))
          c.loop-finder.from (λ some. let ends = reach some in omega (arith, ends, end_is))
          (before.none names s shows within) c.find_behind-found.result
          (subst (λ n. FindsNeedle read n c.loop-finder.from c.find_behind-found.result)
          c.new-finder.ensures (subst (λ xs. FindsNeedle xs c.new-finder.result
          c.loop-finder.from c.find_behind-found.result) c.as_slice.ensures.value
          c.find_behind-found.ensures)) in
          let slice = ap length c.as_slice.ensures.value in
          let long = c.as_slice.ensures.len in
          nowhere_before read needle c.find_behind-found.result
          (sym c.is_some.ensures ∙ c.if-is_some.false) first c.saturating_sub-from.result
          (omega (arith, slice, long, from, all));
    }
