use Rattle.std.proofs.Common.{◌≡◌, ◌+◌, ◌-◌, ◌<◌, ◌≤◌, List, ℕ, length, take, drop, get_or, Some, arith, sym, ap, subst, ◌∙◌}
use Rattle.std.specs.Prelude.{nat_eq}
use Rattle.std.specs.List.{starts_with}
use Rattle.memchr.specs.Find.{IsFirstByte, is_byte}
use Rattle.ps_language.specs.declared.kinds.Kind.TheVariants.{Text as TextKind}
use Rattle.ps_language.specs.Access.{bytes, part_bytes}
use Rattle.ps_word.specs.declared.values.Part.{Part}
use Rattle.ps_mem.specs.Heap.{Heap, birth_at}
use Rattle.ps_mem.specs.Meaning.{part_of}
use Rattle.ps_mem.specs.References.{StandsAs, words_for}
use Rattle.ps_ops_sequences.proofs.Beginnings.{first_bytes, length_run}
use Rattle.ps_ops_sequences.proofs.Early.{run_byte, last_bytes, one_early, begun_early}
use Rattle.ps_ops_operands.proofs.Intervals.{inner_stands, inner_within}
use Rattle.ps_ops_sequences.proofs.string_searches.find_early.Goals as goal
use Rattle.ps_ops_sequences.proofs.string_searches.find_early.Goals.{then-wanted-eq1-via-then-wanted-eq1, then-wanted-eq1-via-else-wanted-eq1+then-begins_with}

pub overflow_sub-part : goal.overflow_sub-part
overflow_sub-part g c =
    let near = ap (λ (q : Part). q.length) c.interval.ensures in
    let below = c.in_ok-place.ensures.within in
    omega (arith, below, near)

pub interval-behind-requires-clause-within : goal.interval-behind-requires-clause-within
interval-behind-requires-clause-within g c =
    let near = ap (λ (q : Part). q.length) c.interval.ensures in
    let below = c.in_ok-place.ensures.within in
    omega (arith, below, near)

pub begins_with-requires-clause-part : goal.begins_with-requires-clause-part
begins_with-requires-clause-part g c =
    let h = g.M.Memory.heap c.args.memory.now in
    let p = c.args.part in
    let behind = c.interval-behind.result in
    let near = ap (λ (q : Part). q.length) c.interval.ensures in
    let below = c.in_ok-place.ensures.within in
    subst (λ (k : Heap). StandsAs k TextKind behind.address (words_for
    (behind.offset + behind.length)))
    (sym (c.find_byte.ensures.heap ∙ c.byte-first.ensures.heap))
    (inner_stands h p behind c.in_ok-place.place (p.length - c.in_ok-place.place)
    (omega (arith, below, near)) c.interval-behind.ensures c.requires.part)

pub returns-then-wanted-eq1-clause-value : goal.returns-then-wanted-eq1-clause-value
returns-then-wanted-eq1-clause-value g c = λ names s shows within within'.
    let births = birth_at (g.M.Memory.heap c.args.memory.now) in
    let p = c.args.part in
    let w = c.args.wanted in
    let place = c.in_ok-place.place in
    let b = c.byte-first.result in
    let near = c.min-near.result in
    let least = c.min-near.ensures in
    let size = ap (λ (q : Part). q.length) c.interval.ensures in
    let below : place < p.length =
    let before = c.in_ok-place.ensures.within in omega (arith, before, size, least) in
    let t = bytes s (births p.address) in
    let u = bytes s (births w.address) in
    let hay = part_bytes s (part_of births p) in
    let needle = part_bytes s (part_of births w) in
    let long : length needle ≡ w.length = length_run u w.offset w.length within' in
    let some : 1 ≤ length needle = omega (arith, long, c.if-wanted-eq0.false) in
    let begins : get_or needle 0 0 ≡ b = run_byte u w.offset w.length 0 b (omega
    (arith, c.if-wanted-eq0.false)) (c.byte-first.ensures.value names s shows within') in
    let fits : 0 + near ≤ p.length = omega (arith, least) in
    let first : part_bytes s (part_of births c.interval.result) ≡ take near hay =
    ap (λ (q : Part). part_bytes s (part_of births q)) c.interval.ensures
    ∙ first_bytes t p.offset p.length near (omega (arith, fits)) in
    let found : IsFirstByte (is_byte b) (take near hay) (Some place) =
    subst (λ (bs : List ℕ). IsFirstByte (is_byte b) bs (Some place)) first
    ((rw c.byte-first.ensures.heap at c.in_ok-place.ensures.value) names s shows
    (inner_within births s p c.interval.result 0 near fits c.interval.ensures within)) in
    elim c.then-wanted-eq1.branch [
      | then-wanted-eq1-via-then-wanted-eq1 one ↦ one_early hay needle near place b some begins
          found (long ∙ one.if-wanted-eq1.true)
      | then-wanted-eq1-via-else-wanted-eq1+then-begins_with more ↦
          let rest : place + (p.length - place) ≤ p.length = omega (arith, below) in
          let last : part_bytes s (part_of births c.interval-behind.result) ≡ drop place hay =
          ap (λ (q : Part). part_bytes s (part_of births q)) c.interval-behind.ensures
          ∙ last_bytes t p.offset p.length place (omega (arith, below)) in
          let same = c.find_byte.ensures.heap ∙ c.byte-first.ensures.heap in
          begun_early hay needle near place b some begins found
          (ap (λ bs. starts_with nat_eq bs needle) (sym last)
          ∙ (sym {b = starts_with nat_eq (part_bytes s (part_of births c.interval-behind.result))
          needle} ((rw same at more.begins_with.ensures.value) names s shows (inner_within births s
          p c.interval-behind.result place (p.length - place) rest c.interval-behind.ensures within)
          within') ∙ more.if-begins_with.true))
    ]

pub returns-then-wanted-eq1-clause-fits : goal.returns-then-wanted-eq1-clause-fits
returns-then-wanted-eq1-clause-fits g c =
    let near = ap (λ (q : Part). q.length) c.interval.ensures in
    let below = c.in_ok-place.ensures.within in
    let size = ap (λ (q : Part). q.length) c.interval-behind.ensures in
    elim c.then-wanted-eq1.branch [
      | then-wanted-eq1-via-then-wanted-eq1 one ↦ omega
          (arith, one.if-wanted-eq1.true, below, near)
      | then-wanted-eq1-via-else-wanted-eq1+then-begins_with more ↦
          let fits = more.begins_with.ensures.fits more.if-begins_with.true in
          omega (arith, fits, size, below, near)
    ]
