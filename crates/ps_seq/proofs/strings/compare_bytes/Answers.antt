use Rattle.std.proofs.Common.{◌≡◌, ◌≢◌, ℕ, ◌+◌, ◌≤◌, ◌⊎◌, List, Equal, Ordering, length, take, drop, arith, rules, sym, ◌∙◌, subst, inl, inr}
use Rattle.std.specs.Prelude.{slice_range}
use Rattle.std.specs.Int.{w64, to_le_bytes}
use Rattle.std.specs.Ordering.{nat_cmp, ordering_then}
use Rattle.std.specs.Cmp.Lexicographic.{slice_cmp}
use Rattle.std.proofs.lemmas.Bool.{cases_lt}
use Rattle.ps_language.specs.declared.kinds.Kind.TheVariants.{Text as TextKind}
use Rattle.ps_language.specs.Value.{Store}
use Rattle.ps_language.specs.Access.{bytes, part_bytes}
use Rattle.ps_mem.specs.Heap.{Heap, birth_at}
use Rattle.ps_mem.specs.Meaning.{part_of}
use Rattle.ps_mem.specs.References.{StandsAs, words_for}
use Rattle.ps_mem.specs.Shows.{Shows}
use Rattle.ps_seq.proofs.CompareLemmas.{length_part, run_more, run_length, runs_decide, then_decided, then_equal, at_end, cmp-same, equal_exactly}
use Rattle.ps_seq.proofs.TextLemmas.{stands_shorter}
use Rattle.ps_seq.proofs.strings.compare_bytes.Given.{Over}
use Rattle.ps_seq.proofs.strings.compare_bytes.Goals.{After-ne}
use Rattle.ps_seq.proofs.strings.compare_bytes.Goals as goal

-- a part beside itself
pub returns-then-left-right-3-clause-order : goal.returns-then-left-right-3-clause-order
returns-then-left-right-3-clause-order g c = λ names s shows within within'.
    let births = birth_at (g.M.Memory.heap c.args.memory.now) in
    let address = c.if-left-right.true in
    let offset = c.if-left-right-2.true in
    let count = c.if-left-right-3.true in
    cmp-same _ _ (λ i. slice_range (bytes s (births (address i))) (offset i)
    (offset i + count i))

pub word_from-left_word-requires-clause-known : goal.word_from-left_word-requires-clause-known
word_from-left_word-requires-clause-known g c =
    let h = g.M.Memory.heap c.args.memory.now in
    let p = c.args.left in
    let below = c.loop-index-test.true in
    let least = c.min-shared.ensures in
    let count = c.min-count.ensures in
    subst (λ (k : Heap). StandsAs k TextKind p.address (words_for
    (p.offset + c.loop-index.index + c.min-count.result)))
    (sym c.loop-index.invariant.heap) (stands_shorter h p.address _ _ (omega
    (arith, below, least, count)) c.requires.left)

pub word_from-right_word-requires-clause-known : goal.word_from-right_word-requires-clause-known
word_from-right_word-requires-clause-known g c =
    let h = g.M.Memory.heap c.args.memory.now in
    let p = c.args.right in
    let below = c.loop-index-test.true in
    let least = c.min-shared.ensures in
    let count = c.min-count.ensures in
    subst (λ (k : Heap). StandsAs k TextKind p.address (words_for
    (p.offset + c.loop-index.index + c.min-count.result)))
    (sym (c.word_from-left_word.ensures.heap ∙ c.loop-index.invariant.heap))
    (stands_shorter h p.address _ _ (omega (arith, below, least, count)) c.requires.right)

-- how what stands behind the runs compares
abbrev behind : (g : Over) (c : After-ne g) (s : Store) → Ordering
behind g c s =
    let births = birth_at (g.M.Memory.heap c.args.memory.now) in
    let next = c.loop-index.index + c.min-count.result in
    slice_cmp nat_cmp (drop next (part_bytes s (part_of births c.args.left)))
    (drop next (part_bytes s (part_of births c.args.right)))

-- a turn: the runs decide, or what stands behind them does
turn : (g : Over) (c : After-ne g) → (names : List (List ℕ)) (s : Store)
    → (let h = g.M.Memory.heap c.args.memory.now in Shows h names s
    → c.args.left.offset + c.args.left.length ≤ length (bytes s (birth_at h c.args.left.address))
    → c.args.right.offset + c.args.right.length ≤ length (bytes s (birth_at h c.args.right.address))
    → slice_cmp nat_cmp (part_bytes s (part_of (birth_at h) c.args.left))
    (part_bytes s (part_of (birth_at h) c.args.right))
    ≡ ordering_then c.compare_runs-order.result (behind g c s))
turn g c names s shows within within' =
    let h = g.M.Memory.heap c.args.memory.now in
    let p = c.args.left in
    let q = c.args.right in
    let i = c.loop-index.index in
    let n = c.min-count.result in
    let below = c.loop-index-test.true in
    let least = c.min-shared.ensures in
    let count = c.min-count.ensures in
    let before = c.loop-index.invariant.heap in
    let before' = c.word_from-left_word.ensures.heap ∙ before in
    let t = bytes s (birth_at h p.address) in
    let u = bytes s (birth_at h q.address) in
    let inside : i + n ≤ p.length = omega arith in
    let inside' : i + n ≤ q.length = omega arith in
    let run = take n (to_le_bytes w64 c.word_from-left_word.result.0) in
    let run' = take n (to_le_bytes w64 c.word_from-right_word.result.0) in
    let is : run ≡ slice_range t (p.offset + i) (p.offset + i + n) =
    subst (λ (k : Heap). Shows k names s
    → p.offset + i + n ≤ length (bytes s (birth_at k p.address))
    → run ≡ slice_range (bytes s (birth_at k p.address)) (p.offset + i) (p.offset + i + n)) before
    (c.word_from-left_word.ensures.value names s) shows (omega (arith, within, inside)) in
    let is' : run' ≡ slice_range u (q.offset + i) (q.offset + i + n) =
    subst (λ (k : Heap). Shows k names s
    → q.offset + i + n ≤ length (bytes s (birth_at k q.address))
    → run' ≡ slice_range (bytes s (birth_at k q.address)) (q.offset + i) (q.offset + i + n)) before'
    (c.word_from-right_word.ensures.value names s) shows (omega (arith, within', inside')) in
    let ls = slice_range t p.offset (p.offset + p.length) in
    let rs = slice_range u q.offset (q.offset + q.length) in
    c.loop-index.invariant.order names s shows within within'
    ∙ runs_decide (drop i ls) (drop i rs) run run' (drop (i + n) ls) (drop (i + n) rs)
    (run_more t p.offset p.length i n within inside run is)
    (run_more u q.offset q.length i n within' inside' run' is')
    (run_length t p.offset p.length i n within inside run is
    ∙ sym (run_length u q.offset q.length i n within' inside' run' is'))
    c.compare_runs-order.result c.compare_runs-order.ensures

pub returns-then-ne-clause-order : goal.returns-then-ne-clause-order
returns-then-ne-clause-order g c = λ names s shows within within'.
    let other : c.compare_runs-order.result ≢ Equal = search rules in
    sym (turn g c.before names s shows within within'
    ∙ then_decided c.compare_runs-order.result (behind g c.before s) other)

pub returns-then-ne-clause-equal : goal.returns-then-ne-clause-equal
returns-then-ne-clause-equal g c = λ names s shows within within'.
    equal_exactly c.compare_runs-order.result _ _
    (returns-then-ne-clause-order g c names s shows within within')

pub loop-index-preserved : goal.loop-index-preserved
loop-index-preserved g c =
    let below = c.loop-index-test.true in
    let least = c.min-shared.ensures in
    let count = c.min-count.ensures in
    record {
      heap = c.word_from-right_word.ensures.heap
          ∙ (c.word_from-left_word.ensures.heap ∙ c.loop-index.invariant.heap);
      grants = c.word_from-right_word.ensures.grants
          ∙ (c.word_from-left_word.ensures.grants ∙ c.loop-index.invariant.grants);
      upto = omega arith;
      order = λ names s shows within within'.
          let same : c.compare_runs-order.result ≡ Equal = search rules in
          turn g c.before names s shows within within'
          ∙ then_equal c.compare_runs-order.result (behind g c.before s) same;
    }

pub returns-clause-order : goal.returns-clause-order
returns-clause-order g c = λ names s shows within within'.
    let h = g.M.Memory.heap c.args.memory.now in
    let p = c.args.left in
    let q = c.args.right in
    let t = bytes s (birth_at h p.address) in
    let u = bytes s (birth_at h q.address) in
    let ls = slice_range t p.offset (p.offset + p.length) in
    let rs = slice_range u q.offset (q.offset + q.length) in
    let long = length_part t p.offset p.length within in
    let long' = length_part u q.offset q.length within' in
    let least = c.min-shared.ensures in
    let done = c.loop-index-test.false in
    let upto = c.loop-index.invariant.upto in
    let ended : (length ls ≤ c.loop-index.index) ⊎ (length rs ≤ c.loop-index.index) = elim
    (cases_lt p.length q.length) [
      | inl first ↦ inl (omega (arith, first, long, least, done))
      | inr second ↦ inr (omega (arith, second, long', least, done))
    ] in
    let order : c.cmp.result ≡ slice_cmp nat_cmp ls rs =
    c.cmp.ensures
    ∙ (sym (λ k. nat_cmp (long k) (long' k))
    ∙ (sym (at_end ls rs c.loop-index.index (omega (arith, long, least, upto)) (omega
    (arith, long', least, upto)) ended) ∙ sym (c.loop-index.invariant.order names s shows within
    within'))) in
    order

pub returns-clause-equal : goal.returns-clause-equal
returns-clause-equal g c = λ names s shows within within'.
    equal_exactly c.cmp.result _ _ (returns-clause-order g c names s shows within within')
