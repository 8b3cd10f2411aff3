use Rattle.std.proofs.Common.{◌≡◌, ◌+◌, ◌/◌, ◌<◌, Some, length, arith, sym, subst}
use Rattle.std.specs.Prelude.{slice_get}
use Rattle.ps_mem.specs.Heap.{Heap, fields_at}
use Rattle.ps_mem.specs.Objects.{word_of}
use Rattle.ps_mem.specs.References.{words_for}
use Rattle.ps_seq.proofs.JoinLemmas.{run_in_one, run_in_two}
use Rattle.ps_seq.proofs.TextLemmas.{text_at, text_reaches}
use Rattle.ps_seq.proofs.strings.word_from.Goals as goal

pub load-low-requires : goal.load-low-requires
load-low-requires g c =
    let h = g.M.Memory.heap c.args.memory.now in
    let end = c.args.place + c.args.count in
    let some = c.requires.some in
    let far = text_reaches h c.args.address (words_for end) c.requires.known in record {
      place = omega (arith, far, some);
    }

pub returns-then-first-count-le-BYTES-clause-value :
    goal.returns-then-first-count-le-BYTES-clause-value
returns-then-first-count-le-BYTES-clause-value g c = λ names s shows within.
    let h = g.M.Memory.heap c.args.memory.now in
    let end = c.args.place + c.args.count in
    run_in_one h c.args.address s
    (text_at h c.args.address (words_for end) c.requires.known names s shows) c.args.place
    c.args.count within c.requires.some c.requires.word c.load-low.result (word_of 0) c.joined.result.0
    c.load-low.ensures.answer c.joined.ensures c.if-first-count-le-BYTES.true

pub load-high-requires : goal.load-high-requires
load-high-requires g c =
    let h = g.M.Memory.heap c.args.memory.now in
    let end = c.args.place + c.args.count in
    let over = c.if-first-count-le-BYTES.false in
    let far = text_reaches h c.args.address (words_for end) c.requires.known in record {
      place = subst (λ (k : Heap). c.args.place / 8 + 1 < length (fields_at k c.args.address))
          (sym c.load-low.ensures.heap) (omega (arith, far, over));
    }

pub returns-clause-value : goal.returns-clause-value
returns-clause-value g c = λ names s shows within.
    let h = g.M.Memory.heap c.args.memory.now in
    let end = c.args.place + c.args.count in
    let over = c.if-first-count-le-BYTES.false in
    let read : slice_get (fields_at h c.args.address) (c.args.place / 8 + 1)
    ≡ Some c.load-high.result =
    subst (λ (k : Heap). slice_get (fields_at k c.args.address) (c.args.place / 8 + 1)
    ≡ Some c.load-high.result) c.load-low.ensures.heap c.load-high.ensures.answer in
    run_in_two h c.args.address s
    (text_at h c.args.address (words_for end) c.requires.known names s shows) c.args.place
    c.args.count within c.requires.some c.requires.word c.load-low.result c.load-high.result
    c.joined-2.result.0 c.load-low.ensures.answer c.joined-2.ensures (omega (arith, over)) read
