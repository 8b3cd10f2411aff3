use Rattle.std.proofs.Common.{◌≡◌, ◌∙◌, ap, sym, arith, length}
use Rattle.ps_mem.specs.Heap.{Heap}
use Rattle.ps_dict.specs.Merges.{body_plan, merged_at}
use Rattle.ps_dict.specs.Places.{count_at, capacity_at}
use Rattle.ps_dict.proofs.Copying.{planned-none, planned-some, planned-shown}
use Rattle.ps_dict.proofs.Probing.{few-places}
use Rattle.ps_dict.proofs.copies.count_merge.Goals as goal

pub returns-then-more-eq0-clause-plan : goal.returns-then-more-eq0-clause-plan
returns-then-more-eq0-clause-plan g c =
    let h = g.M.Memory.heap c.args.memory.now in
    let none : count_at h c.args.merge.from ≡ 0 = sym c.length-more.ensures.words ∙ c.if-more-eq0.true in
    sym (planned-none h c.requires.sound c.args.merge.to c.args.merge.from c.requires.target
    c.requires.source none)

pub returns-then-more-eq0-clause-value : goal.returns-then-more-eq0-clause-value
returns-then-more-eq0-clause-value g c = λ names s shows distinct.
    returns-then-more-eq0-clause-plan g c
    ∙ planned-shown (g.M.Memory.heap c.args.memory.now) c.requires.sound c.args.merge.to c.args.merge.from
    c.requires.target c.requires.source names s shows distinct

pub plan_of-requires : goal.plan_of-requires
plan_of-requires g c =
    let h = g.M.Memory.heap c.args.memory.now in
    let capacity : c.capacity-capacity.result ≡ capacity_at h c.args.merge.to =
    c.capacity-capacity.ensures.words
    ∙ ap (λ (k : Heap). capacity_at k c.args.merge.to) c.length-more.ensures.heap in
    let few = few-places h c.args.merge.to c.requires.target c.requires.sound in
    omega (arith, capacity, few)

pub returns-clause-plan : goal.returns-clause-plan
returns-clause-plan g c =
    let h = g.M.Memory.heap c.args.memory.now in
    let to = c.args.merge.to in
    let from = c.args.merge.from in
    let before : g.M.Memory.heap c.capacity-capacity.new.memory ≡ h =
    c.capacity-capacity.ensures.heap ∙ c.length-more.ensures.heap in
    let capacity : c.capacity-capacity.result ≡ capacity_at h to =
    c.capacity-capacity.ensures.words
    ∙ ap (λ (k : Heap). capacity_at k to) c.length-more.ensures.heap in
    let count : c.merged_count-count.result ≡ length (merged_at h to from) =
    c.merged_count-count.ensures.count
    ∙ ap (λ (k : Heap). length (merged_at k to from)) before in
    let more : c.length-more.result ≡ count_at h from = c.length-more.ensures.words in
    let some = c.if-more-eq0.false in
    c.plan_of.ensures.plan
    ∙ (ap (λ n. body_plan n c.capacity-capacity.result) count
    ∙ (ap (body_plan (length (merged_at h to from))) capacity
    ∙ sym (planned-some h c.requires.sound to from c.requires.target c.requires.source
    (omega (arith, more, some)))))

pub returns-clause-value : goal.returns-clause-value
returns-clause-value g c = λ names s shows distinct.
    returns-clause-plan g c
    ∙ planned-shown (g.M.Memory.heap c.args.memory.now) c.requires.sound c.args.merge.to c.args.merge.from
    c.requires.target c.requires.source names s shows distinct
