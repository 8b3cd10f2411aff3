use Rattle.std.proofs.Common.{◌≡◌, ◌∙◌, ap, sym, arith, subst}
use Rattle.std.specs.Prelude.{◌↔◌, None}
use Rattle.ps_language.specs.Access.{dictionary_at}
use Rattle.ps_language.specs.Dictionaries.{put_pair, holding}
use Rattle.ps_mem.specs.Heap.{Heap, birth_at}
use Rattle.ps_mem.specs.Meaning.{value_of}
use Rattle.ps_dict.specs.declared.plans.PutPlan.TheVariants.{Full}
use Rattle.ps_dict.specs.Places.{count_at, capacity_at, pairs_at, place_of}
use Rattle.ps_dict.specs.Puts.{plan_from, plan_at}
use Rattle.ps_dict.proofs.Shapes.{count-fits, count-shown}
use Rattle.ps_dict.proofs.Probing.{few-places}
use Rattle.ps_dict.proofs.Planning.{full-iff, plan-shown}
use Rattle.ps_dict.proofs.plans.plan_put.Goals as goal

pub plan_of-requires : goal.plan_of-requires
plan_of-requires g c =
    let h = g.M.Memory.heap c.args.memory.now in
    let count : c.length-count.result ≡ count_at h c.args.address = c.length-count.ensures.words
    ∙ ap (λ (k : Heap). count_at k c.args.address) c.put_position-place.ensures.heap in
    let capacity : c.capacity-capacity.result ≡ capacity_at h c.args.address =
    c.capacity-capacity.ensures.words
    ∙ ap (λ (k : Heap). capacity_at k c.args.address)
    (c.length-count.ensures.heap ∙ c.put_position-place.ensures.heap) in
    let fits = count-fits h c.args.address c.requires.known c.requires.sound in
    omega (arith, count, capacity, fits)

pub returns-clause-words : goal.returns-clause-words
unfolding plan_at
returns-clause-words g c =
    let h = g.M.Memory.heap c.args.memory.now in
    let count : c.length-count.result ≡ count_at h c.args.address = c.length-count.ensures.words
    ∙ ap (λ (k : Heap). count_at k c.args.address) c.put_position-place.ensures.heap in
    let capacity : c.capacity-capacity.result ≡ capacity_at h c.args.address =
    c.capacity-capacity.ensures.words
    ∙ ap (λ (k : Heap). capacity_at k c.args.address)
    (c.length-count.ensures.heap ∙ c.put_position-place.ensures.heap) in
    c.plan_of.ensures.plan ∙ (ap (λ o. plan_from o c.length-count.result c.capacity-capacity.result)
    c.put_position-place.ensures.words
    ∙ (ap (λ n. plan_from (place_of (pairs_at h c.args.address) c.args.key) n
    c.capacity-capacity.result) count
    ∙ ap (plan_from (place_of (pairs_at h c.args.address) c.args.key) (count_at h c.args.address))
    capacity))

pub returns-clause-value : goal.returns-clause-value
returns-clause-value g c = λ names s shows distinct within.
    returns-clause-words g c ∙
    sym (plan-shown (g.M.Memory.heap c.args.memory.now) c.args.address c.requires.known
    c.requires.sound names s shows c.args.key c.requires.held distinct within)

pub returns-clause-full : goal.returns-clause-full
returns-clause-full g c = λ names s shows distinct within value.
    let h = g.M.Memory.heap c.args.memory.now in
    let d = dictionary_at s (birth_at h c.args.address) in
    subst (λ plan. (plan ≡ Full) ↔
    (holding d (put_pair d.pairs (value_of (birth_at h) names c.args.key, value)) ≡ None))
    (sym (returns-clause-value g c names s shows distinct within))
    (full-iff d (value_of (birth_at h) names c.args.key) value
    (let n = count-shown h c.args.address c.requires.known c.requires.sound names s shows in
    let fits = count-fits h c.args.address c.requires.known c.requires.sound in let few =
    few-places h c.args.address c.requires.known c.requires.sound in
    omega (arith, n, fits, few)))
