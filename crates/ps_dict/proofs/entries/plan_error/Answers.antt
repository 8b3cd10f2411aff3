use Rattle.std.proofs.Common.{◌≡◌, ◌-◌, ◌∙◌, ap, sym, arith}
use Rattle.ps_mem.specs.Heap.{Heap}
use Rattle.ps_dict.specs.Places.{count_at, capacity_at, pairs_at, place_of}
use Rattle.ps_dict.specs.Entries.{error_plan_at, error_planned}
use Rattle.ps_dict.proofs.Shapes.{count-fits, count-shown, capacity-shown}
use Rattle.ps_dict.proofs.Reading.{position-shown}
use Rattle.ps_dict.proofs.entries.plan_error.Goals as goal

pub overflow_sub-result : goal.overflow_sub-result
overflow_sub-result g c =
    let h = g.M.Memory.heap c.args.memory.now in
    let a = c.args.address in
    let before : g.M.Memory.heap c.position-command.new.memory ≡ h =
    c.position-command.ensures.heap
    ∙ (c.position-errorname.ensures.heap ∙ c.position-newerror.ensures.heap) in
    let count : c.length-count.result ≡ count_at h a = c.length-count.ensures.words
    ∙ ap (λ (k : Heap). count_at k a) before in
    let capacity : c.capacity-capacity.result ≡ capacity_at h a =
    c.capacity-capacity.ensures.words
    ∙ ap (λ (k : Heap). capacity_at k a) (c.length-count.ensures.heap ∙ before) in
    let fits = count-fits h a c.requires.known c.requires.sound in
    omega (arith, count, capacity, fits)

pub returns-clause-words : goal.returns-clause-words
unfolding error_plan_at
returns-clause-words g c =
    let h = g.M.Memory.heap c.args.memory.now in
    let a = c.args.address in
    let second : g.M.Memory.heap c.position-errorname.new.memory ≡ h =
    c.position-errorname.ensures.heap ∙ c.position-newerror.ensures.heap in
    let before : g.M.Memory.heap c.position-command.new.memory ≡ h =
    c.position-command.ensures.heap ∙ second in
    let count : c.length-count.result ≡ count_at h a = c.length-count.ensures.words
    ∙ ap (λ (k : Heap). count_at k a) before in
    let capacity : c.capacity-capacity.result ≡ capacity_at h a =
    c.capacity-capacity.ensures.words
    ∙ ap (λ (k : Heap). capacity_at k a) (c.length-count.ensures.heap ∙ before) in
    let newerror = c.position-newerror.ensures.words in
    let errorname = c.position-errorname.ensures.words
    ∙ ap (λ (k : Heap). place_of (pairs_at k a) c.args.entries.errorname.0)
    c.position-newerror.ensures.heap in
    let command = c.position-command.ensures.words
    ∙ ap (λ (k : Heap). place_of (pairs_at k a) c.args.entries.command.0) second in
    λ i. record {
      newerror = newerror i;
      errorname = errorname i;
      command = command i;
      room = capacity i - count i;
    }

pub returns-clause-value : goal.returns-clause-value
unfolding error_plan_at error_planned
returns-clause-value g c = λ names s shows distinct within.
    let h = g.M.Memory.heap c.args.memory.now in
    let a = c.args.address in
    let k = c.requires.known in
    let sound = c.requires.sound in
    let held = c.requires.held in
    let entries = c.args.entries in
    let newerror = position-shown h a k sound names s shows entries.newerror.0 held.0 distinct
    within.0 in
    let errorname = position-shown h a k sound names s shows entries.errorname.0 held.1.1.0
    distinct within.1.1.0 in
    let command = position-shown h a k sound names s shows entries.command.0 held.1.1.1.1.0
    distinct within.1.1.1.1.0 in
    let count = count-shown h a k sound names s shows in
    let capacity = capacity-shown h a k sound names s shows in
    returns-clause-words g c ∙ (λ i. record {
      newerror = (sym newerror) i;
      errorname = (sym errorname) i;
      command = (sym command) i;
      room = capacity i - count i;
    })
