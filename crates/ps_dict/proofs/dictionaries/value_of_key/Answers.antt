use Rattle.std.proofs.Common.{◌≡◌, ◌<◌, ◌+◌, ◌*◌, ◌∙◌, ap, sym, arith, subst, length}
use Rattle.ps_mem.specs.Heap.{Heap, birth_at, fields_at}
use Rattle.ps_mem.specs.Shows.{IsValue, IsWithin}
use Rattle.ps_mem.proofs.Lists.{all_at}
use Rattle.ps_dict.specs.Places.{body_at}
use Rattle.ps_dict.proofs.Shapes.{small-count, body-values, body-within}
use Rattle.ps_dict.proofs.Reading.{loaded, value-place, position-below, value-pair, found-shown, missing-shown}
use Rattle.ps_dict.proofs.dictionaries.value_of_key.Goals as goal

pub overflow_mul-place : goal.overflow_mul-place
overflow_mul-place g c =
    let h = g.M.Memory.heap c.args.memory.now in
    let small = small-count h c.args.address c.requires.known c.requires.sound in
    let below = position-below h c.args.address c.requires.known c.requires.sound c.args.key c.in-Some.place
    (sym c.in-Some.ensures.words) in
    omega (arith, small, below)

pub overflow_add-place : goal.overflow_add-place
overflow_add-place g c =
    let h = g.M.Memory.heap c.args.memory.now in
    let small = small-count h c.args.address c.requires.known c.requires.sound in
    let below = position-below h c.args.address c.requires.known c.requires.sound c.args.key c.in-Some.place
    (sym c.in-Some.ensures.words) in
    omega (arith, small, below)

pub load-requires : goal.load-requires
load-requires g c =
    let h = g.M.Memory.heap c.args.memory.now in
    let same : g.M.Memory.heap c.body-body.new.memory ≡ h = c.body-body.ensures.heap ∙ c.position.ensures.heap in
    let is : c.body-body.result ≡ body_at h c.args.address = c.body-body.ensures.words
    ∙ ap (λ (k : Heap). body_at k c.args.address) c.position.ensures.heap in
    let below = position-below h c.args.address c.requires.known c.requires.sound c.args.key c.in-Some.place
    (sym c.in-Some.ensures.words) in
    let fits : 2 * c.in-Some.place + 1 < length (fields_at h (body_at h c.args.address)) =
    value-place h c.args.address c.requires.known c.requires.sound c.in-Some.place below in
    record {
      place = subst (λ (k : Heap). 2 * c.in-Some.place + 1 < length (fields_at k c.body-body.result)) (sym same)
          (subst (λ b. 2 * c.in-Some.place + 1 < length (fields_at h b)) (sym is) fits);
    }

pub returns-in-Some-clause-held : goal.returns-in-Some-clause-held
returns-in-Some-clause-held g c =
    let h = g.M.Memory.heap c.args.memory.now in
    let same : g.M.Memory.heap c.body-body.new.memory ≡ h = c.body-body.ensures.heap ∙ c.position.ensures.heap in
    let is : c.body-body.result ≡ body_at h c.args.address = c.body-body.ensures.words
    ∙ ap (λ (k : Heap). body_at k c.args.address) c.position.ensures.heap in
    all_at (IsValue h) (fields_at h (body_at h c.args.address)) (2 * c.in-Some.place + 1) c.load.result
    (body-values h c.args.address c.requires.known c.requires.sound)
    (loaded _ h c.args.address _ _ _ same is c.load.ensures.answer)

pub returns-in-Some-clause-within : goal.returns-in-Some-clause-within
returns-in-Some-clause-within g c = λ names s shows.
    let h = g.M.Memory.heap c.args.memory.now in
    let same : g.M.Memory.heap c.body-body.new.memory ≡ h = c.body-body.ensures.heap ∙ c.position.ensures.heap in
    let is : c.body-body.result ≡ body_at h c.args.address = c.body-body.ensures.words
    ∙ ap (λ (k : Heap). body_at k c.args.address) c.position.ensures.heap in
    all_at (IsWithin (birth_at h) names s) (fields_at h (body_at h c.args.address))
    (2 * c.in-Some.place + 1) c.load.result
    (body-within h c.args.address c.requires.known c.requires.sound names s shows)
    (loaded _ h c.args.address _ _ _ same is c.load.ensures.answer)

pub returns-in-Some-clause-value : goal.returns-in-Some-clause-value
returns-in-Some-clause-value g c = λ names s shows distinct within.
    let h = g.M.Memory.heap c.args.memory.now in
    let same : g.M.Memory.heap c.body-body.new.memory ≡ h = c.body-body.ensures.heap ∙ c.position.ensures.heap in
    let is : c.body-body.result ≡ body_at h c.args.address = c.body-body.ensures.words
    ∙ ap (λ (k : Heap). body_at k c.args.address) c.position.ensures.heap in
    let below = position-below h c.args.address c.requires.known c.requires.sound c.args.key c.in-Some.place
    (sym c.in-Some.ensures.words) in
    let (k, there) = value-pair h c.args.address c.requires.known c.requires.sound c.in-Some.place below c.load.result
    (loaded _ h c.args.address _ _ _ same is c.load.ensures.answer) in
    sym (found-shown h c.args.address c.requires.known c.requires.sound names s shows c.args.key c.requires.held
    distinct within c.in-Some.place (k, c.load.result) (sym c.in-Some.ensures.words) there)

pub returns-in-None-clause-value : goal.returns-in-None-clause-value
returns-in-None-clause-value g c = λ names s shows distinct within.
    let h = g.M.Memory.heap c.args.memory.now in
    sym (missing-shown h c.args.address c.requires.known c.requires.sound names s shows c.args.key c.requires.held
    distinct within (sym c.in-None.ensures.words))
