-- The word of the key is that of the pair.
use Rattle.std.proofs.Common.{◌≡◌, ◌+◌, ◌-◌, ◌*◌, ◌<◌, ◌∙◌, refl, sym, ap, arith, subst, length, Some}
use Rattle.std.specs.Prelude.{slice_get}
use Rattle.ps_mem.specs.Heap.{fields_at}
use Rattle.ps_dict.specs.Places.{body_at}
use Rattle.ps_dict.specs.Probes.{same_found}
use Rattle.ps_dict.proofs.Reading.{loaded, key-place, key-value, key-pair}
use Rattle.ps_dict.proofs.Shapes.{count-fits}
use Rattle.ps_dict.proofs.Probing.{few-places}
use Rattle.ps_dict.proofs.dictionaries.has_key.Goals as goal

pub overflow_mul-place : goal.overflow_mul-place
overflow_mul-place g c =
    let h = g.M.Memory.heap c.args.memory.now in
    let few = few-places h c.args.address c.requires.known c.requires.sound in
    let fits = count-fits h c.args.address c.requires.known c.requires.sound in
    let below = c.requires.place in
    omega (arith, few, fits, below)

pub overflow_add-body : goal.overflow_add-body
overflow_add-body g c =
    let h = g.M.Memory.heap c.args.memory.now in
    let few = few-places h c.args.address c.requires.known c.requires.sound in
    let fits = count-fits h c.args.address c.requires.known c.requires.sound in
    let below = c.requires.place in
    let body = c.ranges.body in
    omega (arith, few, fits, below, body)

pub load_at-word-requires-clause-place : goal.load_at-word-requires-clause-place
load_at-word-requires-clause-place g c =
    let h = g.M.Memory.heap c.args.memory.now in
    let a = c.args.address in
    let fits : 2 * c.args.place < length (fields_at h (body_at h a)) =
    key-place h a c.requires.known c.requires.sound c.args.place c.requires.place in
    let less : c.args.body + 2 * c.args.place - c.args.body ≡ 2 * c.args.place = omega arith in
    subst (λ n. n < length (fields_at h c.args.body)) (sym less)
    (subst (λ b. 2 * c.args.place < length (fields_at h b)) (sym c.requires.body) fits)

pub are_alike-requires-clause-left : goal.are_alike-requires-clause-left
are_alike-requires-clause-left g c =
    let h = g.M.Memory.heap c.args.memory.now in
    let a = c.args.address in
    let less : c.args.body + 2 * c.args.place - c.args.body ≡ 2 * c.args.place = omega arith in
    let read = loaded h h a c.args.body (2 * c.args.place) c.load_at-word.result refl
    c.requires.body (subst (λ n. slice_get (fields_at h c.args.body) n ≡ Some
    c.load_at-word.result) less c.load_at-word.ensures.answer) in
    (key-value h a c.requires.known c.requires.sound c.args.place c.requires.place
    c.load_at-word.result read).word

pub are_alike-requires-clause-visible : goal.are_alike-requires-clause-visible
are_alike-requires-clause-visible g c =
    let h = g.M.Memory.heap c.args.memory.now in
    let a = c.args.address in
    let less : c.args.body + 2 * c.args.place - c.args.body ≡ 2 * c.args.place = omega arith in
    let read = loaded h h a c.args.body (2 * c.args.place) c.load_at-word.result refl
    c.requires.body (subst (λ n. slice_get (fields_at h c.args.body) n ≡ Some
    c.load_at-word.result) less c.load_at-word.ensures.answer) in
    (key-value h a c.requires.known c.requires.sound c.args.place c.requires.place
    c.load_at-word.result read).visible

pub returns-clause-answer : goal.returns-clause-answer
returns-clause-answer g c =
    let h = g.M.Memory.heap c.args.memory.now in
    let a = c.args.address in
    let less : c.args.body + 2 * c.args.place - c.args.body ≡ 2 * c.args.place = omega arith in
    let read = loaded h h a c.args.body (2 * c.args.place) c.load_at-word.result refl
    c.requires.body (subst (λ n. slice_get (fields_at h c.args.body) n ≡ Some
    c.load_at-word.result) less c.load_at-word.ensures.answer) in
    let (value, there) = key-pair h a c.requires.known c.requires.sound c.args.place
    c.requires.place c.load_at-word.result read in
    c.are_alike.ensures ∙ sym (ap (λ o. same_found o c.args.key) there)
