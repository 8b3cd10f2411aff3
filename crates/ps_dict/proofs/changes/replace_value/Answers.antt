use Rattle.std.proofs.Common.{◌≡◌, ◌≤◌, ◌+◌, ◌*◌, ◌∙◌, [], ◌∷◌, ap, sym, arith, subst, length}
use Rattle.ps_language.specs.Access.{dictionary_at, with_dictionary}
use Rattle.ps_mem.specs.Heap.{Heap, birth_at, fields_at, stored}
use Rattle.ps_mem.specs.Keeps.{Keeps}
use Rattle.ps_mem.specs.Meaning.{value_of}
use Rattle.ps_mem.specs.Shows.{IsSound, Shows}
use Rattle.ps_dict.specs.Places.{body_at}
use Rattle.ps_dict.specs.Puts.{with_value}
use Rattle.ps_dict.proofs.Shapes.{small-count}
use Rattle.ps_dict.proofs.Revaluing.{value-fits, replaced-sound, replaced-keeps, replaced-shows}
use Rattle.ps_dict.proofs.changes.replace_value.Goals as goal

pub overflow_mul-place : goal.overflow_mul-place
overflow_mul-place g c = let small =
    small-count (g.M.Memory.heap c.args.memory.now) c.args.address c.requires.known c.requires.sound
    in let below = c.requires.place in omega (arith, small, below)

pub overflow_add-place : goal.overflow_add-place
overflow_add-place g c = let small =
    small-count (g.M.Memory.heap c.args.memory.now) c.args.address c.requires.known c.requires.sound
    in let below = c.requires.place in omega (arith, small, below)

pub store-requires-clause-place : goal.store-requires-clause-place
store-requires-clause-place g c =
    let h = g.M.Memory.heap c.args.memory.now in
    subst (λ (k : Heap). 2 * c.args.place + 1 + 1 ≤ length (fields_at k c.body-body.result))
    (sym c.body-body.ensures.heap)
    (subst (λ b. 2 * c.args.place + 1 + 1 ≤ length (fields_at h b)) (sym c.body-body.ensures.words)
    (value-fits h c.args.address c.requires.known c.requires.sound c.args.place c.requires.place
    c.args.value c.requires.held))

pub returns-clause-sound : goal.returns-clause-sound
returns-clause-sound g c =
    let h = g.M.Memory.heap c.args.memory.now in
    let now : g.M.Memory.heap c.store.new.self ≡ stored h (body_at h c.args.address)
    (2 * c.args.place + 1) (c.args.value ∷ []) =
    c.store.ensures.heap ∙ (ap
    (λ (k : Heap). stored k c.body-body.result (2 * c.args.place + 1) (c.args.value ∷ []))
    c.body-body.ensures.heap ∙ ap (λ b. stored h b (2 * c.args.place + 1) (c.args.value ∷ []))
    c.body-body.ensures.words) in
    subst IsSound (sym now) (replaced-sound h c.args.address c.requires.known c.requires.sound
    c.args.place c.requires.place c.args.value c.requires.held)

pub returns-clause-keeps : goal.returns-clause-keeps
returns-clause-keeps g c =
    let h = g.M.Memory.heap c.args.memory.now in
    let now : g.M.Memory.heap c.store.new.self ≡ stored h (body_at h c.args.address)
    (2 * c.args.place + 1) (c.args.value ∷ []) =
    c.store.ensures.heap ∙ (ap
    (λ (k : Heap). stored k c.body-body.result (2 * c.args.place + 1) (c.args.value ∷ []))
    c.body-body.ensures.heap ∙ ap (λ b. stored h b (2 * c.args.place + 1) (c.args.value ∷ []))
    c.body-body.ensures.words) in
    subst (Keeps h) (sym now)
    (replaced-keeps h c.args.address c.requires.known c.requires.sound c.args.place
    c.requires.place c.args.value c.requires.held)

pub returns-clause-shows : goal.returns-clause-shows
returns-clause-shows g c = λ names s shows within.
    let h = g.M.Memory.heap c.args.memory.now in
    let now : g.M.Memory.heap c.store.new.self ≡ stored h (body_at h c.args.address)
    (2 * c.args.place + 1) (c.args.value ∷ []) =
    c.store.ensures.heap ∙ (ap
    (λ (k : Heap). stored k c.body-body.result (2 * c.args.place + 1) (c.args.value ∷ []))
    c.body-body.ensures.heap ∙ ap (λ b. stored h b (2 * c.args.place + 1) (c.args.value ∷ []))
    c.body-body.ensures.words) in
    let b = birth_at h c.args.address in
    subst (λ (k : Heap). Shows k names
    (with_dictionary s b (record (dictionary_at s b) {
      pairs = with_value (dictionary_at s b).pairs c.args.place
          (value_of (birth_at h) names c.args.value);
    }))) (sym now)
    (replaced-shows h c.args.address c.requires.known c.requires.sound c.args.place c.requires.place
    c.args.value c.requires.held names s shows within)

pub returns-clause-heap : goal.returns-clause-heap
returns-clause-heap g c =
    c.store.ensures.heap ∙ (ap
    (λ (k : Heap). stored k c.body-body.result (2 * c.args.place + 1) (c.args.value ∷ []))
    c.body-body.ensures.heap
    ∙ ap (λ b. stored (g.M.Memory.heap c.args.memory.now) b (2 * c.args.place + 1)
    (c.args.value ∷ [])) c.body-body.ensures.words)
