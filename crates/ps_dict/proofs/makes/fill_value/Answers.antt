use Rattle.std.proofs.Common.{ℕ, ◌≡◌, ◌<◌, ◌+◌, ◌*◌, ◌∙◌, [], ◌∷◌, ap, sym, arith, subst, length}
use Rattle.ps_language.specs.Access.{dictionary_at, with_dictionary}
use Rattle.ps_mem.specs.Heap.{Heap, birth_at, fields_at, stored}
use Rattle.ps_mem.specs.Keeps.{Keeps, Extends}
use Rattle.ps_mem.specs.Meaning.{value_of}
use Rattle.ps_mem.specs.Shows.{IsSound, Shows}
use Rattle.ps_mem.proofs.HeapLemmas.{birth_at-stored}
use Rattle.ps_mem.proofs.KeepsLemmas.{Extends-stored}
use Rattle.ps_dict.specs.Places.{count_at, capacity_at, body_at}
use Rattle.ps_dict.specs.Puts.{with_value}
use Rattle.ps_dict.proofs.Shapes.{small-count}
use Rattle.ps_dict.proofs.Revaluing.{value-fits, replaced-sound, replaced-keeps, replaced-shows, value-count_at, value-capacity_at, value-body_at}
use Rattle.ps_dict.proofs.makes.fill_value.Given.{Over}
use Rattle.ps_dict.proofs.makes.fill_value.Goals.{After-fill}
use Rattle.ps_dict.proofs.makes.fill_value.Goals as goal

pub overflow_mul-place : goal.overflow_mul-place
overflow_mul-place g c = let small =
    small-count (g.M.Memory.heap c.args.memory.now) c.args.address c.requires.known c.requires.sound
    in let below = c.requires.place in omega (arith, small, below)

pub overflow_add-place : goal.overflow_add-place
overflow_add-place g c = let small =
    small-count (g.M.Memory.heap c.args.memory.now) c.args.address c.requires.known c.requires.sound
    in let below = c.requires.place in omega (arith, small, below)

pub fill-requires-clause-place : goal.fill-requires-clause-place
fill-requires-clause-place g c =
    let h = g.M.Memory.heap c.args.memory.now in
    let fits = value-fits h c.args.address c.requires.known c.requires.sound c.args.place
    c.requires.place c.args.value c.requires.held in
    subst (λ (k : Heap). 2 * c.args.place + 1 < length (fields_at k c.body-body.result))
    (sym c.body-body.ensures.heap)
    (subst (λ b. 2 * c.args.place + 1 < length (fields_at h b)) (sym c.body-body.ensures.words)
    (omega (arith, fits)))

-- ---- the memory with the value

module _ (g : Over) (c : After-fill g) where
  abbrev h : Heap
  h = g.M.Memory.heap c.args.memory.now

  abbrev a : ℕ
  a = c.args.address

  now : g.M.Memory.heap c.fill.new.self ≡ stored h (body_at h a) (2 * c.args.place + 1)
      (c.args.value ∷ [])
  now = c.fill.ensures.heap ∙ (ap
      (λ (k : Heap). stored k c.body-body.result (2 * c.args.place + 1) (c.args.value ∷ []))
      c.body-body.ensures.heap ∙ ap (λ b. stored h b (2 * c.args.place + 1) (c.args.value ∷ []))
      c.body-body.ensures.words)

pub returns-clause-sound : goal.returns-clause-sound
returns-clause-sound g c = subst IsSound (sym (now g c))
    (replaced-sound (h g c) c.args.address c.requires.known c.requires.sound c.args.place
    c.requires.place c.args.value c.requires.held)

pub returns-clause-keeps : goal.returns-clause-keeps
returns-clause-keeps g c = subst (Keeps (h g c)) (sym (now g c))
    (replaced-keeps (h g c) c.args.address c.requires.known c.requires.sound c.args.place
    c.requires.place c.args.value c.requires.held)

pub returns-clause-births : goal.returns-clause-births
returns-clause-births g c = ap birth_at (now g c) ∙ birth_at-stored _ _ _ _

pub returns-clause-extends : goal.returns-clause-extends
returns-clause-extends g c = λ old extends free body_free.
    subst (Extends old) (sym (now g c))
    (Extends-stored old (h g c) (body_at (h g c) c.args.address) (2 * c.args.place + 1)
    (c.args.value ∷ []) extends body_free)

pub returns-clause-body : goal.returns-clause-body
returns-clause-body g c = ap (λ (k : Heap). body_at k c.args.address) (now g c)
    ∙ value-body_at (h g c) c.args.address c.requires.known c.requires.sound c.args.place
    c.requires.place c.args.value c.requires.held

pub returns-clause-capacity : goal.returns-clause-capacity
returns-clause-capacity g c = ap (λ (k : Heap). capacity_at k c.args.address) (now g c)
    ∙ value-capacity_at (h g c) c.args.address c.requires.known c.requires.sound c.args.place
    c.requires.place c.args.value c.requires.held

pub returns-clause-count : goal.returns-clause-count
returns-clause-count g c = ap (λ (k : Heap). count_at k c.args.address) (now g c)
    ∙ value-count_at (h g c) c.args.address c.requires.known c.requires.sound c.args.place
    c.requires.place c.args.value c.requires.held

pub returns-clause-shows : goal.returns-clause-shows
returns-clause-shows g c = λ names s shows within.
    let b = birth_at (h g c) c.args.address in
    subst (λ (k : Heap). Shows k names
    (with_dictionary s b (record (dictionary_at s b) {
      pairs = with_value (dictionary_at s b).pairs c.args.place
          (value_of (birth_at (h g c)) names c.args.value);
    }))) (sym (now g c))
    (replaced-shows (h g c) c.args.address c.requires.known c.requires.sound c.args.place
    c.requires.place c.args.value c.requires.held names s shows within)
