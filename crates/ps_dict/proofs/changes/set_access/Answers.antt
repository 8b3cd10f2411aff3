use Rattle.std.proofs.Common.{ℕ, false, ◌∙◌, ap, sym, arith, subst}
use Rattle.ps_language.specs.Access.{dictionary_at, with_dictionary}
use Rattle.std.specs.Prelude.{pos}
use Rattle.ps_word.specs.declared.values.Value.{Value}
use Rattle.ps_word.specs.declared.values.Content.TheVariants.{Integer}
use Rattle.ps_word.specs.Format.{access_number}
use Rattle.ps_mem.specs.Heap.{Heap, birth_at}
use Rattle.ps_mem.specs.Keeps.{Keeps}
use Rattle.ps_mem.specs.Shows.{IsNatural, IsSound, Shows}
use Rattle.ps_mem.proofs.HeapLemmas.{birth_at-stored}
use Rattle.ps_dict.proofs.Shapes.{four}
use Rattle.ps_dict.proofs.Naturals.{access-stored_sound, access-stored_keeps, access-stored_shows}
use Rattle.ps_dict.proofs.changes.set_access.Goals as goal

abbrev natural_value : ℕ → Value
natural_value n = record { content = Integer (pos n); executable = false }

pub store-requires-clause-place : goal.store-requires-clause-place
store-requires-clause-place g c = let n =
    four (g.M.Memory.heap c.args.memory.now) c.args.address c.requires.known c.requires.sound in omega (arith, n)

pub returns-clause-sound : goal.returns-clause-sound
returns-clause-sound g c =
    let is : IsNatural c.natural_word-number.result (access_number c.args.access) = c.natural_word-number.ensures.value
    ∙ ap (λ (n : ℕ). natural_value n) c.access_number.ensures in
    subst IsSound (sym c.store.ensures.heap)
    (access-stored_sound (g.M.Memory.heap c.args.memory.now) c.args.address c.requires.known c.requires.sound
    c.natural_word-number.result c.args.access is
    (c.natural_word-number.ensures.held (g.M.Memory.heap c.args.memory.now)))

pub returns-clause-keeps : goal.returns-clause-keeps
returns-clause-keeps g c =
    let is : IsNatural c.natural_word-number.result (access_number c.args.access) = c.natural_word-number.ensures.value
    ∙ ap (λ (n : ℕ). natural_value n) c.access_number.ensures in
    subst (Keeps (g.M.Memory.heap c.args.memory.now)) (sym c.store.ensures.heap)
    (access-stored_keeps (g.M.Memory.heap c.args.memory.now) c.args.address c.requires.known c.requires.sound
    c.natural_word-number.result c.args.access is
    (c.natural_word-number.ensures.held (g.M.Memory.heap c.args.memory.now)))

pub returns-clause-births : goal.returns-clause-births
returns-clause-births g c = ap birth_at c.store.ensures.heap ∙ birth_at-stored _ _ _ _

pub returns-clause-shows : goal.returns-clause-shows
returns-clause-shows g c = λ names s shows.
    let h = g.M.Memory.heap c.args.memory.now in
    let is : IsNatural c.natural_word-number.result (access_number c.args.access) = c.natural_word-number.ensures.value
    ∙ ap (λ (n : ℕ). natural_value n) c.access_number.ensures in
    subst (λ (k : Heap). Shows k names (with_dictionary s (birth_at h c.args.address)
    (record (dictionary_at s (birth_at h c.args.address)) { access = c.args.access }))) (sym c.store.ensures.heap)
    (access-stored_shows h c.args.address c.requires.known c.requires.sound c.natural_word-number.result c.args.access
    is (c.natural_word-number.ensures.held h) names s shows)
