use Rattle.std.proofs.Common.{◌≡◌, ℕ, ◌≤◌, ◌*◌, ◌∙◌, List, [], ◌∷◌, ap, sym, refl, arith, subst, length}
use Rattle.std.specs.Prelude.{None, IsTrue}
use Rattle.ps_language.specs.declared.kinds.Kind.TheVariants.{Dictionary as DictionaryKind}
use Rattle.ps_word.specs.declared.words.Word.{Word}
use Rattle.ps_mem.specs.Heap.{Heap, IsKind, object_at, birth_at, fields_at, stored, made, made_body}
use Rattle.ps_mem.specs.References.{AreKnown}
use Rattle.ps_mem.proofs.HeapLemmas.{object_at-made_same}
use Rattle.ps_dict.proofs.Making.{IsMade, both, blank-fields, four-known, whole-made}
use Rattle.ps_dict.proofs.makes.new_dictionary.Given.{Over}
use Rattle.ps_dict.proofs.makes.new_dictionary.Goals.{After-literal-reference, After-fill_words}
use Rattle.ps_dict.proofs.makes.new_dictionary.Goals as goal

pub alloc_body-body-requires-clause-stands : goal.alloc_body-body-requires-clause-stands
alloc_body-body-requires-clause-stands g c =
    let h = g.M.Memory.heap c.args.memory.now in
    let a = c.alloc-address.result in
    subst (λ (k : Heap). IsKind DictionaryKind (object_at k a)) (sym c.alloc-address.ensures.heap)
    (subst (IsKind DictionaryKind) (sym (object_at-made_same h a DictionaryKind 4)) refl)

-- ---- both objects, before the fields are filled

module _ (g : Over) (c : After-literal-reference g) where
  abbrev h : Heap
  h = g.M.Memory.heap c.args.memory.now

  abbrev a : ℕ
  a = c.alloc-address.result

  abbrev b : ℕ
  b = c.alloc_body-body.result

  abbrev now : Heap
  now = g.M.Memory.heap c.alloc_body-body.new.self

  abbrev words : List Word
  words = c.natural_word-none.result ∷ c.natural_word-room.result ∷ c.natural_word-none.result
      ∷ c.literal-reference.result ∷ []

  alone : g.M.Memory.heap c.alloc-address.new.self ≡ made h a DictionaryKind 4
  alone = c.alloc-address.ensures.heap

  free : object_at (made h a DictionaryKind 4) b ≡ None
  free = ap (λ (k : Heap). object_at k b) (sym alone) ∙ c.alloc_body-body.ensures.free

  abbrev blank : Heap
  blank = both h a c.alloc-address.ensures.free b c.args.capacity free

  is_blank : now ≡ blank
  is_blank = c.alloc_body-body.ensures.heap
      ∙ ap (λ (k : Heap). made_body k b (birth_at k a) (3 * c.args.capacity)) alone

  fits : 4 ≤ length (fields_at now a)
  fits = subst (λ (k : Heap). 4 ≤ length (fields_at k a)) (sym is_blank)
      (let n = blank-fields h a c.alloc-address.ensures.free b c.args.capacity free in
      omega (arith, n))

  known : AreKnown now words
  known = subst (λ (k : Heap). AreKnown k words) (sym is_blank)
      (four-known h a c.alloc-address.ensures.free b c.args.capacity free _ _ _ _
      c.natural_word-none.ensures.value c.natural_word-room.ensures.value
      c.natural_word-none.ensures.value c.literal-reference.ensures.value
      (c.natural_word-none.ensures.held blank) (c.natural_word-room.ensures.held blank)
      (c.natural_word-none.ensures.held blank) c.requires.limit)

  made_then : (k : Heap) → k ≡ stored now a 0 words → IsMade h k a b c.args.capacity
  made_then k is = subst (λ (m : Heap). IsMade h m a b c.args.capacity)
      (sym (is ∙ ap (λ (m : Heap). stored m a 0 words) is_blank))
      (whole-made h a c.alloc-address.ensures.free b c.args.capacity free _ _ _ _
      c.natural_word-none.ensures.value c.natural_word-room.ensures.value
      c.natural_word-none.ensures.value c.literal-reference.ensures.value
      (c.natural_word-none.ensures.held blank) (c.natural_word-room.ensures.held blank)
      (c.natural_word-none.ensures.held blank) c.requires.limit c.requires.sound)

pub fill_words-requires-clause-target : goal.fill_words-requires-clause-target
fill_words-requires-clause-target g c =
    fits g (goal.at.fill_words-requires-clause-target g c).After-literal-reference

pub fill_words-requires-clause-known : goal.fill_words-requires-clause-known
fill_words-requires-clause-known g c =
    known g (goal.at.fill_words-requires-clause-known g c).After-literal-reference

-- ---- what is made

is_made : (g : Over) (c : After-fill_words g)
    → IsMade (g.M.Memory.heap c.args.memory.now) (g.M.Memory.heap c.fill_words.new.memory)
    c.alloc-address.result c.alloc_body-body.result c.args.capacity
is_made g c = made_then g (goal.at.After-fill_words g c).After-literal-reference
    (g.M.Memory.heap c.fill_words.new.memory) c.fill_words.ensures.heap

pub returns-clause-body_free : goal.returns-clause-body_free
returns-clause-body_free g c = (is_made g c).body_free

pub returns-clause-known : goal.returns-clause-known
returns-clause-known g c = (is_made g c).known

pub returns-clause-sound : goal.returns-clause-sound
returns-clause-sound g c = (is_made g c).sound

pub returns-clause-extends : goal.returns-clause-extends
returns-clause-extends g c = (is_made g c).extends

pub returns-clause-birth : goal.returns-clause-birth
returns-clause-birth g c = (is_made g c).birth

pub returns-clause-count : goal.returns-clause-count
returns-clause-count g c = (is_made g c).count

pub returns-clause-capacity : goal.returns-clause-capacity
returns-clause-capacity g c = (is_made g c).capacity

pub returns-clause-body_fresh : goal.returns-clause-body_fresh
returns-clause-body_fresh g c =
    subst (λ n. IsTrue ((g.M.Memory.grants c.fill_words.new.memory).fresh n))
    (sym (is_made g c).body) (rw c.fill_words.ensures.grants c.alloc_body-body.ensures.grants.fresh)

pub returns-clause-shows : goal.returns-clause-shows
returns-clause-shows g c = (is_made g c).shows
