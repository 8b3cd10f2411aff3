use Rattle.std.proofs.Common.{◌≡◌, ◌<◌, ◌≤◌, ℕ, ◌+◌, ◌*◌, ◌++◌, ◌∙◌, List, [], ◌∷◌, ap, sym, subst, length, take}
use Rattle.std.specs.Prelude.{None}
use Rattle.ps_word.specs.declared.words.Word.{Word}
use Rattle.ps_mem.specs.Heap.{Heap, object_at, birth_at, fields_at, stored, made_body}
use Rattle.ps_mem.specs.References.{NamesStanding, AreKnown}
use Rattle.ps_mem.specs.Shows.{IsValue}
use Rattle.ps_dict.specs.Places.{count_at, body_at}
use Rattle.ps_dict.proofs.Filling.{body-apart, source-is, source-fits, target-fits, source-known, filled-extends, value_stands, key-fits, key-filled, value-fits, value-filled}
use Rattle.ps_dict.proofs.fills.paired_body.Given.{Over}
use Rattle.ps_dict.proofs.fills.paired_body.Goals.{After-alloc_body-new, After-fill_from, After-fill}
use Rattle.ps_dict.proofs.fills.paired_body.Goals as goal

-- ---- the new body, before it is filled

module _ (g : Over) (c : After-alloc_body-new g) where
  abbrev h : Heap
  h = g.M.Memory.heap c.args.memory.now

  abbrev a : ℕ
  a = c.args.address

  abbrev b : ℕ
  b = c.alloc_body-new.result

  abbrev made : Heap
  made = made_body h b (birth_at h a) (3 * c.args.capacity)

  abbrev front : List Word
  front = take (2 * count_at h a) (fields_at h (body_at h a))

  before : g.M.Memory.heap c.body-old.new.memory ≡ h
  before = c.body-old.ensures.heap ∙ c.length-count.ensures.heap

  old : c.body-old.result ≡ body_at h a
  old = c.body-old.ensures.words ∙ ap (λ (k : Heap). body_at k a) c.length-count.ensures.heap

  free : object_at h b ≡ None
  free = ap (λ (k : Heap). object_at k b) (sym before) ∙ c.alloc_body-new.ensures.free

  is_made : g.M.Memory.heap c.alloc_body-new.new.self ≡ made
  is_made = c.alloc_body-new.ensures.heap
      ∙ ap (λ (k : Heap). made_body k b (birth_at k a) (3 * c.args.capacity)) before

  -- what is filled in there leaves a memory in which a word can stand
  word_stands : (items : List Word) (w : Word) → IsValue h w
      → NamesStanding (stored made b 0 items) b (w ∷ [])
  word_stands items w held = value_stands h (stored made b 0 items) b w held
      (filled-extends h a c.requires.known c.requires.sound b free c.args.capacity c.requires.room
      items)

pub fill_from-requires-clause-apart : goal.fill_from-requires-clause-apart
fill_from-requires-clause-apart g c = λ same.
    let d = (goal.at.fill_from-requires-clause-apart g c).After-alloc_body-new in
    body-apart (h g d) c.args.address c.requires.known c.requires.sound (b g d) (free g d)
    c.args.capacity c.requires.room (same ∙ old g d)

pub fill_from-requires-clause-source : goal.fill_from-requires-clause-source
fill_from-requires-clause-source g c =
    let d = (goal.at.fill_from-requires-clause-source g c).After-alloc_body-new in
    rw (c.length-count.ensures.words, is_made g d)
    (subst (λ o. 2 * count_at (h g d) (a g d) ≤ length (fields_at (made g d) o)) (sym (old g d))
    (source-fits (h g d) c.args.address c.requires.known c.requires.sound (b g d) (free g d)
    c.args.capacity c.requires.room))

pub fill_from-requires-clause-target : goal.fill_from-requires-clause-target
fill_from-requires-clause-target g c =
    let d = (goal.at.fill_from-requires-clause-target g c).After-alloc_body-new in
    rw (c.length-count.ensures.words, is_made g d)
    (target-fits (h g d) c.args.address c.requires.known c.requires.sound (b g d) (free g d)
    c.args.capacity c.requires.room)

pub fill_from-requires-clause-known : goal.fill_from-requires-clause-known
fill_from-requires-clause-known g c =
    let d = (goal.at.fill_from-requires-clause-known g c).After-alloc_body-new in
    rw (is_made g d)
    (subst (λ o. AreKnown (made g d) (fields_at (made g d) o)) (sym (old g d))
    (source-known (h g d) c.args.address c.requires.known c.requires.sound (b g d) (free g d)
    c.args.capacity c.requires.room))

-- ---- behind the pairs that were there

module _ (g : Over) (c : After-fill_from g) where
  abbrev at : After-alloc_body-new g
  at = (goal.at.After-fill_from g c).After-alloc_body-new

  first : g.M.Memory.heap c.fill_from.new.memory ≡ stored (made g at) (b g at) 0 (front g at)
  first = c.fill_from.ensures.heap ∙ (ap (λ (k : Heap). stored k (b g at) 0
      (take (2 * c.length-count.result) (fields_at k c.body-old.result))) (is_made g at)
      ∙ (ap (λ o. stored (made g at) (b g at) 0
      (take (2 * c.length-count.result) (fields_at (made g at) o))) (old g at)
      ∙ (ap (λ ws. stored (made g at) (b g at) 0 (take (2 * c.length-count.result) ws))
      (source-is (h g at) (a g at) c.requires.known c.requires.sound (b g at) (free g at)
      c.args.capacity c.requires.room)
      ∙ ap (λ m. stored (made g at) (b g at) 0
      (take (2 * m) (fields_at (h g at) (body_at (h g at) (a g at)))))
      c.length-count.ensures.words)))

pub fill-requires-clause-known : goal.fill-requires-clause-known
fill-requires-clause-known g c =
    let d = (goal.at.fill-requires-clause-known g c).After-fill_from in
    subst (λ (k : Heap). NamesStanding k c.alloc_body-new.result (c.args.key ∷ []))
    (sym (first g d))
    (word_stands g (at g d) (front g (at g d)) c.args.key c.requires.key)

pub fill-requires-clause-place : goal.fill-requires-clause-place
fill-requires-clause-place g c =
    let e = (goal.at.fill-requires-clause-place g c).After-fill_from in
    let d = at g e in
    subst (λ m. 2 * m < length (fields_at (g.M.Memory.heap c.fill_from.new.memory) (b g d)))
    (sym c.length-count.ensures.words)
    (subst (λ (k : Heap). 2 * count_at (h g d) (a g d) < length (fields_at k (b g d)))
    (sym (first g e))
    (key-fits (h g d) (a g d) c.requires.known c.requires.sound (b g d) (free g d) c.args.capacity
    c.requires.room c.args.key c.args.value))

-- ---- behind the key

module _ (g : Over) (c : After-fill g) where
  abbrev early : After-fill_from g
  early = (goal.at.After-fill g c).After-fill_from

  abbrev new : After-alloc_body-new g
  new = at g early

  second : g.M.Memory.heap c.fill.new.self
      ≡ stored (made g new) (b g new) 0 (front g new ++ c.args.key ∷ [])
  second = c.fill.ensures.heap ∙ (ap
      (λ (k : Heap). stored k (b g new) (2 * c.length-count.result) (c.args.key ∷ []))
      (first g early)
      ∙ (ap (λ m. stored (stored (made g new) (b g new) 0 (front g new)) (b g new) (2 * m)
      (c.args.key ∷ [])) c.length-count.ensures.words
      ∙ key-filled (h g new) (a g new) c.requires.known c.requires.sound (b g new) (free g new)
      c.args.capacity c.requires.room c.args.key c.args.value))

pub fill-requires-2-clause-known : goal.fill-requires-2-clause-known
fill-requires-2-clause-known g c =
    let d = (goal.at.fill-requires-2-clause-known g c).After-fill in
    subst (λ (k : Heap). NamesStanding k c.alloc_body-new.result (c.args.value ∷ []))
    (sym (second g d))
    (word_stands g (new g d) (front g (new g d) ++ c.args.key ∷ []) c.args.value c.requires.value)

pub fill-requires-2-clause-place : goal.fill-requires-2-clause-place
fill-requires-2-clause-place g c =
    let e = (goal.at.fill-requires-2-clause-place g c).After-fill in
    let d = new g e in
    subst (λ m. 2 * m + 1 < length (fields_at (g.M.Memory.heap c.fill.new.self) (b g d)))
    (sym c.length-count.ensures.words)
    (subst (λ (k : Heap). 2 * count_at (h g d) (a g d) + 1 < length (fields_at k (b g d)))
    (sym (second g e))
    (value-fits (h g d) (a g d) c.requires.known c.requires.sound (b g d) (free g d) c.args.capacity
    c.requires.room c.args.key c.args.value))

pub returns-clause-heap : goal.returns-clause-heap
returns-clause-heap g c =
    let e = (goal.at.returns-clause-heap g c).After-fill in
    let d = new g e in
    c.fill-2.ensures.heap ∙ (ap
    (λ (k : Heap). stored k (b g d) (2 * c.length-count.result + 1) (c.args.value ∷ []))
    (second g e)
    ∙ (ap (λ m. stored (stored (made g d) (b g d) 0 (front g d ++ c.args.key ∷ [])) (b g d)
    (2 * m + 1) (c.args.value ∷ [])) c.length-count.ensures.words
    ∙ value-filled (h g d) (a g d) c.requires.known c.requires.sound (b g d) (free g d)
    c.args.capacity c.requires.room c.args.key c.args.value))
