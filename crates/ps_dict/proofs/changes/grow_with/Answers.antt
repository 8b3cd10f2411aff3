use Rattle.std.proofs.Common.{◌≡◌, ℕ, ◌<◌, ◌≤◌, ◌+◌, ◌++◌, ◌∙◌, List, [], ◌∷◌, ap, sym, arith, subst, length}
use Rattle.std.specs.Prelude.{None, Some, slice_get}
use Rattle.ps_language.specs.Access.{dictionary_at, with_dictionary}
use Rattle.ps_word.specs.declared.words.Word.{Word}
use Rattle.ps_mem.specs.Heap.{Heap, object_at, birth_at, fields_at}
use Rattle.ps_mem.specs.Shows.{IsNatural, IsSound, Shows}
use Rattle.ps_dict.specs.Bodies.{with_body}
use Rattle.ps_dict.specs.Places.{count_at, pairs_at}
use Rattle.ps_dict.proofs.Shapes.{four}
use Rattle.ps_dict.proofs.Growing.{more_pairs, length-more, more-values, more-within, more-shown}
use Rattle.ps_dict.proofs.NewBodies.{GetsBody, grown, gets_body}
use Rattle.ps_dict.proofs.changes.grow_with.Given.{Over}
use Rattle.ps_dict.proofs.changes.grow_with.Goals.{After-literal-reference}
use Rattle.ps_dict.proofs.changes.grow_with.Goals as goal

pub load-access-requires : goal.load-access-requires
load-access-requires g c =
    let h = g.M.Memory.heap c.args.memory.now in
    record {
      place = subst (λ (k : Heap). 2 < length (fields_at k c.args.address))
          (sym c.length-count.ensures.heap)
          (let n = four h c.args.address c.requires.known c.requires.sound in omega (arith, n));
    }

-- ---- the new body, and the fields that name it

module _ (g : Over) (c : After-literal-reference g) where
  abbrev h : Heap
  h = g.M.Memory.heap c.args.memory.now

  abbrev a : ℕ
  a = c.args.address

  abbrev b : ℕ
  b = c.new_body-body.result

  abbrev now : Heap
  now = g.M.Memory.heap c.new_body-body.new.memory

  abbrev ps : List (Word × Word)
  ps = more_pairs h a c.requires.known c.requires.sound c.args.key c.args.value

  abbrev words : List Word
  words = c.natural_word-more.result ∷ c.natural_word-room.result ∷ c.load-access.result
      ∷ c.literal-reference.result ∷ []

  long : length ps ≡ count_at h a + 1
  long = length-more h a c.requires.known c.requires.sound c.args.key c.args.value

  before : g.M.Memory.heap c.load-access.new.self ≡ h
  before = c.load-access.ensures.heap ∙ c.length-count.ensures.heap

  free : object_at h b ≡ None
  free = ap (λ (m : Heap). object_at m b) (sym before) ∙ c.new_body-body.ensures.free

  count : IsNatural c.natural_word-more.result (length ps)
  count = subst (IsNatural c.natural_word-more.result)
      (ap (λ n. n + 1) c.length-count.ensures.words ∙ sym long) c.natural_word-more.ensures.value

  access : slice_get (fields_at h a) 2 ≡ Some c.load-access.result
  access = ap (λ (m : Heap). slice_get (fields_at m a) 2) (sym c.length-count.ensures.heap)
      ∙ c.load-access.ensures.answer

  room : length ps ≤ c.args.capacity
  room = let r = c.requires.room in omega (arith, long, r)

  gets : GetsBody h a c.args.capacity ps now words
  gets =
      let held = more-values h a c.requires.known c.requires.sound c.args.key c.args.value
      c.requires.key c.requires.value in
      let filled : now ≡ grown h a c.requires.known c.requires.sound b free c.args.capacity
      c.requires.capacity ps room held =
      c.new_body-body.ensures.heap ∙ ap (λ (m : Heap). with_body m a b c.args.capacity
      (pairs_at m a ++ (c.args.key, c.args.value) ∷ [])) before in
      subst (λ (m : Heap). GetsBody h a c.args.capacity ps m words) (sym filled)
      (gets_body h a c.requires.known c.requires.sound b free c.args.capacity c.requires.capacity ps
      room held _ _ _ _ count c.natural_word-room.ensures.value access
      c.literal-reference.ensures.value (c.natural_word-more.ensures.held h)
      (c.natural_word-room.ensures.held h))

pub store-requires-clause-known : goal.store-requires-clause-known
store-requires-clause-known g c =
    let to = gets g (goal.at.store-requires-clause-known g c).After-literal-reference in
    record { known = λ o at text. to.known }

pub store-requires-clause-place : goal.store-requires-clause-place
store-requires-clause-place g c =
    (gets g (goal.at.store-requires-clause-place g c).After-literal-reference).fits

pub returns-clause-sound : goal.returns-clause-sound
returns-clause-sound g c = subst IsSound (sym c.store.ensures.heap)
    (gets g (goal.at.returns-clause-sound g c).After-literal-reference).sound

pub returns-clause-keeps : goal.returns-clause-keeps
returns-clause-keeps g c = rw c.store.ensures.heap
    (gets g (goal.at.returns-clause-keeps g c).After-literal-reference).keeps

pub returns-clause-shows : goal.returns-clause-shows
returns-clause-shows g c = λ names s shows first second.
    let h = g.M.Memory.heap c.args.memory.now in
    let a = c.args.address in
    let d = dictionary_at s (birth_at h a) in
    subst (λ pairs. Shows (g.M.Memory.heap c.store.new.self) names
    (with_dictionary s (birth_at h a) (record d { pairs = pairs; capacity = c.args.capacity })))
    (more-shown h a c.requires.known c.requires.sound c.args.key c.args.value names s shows)
    (rw c.store.ensures.heap
    ((gets g (goal.at.returns-clause-shows g c).After-literal-reference).shows names s shows
    (more-within h a c.requires.known c.requires.sound c.args.key c.args.value names s shows
    first second)))
