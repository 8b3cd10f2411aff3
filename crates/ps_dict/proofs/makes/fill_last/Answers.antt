use Rattle.std.proofs.Common.{◌≡◌, ℕ, ◌<◌, ◌+◌, ◌*◌, ◌++◌, ◌∙◌, [], ◌∷◌, ap, sym, ◌%◌, Some, None, ◌≤◌, arith, subst, length}
use Rattle.std.specs.Prelude.{slice_set}
use Rattle.ps_language.specs.Access.{dictionary_at, with_dictionary}
use Rattle.ps_word.specs.declared.words.Word.{Word}
use Rattle.ps_mem.specs.Heap.{Heap, object_at, birth_at, fields_at, stored}
use Rattle.ps_mem.specs.Index.{hash_of, hashes_of, index_of, placed}
use Rattle.ps_mem.specs.Keeps.{Keeps, Extends}
use Rattle.ps_mem.specs.References.{NamesStanding, IsKnown, AreKnown}
use Rattle.ps_mem.specs.Meaning.{value_of}
use Rattle.ps_mem.specs.Shows.{IsNatural, IsSound, Shows}
use Rattle.ps_dict.specs.Places.{count_at, capacity_at, body_at, pairs_at}
use Rattle.ps_dict.proofs.Shapes.{four, body-room}
use Rattle.ps_dict.proofs.Probing.{few-places}
use Rattle.ps_dict.proofs.Freeing.{place-given}
use Rattle.ps_dict.proofs.Lengthening.{fits-second, fits-third, known-second, key-then-value, value-place-now, value-known-now, appended-sound, appended-keeps, appended-births, appended-extends, appended-body, appended-capacity, appended-count, appended-shows}
use Rattle.ps_dict.proofs.makes.fill_last.Given.{Over}
use Rattle.ps_dict.proofs.makes.fill_last.Goals.{After-capacity-capacity, After-natural_word-last, After-fill, After-fill-2, After-fill-3, After-fill-4}
use Rattle.ps_dict.proofs.makes.fill_last.Goals as goal

-- ---- what was read

module _ (g : Over) (c : After-capacity-capacity g) where
  abbrev h : Heap
  h = g.M.Memory.heap c.args.memory.now

  abbrev a : ℕ
  a = c.args.address

  body_before : g.M.Memory.heap c.body-body.new.memory ≡ h
  body_before = c.body-body.ensures.heap ∙ c.length-count.ensures.heap

  capacity_before : g.M.Memory.heap c.capacity-capacity.new.memory ≡ h
  capacity_before = c.capacity-capacity.ensures.heap ∙ body_before

  is_count : c.length-count.result ≡ count_at h a
  is_count = c.length-count.ensures.words

  is_body : c.body-body.result ≡ body_at h a
  is_body = c.body-body.ensures.words ∙ ap (λ (k : Heap). body_at k a) c.length-count.ensures.heap

  is_capacity : c.capacity-capacity.result ≡ capacity_at h a
  is_capacity = c.capacity-capacity.ensures.words ∙ ap (λ (k : Heap). capacity_at k a) body_before

-- ---- what is stored: the memory after each store, and that it is as after all of the pair

module _ (g : Over) (c : After-natural_word-last g) where
  abbrev read : After-capacity-capacity g
  read = c.before.before.before.before

  abbrev old : Heap
  old = h g read

  abbrev at : ℕ
  at = c.args.address

  abbrev w : Word
  w = c.natural_word-more.result

  abbrev last : Word
  last = c.natural_word-last.result

  abbrev p : ℕ
  p = c.free_place-place.result

  before : g.M.Memory.heap c.free_place-place.new.memory ≡ old
  before = c.free_place-place.ensures.heap ∙ capacity_before g read

  is : IsNatural w (count_at old at + 1)
  is = subst (λ n. IsNatural w (n + 1)) (is_count g read) c.natural_word-more.ensures.value

  last_is : IsNatural last (count_at old at)
  last_is = subst (λ n. IsNatural last n) (is_count g read) c.natural_word-last.ensures.value

  below : p < capacity_at old at
  below = subst (λ n. p < n) (is_capacity g read) c.free_place-place.ensures.below

  free : placed (count_at old at) (hash_of (birth_at old) c.args.key % capacity_at old at)
      (index_of (capacity_at old at) (hashes_of (birth_at old) (pairs_at old at))) ≡ slice_set
      (index_of (capacity_at old at) (hashes_of (birth_at old) (pairs_at old at))) p
      (Some (count_at old at))
  free = place-given old at c.requires.known c.requires.sound c.requires.room
      (g.M.Memory.heap c.capacity-capacity.new.memory) c.body-body.result
      c.capacity-capacity.result p c.args.key (capacity_before g read) (is_body g read)
      (is_capacity g read) c.free_place-place.ensures.placed

  abbrev with_count : Heap
  with_count = stored old at 0 (w ∷ [])

  abbrev with_key : Heap
  with_key = stored with_count (body_at old at) (2 * count_at old at) (c.args.key ∷ [])

  abbrev with_pair : Heap
  with_pair = stored with_count (body_at old at) (2 * count_at old at)
      (c.args.key ∷ c.args.value ∷ [])

  abbrev with_index : Heap
  with_index = stored with_pair (body_at old at) (2 * capacity_at old at + p) (last ∷ [])

  second-fits : 2 * count_at old at + 2 ≤ length (fields_at with_count (body_at old at))
  second-fits = fits-second old at c.requires.known c.requires.sound c.requires.room w last
      c.args.key c.args.value is (c.natural_word-more.ensures.held old) last_is
      (c.natural_word-last.ensures.held old) c.requires.key c.requires.value p below free

  third-fits : 2 * capacity_at old at + p + 1 ≤ length (fields_at with_pair (body_at old at))
  third-fits = fits-third old at c.requires.known c.requires.sound c.requires.room w last
      c.args.key c.args.value is (c.natural_word-more.ensures.held old) last_is
      (c.natural_word-last.ensures.held old) c.requires.key c.requires.value p below free

  both-known : AreKnown with_count (c.args.key ∷ c.args.value ∷ [])
  both-known = known-second old at c.requires.known c.requires.sound c.requires.room w last
      c.args.key c.args.value is (c.natural_word-more.ensures.held old) last_is
      (c.natural_word-last.ensures.held old) c.requires.key c.requires.value p below free

  value-known : IsKnown with_key c.args.value
  value-known = value-known-now old at c.requires.known c.requires.sound c.requires.room w last
      c.args.key c.args.value is (c.natural_word-more.ensures.held old) last_is
      (c.natural_word-last.ensures.held old) c.requires.key c.requires.value p below free

  value-place : 2 * count_at old at + 1 < length (fields_at with_key (body_at old at))
  value-place = value-place-now old at c.requires.known c.requires.sound c.requires.room w last
      c.args.key c.args.value is (c.natural_word-more.ensures.held old) last_is
      (c.natural_word-last.ensures.held old) c.requires.key c.requires.value p below free

  then-value : stored with_key (body_at old at) (2 * count_at old at + 1) (c.args.value ∷ []) ≡ with_pair
  then-value = key-then-value old at c.requires.known c.requires.sound c.requires.room w last
      c.args.key c.args.value is (c.natural_word-more.ensures.held old) last_is
      (c.natural_word-last.ensures.held old) c.requires.key c.requires.value p below free

  sound : IsSound with_index
  sound = appended-sound old at c.requires.known c.requires.sound c.requires.room w last
      c.args.key c.args.value is (c.natural_word-more.ensures.held old) last_is
      (c.natural_word-last.ensures.held old) c.requires.key c.requires.value p below free

  keeps : Keeps old with_index
  keeps = appended-keeps old at c.requires.known c.requires.sound c.requires.room w last
      c.args.key c.args.value is (c.natural_word-more.ensures.held old) last_is
      (c.natural_word-last.ensures.held old) c.requires.key c.requires.value p below free

  births : birth_at with_index ≡ birth_at old
  births = appended-births old at c.requires.known c.requires.sound c.requires.room w last
      c.args.key c.args.value is (c.natural_word-more.ensures.held old) last_is
      (c.natural_word-last.ensures.held old) c.requires.key c.requires.value p below free

  extends : (f : Heap) → Extends f old → object_at f at ≡ None → object_at f (body_at old at) ≡ None
      → Extends f with_index
  extends = appended-extends old at c.requires.known c.requires.sound c.requires.room w last
      c.args.key c.args.value is (c.natural_word-more.ensures.held old) last_is
      (c.natural_word-last.ensures.held old) c.requires.key c.requires.value p below free

  body : body_at with_index at ≡ body_at old at
  body = appended-body old at c.requires.known c.requires.sound c.requires.room w last
      c.args.key c.args.value is (c.natural_word-more.ensures.held old) last_is
      (c.natural_word-last.ensures.held old) c.requires.key c.requires.value p below free

  capacity : capacity_at with_index at ≡ capacity_at old at
  capacity = appended-capacity old at c.requires.known c.requires.sound c.requires.room w last
      c.args.key c.args.value is (c.natural_word-more.ensures.held old) last_is
      (c.natural_word-last.ensures.held old) c.requires.key c.requires.value p below free

  count : count_at with_index at ≡ count_at old at + 1
  count = appended-count old at c.requires.known c.requires.sound c.requires.room w last
      c.args.key c.args.value is (c.natural_word-more.ensures.held old) last_is
      (c.natural_word-last.ensures.held old) c.requires.key c.requires.value p below free

-- ---- the memory after each store

now1 : (g : Over) (c : After-fill g) → g.M.Memory.heap c.fill.new.self ≡ with_count g c.before.before
now1 g c = c.fill.ensures.heap
    ∙ ap (λ (k : Heap). stored k c.args.address 0 (w g c.before.before ∷ [])) (before g c.before.before)

now2 : (g : Over) (c : After-fill-2 g) → g.M.Memory.heap c.fill-2.new.self ≡ with_key g c.before.before.before.before
now2 g c =
    let d = c.before.before.before.before in
    c.fill-2.ensures.heap ∙ (ap
    (λ (k : Heap). stored k c.body-body.result (2 * c.length-count.result) (c.args.key ∷ []))
    (now1 g c.before.before)
    ∙ (ap (λ b. stored (with_count g d) b (2 * c.length-count.result) (c.args.key ∷ []))
    (is_body g (read g d))
    ∙ ap (λ n. stored (with_count g d) (body_at (old g d) c.args.address) (2 * n)
    (c.args.key ∷ [])) (is_count g (read g d))))

now3 : (g : Over) (c : After-fill-3 g)
    → g.M.Memory.heap c.fill-3.new.self ≡ with_pair g c.before.before.before.before.before.before
now3 g c =
    let d = c.before.before.before.before.before.before in
    c.fill-3.ensures.heap ∙ (ap
    (λ (k : Heap). stored k c.body-body.result (2 * c.length-count.result + 1)
    (c.args.value ∷ [])) (now2 g c.before.before)
    ∙ (ap (λ b. stored (with_key g d) b (2 * c.length-count.result + 1) (c.args.value ∷ []))
    (is_body g (read g d))
    ∙ (ap (λ n. stored (with_key g d) (body_at (old g d) c.args.address) (2 * n + 1)
    (c.args.value ∷ [])) (is_count g (read g d))
    ∙ then-value g d)))

now4 : (g : Over) (c : After-fill-4 g)
    → g.M.Memory.heap c.fill-4.new.self ≡ with_index g c.before.before.before.before.before.before.before.before
now4 g c =
    let d = c.before.before.before.before.before.before.before.before in
    c.fill-4.ensures.heap ∙ (ap
    (λ (k : Heap). stored k c.body-body.result
    (2 * c.capacity-capacity.result + c.free_place-place.result) (last g d ∷ [])) (now3 g c.before.before)
    ∙ (ap (λ b. stored (with_pair g d) b
    (2 * c.capacity-capacity.result + c.free_place-place.result) (last g d ∷ []))
    (is_body g (read g d))
    ∙ ap (λ n. stored (with_pair g d) (body_at (old g d) c.args.address)
    (2 * n + c.free_place-place.result) (last g d ∷ [])) (is_capacity g (read g d))))

-- ---- the clauses

pub free_place-place-requires-clause-few : goal.free_place-place-requires-clause-few
free_place-place-requires-clause-few g c =
    let few = few-places (h g c.before) (a g c.before) c.requires.known c.requires.sound in
    omega (arith, few, is_capacity g c.before)

pub free_place-place-requires-clause-room : goal.free_place-place-requires-clause-room
free_place-place-requires-clause-room g c =
    let old = h g c.before in
    let at = c.args.address in
    let all : length (fields_at (g.M.Memory.heap c.capacity-capacity.new.memory) c.body-body.result)
    ≡ 3 * capacity_at old at =
    ap (λ (k : Heap). length (fields_at k c.body-body.result)) (capacity_before g c.before)
    ∙ (ap (λ b. length (fields_at old b)) (is_body g c.before)
    ∙ body-room old at c.requires.known c.requires.sound) in
    omega (arith, all, is_capacity g c.before)

pub fill-requires-clause-place : goal.fill-requires-clause-place
fill-requires-clause-place g c =
    subst (λ (k : Heap). 0 < length (fields_at k c.args.address)) (sym (before g c.before))
    (let n = four (old g c.before) c.args.address c.requires.known c.requires.sound in
    omega (arith, n))

pub fill-requires-2-clause-known : goal.fill-requires-2-clause-known
fill-requires-2-clause-known g c =
    let both = both-known g c.before.before.before in
    subst (λ (k : Heap). NamesStanding k c.body-body.result (c.args.key ∷ [])) (sym (now1 g c.before))
    (record { known = λ o at text. (both.0, tt) })

pub fill-requires-2-clause-place : goal.fill-requires-2-clause-place
fill-requires-2-clause-place g c =
    let d = c.before.before.before in
    let k = g.M.Memory.heap c.fill.new.self in
    let fits = second-fits g d in
    subst (λ n. 2 * n < length (fields_at k c.body-body.result)) (sym (is_count g (read g d)))
    (subst (λ b. 2 * count_at (old g d) c.args.address < length (fields_at k b))
    (sym (is_body g (read g d)))
    (subst (λ (j : Heap). 2 * count_at (old g d) c.args.address < length
    (fields_at j (body_at (old g d) c.args.address))) (sym (now1 g c.before)) (omega (arith, fits))))

pub fill-requires-3-clause-known : goal.fill-requires-3-clause-known
fill-requires-3-clause-known g c =
    let one = value-known g c.before.before.before.before.before in
    subst (λ (k : Heap). NamesStanding k c.body-body.result (c.args.value ∷ [])) (sym (now2 g c.before))
    (record { known = λ o at text. (one, tt) })

pub fill-requires-3-clause-place : goal.fill-requires-3-clause-place
fill-requires-3-clause-place g c =
    let d = c.before.before.before.before.before in
    let k = g.M.Memory.heap c.fill-2.new.self in
    subst (λ n. 2 * n + 1 < length (fields_at k c.body-body.result)) (sym (is_count g (read g d)))
    (subst (λ b. 2 * count_at (old g d) c.args.address + 1 < length (fields_at k b))
    (sym (is_body g (read g d)))
    (subst (λ (j : Heap). 2 * count_at (old g d) c.args.address + 1 < length
    (fields_at j (body_at (old g d) c.args.address))) (sym (now2 g c.before)) (value-place g d)))

pub overflow_add-capacity : goal.overflow_add-capacity
overflow_add-capacity g c =
    let d = c.before.before.before.before.before.before.before in
    let few = few-places (old g d) c.args.address c.requires.known c.requires.sound in
    omega (arith, few, is_capacity g (read g d), below g d)

pub fill-requires-4-clause-place : goal.fill-requires-4-clause-place
fill-requires-4-clause-place g c =
    let d = c.before.before.before.before.before.before.before in
    let k = g.M.Memory.heap c.fill-3.new.self in
    let fits = third-fits g d in
    subst (λ n. 2 * n + p g d < length (fields_at k c.body-body.result))
    (sym (is_capacity g (read g d)))
    (subst (λ b. 2 * capacity_at (old g d) c.args.address + p g d < length (fields_at k b))
    (sym (is_body g (read g d)))
    (subst (λ (j : Heap). 2 * capacity_at (old g d) c.args.address + p g d < length
    (fields_at j (body_at (old g d) c.args.address))) (sym (now3 g c.before)) (omega (arith, fits))))

pub returns-clause-sound : goal.returns-clause-sound
returns-clause-sound g c =
    subst IsSound (sym (now4 g c)) (sound g c.before.before.before.before.before.before.before.before)

pub returns-clause-keeps : goal.returns-clause-keeps
returns-clause-keeps g c =
    subst (Keeps (old g c.before.before.before.before.before.before.before.before)) (sym (now4 g c))
    (keeps g c.before.before.before.before.before.before.before.before)

pub returns-clause-births : goal.returns-clause-births
returns-clause-births g c = ap birth_at (now4 g c) ∙ births g c.before.before.before.before.before.before.before.before

pub returns-clause-extends : goal.returns-clause-extends
returns-clause-extends g c = λ f extends_f free_a free_b.
    subst (Extends f) (sym (now4 g c))
    (extends g c.before.before.before.before.before.before.before.before f extends_f free_a free_b)

pub returns-clause-body : goal.returns-clause-body
returns-clause-body g c = ap (λ (k : Heap). body_at k c.args.address) (now4 g c)
    ∙ body g c.before.before.before.before.before.before.before.before

pub returns-clause-capacity : goal.returns-clause-capacity
returns-clause-capacity g c = ap (λ (k : Heap). capacity_at k c.args.address) (now4 g c)
    ∙ capacity g c.before.before.before.before.before.before.before.before

pub returns-clause-count : goal.returns-clause-count
returns-clause-count g c = ap (λ (k : Heap). count_at k c.args.address) (now4 g c)
    ∙ count g c.before.before.before.before.before.before.before.before

pub returns-clause-shows : goal.returns-clause-shows
returns-clause-shows g c = λ names s shows key_within value_within.
    let d = c.before.before.before.before.before.before.before.before in
    let b = birth_at (old g d) (at g d) in
    subst (λ (k : Heap). Shows k names
    (with_dictionary s b (record (dictionary_at s b) {
      pairs = (dictionary_at s b).pairs
          ++ (
            value_of (birth_at (old g d)) names c.args.key,
            value_of (birth_at (old g d)) names c.args.value,
          ) ∷ [];
    }))) (sym (now4 g c))
    (appended-shows (old g d) (at g d) c.requires.known c.requires.sound c.requires.room (w g d)
    (last g d) c.args.key c.args.value (is g d) (c.natural_word-more.ensures.held (old g d))
    (last_is g d) (c.natural_word-last.ensures.held (old g d)) c.requires.key c.requires.value
    (p g d) (below g d) (free g d) names s shows key_within value_within)
