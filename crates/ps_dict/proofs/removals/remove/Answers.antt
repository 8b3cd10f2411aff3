use Rattle.std.proofs.Common.{◌≡◌, ℕ, ◌+◌, ◌*◌, ◌-◌, ◌≤◌, ◌∙◌, List, [], ◌∷◌, ap, sym, subst, length}
use Rattle.ps_language.specs.Access.{dictionary_at, with_dictionary}
use Rattle.ps_language.specs.Dictionaries.{without}
use Rattle.ps_word.specs.declared.words.Word.{Word}
use Rattle.ps_mem.specs.Heap.{Heap, birth_at, fields_at, stored, zero_word}
use Rattle.ps_mem.specs.Index.{index_words}
use Rattle.ps_mem.specs.Keeps.{Keeps}
use Rattle.ps_mem.specs.References.{NamesStanding}
use Rattle.ps_mem.specs.Shows.{IsNatural, IsSound, Shows}
use Rattle.ps_mem.proofs.ZeroLemmas.{zero_is_value}
use Rattle.ps_dict.specs.Places.{count_at, capacity_at, body_at, pairs_at}
use Rattle.ps_dict.specs.Removals.{without_place, with_pairs_moved}
use Rattle.ps_dict.proofs.Removing.{null_is_zero}
use Rattle.ps_dict.proofs.Taking.{moved, nulled, counted, after, index, nulled-place, counted-place, index-place, index-some, index-known, births-after, taken-keeps, taken-sound, taken-shows}
use Rattle.ps_dict.proofs.removals.remove.Given.{Over}
use Rattle.ps_dict.proofs.removals.remove.Goals.{After-move_down, After-store, After-as_slice, After-clear}
use Rattle.ps_dict.proofs.removals.remove.Goals as goal

-- the memory when the pairs are moved, and what is stored then

module _ (g : Over) (c : After-move_down g) where
  abbrev h : Heap
  h = g.M.Memory.heap c.args.memory.now

  abbrev a : ℕ
  a = c.args.address

  abbrev w : Word
  w = c.natural_word-fewer.result

  counted_before : g.M.Memory.heap c.length-count.new.memory ≡ h
  counted_before = c.length-count.ensures.heap

  sized_before : g.M.Memory.heap c.capacity-capacity.new.memory ≡ h
  sized_before = c.capacity-capacity.ensures.heap ∙ counted_before

  before : g.M.Memory.heap c.gather_index.new.memory ≡ h
  before = c.gather_index.ensures.heap ∙ (c.body-body.ensures.heap ∙ sized_before)

  is_count : c.length-count.result ≡ count_at h a
  is_count = c.length-count.ensures.words

  is_capacity : c.capacity-capacity.result ≡ capacity_at h a
  is_capacity = c.capacity-capacity.ensures.words ∙ ap (λ (k : Heap). capacity_at k a)
      counted_before

  is_body : c.body-body.result ≡ body_at h a
  is_body = c.body-body.ensures.words ∙ ap (λ (k : Heap). body_at k a) sized_before

  natural : IsNatural w (count_at h a - 1)
  natural = subst (λ n. IsNatural w (n - 1)) is_count c.natural_word-fewer.ensures.value

  now : g.M.Memory.heap c.move_down.new.memory ≡ moved h a c.requires.known c.requires.sound
      c.args.place c.requires.place w natural (c.natural_word-fewer.ensures.held h)
  now = c.move_down.ensures.heap ∙ ap (λ (k : Heap). with_pairs_moved k a c.args.place) before

  null : c.null-null.result ≡ zero_word
  null = null_is_zero c.null-null.result c.null-null.ensures.value c.null-null.ensures.word

  abbrev moved_heap : Heap
  moved_heap = moved h a c.requires.known c.requires.sound c.args.place c.requires.place w natural
      (c.natural_word-fewer.ensures.held h)

  abbrev nulled_heap : Heap
  nulled_heap = nulled h a c.requires.known c.requires.sound c.args.place c.requires.place w
      natural (c.natural_word-fewer.ensures.held h)

  abbrev counted_heap : Heap
  counted_heap = counted h a c.requires.known c.requires.sound c.args.place c.requires.place w
      natural (c.natural_word-fewer.ensures.held h)

  abbrev words : List Word
  words = index h a c.requires.known c.requires.sound c.args.place c.requires.place w natural
      (c.natural_word-fewer.ensures.held h)

-- with the nulls behind them

module _ (g : Over) (c : After-store g) where
  abbrev moves : After-move_down g
  moves = (goal.at.After-store g c).After-move_down

  now2 : g.M.Memory.heap c.store.new.self ≡ nulled_heap g moves
  now2 = c.store.ensures.heap ∙ (ap (λ (k : Heap). stored k c.body-body.result
      (2 * (c.length-count.result - 1)) (c.null-null.result ∷ c.null-null.result ∷ []))
      (now g moves)
      ∙ (ap (λ b. stored (moved_heap g moves) b (2 * (c.length-count.result - 1))
      (c.null-null.result ∷ c.null-null.result ∷ [])) (is_body g moves)
      ∙ (ap (λ n. stored (moved_heap g moves) (body_at (h g moves) (a g moves)) (2 * (n - 1))
      (c.null-null.result ∷ c.null-null.result ∷ [])) (is_count g moves)
      ∙ ap (λ x. stored (moved_heap g moves) (body_at (h g moves) (a g moves))
      (2 * (count_at (h g moves) (a g moves) - 1)) (x ∷ x ∷ [])) (null g moves))))

-- and with the number, before the index is stored

module _ (g : Over) (c : After-as_slice g) where
  abbrev past : After-move_down g
  past = (goal.at.After-as_slice g c).After-move_down

  now3 : g.M.Memory.heap c.store-2.new.self ≡ counted_heap g past
  now3 = c.store-2.ensures.heap ∙ ap (λ (k : Heap). stored k (a g past) 0 (w g past ∷ []))
      (now2 g (goal.at.After-as_slice g c).After-store)

  items : c.as_slice.result.now ≡ words g past
  items = c.as_slice.ensures.value ∙ (c.in_ok-gather_index.ensures.index ∙ (ap (λ (k : Heap).
      index_words (birth_at k) (capacity_at k (a g past))
      (without_place (pairs_at k (a g past)) c.args.place))
      (c.body-body.ensures.heap ∙ sized_before g past)))

-- the memory at the end
now4 : (g : Over) (c : After-clear g) → let d = (goal.at.After-clear g c).After-move_down in
    g.M.Memory.heap c.store-3.new.self ≡ after (h g d) (a g d) c.requires.known c.requires.sound
    c.args.place c.requires.place (w g d) (natural g d) (c.natural_word-fewer.ensures.held (h g d))
now4 g c =
    let e = (goal.at.After-clear g c).After-as_slice in
    let d = past g e in
    c.store-3.ensures.heap ∙ (ap
    (λ (k : Heap). stored k c.body-body.result (2 * c.capacity-capacity.result)
    c.as_slice.result.now) (now3 g e)
    ∙ (ap (λ b. stored (counted_heap g d) b (2 * c.capacity-capacity.result)
    c.as_slice.result.now) (is_body g d)
    ∙ (ap (λ n. stored (counted_heap g d) (body_at (h g d) (a g d)) (2 * n)
    c.as_slice.result.now) (is_capacity g d)
    ∙ ap (stored (counted_heap g d) (body_at (h g d) (a g d)) (2 * capacity_at (h g d) (a g d)))
    (items g e))))

pub store-requires-clause-known : goal.store-requires-clause-known
store-requires-clause-known g c =
    let null : c.null-null.result ≡ zero_word =
    null_is_zero c.null-null.result c.null-null.ensures.value c.null-null.ensures.word in
    let one = (zero_is_value (g.M.Memory.heap c.move_down.new.memory)).known in
    subst (λ (x : Word). NamesStanding (g.M.Memory.heap c.move_down.new.memory) c.body-body.result
    (x ∷ x ∷ [])) (sym null) (record { known = λ o at text. (one, (one, tt)) })

pub store-requires-clause-place : goal.store-requires-clause-place
store-requires-clause-place g c =
    let d = (goal.at.store-requires-clause-place g c).After-move_down in
    subst (λ n. 2 * (n - 1) + 2 ≤ length
    (fields_at (g.M.Memory.heap c.move_down.new.memory) c.body-body.result)) (sym (is_count g d))
    (subst (λ b. 2 * (count_at (h g d) (a g d) - 1) + 2 ≤ length
    (fields_at (g.M.Memory.heap c.move_down.new.memory) b)) (sym (is_body g d))
    (subst (λ (k : Heap). 2 * (count_at (h g d) (a g d) - 1) + 2 ≤ length
    (fields_at k (body_at (h g d) (a g d)))) (sym (now g d))
    (nulled-place (h g d) (a g d) c.requires.known c.requires.sound c.args.place c.requires.place
    (w g d) (natural g d) (c.natural_word-fewer.ensures.held (h g d)))))

pub store-requires-2-clause-place : goal.store-requires-2-clause-place
store-requires-2-clause-place g c =
    let e = (goal.at.store-requires-2-clause-place g c).After-store in
    let d = moves g e in
    subst (λ (k : Heap). 1 ≤ length (fields_at k (a g d))) (sym (now2 g e))
    (counted-place (h g d) (a g d) c.requires.known c.requires.sound c.args.place c.requires.place
    (w g d) (natural g d) (c.natural_word-fewer.ensures.held (h g d)))

pub store-requires-3-clause-some : goal.store-requires-3-clause-some
store-requires-3-clause-some g c =
    let d = past g c in
    subst (λ ws. 1 ≤ length ws) (sym (items g c))
    (index-some (h g d) (a g d) c.requires.known c.requires.sound c.args.place c.requires.place
    (w g d) (natural g d) (c.natural_word-fewer.ensures.held (h g d)))

pub store-requires-3-clause-known : goal.store-requires-3-clause-known
store-requires-3-clause-known g c =
    let d = past g c in
    let k = g.M.Memory.heap c.store-2.new.self in
    subst (λ ws. NamesStanding k c.body-body.result ws) (sym (items g c)) (record {
      known = λ o at text. index-known (h g d) (a g d) c.requires.known c.requires.sound
          c.args.place c.requires.place (w g d) (natural g d)
          (c.natural_word-fewer.ensures.held (h g d)) k;
    })

pub store-requires-3-clause-place : goal.store-requires-3-clause-place
store-requires-3-clause-place g c =
    let d = past g c in
    let k = g.M.Memory.heap c.store-2.new.self in
    subst (λ n. 2 * n + length c.as_slice.result.now ≤ length (fields_at k c.body-body.result))
    (sym (is_capacity g d))
    (subst (λ ws. 2 * capacity_at (h g d) (a g d) + length ws
    ≤ length (fields_at k c.body-body.result)) (sym (items g c))
    (subst (λ b. 2 * capacity_at (h g d) (a g d) + length (words g d) ≤ length (fields_at k b))
    (sym (is_body g d))
    (subst (λ (m : Heap). 2 * capacity_at (h g d) (a g d) + length (words g d)
    ≤ length (fields_at m (body_at (h g d) (a g d)))) (sym (now3 g c))
    (index-place (h g d) (a g d) c.requires.known c.requires.sound c.args.place c.requires.place
    (w g d) (natural g d) (c.natural_word-fewer.ensures.held (h g d))))))

pub returns-clause-sound : goal.returns-clause-sound
returns-clause-sound g c =
    let d = (goal.at.returns-clause-sound g c).After-move_down in
    subst IsSound (sym (now4 g c)) (taken-sound (h g d) (a g d) c.requires.known c.requires.sound
    c.args.place c.requires.place (w g d) (natural g d) (c.natural_word-fewer.ensures.held (h g d)))

pub returns-clause-keeps : goal.returns-clause-keeps
returns-clause-keeps g c =
    let d = (goal.at.returns-clause-keeps g c).After-move_down in
    subst (Keeps (h g d)) (sym (now4 g c)) (taken-keeps (h g d) (a g d) c.requires.known
    c.requires.sound c.args.place c.requires.place (w g d) (natural g d)
    (c.natural_word-fewer.ensures.held (h g d)))

pub returns-clause-births : goal.returns-clause-births
returns-clause-births g c =
    let d = (goal.at.returns-clause-births g c).After-move_down in
    ap (λ (k : Heap). birth_at k) (now4 g c) ∙ births-after (h g d) (a g d) c.requires.known
    c.requires.sound c.args.place c.requires.place (w g d) (natural g d)
    (c.natural_word-fewer.ensures.held (h g d))

pub returns-clause-shows : goal.returns-clause-shows
returns-clause-shows g c = λ names s shows key at.
    let e = (goal.at.returns-clause-shows g c).After-move_down in
    let b = birth_at (h g e) (a g e) in
    let d = dictionary_at s b in
    subst (λ (k : Heap). Shows k names
    (with_dictionary s b (record d { pairs = without d.pairs key }))) (sym (now4 g c))
    (taken-shows (h g e) (a g e) c.requires.known c.requires.sound c.args.place c.requires.place (w
    g e) (natural g e) (c.natural_word-fewer.ensures.held (h g e)) names s shows key at)
