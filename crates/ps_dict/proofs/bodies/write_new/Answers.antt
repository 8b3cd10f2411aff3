use Rattle.std.proofs.Common.{◌≡◌, ℕ, ◌≤◌, ◌*◌, ◌∙◌, List, [], ◌∷◌, None, ap, sym, arith, subst, length, take}
use Rattle.ps_word.specs.declared.words.Word.{Word}
use Rattle.ps_mem.specs.Heap.{Heap, object_at, birth_at, fields_at, stored, made_body}
use Rattle.ps_mem.specs.Index.{pairs_of_words}
use Rattle.ps_mem.specs.References.{AreKnown}
use Rattle.ps_mem.specs.Shows.{IsNatural, IsSound}
use Rattle.ps_dict.proofs.Shapes.{four}
use Rattle.ps_dict.proofs.NewBodies.{GetsBody, grown, words-long, blank-long, blank-known, gets_body}
use Rattle.ps_dict.proofs.bodies.write_new.Given.{Over}
use Rattle.ps_dict.proofs.bodies.write_new.Goals.{After-alloc_body-body, After-literal-reference}
use Rattle.ps_dict.proofs.bodies.write_new.Goals as goal

pub load-access-requires : goal.load-access-requires
load-access-requires g c = record {
  place = (let n = four (g.M.Memory.heap c.args.memory.now) c.args.address c.requires.known
      c.requires.sound in omega (arith, n));
}

-- ---- the body, before it is filled

module _ (g : Over) (c : After-alloc_body-body g) where
  abbrev h : Heap
  h = g.M.Memory.heap c.args.memory.now

  abbrev a : ℕ
  a = c.args.address

  abbrev b : ℕ
  b = c.alloc_body-body.result

  abbrev k : ℕ
  k = c.args.size.capacity

  abbrev ps : List (Word × Word)
  ps = take c.args.size.count (pairs_of_words c.args.words.now)

  room : length ps ≤ k
  room = let n = c.requires.count in let r = c.requires.room in omega (arith, n, r)

  free : object_at h b ≡ None
  free = ap (λ (m : Heap). object_at m b) (sym c.load-access.ensures.heap)
      ∙ c.alloc_body-body.ensures.free

  made : g.M.Memory.heap c.alloc_body-body.new.self ≡ made_body h b (birth_at h a) (3 * k)
  made = c.alloc_body-body.ensures.heap
      ∙ ap (λ (m : Heap). made_body m b (birth_at m a) (3 * k)) c.load-access.ensures.heap

  long : length c.args.words.now ≡ 3 * k
  long = ap length c.requires.words ∙ words-long h a c.requires.known c.requires.sound b free k
      c.requires.capacity ps room c.requires.held

pub fill_words-requires-clause-few : goal.fill_words-requires-clause-few
fill_words-requires-clause-few g c =
    let all = long g (goal.at.fill_words-requires-clause-few g c).After-alloc_body-body in
    let few = c.requires.capacity in
    omega (arith, all, few)

pub fill_words-requires-clause-target : goal.fill_words-requires-clause-target
fill_words-requires-clause-target g c =
    let d = (goal.at.fill_words-requires-clause-target g c).After-alloc_body-body in
    let e = blank-long (h g d) (a g d) c.requires.known c.requires.sound (b g d) (free g d)
    (k g d) c.requires.capacity (ps g d) (room g d) c.requires.held in
    subst (λ (m : Heap). length c.args.words.now ≤ length (fields_at m (b g d))) (sym (made g d))
    (omega (arith, long g d, e))

pub fill_words-requires-clause-known : goal.fill_words-requires-clause-known
fill_words-requires-clause-known g c =
    let d = (goal.at.fill_words-requires-clause-known g c).After-alloc_body-body in
    subst (λ (m : Heap). AreKnown m c.args.words.now) (sym (made g d))
    (subst (AreKnown (made_body (h g d) (b g d) (birth_at (h g d) (a g d)) (3 * k g d)))
    (sym c.requires.words)
    (blank-known (h g d) (a g d) c.requires.known c.requires.sound (b g d) (free g d) (k g d)
    c.requires.capacity (ps g d) (room g d) c.requires.held))

-- ---- the fields that name it

gets : (g : Over) (c : After-literal-reference g)
    → GetsBody (g.M.Memory.heap c.args.memory.now) c.args.address c.args.size.capacity
    (take c.args.size.count (pairs_of_words c.args.words.now))
    (g.M.Memory.heap c.fill_words.new.memory)
    (c.natural_word-number.result ∷ c.natural_word-room.result ∷ c.load-access.result
    ∷ c.literal-reference.result ∷ [])
gets g c =
    let at = (goal.at.After-literal-reference g c).After-alloc_body-body in
    let filled : g.M.Memory.heap c.fill_words.new.memory ≡ grown (h g at) (a g at)
    c.requires.known c.requires.sound (b g at) (free g at) (k g at) c.requires.capacity (ps g at)
    (room g at) c.requires.held =
    c.fill_words.ensures.heap
    ∙ (ap (λ (m : Heap). stored m (b g at) 0 c.args.words.now) (made g at)
    ∙ ap (stored (made_body (h g at) (b g at) (birth_at (h g at) (a g at)) (3 * k g at)) (b g at) 0)
    c.requires.words) in
    subst (λ (m : Heap). GetsBody (h g at) (a g at) (k g at) (ps g at) m
    (c.natural_word-number.result ∷ c.natural_word-room.result ∷ c.load-access.result
    ∷ c.literal-reference.result ∷ [])) (sym filled)
    (gets_body (h g at) (a g at) c.requires.known c.requires.sound (b g at) (free g at) (k g at)
    c.requires.capacity (ps g at) (room g at) c.requires.held _ _ _ _
    (subst (IsNatural c.natural_word-number.result) c.requires.count
    c.natural_word-number.ensures.value) c.natural_word-room.ensures.value
    c.load-access.ensures.answer c.literal-reference.ensures.value
    (c.natural_word-number.ensures.held (h g at)) (c.natural_word-room.ensures.held (h g at)))

pub store-requires-clause-known : goal.store-requires-clause-known
store-requires-clause-known g c =
    let to = gets g (goal.at.store-requires-clause-known g c).After-literal-reference in
    record { known = λ o at text. to.known }

pub store-requires-clause-place : goal.store-requires-clause-place
store-requires-clause-place g c =
    (gets g (goal.at.store-requires-clause-place g c).After-literal-reference).fits

pub returns-clause-sound : goal.returns-clause-sound
returns-clause-sound g c = subst IsSound (sym c.store.ensures.heap)
    (gets g (goal.at.returns-clause-sound g c).After-literal-reference).sound

pub returns-clause-keeps : goal.returns-clause-keeps
returns-clause-keeps g c = rw c.store.ensures.heap
    (gets g (goal.at.returns-clause-keeps g c).After-literal-reference).keeps

pub returns-clause-shows : goal.returns-clause-shows
returns-clause-shows g c = λ names s shows within. rw c.store.ensures.heap
    ((gets g (goal.at.returns-clause-shows g c).After-literal-reference).shows names s shows within)
