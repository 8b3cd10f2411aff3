use Rattle.std.proofs.Common.{◌≡◌, ℕ, ◌≤◌, ◌∙◌, List, [], ◌∷◌, ap, sym, arith, subst, length, take}
use Rattle.ps_word.specs.declared.words.Word.{Word}
use Rattle.ps_mem.specs.Heap.{Heap, birth_at, fields_at, stored}
use Rattle.ps_mem.specs.Index.{pairs_of_words}
use Rattle.ps_mem.specs.References.{NamesStanding}
use Rattle.ps_mem.specs.Shows.{IsNatural}
use Rattle.ps_dict.specs.Places.{capacity_at, body_at}
use Rattle.ps_dict.proofs.Overwriting.{Overwritten, after_body, words-fit, words-known, number-place, overwritten}
use Rattle.ps_dict.proofs.Probing.{few-places}
use Rattle.ps_dict.proofs.WholeBodies.{whole-long}
use Rattle.ps_dict.proofs.bodies.write_over.Given.{Over}
use Rattle.ps_dict.proofs.bodies.write_over.Goals.{After-body-body, After-store, After-store-2}
use Rattle.ps_dict.proofs.bodies.write_over.Goals as goal

pub natural_word-number-requires : goal.natural_word-number-requires
natural_word-number-requires g c =
    let few = few-places (g.M.Memory.heap c.args.memory.now) c.args.address c.requires.known
    c.requires.sound in
    let room = c.requires.room in
    omega (arith, few, room)

-- ---- the words of the body

module _ (g : Over) (c : After-body-body g) where
  abbrev h : Heap
  h = g.M.Memory.heap c.args.memory.now

  abbrev a : ℕ
  a = c.args.address

  abbrev ps : List (Word × Word)
  ps = take c.args.count (pairs_of_words c.args.words.now)

  room : length ps ≤ capacity_at h a
  room = let n = c.requires.count in let r = c.requires.room in omega (arith, n, r)

pub store-requires-clause-some : goal.store-requires-clause-some
store-requires-clause-some g c =
    let d = (goal.at.store-requires-clause-some g c).After-body-body in
    let long = ap length c.requires.words
    ∙ whole-long (birth_at (h g d)) (capacity_at (h g d) (a g d)) (ps g d) (room g d) in
    let one = c.requires.some in
    let count = c.requires.count in
    omega (arith, long, one, count, room g d)

pub store-requires-clause-known : goal.store-requires-clause-known
store-requires-clause-known g c =
    let d = (goal.at.store-requires-clause-known g c).After-body-body in
    subst (λ (k : Heap). NamesStanding k c.body-body.result c.args.words.now)
    (sym c.body-body.ensures.heap)
    (subst (NamesStanding (h g d) c.body-body.result) (sym c.requires.words)
    (record {
      known = λ o at text. words-known (h g d) (a g d) c.requires.known c.requires.sound (ps g d)
          (room g d) c.requires.held;
    }))

pub store-requires-clause-place : goal.store-requires-clause-place
store-requires-clause-place g c =
    let d = (goal.at.store-requires-clause-place g c).After-body-body in
    let long = ap length c.requires.words
    ∙ words-fit (h g d) (a g d) c.requires.known c.requires.sound (ps g d) (room g d)
    c.requires.held in
    let fields : length (fields_at (g.M.Memory.heap c.body-body.new.memory) c.body-body.result) ≡
    length (fields_at (h g d) (body_at (h g d) (a g d))) =
    ap (λ (k : Heap). length (fields_at k c.body-body.result)) c.body-body.ensures.heap
    ∙ ap (λ b. length (fields_at (h g d) b)) c.body-body.ensures.words in
    omega (arith, long, fields)

-- ---- the number of pairs

module _ (g : Over) (c : After-store g) where
  abbrev at : After-body-body g
  at = (goal.at.After-store g c).After-body-body

  over : g.M.Memory.heap c.store.new.self ≡ after_body (h g at) (a g at) c.requires.known
      c.requires.sound (ps g at) (room g at) c.requires.held
  over = c.store.ensures.heap
      ∙ (ap (λ (k : Heap). stored k c.body-body.result 0 c.args.words.now) c.body-body.ensures.heap
      ∙ (ap (λ b. stored (h g at) b 0 c.args.words.now) c.body-body.ensures.words
      ∙ ap (stored (h g at) (body_at (h g at) (a g at)) 0) c.requires.words))

pub store-requires-2-clause-place : goal.store-requires-2-clause-place
store-requires-2-clause-place g c =
    let e = (goal.at.store-requires-2-clause-place g c).After-store in
    let d = at g e in
    subst (λ (k : Heap). 1 ≤ length (fields_at k (a g d))) (sym (over g e))
    (number-place (h g d) (a g d) c.requires.known c.requires.sound (ps g d) (room g d)
    c.requires.held)

-- ---- what is written

written : (g : Over) (c : After-store-2 g)
    → Overwritten (g.M.Memory.heap c.args.memory.now) (g.M.Memory.heap c.store-2.new.self)
    c.args.address (take c.args.count (pairs_of_words c.args.words.now))
written g c =
    let e = (goal.at.After-store-2 g c).After-store in
    let d = at g e in
    subst (λ (k : Heap). Overwritten (h g d) k (a g d) (ps g d))
    (sym (c.store-2.ensures.heap
    ∙ ap (λ (k : Heap). stored k (a g d) 0 (c.natural_word-number.result ∷ [])) (over g e)))
    (overwritten (h g d) (a g d) c.requires.known c.requires.sound (ps g d) (room g d)
    c.requires.held c.natural_word-number.result
    (subst (IsNatural c.natural_word-number.result) c.requires.count
    c.natural_word-number.ensures.value) (c.natural_word-number.ensures.held (h g d)))

pub returns-clause-sound : goal.returns-clause-sound
returns-clause-sound g c = (written g c).sound

pub returns-clause-keeps : goal.returns-clause-keeps
returns-clause-keeps g c = (written g c).keeps

pub returns-clause-births : goal.returns-clause-births
returns-clause-births g c = (written g c).births

pub returns-clause-others : goal.returns-clause-others
returns-clause-others g c = (written g c).others

pub returns-clause-shows : goal.returns-clause-shows
returns-clause-shows g c = (written g c).shows
