use Rattle.std.proofs.Common.{ℕ, List, ◌≡◌, ◌≢◌, ◌+◌, ◌*◌, ◌∙◌, Some, None, ap, sym, refl, arith, subst, length, drop, ◌<◌, ◌-◌, nat_lt, Option}
use Rattle.std.specs.Prelude.{ℤ, slice_get, slice_set, if◌then◌else◌}
use Rattle.ps_word.specs.declared.words.Word.{Word}
use Rattle.ps_mem.specs.Heap.{Heap, fields_at}
use Rattle.ps_mem.specs.Index.{placed}
use Rattle.ps_dict.proofs.Freeing.{free-end, free-here, free-on}
use Rattle.ps_dict.proofs.index.free_place.Given.{Over}
use Rattle.ps_dict.proofs.index.free_place.Goals.{After-load}
use Rattle.ps_dict.proofs.index.free_place.Goals as goal

pub loop-behind-init : goal.loop-behind-init
loop-behind-init g c = (refl, refl, λ places words count small. refl)

pub load-requires : goal.load-requires
load-requires g c =
    let h = g.M.Memory.heap c.args.memory.now in
    let same : g.M.Memory.heap c.loop-behind.memory ≡ h = c.loop-behind.invariant.0
    ∙ c.first_place-start.ensures.heap in
    let room = c.requires.room in
    let below = c.place_behind-place.ensures.below in
    record {
      place = subst (λ (k : Heap). 2 * c.args.capacity + c.place_behind-place.result < length
          (fields_at k c.args.body)) (sym same) (omega (arith, room, below));
    }

-- ---- the word that is read in a turn

module _ (g : Over) (c : After-load g) where
  abbrev ws : List Word
  ws = fields_at (g.M.Memory.heap c.args.memory.now) c.args.body

  abbrev behind : ℕ
  behind = c.first_place-start.result + c.loop-behind.behind

  same : g.M.Memory.heap c.loop-behind.memory ≡ g.M.Memory.heap c.args.memory.now
  same = c.loop-behind.invariant.0 ∙ c.first_place-start.ensures.heap

  read : slice_get ws (2 * c.args.capacity
      + (if nat_lt behind c.args.capacity then behind else behind - c.args.capacity))
      ≡ Some c.load.result
  read = subst (λ p. slice_get ws (2 * c.args.capacity + p) ≡ Some c.load.result)
      c.place_behind-place.ensures.answer
      (subst (λ (k : Heap). slice_get (fields_at k c.args.body)
      (2 * c.args.capacity + c.place_behind-place.result) ≡ Some c.load.result) same
      c.load.ensures.answer)

some-not : (o : Option ℤ) (z : ℤ) → o ≡ Some z → o ≢ None
some-not o z e = λ is. cc

pub loop-behind-preserved : goal.loop-behind-preserved
loop-behind-preserved g c =
    let d = (goal.at.loop-behind-preserved g c).After-load in (
      c.load.ensures.heap ∙ c.loop-behind.invariant.0,
      c.load.ensures.grants ∙ c.loop-behind.invariant.1,
      λ places words count small.
          free-on (ws g d) c.args.capacity places
          (ap (λ (k : Heap). drop (2 * c.args.capacity) (fields_at k c.args.body))
          (sym c.first_place-start.ensures.heap)
          ∙ words) count small c.first_place-start.result c.first_place-start.ensures.below
          c.loop-behind.behind (omega arith) c.load.result (read g d)
          (λ none. some-not c.as_integer.result _ c.in-Some.is (c.as_integer.ensures ∙ none))
          (c.loop-behind.invariant.2 places words count small),
    )

pub returns-in-None-clause-placed : goal.returns-in-None-clause-placed
returns-in-None-clause-placed g c = λ places words count small has position.
    let d = (goal.at.returns-in-None-clause-placed g c).After-load in
    subst (λ s. placed position s places ≡ slice_set places c.place_behind-place.result
    (Some position)) c.first_place-start.ensures.answer
    (subst (λ p. placed position c.first_place-start.result places ≡ slice_set places p
    (Some position)) (sym c.place_behind-place.ensures.answer)
    (free-here (ws g d) c.args.capacity places words count small
    c.first_place-start.result c.first_place-start.ensures.below
    c.loop-behind.behind (omega arith) c.load.result (read g d)
    (sym c.as_integer.ensures ∙ c.in-None.is)
    (c.loop-behind.invariant.2 places
    (ap (λ (k : Heap). drop (2 * c.args.capacity) (fields_at k c.args.body))
    c.first_place-start.ensures.heap ∙ words)
    count small) position))

pub returns-clause-placed : goal.returns-clause-placed
returns-clause-placed g c = λ places words count small has position.
    let before : g.M.Memory.heap c.first_place-start.new.memory ≡ g.M.Memory.heap c.args.memory.now
    = c.first_place-start.ensures.heap in
    absurd (free-end (fields_at (g.M.Memory.heap c.args.memory.now) c.args.body) c.args.capacity
    places words count small c.first_place-start.result c.first_place-start.ensures.below
    c.loop-behind.behind (omega arith)
    (c.loop-behind.invariant.2 places
    (ap (λ (k : Heap). drop (2 * c.args.capacity) (fields_at k c.args.body)) before ∙ words)
    count small) has)
