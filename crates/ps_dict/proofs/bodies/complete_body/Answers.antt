use Rattle.std.proofs.Common.{rules, List, ◌≡◌, ◌+◌, ◌-◌, ◌*◌, ◌/◌, ◌%◌, ◌++◌, ◌<◌, ◌≤◌, ◌∙◌, Some, ap, sym, arith, subst, length, take, replicate, get_or}
use Rattle.std.specs.Prelude.{slice_get, slice_set}
use Rattle.ps_word.specs.declared.words.Word.{Word}
use Rattle.ps_mem.specs.Heap.{Heap, birth_at, zero_word}
use Rattle.ps_mem.specs.Index.{pairs_of_words, index_words, hash_of, placed}
use Rattle.ps_dict.proofs.Fresh.{length-in_twos, pair-in_twos}
use Rattle.ps_dict.proofs.WholeBodies.{front-get, body-long, body-slice, body-set, body-none, body-whole}
use Rattle.ps_dict.proofs.Gathering.{positions, positions-words, positions-count, positions-long, positions-small, positions-free, positions-next}
use Rattle.ps_dict.proofs.bodies.complete_body.Given.{Over}
use Rattle.ps_dict.proofs.bodies.complete_body.Goals.{In-loop-position}
use Rattle.ps_dict.proofs.bodies.complete_body.Goals as goal

pub loop-position-init : goal.loop-position-init
loop-position-init g c = record {
  heap = search rules;
  grants = search rules;
  items = c.in-Ok.ensures.nulls
      ∙ body-none (birth_at (g.M.Memory.heap c.args.memory.now)) c.args.capacity
      c.args.scratch.now.items c.requires.even c.requires.room _ (omega arith);
  room = search rules;
}

-- ---- the index of the pairs so far

module _ (g : Over) (c : In-loop-position g) where
  abbrev ws : List Word
  ws = c.args.scratch.now.items

  abbrev index : List Word
  index = index_words (birth_at (g.M.Memory.heap c.args.memory.now)) c.args.capacity
      (take c.loop-position.position (pairs_of_words ws))

  more : c.loop-position.position < length (pairs_of_words ws)
  more = let twos = length-in_twos ws in omega (arith, twos)

  room : length (pairs_of_words ws) ≤ c.args.capacity
  room = let twos = length-in_twos ws in let r = c.requires.room in omega (arith, twos, r)

  long : length index ≡ c.args.capacity
  long = positions-long (birth_at (g.M.Memory.heap c.args.memory.now)) c.args.capacity
      c.requires.few (pairs_of_words ws) room c.loop-position.position more

pub free_in-place-requires-clause-all : goal.free_in-place-requires-clause-all
free_in-place-requires-clause-all g c =
    let d = (goal.at.free_in-place-requires-clause-all g c).In-loop-position in
    ap length (body-slice (birth_at (g.M.Memory.heap c.args.memory.now)) c.args.capacity (ws g d)
    c.requires.even c.requires.room (index g d) c.deref.result.now
    (c.deref.ensures.value ∙ c.loop-position.invariant.items)) ∙ long g d

pub index_mut-requires : goal.index_mut-requires
index_mut-requires g c =
    let d = (goal.at.index_mut-requires g c).In-loop-position in
    let all = ap length c.loop-position.invariant.items
    ∙ body-long (birth_at (g.M.Memory.heap c.args.memory.now)) c.args.capacity (ws g d)
    c.requires.even c.requires.room (index g d) in
    let below = c.free_in-place.ensures.below in
    omega (arith, all, long g d, below)

pub loop-position-preserved : goal.loop-position-preserved
loop-position-preserved g c =
    let h = g.M.Memory.heap c.args.memory.now in
    let births = birth_at h in
    let capacity = c.args.capacity in
    let ws = c.args.scratch.now.items in
    let pairs = pairs_of_words ws in
    let p = c.loop-position.position in
    let key = c.index-key.result.now in
    let place = c.free_in-place.result in
    let below : p < length ws / 2 = omega arith in
    let d = (goal.at.loop-position-preserved g c).In-loop-position in
    let nulls = replicate (2 * (capacity - length ws / 2)) zero_word in
    let is_key : key ≡ get_or ws (2 * p) key =
    c.index-key.ensures
    ∙ (ap (λ xs. get_or xs (2 * p) key) c.loop-position.invariant.items
    ∙ front-get ws (nulls ++ index g d) (2 * p) key (omega (arith, below))) in
    let pair : slice_get pairs p ≡ Some (key, get_or ws (2 * p + 1) key) =
    pair-in_twos ws p key below
    ∙ ap (λ k. Some (k, get_or ws (2 * p + 1) key)) (sym is_key) in
    let start : c.first_place-start.result ≡ hash_of births key % capacity =
    c.first_place-start.ensures.answer
    ∙ ap (λ (k : Heap). hash_of (birth_at k) key % capacity) c.loop-position.invariant.heap in
    let spots = positions births capacity c.requires.few pairs (room g d) p (more g d) in
    let there : placed p (hash_of births key % capacity) spots ≡ slice_set spots place (Some p) =
    subst (λ s. placed p s spots ≡ slice_set spots place (Some p)) start
    (c.free_in-place.ensures.placed spots
    (body-slice births capacity ws c.requires.even c.requires.room (index g d) c.deref.result.now
    (c.deref.ensures.value ∙ c.loop-position.invariant.items)
    ∙ positions-words births capacity c.requires.few pairs (room g d) p (more g d))
    (positions-count births capacity c.requires.few pairs (room g d) p (more g d))
    (positions-small births capacity c.requires.few pairs (room g d) p (more g d))
    (positions-free births capacity c.requires.few pairs (room g d) p (more g d)) p) in
    record {
      heap = search rules;
      grants = search rules;
      items = ap (λ xs. slice_set xs (2 * capacity + place) c.natural_word.result)
          c.loop-position.invariant.items
          ∙ (body-set births capacity ws c.requires.even c.requires.room (index g d) place
          c.natural_word.result
          ∙ ap (λ xs. ws ++ (nulls ++ xs))
          (positions-next births capacity c.requires.few pairs (room g d) p (more g d) key
          (get_or ws (2 * p + 1) key) pair place c.natural_word.result
          c.natural_word.ensures.value (c.natural_word.ensures.held h).word there));
      room = search rules;
    }

pub returns-clause-words : goal.returns-clause-words
returns-clause-words g c =
    let h = g.M.Memory.heap c.args.memory.now in
    let ws = c.args.scratch.now.items in
    c.loop-position.invariant.items
    ∙ body-whole (birth_at h) c.args.capacity ws c.requires.even c.requires.room
    c.loop-position.position (omega arith)
