use Rattle.std.proofs.Common.{◌≡◌, ℕ, ◌+◌, ◌*◌, ◌++◌, ◌∙◌, [], ◌∷◌, None, ap, sym, subst, take}
use Rattle.ps_mem.specs.Heap.{Heap, object_at, birth_at, fields_at, stored, made_body}
use Rattle.ps_mem.specs.Index.{pairs_of_words, index_words}
use Rattle.ps_dict.specs.Places.{count_at, body_at}
use Rattle.ps_dict.proofs.Growing.{HasFreeIndex, paired, paired-free, paired-index, indexed-whole}
use Rattle.ps_dict.proofs.fills.new_body.Given.{Over}
use Rattle.ps_dict.proofs.fills.new_body.Goals.{After-paired_body-body}
use Rattle.ps_dict.proofs.fills.new_body.Goals as goal

-- ---- the body with its pairs

module _ (g : Over) (c : After-paired_body-body g) where
  abbrev h : Heap
  h = g.M.Memory.heap c.args.memory.now

  abbrev b : ℕ
  b = c.paired_body-body.result

  free : object_at h b ≡ None
  free = ap (λ (k : Heap). object_at k b) (sym c.length-count.ensures.heap)
      ∙ c.paired_body-body.ensures.free

  abbrev with_pairs : Heap
  with_pairs = paired h c.args.address c.requires.known c.requires.sound c.args.key c.args.value b
      free c.args.capacity c.requires.room c.requires.capacity c.requires.key c.requires.value

  now : g.M.Memory.heap c.paired_body-body.new.memory ≡ with_pairs
  now = c.paired_body-body.ensures.heap
      ∙ ap (λ (k : Heap). stored (made_body k b (birth_at k c.args.address) (3 * c.args.capacity))
      b 0 (take (2 * count_at k c.args.address) (fields_at k (body_at k c.args.address))
      ++ c.args.key ∷ c.args.value ∷ [])) c.length-count.ensures.heap

  blank : HasFreeIndex (g.M.Memory.heap c.paired_body-body.new.memory) b c.args.capacity
  blank = subst (λ (k : Heap). HasFreeIndex k b c.args.capacity) (sym now)
      (paired-free h c.args.address c.requires.known c.requires.sound c.args.key c.args.value b
      free c.args.capacity c.requires.room c.requires.capacity c.requires.key c.requires.value)

pub fill_index-requires-clause-stands : goal.fill_index-requires-clause-stands
fill_index-requires-clause-stands g c =
    (blank g (goal.at.fill_index-requires-clause-stands g c).After-paired_body-body).stands

pub fill_index-requires-clause-fields : goal.fill_index-requires-clause-fields
fill_index-requires-clause-fields g c =
    (blank g (goal.at.fill_index-requires-clause-fields g c).After-paired_body-body).fields

pub fill_index-requires-clause-values : goal.fill_index-requires-clause-values
fill_index-requires-clause-values g c =
    (blank g (goal.at.fill_index-requires-clause-values g c).After-paired_body-body).values

pub fill_index-requires-clause-free : goal.fill_index-requires-clause-free
fill_index-requires-clause-free g c =
    (blank g (goal.at.fill_index-requires-clause-free g c).After-paired_body-body).free

pub returns-clause-heap : goal.returns-clause-heap
returns-clause-heap g c =
    let d = (goal.at.returns-clause-heap g c).After-paired_body-body in
    c.fill_index.ensures.heap
    ∙ (ap (λ (k : Heap). stored k (b g d) (2 * c.args.capacity)
    (index_words (birth_at k) c.args.capacity
    (take (c.length-count.result + 1) (pairs_of_words (fields_at k (b g d)))))) (now g d)
    ∙ (ap (λ n. stored (with_pairs g d) (b g d) (2 * c.args.capacity)
    (index_words (birth_at (with_pairs g d)) c.args.capacity
    (take (n + 1) (pairs_of_words (fields_at (with_pairs g d) (b g d))))))
    c.length-count.ensures.words
    ∙ ap (stored (with_pairs g d) (b g d) (2 * c.args.capacity))
    (paired-index (h g d) c.args.address c.requires.known c.requires.sound c.args.key c.args.value
    (b g d) (free g d) c.args.capacity c.requires.room c.requires.capacity c.requires.key
    c.requires.value)
    ∙ indexed-whole (h g d) c.args.address c.requires.known c.requires.sound c.args.key
    c.args.value (b g d) (free g d) c.args.capacity c.requires.room c.requires.capacity
    c.requires.key c.requires.value))
