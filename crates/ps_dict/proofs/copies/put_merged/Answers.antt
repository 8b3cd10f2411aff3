use Rattle.std.proofs.Common.{◌≡◌, ◌≤◌, ◌∙◌, ap, sym, arith, subst, length, map, inl, inr}
use Rattle.ps_language.specs.Value.{Dictionary}
use Rattle.ps_language.specs.Access.{dictionary_at, with_dictionary}
use Rattle.ps_language.specs.Dictionaries.{grown_capacity}
use Rattle.ps_mem.specs.Heap.{birth_at}
use Rattle.ps_mem.specs.Shows.{Shows, pair_of}
use Rattle.ps_dict.specs.Merges.{merged_at, merge_words_at}
use Rattle.ps_dict.specs.Places.{count_at, capacity_at}
use Rattle.ps_dict.proofs.Entering.{same-shown}
use Rattle.ps_dict.proofs.Copying.{IsWritten, both-some, keep-holds, rewrite-holds, grow-holds, written, planned-keep, planned-rewrite, planned-grow}
use Rattle.ps_dict.proofs.copies.put_merged.Given.{Over}
use Rattle.ps_dict.proofs.copies.put_merged.Goals.{In-Rewrite, In-Grow}
use Rattle.ps_dict.proofs.copies.put_merged.Goals as goal

-- ---- over the body that there is

rewrites : (g : Over) (c : In-Rewrite g)
    → (1 ≤ count_at (g.M.Memory.heap c.args.memory.now) c.args.merge.from)
    × (c.in-Rewrite.count
    ≡ length (merged_at (g.M.Memory.heap c.args.memory.now) c.args.merge.to c.args.merge.from))
    × (c.in-Rewrite.count ≤ capacity_at (g.M.Memory.heap c.args.memory.now) c.args.merge.to)
rewrites g c = planned-rewrite (g.M.Memory.heap c.args.memory.now) c.requires.sound
    c.args.merge.to c.args.merge.from c.requires.target c.requires.source c.in-Rewrite.count
    (sym c.in-Rewrite.is ∙ c.requires.plan)

rewritten : (g : Over) (c : In-Rewrite g)
    → IsWritten (g.M.Memory.heap c.args.memory.now) c.args.merge.to c.args.merge.from
    c.in-Rewrite.count (capacity_at (g.M.Memory.heap c.args.memory.now) c.args.merge.to)
    c.args.words.now
unfolding merge_words_at
rewritten g c =
    let h = g.M.Memory.heap c.args.memory.now in
    written h c.requires.sound c.args.merge.to c.args.merge.from c.requires.target
    c.requires.source c.in-Rewrite.count (capacity_at h c.args.merge.to) c.args.words.now
    (c.requires.words ∙ ap (merge_words_at h c.args.merge.to c.args.merge.from) c.in-Rewrite.is)
    (rewrites g c).1 (rewrites g c).2

pub write_over-requires-clause-count : goal.write_over-requires-clause-count
write_over-requires-clause-count g c =
    (rewritten g (goal.at.write_over-requires-clause-count g c).In-Rewrite).count

pub write_over-requires-clause-some : goal.write_over-requires-clause-some
write_over-requires-clause-some g c =
    let says = rewrites g (goal.at.write_over-requires-clause-some g c).In-Rewrite in
    let some = both-some (g.M.Memory.heap c.args.memory.now) c.requires.sound c.args.merge.to
    c.args.merge.from c.requires.target c.requires.source says.0 in
    let is = says.1 in
    omega (arith, some, is)

pub write_over-requires-clause-room : goal.write_over-requires-clause-room
write_over-requires-clause-room g c =
    (rewritten g (goal.at.write_over-requires-clause-room g c).In-Rewrite).room

pub write_over-requires-clause-held : goal.write_over-requires-clause-held
write_over-requires-clause-held g c =
    (rewritten g (goal.at.write_over-requires-clause-held g c).In-Rewrite).held

pub write_over-requires-clause-words : goal.write_over-requires-clause-words
write_over-requires-clause-words g c =
    (rewritten g (goal.at.write_over-requires-clause-words g c).In-Rewrite).words

-- ---- in a greater one

grows : (g : Over) (c : In-Grow g)
    → (c.in-Grow.count
    ≡ length (merged_at (g.M.Memory.heap c.args.memory.now) c.args.merge.to c.args.merge.from))
    × (c.in-Grow.capacity
    ≡ grown_capacity (capacity_at (g.M.Memory.heap c.args.memory.now) c.args.merge.to)
    (length (merged_at (g.M.Memory.heap c.args.memory.now) c.args.merge.to c.args.merge.from)))
    × (c.in-Grow.count ≤ c.in-Grow.capacity) × (c.in-Grow.capacity ≤ 21845)
grows g c = planned-grow (g.M.Memory.heap c.args.memory.now) c.requires.sound c.args.merge.to
    c.args.merge.from c.requires.target c.requires.source c.in-Grow.count c.in-Grow.capacity
    (sym c.in-Grow.is ∙ c.requires.plan)

grown : (g : Over) (c : In-Grow g)
    → IsWritten (g.M.Memory.heap c.args.memory.now) c.args.merge.to c.args.merge.from
    c.in-Grow.count c.in-Grow.capacity c.args.words.now
unfolding merge_words_at
grown g c =
    let h = g.M.Memory.heap c.args.memory.now in
    written h c.requires.sound c.args.merge.to c.args.merge.from c.requires.target
    c.requires.source c.in-Grow.count c.in-Grow.capacity c.args.words.now
    (c.requires.words ∙ ap (merge_words_at h c.args.merge.to c.args.merge.from) c.in-Grow.is)
    (grows g c).0 (grows g c).2

pub write_new-requires-clause-capacity : goal.write_new-requires-clause-capacity
write_new-requires-clause-capacity g c =
    (grows g (goal.at.write_new-requires-clause-capacity g c).In-Grow).3

pub write_new-requires-clause-count : goal.write_new-requires-clause-count
write_new-requires-clause-count g c =
    (grown g (goal.at.write_new-requires-clause-count g c).In-Grow).count

pub write_new-requires-clause-room : goal.write_new-requires-clause-room
write_new-requires-clause-room g c =
    (grown g (goal.at.write_new-requires-clause-room g c).In-Grow).room

pub write_new-requires-clause-held : goal.write_new-requires-clause-held
write_new-requires-clause-held g c =
    (grown g (goal.at.write_new-requires-clause-held g c).In-Grow).held

pub write_new-requires-clause-words : goal.write_new-requires-clause-words
write_new-requires-clause-words g c =
    (grown g (goal.at.write_new-requires-clause-words g c).In-Grow).words

-- ---- what is shown

pub returns-in-Rewrite-clause-shows : goal.returns-in-Rewrite-clause-shows
returns-in-Rewrite-clause-shows g c = λ names s shows distinct d holds.
    let h = g.M.Memory.heap c.args.memory.now in
    let b = birth_at h c.args.merge.to in
    let old = dictionary_at s b in
    let at = (goal.at.returns-in-Rewrite-clause-shows g c).In-Rewrite in
    let is = (rewrites g at).1 in
    let fits = (rewrites g at).2 in
    subst (λ (x : Dictionary). Shows (g.M.Memory.heap c.write_over.new.memory) names
    (with_dictionary s b x))
    (ap (λ ps. record old { pairs = map (pair_of (birth_at h) names) ps }) (rewritten g at).pairs
    ∙ rewrite-holds h c.requires.sound c.args.merge.to c.args.merge.from c.requires.target
    c.requires.source names s shows distinct d holds (omega (arith, is, fits)))
    (c.write_over.ensures.shows names s shows ((rewritten g at).within names s shows))

pub returns-in-Grow-clause-shows : goal.returns-in-Grow-clause-shows
returns-in-Grow-clause-shows g c = λ names s shows distinct d holds.
    let h = g.M.Memory.heap c.args.memory.now in
    let b = birth_at h c.args.merge.to in
    let old = dictionary_at s b in
    let at = (goal.at.returns-in-Grow-clause-shows g c).In-Grow in
    subst (λ (x : Dictionary). Shows (g.M.Memory.heap c.write_new.new.memory) names
    (with_dictionary s b x))
    (ap (λ ps. record old
    { pairs = map (pair_of (birth_at h) names) ps; capacity = c.in-Grow.capacity })
    (grown g at).pairs
    ∙ grow-holds h c.requires.sound c.args.merge.to c.args.merge.from c.requires.target
    c.requires.source names s shows distinct d holds c.in-Grow.capacity (grows g at).1)
    (c.write_new.ensures.shows names s shows ((grown g at).within names s shows))

pub returns-in-Keep-clause-shows : goal.returns-in-Keep-clause-shows
returns-in-Keep-clause-shows g c = λ names s shows distinct d holds.
    let h = g.M.Memory.heap c.args.memory.now in
    let to = c.args.merge.to in
    let from = c.args.merge.from in
    let none : count_at h from ≡ 0 = elim c.in-Keep.is [
      | inl e ↦ planned-keep h c.requires.sound to from c.requires.target c.requires.source
          (sym e ∙ c.requires.plan)
      | inr e ↦ absurd (c.requires.possible e)
    ] in
    subst (λ (x : Dictionary). Shows h names (with_dictionary s (birth_at h to) x))
    (keep-holds h c.requires.sound to from c.requires.target c.requires.source names s shows
    distinct d holds none)
    (same-shown h to c.requires.target c.requires.sound names s shows)
