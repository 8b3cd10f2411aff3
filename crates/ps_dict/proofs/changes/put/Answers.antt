use Rattle.std.proofs.Common.{◌≤◌, ◌+◌, ◌∙◌, sym, arith, subst}
use Rattle.ps_language.specs.Value.{Dictionary}
use Rattle.ps_language.specs.Access.{with_dictionary}
use Rattle.ps_mem.specs.Heap.{birth_at}
use Rattle.ps_mem.specs.Index.{pairs_of_words}
use Rattle.ps_mem.specs.Meaning.{value_of}
use Rattle.ps_mem.specs.Shows.{Shows}
use Rattle.ps_dict.specs.Places.{count_at, capacity_at, pairs_at, place_of}
use Rattle.ps_dict.specs.Puts.{plan_at}
use Rattle.ps_dict.proofs.Reading.{position-below}
use Rattle.ps_dict.proofs.Planning.{plan-replace, plan-append, plan-grow, grown-limits, put-replaces, put-appends, put-grows}
use Rattle.ps_dict.proofs.changes.put.Given.{Over}
use Rattle.ps_dict.proofs.changes.put.Goals.{In-Grow}
use Rattle.ps_dict.proofs.changes.put.Goals as goal

pub replace_value-requires-clause-place : goal.replace_value-requires-clause-place
unfolding plan_at
replace_value-requires-clause-place g c =
    let h = g.M.Memory.heap c.args.memory.now in
    position-below h c.args.address c.requires.known c.requires.sound c.args.key c.in-Replace.place
    (plan-replace (count_at h c.args.address) (capacity_at h c.args.address)
    (place_of (pairs_at h c.args.address) c.args.key) c.in-Replace.place (sym c.requires.plan ∙ c.in-Replace.is))

pub append_pairs-requires-clause-room : goal.append_pairs-requires-clause-room
unfolding plan_at
append_pairs-requires-clause-room g c =
    let h = g.M.Memory.heap c.args.memory.now in
    let facts = plan-append (count_at h c.args.address) (capacity_at h c.args.address)
    (place_of (pairs_at h c.args.address) c.args.key) (sym c.requires.plan ∙ c.in-Append.is) in
    let room = facts.1 in
    omega (arith, room)

-- the capacity that is planned has room for a pair more, and is within the limit
planned : (g : Over) (c : In-Grow g)
    → (count_at (g.M.Memory.heap c.args.memory.now) c.args.address + 1 ≤ c.in-Grow.capacity)
    × (c.in-Grow.capacity ≤ 21845)
unfolding plan_at
planned g c =
    let h = g.M.Memory.heap c.args.memory.now in
    let facts = plan-grow (count_at h c.args.address) (capacity_at h c.args.address)
    (place_of (pairs_at h c.args.address) c.args.key) c.in-Grow.capacity
    (sym c.requires.plan ∙ c.in-Grow.is) in
    let is = facts.1 in
    let full = facts.2 in
    let few = facts.3 in
    let limits = grown-limits (capacity_at h c.args.address) (count_at h c.args.address + 1)
    (omega (arith, full)) (omega (arith, few)) in
    let least = limits.0 in
    let most = limits.1 in
    (omega (arith, is, least), omega (arith, is, most))

pub grow_with-requires-clause-capacity : goal.grow_with-requires-clause-capacity
grow_with-requires-clause-capacity g c =
    (planned g (goal.at.grow_with-requires-clause-capacity g c).In-Grow).1

pub grow_with-requires-clause-room : goal.grow_with-requires-clause-room
grow_with-requires-clause-room g c =
    let least = (planned g (goal.at.grow_with-requires-clause-room g c).In-Grow).0 in
    omega (arith, least)

pub returns-in-Replace-clause-shows : goal.returns-in-Replace-clause-shows
unfolding plan_at
returns-in-Replace-clause-shows g c = λ names s shows distinct first second d holds.
    let h = g.M.Memory.heap c.args.memory.now in
    let b = birth_at h c.args.address in
    let at = plan-replace (count_at h c.args.address) (capacity_at h c.args.address)
    (place_of (pairs_at h c.args.address) c.args.key) c.in-Replace.place (sym c.requires.plan ∙ c.in-Replace.is) in
    subst (λ (x : Dictionary). Shows (g.M.Memory.heap c.replace_value.new.memory) names (with_dictionary s b x))
    (put-replaces h c.args.address c.requires.known c.requires.sound names s shows c.args.key c.requires.key distinct
    first c.in-Replace.place at (value_of (birth_at h) names c.args.value) d holds)
    (c.replace_value.ensures.shows names s shows second)

pub returns-in-Append-clause-shows : goal.returns-in-Append-clause-shows
unfolding plan_at pairs_of_words
returns-in-Append-clause-shows g c = λ names s shows distinct first second d holds.
    let h = g.M.Memory.heap c.args.memory.now in
    let b = birth_at h c.args.address in
    let facts = plan-append (count_at h c.args.address) (capacity_at h c.args.address)
    (place_of (pairs_at h c.args.address) c.args.key) (sym c.requires.plan ∙ c.in-Append.is) in
    subst (λ (x : Dictionary). Shows (g.M.Memory.heap c.append_pairs.new.memory) names (with_dictionary s b x))
    (put-appends h c.args.address c.requires.known c.requires.sound names s shows c.args.key c.requires.key distinct
    first facts.0 (value_of (birth_at h) names c.args.value) d holds facts.1)
    (c.append_pairs.ensures.shows names s shows (first, (second, tt)))

pub returns-in-Grow-clause-shows : goal.returns-in-Grow-clause-shows
unfolding plan_at
returns-in-Grow-clause-shows g c = λ names s shows distinct first second d holds.
    let h = g.M.Memory.heap c.args.memory.now in
    let b = birth_at h c.args.address in
    let facts = plan-grow (count_at h c.args.address) (capacity_at h c.args.address)
    (place_of (pairs_at h c.args.address) c.args.key) c.in-Grow.capacity (sym c.requires.plan ∙ c.in-Grow.is) in
    subst (λ (x : Dictionary). Shows (g.M.Memory.heap c.grow_with.new.memory) names (with_dictionary s b x))
    (put-grows h c.args.address c.requires.known c.requires.sound names s shows c.args.key c.requires.key distinct first
    facts.0 (value_of (birth_at h) names c.args.value) d holds c.in-Grow.capacity facts.1)
    (c.grow_with.ensures.shows names s shows first second)
