use Rattle.std.proofs.Common.{ℕ, ◌≡◌, ◌≤◌, ◌+◌, ◌*◌, ◌-◌, ◌∙◌, ap, sym, arith, subst, length, take, drop}
use Rattle.std.specs.Prelude.{slice_range}
use Rattle.ps_mem.specs.Heap.{Heap, fields_at, stored}
use Rattle.ps_mem.specs.References.{NamesStanding}
use Rattle.ps_mem.proofs.HeapLemmas.{stored-nil}
use Rattle.ps_mem.proofs.KeepsLemmas.{known_values}
use Rattle.ps_dict.specs.Places.{count_at, body_at}
use Rattle.ps_dict.proofs.Removing.{behind, behind-values, behind-fits}
use Rattle.ps_dict.proofs.removals.move_down.Given.{Over}
use Rattle.ps_dict.proofs.removals.move_down.Goals.{After-body-body}
use Rattle.ps_dict.proofs.removals.move_down.Goals as goal

module _ (g : Over) (c : After-body-body g) where
  abbrev h : Heap
  h = g.M.Memory.heap c.args.memory.now

  abbrev a : ℕ
  a = c.args.address

  -- so many pairs are behind the place
  abbrev m : ℕ
  m = c.length-count.result - c.args.place - 1

  before : g.M.Memory.heap c.body-body.new.memory ≡ h
  before = c.body-body.ensures.heap ∙ c.length-count.ensures.heap

  body : c.body-body.result ≡ body_at h a
  body = c.body-body.ensures.words ∙ ap (λ (k : Heap). body_at k a) c.length-count.ensures.heap

  is : c.args.place + (m + 1) ≡ count_at h a
  is = let count = c.length-count.ensures.words in let below = c.requires.place in
      omega (arith, count, below)

  ends : 2 * c.args.place + 2 + 2 * m ≡ 2 * count_at h a
  ends = let all = is in omega (arith, all)

pub copy-requires-clause-source : goal.copy-requires-clause-source
copy-requires-clause-source g c =
    let d = (goal.at.copy-requires-clause-source g c).After-body-body in
    subst (λ (k : Heap). 2 * c.args.place + 2 + 2 * m g d ≤ length
    (fields_at k c.body-body.result)) (sym (before g d))
    (subst (λ b. 2 * c.args.place + 2 + 2 * m g d ≤ length (fields_at (h g d) b))
    (sym (body g d))
    (behind-fits (h g d) (a g d) c.requires.known c.requires.sound c.args.place (m g d) (is g d)))

pub copy-requires-clause-target : goal.copy-requires-clause-target
copy-requires-clause-target g c =
    let d = (goal.at.copy-requires-clause-target g c).After-body-body in
    let fits = behind-fits (h g d) (a g d) c.requires.known c.requires.sound c.args.place (m g d)
    (is g d) in
    subst (λ (k : Heap). 2 * c.args.place + 2 * m g d ≤ length (fields_at k c.body-body.result))
    (sym (before g d))
    (subst (λ b. 2 * c.args.place + 2 * m g d ≤ length (fields_at (h g d) b)) (sym (body g d))
    (omega (arith, fits)))

pub copy-requires-clause-known : goal.copy-requires-clause-known
copy-requires-clause-known g c =
    let d = (goal.at.copy-requires-clause-known g c).After-body-body in
    subst (λ (k : Heap). NamesStanding k c.body-body.result
    (slice_range (fields_at k c.body-body.result) (2 * c.args.place + 2)
    (2 * c.args.place + 2 + 2 * m g d))) (sym (before g d))
    (subst (λ b. NamesStanding (h g d) b (slice_range (fields_at (h g d) b) (2 * c.args.place + 2)
    (2 * c.args.place + 2 + 2 * m g d))) (sym (body g d))
    (record {
      known = λ o at text. known_values (h g d)
          (behind (h g d) (a g d) c.requires.known c.requires.sound c.args.place (m g d) (is g d))
          (behind-values (h g d) (a g d) c.requires.known c.requires.sound c.args.place (m g d)
          (is g d));
    }))

pub returns-then-behind-ne0-clause-heap : goal.returns-then-behind-ne0-clause-heap
returns-then-behind-ne0-clause-heap g c =
    let d = (goal.at.returns-then-behind-ne0-clause-heap g c).After-body-body in
    c.copy.ensures.heap
    ∙ (ap (λ (k : Heap). stored k c.body-body.result (2 * c.args.place)
    (slice_range (fields_at k c.body-body.result) (2 * c.args.place + 2)
    (2 * c.args.place + 2 + 2 * m g d))) (before g d)
    ∙ (ap (λ b. stored (h g d) b (2 * c.args.place) (slice_range (fields_at (h g d) b)
    (2 * c.args.place + 2) (2 * c.args.place + 2 + 2 * m g d))) (body g d)
    ∙ ap (λ n. stored (h g d) (body_at (h g d) (a g d)) (2 * c.args.place)
    (slice_range (fields_at (h g d) (body_at (h g d) (a g d))) (2 * c.args.place + 2) n))
    (ends g d)))

pub returns-else-behind-ne0-clause-heap : goal.returns-else-behind-ne0-clause-heap
returns-else-behind-ne0-clause-heap g c =
    let h = g.M.Memory.heap c.args.memory.now in
    let a = c.args.address in
    let before : g.M.Memory.heap c.body-body.new.memory ≡ h = c.body-body.ensures.heap
    ∙ c.length-count.ensures.heap in
    let count = c.length-count.ensures.words in
    let below = c.requires.place in
    let none : 2 * count_at h a - (2 * c.args.place + 2) ≡ 0 = omega (arith, count, below) in
    before
    ∙ sym (ap (λ n. stored h (body_at h a) (2 * c.args.place)
    (take n (drop (2 * c.args.place + 2) (fields_at h (body_at h a))))) none
    ∙ stored-nil h (body_at h a) (2 * c.args.place))
