use Rattle.std.proofs.Common.{◌≡◌, ◌<◌, ◌∙◌, [], ◌∷◌, ap, sym, refl, arith, subst, length, take}
use Rattle.std.proofs.lemmas.List.{take_all, length-take-le}
use Rattle.ps_mem.specs.Heap.{Heap, fields_at, stored}
use Rattle.ps_mem.specs.References.{NamesStanding}
use Rattle.ps_mem.proofs.HeapLemmas.{stored-nil}
use Rattle.ps_dict.proofs.Filling.{source-place, target-place, read-known, filled-next}
use Rattle.ps_dict.proofs.fills.fill_from.Goals as goal

pub loop-place-init : goal.loop-place-init
loop-place-init g c = (sym (stored-nil (g.M.Memory.heap c.args.memory.now) c.args.to 0), refl)

pub load-word-requires : goal.load-word-requires
load-word-requires g c = record {
  place = source-place (g.M.Memory.heap c.args.memory.now) c.args.to c.args.from c.args.count c.requires.apart
      c.requires.source c.requires.target (g.M.Memory.heap c.loop-place.memory) c.loop-place.place
      c.loop-place.invariant.0 (omega arith);
}

pub fill-requires-clause-known : goal.fill-requires-clause-known
fill-requires-clause-known g c =
    subst (λ (k : Heap). NamesStanding k c.args.to (c.load-word.result ∷ [])) (sym c.load-word.ensures.heap)
    (read-known (g.M.Memory.heap c.args.memory.now) c.args.to c.args.from c.args.count c.requires.apart
    c.requires.source c.requires.target (g.M.Memory.heap c.loop-place.memory) c.loop-place.place
    c.loop-place.invariant.0 (omega arith)
    c.load-word.result c.load-word.ensures.answer c.requires.known)

pub fill-requires-clause-place : goal.fill-requires-clause-place
fill-requires-clause-place g c =
    subst (λ (k : Heap). c.loop-place.place < length (fields_at k c.args.to)) (sym c.load-word.ensures.heap)
    (target-place (g.M.Memory.heap c.args.memory.now) c.args.to c.args.from c.args.count c.requires.apart
    c.requires.source c.requires.target (g.M.Memory.heap c.loop-place.memory) c.loop-place.place
    c.loop-place.invariant.0 (omega arith))

pub loop-place-preserved : goal.loop-place-preserved
loop-place-preserved g c = (
  c.fill.ensures.heap
      ∙ (ap (λ (k : Heap). stored k c.args.to c.loop-place.place (c.load-word.result ∷ [])) c.load-word.ensures.heap
      ∙ filled-next (g.M.Memory.heap c.args.memory.now) c.args.to c.args.from c.args.count c.requires.apart
      c.requires.source c.requires.target (g.M.Memory.heap c.loop-place.memory) c.loop-place.place
      c.loop-place.invariant.0 (omega arith)
      c.load-word.result c.load-word.ensures.answer),
  c.fill.ensures.grants ∙ (c.load-word.ensures.grants ∙ c.loop-place.invariant.1),
)

pub returns-clause-heap : goal.returns-clause-heap
returns-clause-heap g c =
    let h = g.M.Memory.heap c.args.memory.now in
    let n : length (take c.args.count (fields_at h c.args.from)) ≡ c.args.count =
    length-take-le c.args.count (fields_at h c.args.from) c.requires.source in
    c.loop-place.invariant.0
    ∙ ap (stored h c.args.to 0) (take_all c.loop-place.place (take c.args.count (fields_at h c.args.from))
    (omega (arith, n)))
