use Rattle.std.proofs.Common.{◌≡◌, ◌++◌, ◌∙◌, ℕ, List, [], ap, sym}
use Rattle.std.specs.Prelude.{Result, Ok, Err, OnOk, OnErr}
use Rattle.std.proofs.lemmas.List.{append-nil}
use Rattle.ps_mem.specs.Objects.{heap_in}
use Rattle.ps_mem.proofs.RegionLemmas.{heap-grown}
use Rattle.ps_mem.proofs.region.Region.grow.Goals as goal

-- either way the old words stay
kept : {T E : Type 0} (result : Result T E) (old new more : List ℕ) → OnOk result (new ≡ old ++ more)
    → OnErr result (new ≡ old) → (added : List ℕ) × (new ≡ old ++ added)
kept (Ok _) old new more ok err = (more, ok)
kept (Err _) old new more ok err = ([], err ∙ sym (append-nil old))

pub returns-clause-heap : goal.returns-clause-heap
returns-clause-heap c = λ space.
    let r = c.args.self.now in
    let (added, is) = kept c.grow.result r.words c.grow.new.self _ c.grow.ensures.ok c.grow.ensures.err in
    ap (λ ws. heap_in ws r.used r.next space) is ∙ heap-grown r.words r.used r.next r.within r.whole added space
