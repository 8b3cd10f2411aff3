use Rattle.std.proofs.Common.{◌≡◌, ◌-◌, ℕ, drop, take, length, replicate, sym, ap, ◌∙◌, arith, length-set}
use Rattle.ps_mem.specs.Objects.{all_headers, wanting, heap_in}
use Rattle.ps_mem.proofs.RegionLemmas.{headers-put, field_place, heap-put, wanting-put, behind-put}
use Rattle.ps_mem.proofs.region.Region.put.Goals as goal

pub store-requires : goal.store-requires
store-requires c =
    let r = c.args.self.now in
    let inside = field_place r.words r.used r.next r.within r.whole c.args.address c.args.place c.requires in
    let within = r.within in omega (arith, inside, within)

pub invariant_of-self : goal.invariant_of-self
invariant_of-self c =
    let r = c.args.self.now in
    let same : length c.store.new.self ≡ length r.words = ap length c.store.ensures ∙ length-set r.words _ _ in
    let within = r.within in
    let limited = r.limited in
    record {
      within = omega (arith, same, within);
      limited = omega (arith, same, limited);
      whole = ap (λ ws. wanting (take r.used ws) 0) c.store.ensures
          ∙ wanting-put r.words r.used r.next r.within r.whole c.args.address c.args.place c.args.word.0 c.requires;
      headers = ap (λ ws. all_headers (take r.used ws) 0) c.store.ensures
          ∙ (headers-put r.words r.used r.next r.within r.whole c.args.address c.args.place c.args.word.0 c.requires
          ∙ r.headers);
      blank = ap (drop r.used) c.store.ensures
          ∙ (behind-put r.words r.used r.next r.within r.whole c.args.address c.args.place c.args.word.0 c.requires
          ∙ (r.blank ∙ ap (λ k. replicate {A = ℕ} (k - r.used) 0) (sym same)));
      births = r.births;
    }

pub returns-clause-heap : goal.returns-clause-heap
returns-clause-heap c = λ space.
    let r = c.args.self.now in
    ap (λ ws. heap_in ws r.used r.next space) c.store.ensures
    ∙ heap-put r.words r.used r.next r.within r.whole c.args.address c.args.place c.args.word.0 c.requires space
