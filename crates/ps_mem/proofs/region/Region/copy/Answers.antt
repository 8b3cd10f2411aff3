use Rattle.std.proofs.Common.{◌≡◌, ◌-◌, ℕ, drop, take, length, replicate, sym, ap, ◌∙◌, arith, refl}
use Rattle.ps_mem.specs.Objects.{all_headers, wanting, heap_in}
use Rattle.ps_mem.proofs.RegionLemmas.{headers-copied, source_place, target_place, heap-copied, wanting-copied, behind-copied, length-copied}
use Rattle.ps_mem.proofs.region.Region.copy.Goals as goal

pub copy_within-requires-clause-source : goal.copy_within-requires-clause-source
copy_within-requires-clause-source c =
    let r = c.args.self.now in
    let inside = source_place r.words r.used r.next r.within r.whole c.args.from.address
    c.args.from.place c.args.to.address c.args.to.place c.args.count c.requires.some
    c.requires.source c.requires.target in
    let within = r.within in omega (arith, inside, within)

pub copy_within-requires-clause-target : goal.copy_within-requires-clause-target
copy_within-requires-clause-target c =
    let r = c.args.self.now in
    let inside = target_place r.words r.used r.next r.within r.whole c.args.from.address
    c.args.from.place c.args.to.address c.args.to.place c.args.count c.requires.some
    c.requires.source c.requires.target in
    let within = r.within in omega (arith, inside, within)

pub invariant_of-self : goal.invariant_of-self
invariant_of-self c =
    let r = c.args.self.now in
    let same : length c.copy_within.new.self ≡ length r.words =
    ap length c.copy_within.ensures
    ∙ length-copied r.words r.used r.next r.within r.whole c.args.from.address c.args.from.place
    c.args.to.address c.args.to.place c.args.count c.requires.some c.requires.source
    c.requires.target in
    let within = r.within in
    let limited = r.limited in
    record {
      within = omega (arith, same, within);
      limited = omega (arith, same, limited);
      whole = ap (λ ws. wanting (take r.used ws) 0) c.copy_within.ensures
          ∙ wanting-copied r.words r.used r.next r.within r.whole c.args.from.address
          c.args.from.place c.args.to.address c.args.to.place c.args.count c.requires.some
          c.requires.source c.requires.target;
      headers = ap (λ ws. all_headers (take r.used ws) 0) c.copy_within.ensures
          ∙ (headers-copied r.words r.used r.next r.within r.whole c.args.from.address
          c.args.from.place c.args.to.address c.args.to.place c.args.count c.requires.some
          c.requires.source c.requires.target ∙ r.headers);
      blank = ap (drop r.used) c.copy_within.ensures
          ∙ (behind-copied r.words r.used r.next r.within r.whole c.args.from.address
          c.args.from.place c.args.to.address c.args.to.place c.args.count c.requires.some
          c.requires.source c.requires.target
          ∙ (r.blank ∙ ap (λ k. replicate {A = ℕ} (k - r.used) 0) (sym same)));
      births = r.births;
    }

pub returns-clause-heap : goal.returns-clause-heap
returns-clause-heap c = λ space.
    let r = c.args.self.now in
    ap (λ ws. heap_in ws r.used r.next space) c.copy_within.ensures
    ∙ heap-copied r.words r.used r.next r.within r.whole c.args.from.address c.args.from.place
    c.args.to.address c.args.to.place c.args.count c.requires.some c.requires.source
    c.requires.target space

pub returns-clause-counts : goal.returns-clause-counts
returns-clause-counts c =
    let r = c.args.self.now in (
      refl,
      refl,
      ap length c.copy_within.ensures
          ∙ length-copied r.words r.used r.next r.within r.whole c.args.from.address
          c.args.from.place c.args.to.address c.args.to.place c.args.count c.requires.some
          c.requires.source c.requires.target,
    )
