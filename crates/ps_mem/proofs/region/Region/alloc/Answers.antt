use Rattle.std.proofs.Common.{◌≡◌, ◌+◌, ◌-◌, ℕ, drop, take, length, replicate, subst, sym, ap, ◌∙◌, arith, refl}
use Rattle.ps_word.specs.declared.headers.Header.{Header}
use Rattle.ps_word.specs.Headers.{IsHeader}
use Rattle.ps_mem.specs.Objects.{all_headers, wanting, heap_in}
use Rattle.ps_mem.proofs.NewLemmas.{nothing_there, heap_with_new, whole_with_new, headers_with_new, blank_with_new, length_with_new}
use Rattle.ps_mem.proofs.region.Region.alloc.Goals as goal

pub invariant_of-self : goal.invariant_of-self
invariant_of-self c =
    let r = c.args.self.now in
    let n = c.args.fields in
    let h : Header = record { kind = c.args.kind; fields = n; birth = r.next } in
    let within = r.within in
    let limited = r.limited in
    let births = r.births in
    let room = c.requires.room in
    let fields = c.requires.fields in
    let fits : IsHeader h = record { fields = omega (arith, fields); birth = omega (arith, within, limited, births) } in
    let same : length c.store.new.self ≡ length r.words = ap length c.store.ensures
    ∙ length_with_new r.words r.used r.next r.within r.whole r.blank h fits c.pack.result.0 c.pack.ensures n refl
    room in
    record {
      within = omega (arith, same, room);
      limited = omega (arith, same, limited);
      whole = ap (λ ws. wanting (take (r.used + 2 + n) ws) 0) c.store.ensures
          ∙ whole_with_new r.words r.used r.next r.within r.whole r.blank h fits c.pack.result.0 c.pack.ensures n refl
          room;
      headers = ap (λ ws. all_headers (take (r.used + 2 + n) ws) 0) c.store.ensures
          ∙ headers_with_new r.words r.used r.next r.within r.whole r.blank h fits c.pack.result.0 c.pack.ensures n refl
          room r.headers;
      blank = subst (λ ws. drop (r.used + 2 + n) ws ≡ replicate {A = ℕ} (length ws - (r.used + 2 + n)) 0)
          (sym c.store.ensures)
          (blank_with_new r.words r.used r.next r.within r.whole r.blank h fits c.pack.result.0 c.pack.ensures n refl
          room);
      births = omega (arith, births);
    }

pub returns-clause-free : goal.returns-clause-free
returns-clause-free c =
    let r = c.args.self.now in
    let h : Header = record { kind = c.args.kind; fields = c.args.fields; birth = r.next } in
    let within = r.within in
    let limited = r.limited in
    let births = r.births in
    let fits : IsHeader h =
    record { fields = omega (arith, c.requires.fields); birth = omega (arith, within, limited, births) } in
    nothing_there r.words r.used r.next r.within r.whole r.blank h fits c.pack.result.0 c.pack.ensures c.args.fields
    refl c.requires.room

pub returns-clause-heap : goal.returns-clause-heap
returns-clause-heap c = λ space.
    let r = c.args.self.now in
    let n = c.args.fields in
    let h : Header = record { kind = c.args.kind; fields = n; birth = r.next } in
    let within = r.within in
    let limited = r.limited in
    let births = r.births in
    let fits : IsHeader h =
    record { fields = omega (arith, c.requires.fields); birth = omega (arith, within, limited, births) } in
    ap (λ ws. heap_in ws (r.used + 2 + n) (r.next + 1) space) c.store.ensures
    ∙ heap_with_new r.words r.used r.next r.within r.whole r.blank h fits c.pack.result.0 c.pack.ensures n refl
    c.requires.room refl space
