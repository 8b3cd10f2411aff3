use Rattle.std.proofs.Common.{arith, ◌≡◌, ◌+◌, ℕ, true, [], ◌∷◌, Some, sym, ap, ◌∙◌, subst}
use Rattle.ps_word.specs.declared.headers.Forward.{Forward}
use Rattle.ps_word.specs.Format.{address_in}
use Rattle.ps_word.specs.Readers.{is_reference, readdressed}
use Rattle.ps_core_machine.specs.declared.events.Event.TheVariants.{GcLoad}
use Rattle.ps_core_machine.specs.declared.events.Pair.{Pair}
use Rattle.ps_core_machine.specs.declared.events.Gc.{Gc}
use Rattle.ps_core_machine.specs.Objects.{pair_of, value_has_replica}
use Rattle.ps_core_machine.specs.Steps.{gc_after}
use Rattle.ps_table.specs.Events.{gc_did_all}
use Rattle.ps_table.specs.Shown.{GcFinds}
use Rattle.ps_table.proofs.Flipping.{Looked, looked, paired, look_one, renamed_to, forward_read, forward_none}
use Rattle.ps_table.proofs.GcFacts.{gc_knows}
use Rattle.ps_table.proofs.collector.GcSeat.renamed.Goals as goal

looked_root : (g : Gc) (w n low : ℕ) → low ≡ address_in w → is_reference w ≡ true
    → value_has_replica g.pairs w ≡ true → GcFinds g (low + 1) n → (p : Pair)
    × (pair_of g.pairs (address_in w) ≡ Some p) × Looked g (address_in w) p n
looked_root g w n low at ref has f =
    let p = paired g.pairs w ref has in (
      p.0,
      p.1,
      looked g (address_in w) n p.0 p.1 (subst (λ (z : ℕ). GcFinds g (z + 1) n) at f),
    )

pub load-second-requires : goal.load-second-requires
load-second-requires g c =
    let s = c.args.self.now in
    let g = s.seat.me.0.gc in
    let at = c.low_address.ensures in
    let ref : is_reference c.args.root.0 ≡ true =
    sym c.is_reference.ensures.number ∙ c.if-not-is_reference.false in
    let p = paired g.pairs c.args.root.0 ref c.requires.has in
    let top = (gc_knows g s.runs).originals (address_in c.args.root.0) p.0 p.1 in
    record { inside = omega arith }

pub readdressed-requires : goal.readdressed-requires
readdressed-requires g c =
    let g = c.args.self.now.seat.me.0.gc in
    let ref : is_reference c.args.root.0 ≡ true =
    sym c.is_reference.ensures.number ∙ c.if-not-is_reference.false in
    let r = looked_root g c.args.root.0 c.load-second.result c.low_address.result
    c.low_address.ensures ref c.requires.has c.load-second.ensures.finds in
    let k = r.2 in
    let is = forward_read c.load-second.result (g.cycle + 1) r.0.replica k.found k.cycle k.low
    c.in-Some.forward c.in-Some.ensures in
    let low = k.low in
    let same = ap (λ (f : Forward). f.address) is in
    omega arith

pub returns-in-Some-clause-did : goal.returns-in-Some-clause-did
returns-in-Some-clause-did g c =
    let g = c.args.self.now.seat.me.0.gc in
    let ref : is_reference c.args.root.0 ≡ true =
    sym c.is_reference.ensures.number ∙ c.if-not-is_reference.false in
    let r = looked_root g c.args.root.0 c.load-second.result c.low_address.result
    c.low_address.ensures ref c.requires.has c.load-second.ensures.finds in
    let events = look_one g c.args.root.0 r.0 ref r.1 c.load-second.result r.2.found in
    c.load-second.ensures.did
    ∙ (ap (λ (z : ℕ). gc_did_all c.args.self.now.seat.me.0
    (GcLoad (z + 1) c.load-second.result ∷ [])) c.low_address.ensures
    ∙ ap (gc_did_all c.args.self.now.seat.me.0) (sym events))

pub returns-in-Some-clause-part : goal.returns-in-Some-clause-part
returns-in-Some-clause-part g c =
    let g = c.args.self.now.seat.me.0.gc in
    let ref : is_reference c.args.root.0 ≡ true =
    sym c.is_reference.ensures.number ∙ c.if-not-is_reference.false in
    let r = looked_root g c.args.root.0 c.load-second.result c.low_address.result
    c.low_address.ensures ref c.requires.has c.load-second.ensures.finds in
    let v = c.args.self.now.seat.me.0.vm in
    ap (λ m. m.gc) c.load-second.ensures.did
    ∙ (ap (λ (z : ℕ). gc_after g v (GcLoad (z + 1) c.load-second.result)) c.low_address.ensures
    ∙ r.2.stays v)

pub returns-in-Some-clause-renamed : goal.returns-in-Some-clause-renamed
returns-in-Some-clause-renamed g c =
    let g = c.args.self.now.seat.me.0.gc in
    let w = c.args.root.0 in
    let ref : is_reference w ≡ true =
    sym c.is_reference.ensures.number ∙ c.if-not-is_reference.false in
    let r = looked_root g w c.load-second.result c.low_address.result
    c.low_address.ensures ref c.requires.has c.load-second.ensures.finds in
    let k = r.2 in
    let is = forward_read c.load-second.result (g.cycle + 1) r.0.replica k.found k.cycle k.low
    c.in-Some.forward c.in-Some.ensures in
    c.readdressed.ensures ∙ (ap (λ (f : Forward). readdressed w f.address) is
    ∙ sym (renamed_to g w r.0 ref r.1))

pub returns-in-None-clause-did : goal.returns-in-None-clause-did
returns-in-None-clause-did g c =
    let g = c.args.self.now.seat.me.0.gc in
    let ref : is_reference c.args.root.0 ≡ true =
    sym c.is_reference.ensures.number ∙ c.if-not-is_reference.false in
    let r = looked_root g c.args.root.0 c.load-second.result c.low_address.result
    c.low_address.ensures ref c.requires.has c.load-second.ensures.finds in
    let k = r.2 in
    absurd (forward_none c.load-second.result (g.cycle + 1) r.0.replica k.found k.cycle k.low
    c.in-None.ensures)

pub returns-in-None-clause-part : goal.returns-in-None-clause-part
returns-in-None-clause-part g c =
    let g = c.args.self.now.seat.me.0.gc in
    let ref : is_reference c.args.root.0 ≡ true =
    sym c.is_reference.ensures.number ∙ c.if-not-is_reference.false in
    let r = looked_root g c.args.root.0 c.load-second.result c.low_address.result
    c.low_address.ensures ref c.requires.has c.load-second.ensures.finds in
    let k = r.2 in
    absurd (forward_none c.load-second.result (g.cycle + 1) r.0.replica k.found k.cycle k.low
    c.in-None.ensures)

pub returns-in-None-clause-renamed : goal.returns-in-None-clause-renamed
returns-in-None-clause-renamed g c =
    let g = c.args.self.now.seat.me.0.gc in
    let ref : is_reference c.args.root.0 ≡ true =
    sym c.is_reference.ensures.number ∙ c.if-not-is_reference.false in
    let r = looked_root g c.args.root.0 c.load-second.result c.low_address.result
    c.low_address.ensures ref c.requires.has c.load-second.ensures.finds in
    let k = r.2 in
    absurd (forward_none c.load-second.result (g.cycle + 1) r.0.replica k.found k.cycle k.low
    c.in-None.ensures)
