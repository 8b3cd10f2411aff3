use Rattle.std.proofs.Common.{arith, ◌≡◌, ◌+◌, ℕ, true, false, refl, sym, ◌∙◌, subst}
use Rattle.ps_word.specs.Format.{address_in}
use Rattle.ps_word.specs.Readers.{is_reference}
use Rattle.ps_core_machine.specs.declared.events.Vm.{Vm}
use Rattle.ps_core_machine.specs.declared.events.Gc.{Gc}
use Rattle.ps_core_machine.specs.Objects.{value_stands}
use Rattle.ps_core_machine.specs.Steps.{is_open}
use Rattle.ps_table.specs.Shown.{BothFind}
use Rattle.ps_table.proofs.Facts.{vm_facts}
use Rattle.ps_table.proofs.Seconds.{BothTell, both_tell, reference_stands, object_of, read_some, read_none, has_none}
use Rattle.ps_table.proofs.Seconds.{has_as_told, has_unread}
use Rattle.ps_core_laws.proofs.Loads.{stays, behind_heads}
use Rattle.ps_table.proofs.Looking.{no_looks, one_look, no_gc_look}
use Rattle.ps_table.proofs.collector.GcSeat.has_replica.Goals as goal

-- what a look at the second header of what a reference names tells
told : (v : Vm) (g : Gc) (w n low : ℕ) → low ≡ address_in w → is_reference w ≡ true
    → value_stands v.objects w ≡ true
    → BothFind v g (low + 1) n → BothTell v g (address_in w) n
told v g w n low at ref stands f = both_tell v g (address_in w) n
    (reference_stands v w ref stands) (subst (λ (z : ℕ). BothFind v g (z + 1) n) at f)

pub look-second-requires-clause-inside : goal.look-second-requires-clause-inside
look-second-requires-clause-inside g c =
    let v = c.args.self.now.seat.me.0.vm in
    let at = c.low_address.ensures in
    let ref : is_reference c.args.root.0 ≡ true =
    sym c.is_reference.ensures.number ∙ c.if-not-is_reference.false in
    let o = object_of v c.args.root.0 ref c.requires.stands in
    let k = vm_facts v c.requires.sits.runs in
    let top = k.end_high in let wide = k.base_high in
    let inside = (k.within _ o.0 o.1).1 in
    omega arith

pub look-second-requires-clause-stays : goal.look-second-requires-clause-stays
look-second-requires-clause-stays g c =
    let v = c.args.self.now.seat.me.0.vm in
    let at = c.low_address.ensures in
    let ref : is_reference c.args.root.0 ≡ true =
    sym c.is_reference.ensures.number ∙ c.if-not-is_reference.false in
    let o = object_of v c.args.root.0 ref c.requires.stands in
    let k = vm_facts v c.requires.sits.runs in
    let low = k.base_low in
    let inside = (k.within _ o.0 o.1).0 in
    stays v (c.low_address.result + 1) (behind_heads (c.low_address.result + 1) (omega arith))

pub returns-then-mirror-clause-answer : goal.returns-then-mirror-clause-answer
returns-then-mirror-clause-answer g c =
    let v = c.args.self.now.seat.me.0.vm in
    let part = c.args.self.now.seat.me.0.gc in
    let w = c.args.root.0 in
    let n = c.look-second.result in
    let ref : is_reference w ≡ true =
    sym c.is_reference.ensures.number ∙ c.if-not-is_reference.false in
    let t = told v part w n c.low_address.result c.low_address.ensures ref c.requires.stands
    c.look-second.ensures.looks.finds in
    let m = c.requires.sits.mirrors in
    let opened : is_open v ≡ true = sym m.open_is ∙ c.if-mirror.true in
    let read = read_some n c.in-Some.forward c.in-Some.ensures in
    has_as_told v part w n ref t opened c.in-Some.forward.cycle c.args.mirror.now.epoch
    read.0 m.epoch_is

pub returns-else-mirror-clause-answer : goal.returns-else-mirror-clause-answer
returns-else-mirror-clause-answer g c =
    let v = c.args.self.now.seat.me.0.vm in
    let part = c.args.self.now.seat.me.0.gc in
    let w = c.args.root.0 in
    let n = c.look-second.result in
    let ref : is_reference w ≡ true =
    sym c.is_reference.ensures.number ∙ c.if-not-is_reference.false in
    let t = told v part w n c.low_address.result c.low_address.ensures ref c.requires.stands
    c.look-second.ensures.looks.finds in
    let m = c.requires.sits.mirrors in
    let shut : is_open v ≡ false = sym m.open_is ∙ c.if-mirror.false in
    c.if-mirror.false ∙ has_none v part w n ref t (t.shut shut)

pub returns-in-None-clause-answer : goal.returns-in-None-clause-answer
returns-in-None-clause-answer g c =
    let v = c.args.self.now.seat.me.0.vm in
    let part = c.args.self.now.seat.me.0.gc in
    let w = c.args.root.0 in
    let n = c.look-second.result in
    let ref : is_reference w ≡ true =
    sym c.is_reference.ensures.number ∙ c.if-not-is_reference.false in
    let t = told v part w n c.low_address.result c.low_address.ensures ref c.requires.stands
    c.look-second.ensures.looks.finds in
    has_unread v part w n ref t (read_none n v.epoch t.small c.in-None.ensures)

-- ---- the look

pub returns-then-not-is_reference-clause-steps : goal.returns-then-not-is_reference-clause-steps
returns-then-not-is_reference-clause-steps g c = (no_looks 1 _, refl)

pub returns-then-mirror-clause-steps : goal.returns-then-mirror-clause-steps
returns-then-mirror-clause-steps g c =
    (one_look _ _ _ _ c.look-second.ensures.looks, no_gc_look _ _ _ _ c.look-second.ensures.looks)

pub returns-else-mirror-clause-steps : goal.returns-else-mirror-clause-steps
returns-else-mirror-clause-steps g c =
    (one_look _ _ _ _ c.look-second.ensures.looks, no_gc_look _ _ _ _ c.look-second.ensures.looks)

pub returns-in-None-clause-steps : goal.returns-in-None-clause-steps
returns-in-None-clause-steps g c =
    (one_look _ _ _ _ c.look-second.ensures.looks, no_gc_look _ _ _ _ c.look-second.ensures.looks)
