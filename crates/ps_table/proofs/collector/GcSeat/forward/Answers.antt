use Rattle.std.proofs.Common.{arith, ◌≡◌, ◌+◌, ◌*◌, ◌-◌, ℕ, sym, ap, ◌∙◌, subst}
use Rattle.ps_core_machine.specs.declared.events.Event.TheVariants.{ForwardStore}
use Rattle.ps_core_machine.specs.Steps.{forwarding}
use Rattle.ps_table.proofs.Allows.{gc_store_allows, GcStep, gc_known}
use Rattle.ps_table.proofs.GcMoves.{gc_forward_step}
use Rattle.ps_table.proofs.GcFacts.{gc_knows, forward_inside, forward_small, address_back, packed_is}
use Rattle.ps_word.specs.Headers.{forward_address_in}
use Rattle.ps_table.specs.Shown.{gc_did}
use Rattle.ps_table.proofs.collector.GcSeat.forward.Goals as goal

pub overflow_add-original : goal.overflow_add-original
overflow_add-original g c =
    let g = c.args.self.now.seat.me.0.gc in
    let a = c.args.original in
    let r = c.args.replica in
    let inside = forward_inside g a r c.args.self.now.runs c.requires.may in
    let small = forward_small g a r c.args.self.now.runs c.requires.may in
    let size = (gc_knows g c.args.self.now.runs).size.1 in
    let is = c.requires.is in
    let e = small.0 in let low = small.1 in
    omega arith

pub overflow_mul-epoch : goal.overflow_mul-epoch
overflow_mul-epoch g c =
    let g = c.args.self.now.seat.me.0.gc in
    let a = c.args.original in
    let r = c.args.replica in
    let inside = forward_inside g a r c.args.self.now.runs c.requires.may in
    let small = forward_small g a r c.args.self.now.runs c.requires.may in
    let size = (gc_knows g c.args.self.now.runs).size.1 in
    let is = c.requires.is in
    let e = small.0 in let low = small.1 in
    omega arith

pub overflow_add-epoch : goal.overflow_add-epoch
overflow_add-epoch g c =
    let g = c.args.self.now.seat.me.0.gc in
    let a = c.args.original in
    let r = c.args.replica in
    let inside = forward_inside g a r c.args.self.now.runs c.requires.may in
    let small = forward_small g a r c.args.self.now.runs c.requires.may in
    let size = (gc_knows g c.args.self.now.runs).size.1 in
    let is = c.requires.is in
    let e = small.0 in let low = small.1 in
    omega arith

pub store-requires : goal.store-requires
store-requires g c =
    let wide = c.args.self.now.wide in
    let g = c.args.self.now.seat.me.0.gc in
    let a = c.args.original in
    let r = c.args.replica in
    let inside = forward_inside g a r c.args.self.now.runs c.requires.may in
    let small = forward_small g a r c.args.self.now.runs c.requires.may in
    let size = (gc_knows g c.args.self.now.runs).size.1 in
    let is = c.requires.is in
    let e = small.0 in let low = small.1 in
    let word : c.args.epoch * 16777216 + r ≡ forwarding g.epoch r = ap (λ (n : ℕ). n * 16777216 + r)
    c.requires.is ∙ packed_is g.epoch r in
    let back : forward_address_in (c.args.epoch * 16777216 + r) ≡ r = ap forward_address_in word
    ∙ address_back g.epoch r e low in
    let there : a + 1 - 1 ≡ a = omega arith in
    let step : GcStep g (a + 1) (λ _. c.args.epoch * 16777216 + r) (λ _. ForwardStore a r) =
    gc_forward_step g a r _ c.requires.may word in (
      c.args.self.now.seated,
      omega arith,
      λ space slots id. gc_store_allows space slots id _ (a + 1) (c.args.epoch * 16777216 + r) _
          c.args.self.now.acts
          (subst (λ (x : ℕ × ℕ). GcStep g (a + 1) (λ _. c.args.epoch * 16777216 + r)
          (λ _. ForwardStore x.0 x.1)) (λ k. (sym there k, sym back k)) step),
      λ m t. gc_known _ c.args.self.now.seat.me _ t.did,
    )

pub returns : goal.returns
returns g c =
    let g = c.args.self.now.seat.me.0.gc in
    let a = c.args.original in
    let r = c.args.replica in
    let inside = forward_inside g a r c.args.self.now.runs c.requires.may in
    let small = forward_small g a r c.args.self.now.runs c.requires.may in
    let size = (gc_knows g c.args.self.now.runs).size.1 in
    let is = c.requires.is in
    let e = small.0 in let low = small.1 in
    let word : c.args.epoch * 16777216 + r ≡ forwarding g.epoch r = ap (λ (n : ℕ). n * 16777216 + r)
    c.requires.is ∙ packed_is g.epoch r in
    let back : forward_address_in (c.args.epoch * 16777216 + r) ≡ r = ap forward_address_in word
    ∙ address_back g.epoch r e low in
    let there : a + 1 - 1 ≡ a = omega arith in
    record {
      same = c.store.ensures.same.1;
      did = ap (λ m. m.0) c.store.ensures.did.1.did
          ∙ (λ k. gc_did c.args.self.now.seat.me.0 (ForwardStore (there k) (back k)));
    }
