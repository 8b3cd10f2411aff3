use Rattle.std.proofs.Common.{arith, ◌≡◌, ℕ, sym, ap, ◌∙◌, subst}
use Rattle.std.specs.Prelude.{slice_get}
use Rattle.ps_record.specs.Format.{ring_place, read_record}
use Rattle.ps_core_machine.specs.declared.events.Event.TheVariants.{TakeLoad}
use Rattle.ps_core_machine.specs.Objects.{log_of}
use Rattle.ps_core_laws.proofs.Rings.{ring_in}
use Rattle.ps_table.specs.Shown.{slot_at, gc_did, BothFind, GcFinds}
use Rattle.ps_table.proofs.Allows.{gc_allows, GcStep, gc_known}
use Rattle.ps_table.proofs.GcMoves.{gc_take_step}
use Rattle.ps_table.proofs.Meeting.{found_runs, next_found}
use Rattle.ps_table.proofs.Moves.{slot_of_place}
use Rattle.ps_table.proofs.collector.GcSeat.take.Goals as goal

pub load-requires : goal.load-requires
load-requires g c =
    let wide = c.args.self.now.wide in
    let g = c.args.self.now.seat.me.0.gc in
    let at = c.ring_place.ensures in
    let low = ring_in c.args.slot c.args.number c.requires.may.0 in
    let slot : slot_at c.ring_place.result ≡ c.args.slot =
    ap slot_at at ∙ slot_of_place c.args.slot c.args.number in
    let step : GcStep g c.ring_place.result (λ n. n) (λ n. TakeLoad c.args.slot n) =
    gc_take_step g c.args.slot c.ring_place.result c.requires.may.0 c.requires.may.1
    (at ∙ ap (λ (k : ℕ). ring_place c.args.slot k) c.requires.next) in (
      c.args.self.now.seated,
      omega arith,
      λ space slots id. gc_allows space slots id _ c.ring_place.result (λ n. n) _
          c.args.self.now.acts
          (subst (λ (t : ℕ). GcStep g c.ring_place.result (λ n. n) (λ n. TakeLoad t n))
          (sym slot) step),
      λ n m t. gc_known _ c.args.self.now.seat.me _ t.did,
    )

pub returns : goal.returns
returns g c =
    let at = c.ring_place.ensures in
    let slot : slot_at c.ring_place.result ≡ c.args.slot =
    ap slot_at at ∙ slot_of_place c.args.slot c.args.number in
    record {
      same = c.load.ensures.same.1;
      did = ap (λ m. m.0) c.load.ensures.did.1.did
          ∙ ap (λ (t : ℕ). gc_did c.args.self.now.seat.me.0 (TakeLoad t c.load.result)) slot;
      finds = subst (λ (k : ℕ). GcFinds c.args.self.now.seat.me.0.gc k c.load.result) at
          c.load.ensures.did.1.finds;
      runs = λ vm. found_runs _ _ _ _ (c.load.ensures.did.1.both vm);
      next = λ vm.
          let s = c.args.self.now.seat.me.0 in
          let both = subst (λ (k : ℕ). BothFind s.vm s.gc k c.load.result)
          (at ∙ ap (ring_place c.args.slot) c.requires.next) (c.load.ensures.did.1.both vm) in
          subst (λ (k : ℕ). read_record k c.load.result ≡ slice_get (log_of s.vm.logs c.args.slot) k)
          (sym c.requires.next)
          (next_found s.vm s.gc c.args.slot c.load.result c.requires.may.0 both);
    }
