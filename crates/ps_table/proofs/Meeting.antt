-- What a word tells that was found where both parts are those of one run.
use Rattle.std.proofs.Common.{◌≡◌, ℕ, ◌+◌, ◌<◌, length, sym, ap, ◌∙◌}
use Rattle.std.specs.Prelude.{slice_get, slice_index}
use Rattle.ps_record.specs.Format.{ring_place, read_record}
use Rattle.ps_core_machine.specs.declared.events.Vm.{Vm}
use Rattle.ps_core_machine.specs.declared.events.Gc.{Gc}
use Rattle.ps_core_machine.specs.Objects.{log_of}
use Rattle.ps_core_machine.specs.Steps.{State}
use Rattle.ps_core_laws.specs.Runs.{run}
use Rattle.ps_core_laws.proofs.Kept.{good}
use Rattle.ps_core_laws.proofs.Taken.{next_read}
use Rattle.ps_table.specs.Shown.{BothFind, BothRun}

-- one run leads to both
pub found_runs : (v : Vm) (g : Gc) (place word : ℕ) → BothFind v g place word → BothRun v g
found_runs v g place word b = record {
  size = b.size;
  events = b.events;
  is_run = b.is_run;
  vm_is = b.vm_is;
  gc_is = b.gc_is;
}

module _ (v : Vm) (g : Gc) (slot word : ℕ) (lt : slot < 32) where
  -- in the ring place of the next record that record, or none where all are taken
  pub next_found : BothFind v g (ring_place slot (length (log_of g.taken slot))) word
      → read_record (length (log_of g.taken slot)) word
      ≡ slice_get (log_of v.logs slot) (length (log_of g.taken slot))
  next_found b =
      let s : State = run v.space b.events in
      let h = good v.space b.size b.events b.is_run in
      let place : Gc → ℕ = λ x. ring_place slot (length (log_of x.taken slot)) in
      let at : slice_index s.words (place s.gc) ≡ word =
      ap (λ (x : Gc). slice_index s.words (place x)) b.gc_is ∙ b.found in
      let is = next_read s.words s.vm.heads s.vm.logs s.gc.taken s.gc.taking slot word h.rings
      h.logs lt at in
      sym (ap (λ (x : Gc). read_record (length (log_of x.taken slot)) word) b.gc_is)
      ∙ (is ∙ (λ j. slice_get (log_of (b.vm_is j).logs slot)
      (length (log_of (b.gc_is j).taken slot))))

  -- in the place of a head how many records were taken
  pub taken_found : BothFind v g (2 + slot) word → word ≡ length (log_of g.taken slot)
  taken_found b =
      let s : State = run v.space b.events in
      let h = good v.space b.size b.events b.is_run in
      sym b.found ∙ (h.control.head_words slot lt
      ∙ ap (λ (x : Gc). length (log_of x.taken slot)) b.gc_is)
