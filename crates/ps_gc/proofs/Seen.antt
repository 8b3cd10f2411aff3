-- A try to flip by a seat that has both sides, behind looks that left them, as both sides are seen.
use Rattle.std.proofs.Common.{◌≡◌, ◌+◌, false, List, [], ◌∷◌, length, map, refl, sym, ap, ◌∙◌, subst}
use Rattle.std.proofs.Common.{arith, true≢false}
use Rattle.std.specs.Prelude.{Ok, Err}
use Rattle.ps_word.specs.declared.words.Word.{Word}
use Rattle.ps_core_machine.specs.declared.events.Event.{Event}
use Rattle.ps_core_machine.specs.declared.events.Event.TheVariants.{CycleStore}
use Rattle.ps_core_machine.specs.declared.events.Gc.{Gc}
use Rattle.ps_core_machine.specs.declared.events.Vm.{Vm}
use Rattle.ps_core_machine.specs.Conditions.{VmMay, GcMay}
use Rattle.ps_core_machine.specs.Objects.{renamed_value}
use Rattle.ps_core_machine.specs.Steps.{vm_after}
use Rattle.ps_core_laws.specs.declared.tries.Unready.{Unready}
use Rattle.ps_core_laws.specs.Collected.{IsCollected, IsExact}
use Rattle.ps_core_laws.specs.Flips.{AfterFlip, replica_at, as_words}
use Rattle.ps_core_laws.specs.Looks.{OnlyLooks}
use Rattle.ps_core_laws.specs.Memory.{heap_of, grants_of}
use Rattle.ps_core_laws.specs.Moves.{IsMovedTo, HaveReplicas, moved_words}
use Rattle.ps_core_laws.specs.Reach.{NameTheSame}
use Rattle.ps_core_laws.specs.Reached.{MovesReached}
use Rattle.ps_core_laws.specs.Stores.{numbers}
use Rattle.ps_core_laws.specs.Tries.{IsFlip}
use Rattle.ps_core_laws.proofs.Moved.{renamed-words, have-replicas}
use Rattle.ps_table.specs.declared.plays.View.{View}
use Rattle.ps_table.specs.Events.{gc_did_all, root_looks}
use Rattle.ps_table.specs.Shown.{BothRun, both_did}
use Rattle.ps_table.proofs.Kept.{keeps_vm}
use Rattle.ps_table.proofs.Looking.{more_looks, no_looks}
use Rattle.ps_gc.specs.Flipping.{sides_seen}
use Rattle.ps_gc.proofs.Flipping.{as_they_are, flip_grants, flip_looks, flip_moves}
use Rattle.ps_gc.proofs.Reaching.{moves_reached}

-- ---- nothing but the looks

pub no_flip : (old m : View) (roots : List Word) (why : Unready) → m.vm ≡ old.vm
    → OnlyLooks (length roots + 1) old.vm_events m.vm_events → m.gc_events ≡ old.gc_events
    → IsFlip (Err why) (sides_seen old old) (sides_seen m m) roots roots
no_flip old m roots why vm looks none = record {
  moved = λ e. absurd (true≢false (sym e));
  grants = λ e. absurd (true≢false (sym e));
  heap_stays = λ e. ap heap_of vm;
  grants_stay = λ e. ap grants_of vm;
  roots_stay = λ e. refl;
  vm_steps = more_looks (length roots + 1) 0 (length roots + 2) old.vm_events m.vm_events
      m.vm_events (omega arith) looks (no_looks 0 m.vm_events);
  gc_steps = subst (OnlyLooks (length roots + 1) old.gc_events) (sym none)
      (no_looks (length roots + 1) old.gc_events);
}

-- ---- the flip behind them, for which all is ready

module _ (old m n : View) (roots renamed : List Word) (vm : m.vm ≡ old.vm) (gc : m.gc ≡ old.gc)
    (looks : OnlyLooks (length roots + 1) old.vm_events m.vm_events)
    (none : m.gc_events ≡ old.gc_events) (runs : BothRun old.vm old.gc)
    (may : VmMay old.vm (CycleStore (numbers roots)))
    (gc_may : GcMay old.gc (CycleStore (numbers roots))) (drained : old.gc.taken ≡ old.vm.logs)
    (did : n ≡ both_did (gc_did_all m (root_looks m.gc (numbers roots)))
    (CycleStore (numbers roots)))
    (part : n.vm ≡ vm_after m.vm m.gc (CycleStore (numbers roots)))
    (are : numbers renamed ≡ map (renamed_value m.gc.pairs) (numbers roots)) where
  flipped : n.vm ≡ vm_after old.vm old.gc (CycleStore (numbers roots))
  flipped = part ∙ (λ i. vm_after (vm i) (gc i) (CycleStore (numbers roots)))

  collected : IsCollected (heap_of old.vm) (heap_of n.vm) roots renamed
  collected = record {
    forward = replica_at old.gc.pairs;
    moves = subst (λ (x : Vm). IsMovedTo (heap_of old.vm) (heap_of x) (replica_at old.gc.pairs))
        (sym flipped) (flip_moves old.vm old.gc (numbers roots) runs may gc_may drained);
    complete = subst (λ (ws : List Word). HaveReplicas (replica_at old.gc.pairs) ws)
        (as_they_are roots) (have-replicas old.gc.pairs (numbers roots) gc_may.3);
    are = sym (as_they_are renamed) ∙ (ap as_words are
        ∙ (ap (λ (g : Gc). as_words (map (renamed_value g.pairs) (numbers roots))) gc
        ∙ (renamed-words old.gc.pairs (numbers roots)
        ∙ ap (moved_words (replica_at old.gc.pairs)) (as_they_are roots))));
  }

  pub flip_is : IsFlip (Ok tt) (sides_seen old old) (sides_seen n n) roots renamed
  flip_is =
      let kept = keeps_vm m _ (root_looks m.gc (numbers roots)) refl in
      let one : OnlyLooks 1 m.vm_events n.vm_events = record {
        more = CycleStore (numbers roots) ∷ [];
        is = ap (λ (v : View). v.vm_events) did
            ∙ ap (λ (es : List Event). CycleStore (numbers roots) ∷ es) kept.events;
        looks = refl;
        few = omega arith;
      } in
      record {
        moved = λ e. collected;
        grants = λ e.
            subst (λ (x : Vm). AfterFlip (grants_of old.vm) (grants_of x) (heap_of x))
            (sym flipped) (flip_grants old.vm old.gc (numbers roots) runs may gc_may drained);
        heap_stays = λ e. absurd (true≢false e);
        grants_stay = λ e. absurd (true≢false e);
        roots_stay = λ e. absurd (true≢false e);
        vm_steps = more_looks (length roots + 1) 1 (length roots + 2) old.vm_events m.vm_events
            n.vm_events (omega arith) looks one;
        gc_steps = subst (λ (before : List Event). OnlyLooks (length roots + 1) before
            n.gc_events) none
            (subst (OnlyLooks (length roots + 1) m.gc_events)
            (sym (ap (λ (v : View). v.gc_events) did)) (flip_looks m m.gc roots));
      }

  pub flip_exact : old.vm.stored ≡ false → NameTheSame old.gc.handed (numbers roots)
      → IsExact (heap_of old.vm) (heap_of n.vm) roots renamed
  unfolding collected
  flip_exact unstored same = record {
    collected = collected;
    just = subst (λ (ws : List Word). MovesReached (heap_of old.vm) (replica_at old.gc.pairs) ws)
        (as_they_are roots)
        (moves_reached old.vm old.gc (numbers roots) runs may gc_may drained unstored same);
  }
