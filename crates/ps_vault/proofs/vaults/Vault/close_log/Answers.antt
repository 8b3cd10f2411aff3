-- All contexts are at the world that they were at, whatever is granted.
use Rattle.std.proofs.Common.{◌≡◌, false, true, refl, ap, subst, sym, ◌∙◌}
use Rattle.std.specs.Prelude.{slice_index_or, slice_set}
use Rattle.ps_mem.specs.Heap.{Grants, Heap}
use Rattle.ps_gc_roots.proofs.Moving.{over-granted}
use Rattle.ps_vault.specs.Stories.{Story, IsMemoryOf, logs_closed}
use Rattle.ps_vault.proofs.Collected.{cycle_kept, keeps_collected, log_closed, logs_at, unclosed_full}
use Rattle.ps_vault.proofs.Reasons.{memory_of}
use Rattle.ps_vault.proofs.vaults.Vault.close_log.Goals as goal

pub invariant_of-self : goal.invariant_of-self
invariant_of-self g c =
    keeps_collected _ _ _ c.self.inside.schedule.items
    (over-granted (g.M.Memory.heap c.self.inside.runtime.memory) (g.M.Memory.heap c.close_log.new.self)
    (g.M.Memory.grants c.self.inside.runtime.memory) (g.M.Memory.grants c.close_log.new.self)
    c.self.inside.runtime.shared c.self.inside.world.contexts c.close_log.ensures.heap c.self.inside.world.calling)
    c.self.invariant

pub returns-clause-run : goal.returns-clause-run
returns-clause-run g c =
    let space = ap (λ (h : Heap). h.space.size) c.close_log.ensures.heap
    ∙ ap (λ (s : Story). s.space) c.self.view_is in
    let used = ap (λ (h : Heap). h.used) c.close_log.ensures.heap
    ∙ ap (λ (s : Story). s.used) c.self.view_is in
    let flips = ap (λ (h : Heap). h.space.flips) c.close_log.ensures.heap
    ∙ ap (λ (s : Story). s.flips) c.self.view_is in
    let cycle = cycle_kept (g.M.Memory.grants c.self.inside.runtime.memory)
    (g.M.Memory.grants c.close_log.new.self) c.args.slot c.close_log.result
    c.close_log.ensures.already c.close_log.ensures.closed c.close_log.ensures.full
    ∙ ap (λ (s : Story). s.cycle_open) c.self.view_is in
    λ i. record (c.self.view_is i) {
      space = space i;
      used = used i;
      flips = flips i;
      cycle_open = cycle i;
      closed = logs_closed (g.M.Memory.grants c.close_log.new.self).closed;
    }

pub returns-clause-already : goal.returns-clause-already
returns-clause-already g c = λ is.
    let slot = c.args.slot in
    let before : Grants = g.M.Memory.grants c.self.inside.runtime.memory in
    let was : before.closed slot ≡ true = sym (logs_at before.closed slot c.close_log.ensures.within)
    ∙ (ap (λ (s : Story). slice_index_or s.closed slot false) c.self.view_is ∙ is) in
    let kept = c.close_log.ensures.already was in
    let cycle = ap (λ (g : Grants). g.cycle_open) kept.1
    ∙ ap (λ (s : Story). s.cycle_open) c.self.view_is in
    let logs = ap (λ (g : Grants). logs_closed g.closed) kept.1
    ∙ ap (λ (s : Story). s.closed) c.self.view_is in
    let space = ap (λ (h : Heap). h.space.size) c.close_log.ensures.heap
    ∙ ap (λ (s : Story). s.space) c.self.view_is in
    let used = ap (λ (h : Heap). h.used) c.close_log.ensures.heap
    ∙ ap (λ (s : Story). s.used) c.self.view_is in
    let flips = ap (λ (h : Heap). h.space.flips) c.close_log.ensures.heap
    ∙ ap (λ (s : Story). s.flips) c.self.view_is in (
      kept.0,
      λ i. record (c.self.view_is i) {
        space = space i;
        used = used i;
        flips = flips i;
        cycle_open = cycle i;
        closed = logs i;
      },
    )

pub returns-clause-closed : goal.returns-clause-closed
returns-clause-closed g c = λ yes.
    let slot = c.args.slot in
    let now = log_closed (g.M.Memory.grants c.self.inside.runtime.memory)
    (g.M.Memory.grants c.close_log.new.self) slot c.close_log.ensures.within
    (λ is. (c.close_log.ensures.already is).1) (λ is. c.close_log.ensures.closed is yes) in
    let cycle = now.0 ∙ ap (λ (s : Story). s.cycle_open) c.self.view_is in
    let logs = now.1 ∙ ap (λ (s : Story). slice_set s.closed slot true) c.self.view_is in
    let space = ap (λ (h : Heap). h.space.size) c.close_log.ensures.heap
    ∙ ap (λ (s : Story). s.space) c.self.view_is in
    let used = ap (λ (h : Heap). h.used) c.close_log.ensures.heap
    ∙ ap (λ (s : Story). s.used) c.self.view_is in
    let flips = ap (λ (h : Heap). h.space.flips) c.close_log.ensures.heap
    ∙ ap (λ (s : Story). s.flips) c.self.view_is in
    λ i. record (c.self.view_is i) {
      space = space i;
      used = used i;
      flips = flips i;
      cycle_open = cycle i;
      closed = logs i;
    }

pub returns-clause-full : goal.returns-clause-full
returns-clause-full g c = λ full.
    let slot = c.args.slot in
    let before : Grants = g.M.Memory.grants c.self.inside.runtime.memory in
    let kept = c.close_log.ensures.full full in
    let space = ap (λ (h : Heap). h.space.size) c.close_log.ensures.heap
    ∙ ap (λ (s : Story). s.space) c.self.view_is in
    let used = ap (λ (h : Heap). h.used) c.close_log.ensures.heap
    ∙ ap (λ (s : Story). s.used) c.self.view_is in
    let flips = ap (λ (h : Heap). h.space.flips) c.close_log.ensures.heap
    ∙ ap (λ (s : Story). s.flips) c.self.view_is in
    let cycle = ap (λ (g : Grants). g.cycle_open) kept.1
    ∙ ap (λ (s : Story). s.cycle_open) c.self.view_is in
    let logs = ap (λ (g : Grants). logs_closed g.closed) kept.1
    ∙ ap (λ (s : Story). s.closed) c.self.view_is in (
      record {
        memory = c.self.inside.runtime.memory;
        is_of = subst (λ (s : Story). IsMemoryOf s (g.M.Memory.heap c.self.inside.runtime.memory) before)
            c.self.view_is
            (memory_of _ c.self.inside.schedule.items _ c.self.invariant refl refl
            (record { space = refl; used = refl; flips = refl; cycle_open = refl; closed = refl }));
        unclosed = unclosed_full (before.closed slot) c.close_log.result
            (λ is. (c.close_log.ensures.already is).0) full;
        full = kept.0;
      },
      λ i. record (c.self.view_is i) {
        space = space i;
        used = used i;
        flips = flips i;
        cycle_open = cycle i;
        closed = logs i;
      },
    )
