-- All contexts are at the world that they were at.
use Rattle.std.proofs.Common.{◌≡◌, ◌+◌, List, true, false, true≢false, refl, ap, subst, sym, ◌∙◌}
use Rattle.std.specs.Prelude.{Result, is_ok}
use Rattle.ps_word.specs.declared.words.Word.{Word}
use Rattle.ps_mem.specs.Heap.{Grants, Heap, Space}
use Rattle.ps_core_laws.specs.declared.tries.Unready.{Unready}
use Rattle.ps_core_laws.specs.Tries.{BothSides, IsFlip, sides_of}
use Rattle.ps_ops_state.specs.declared.lent.Shared.{Shared}
use Rattle.ps_gc_roots.specs.Roots.{roots_in}
use Rattle.ps_gc_roots.proofs.Moving.{keeps-then}
use Rattle.ps_vault.specs.Stories.{Story, IsMemoryOf, logs_closed}
use Rattle.ps_vault.proofs.Collected.{keeps_collected, logs_none}
use Rattle.ps_vault.proofs.Reasons.{memory_of}
use Rattle.ps_vault.proofs.vaults.Vault.flip_or_hand_over.Goals as goal

pub try_flip-requires-clause-open : goal.try_flip-requires-clause-open
try_flip-requires-clause-open g c =
    ap (λ (s : Story). s.cycle_open) c.self.view_is ∙ c.requires.«open»

-- ---- the flip

pub invariant_of-self : goal.invariant_of-self
invariant_of-self g c =
    keeps_collected _ _ _ c.self.inside.schedule.items
    (c.try_flip.ensures.kept c.self.inside.world.calling) c.self.invariant

pub returns-in-Ok-clause-done : goal.returns-in-Ok-clause-done
returns-in-Ok-clause-done g c = λ done.
    let f = c.try_flip.ensures.flips.flips in
    let yes = ap is_ok c.in-Ok.is in
    let is : Heap = g.M.Memory.heap c.try_flip.new.runtime.memory in
    let moved = (f.moved yes).moves.space in
    let view = c.self.view_is in
    let shared = c.try_flip.ensures.shared in
    let program = ap (λ (s : Shared). s.program.now) shared ∙ ap (λ (s : Story). s.program) view in
    let output = ap (λ (s : Shared). s.printed.most) shared
    ∙ ap (λ (s : Story). s.most.output) view in
    let space = ap (λ (s : Space). s.size) moved ∙ ap (λ (s : Story). s.space) view in
    let flips = ap (λ (s : Space). s.flips) moved ∙ ap (λ (s : Story). s.flips + 1) view in
    let logs = logs_none (g.M.Memory.grants c.try_flip.new.runtime.memory).closed
    (f.grants yes).closed in
    λ i. record (view i) {
      program = program i;
      most = record { output = output i; entries = (view i).most.entries };
      space = space i;
      used = is.used;
      flips = flips i;
      cycle_open = (f.grants yes).cycle_open i;
      closed = logs i;
    }

pub returns-in-Ok-clause-tried : goal.returns-in-Ok-clause-tried
returns-in-Ok-clause-tried g c =
    let memory = c.self.inside.runtime.memory in
    let left = c.try_flip.new.runtime.memory in
    let roots : List Word = roots_in c.self.inside.world.contexts.table in
    let old : BothSides = sides_of g.M.Memory.heap g.M.Memory.grants g.M.LoggedMemory.did
    g.C.Collects.did memory c.args.collector.now in
    let new : BothSides = sides_of g.M.Memory.heap g.M.Memory.grants g.M.LoggedMemory.did
    g.C.Collects.did left c.try_flip.new.collector in
    record {
      memory = memory;
      is_of = subst (λ (s : Story). IsMemoryOf s (g.M.Memory.heap memory)
          (g.M.Memory.grants memory)) c.self.view_is
          (memory_of _ c.self.inside.schedule.items _ c.self.invariant refl refl
          (record { space = refl; used = refl; flips = refl; cycle_open = refl; closed = refl }));
      left = left;
      tried = c.try_flip.new.collector;
      roots = roots;
      renamed = c.try_flip.new.roots.words.items;
      few = c.try_flip.ensures.flips.few;
      answer = subst (λ (came : Result Unit Unready). g.C.Collects.answers c.args.collector.now memory roots came)
          c.in-Ok.is c.try_flip.ensures.answer;
      flips = subst (λ (came : Result Unit Unready). IsFlip came old new roots
          c.try_flip.new.roots.words.items) c.in-Ok.is c.try_flip.ensures.flips.flips;
      left_is = λ yes. memory_of _ c.self.inside.schedule.items _
          (keeps_collected _ _ _ c.self.inside.schedule.items
          (c.try_flip.ensures.kept c.self.inside.world.calling) c.self.invariant) refl refl
          (record { space = refl; used = refl; flips = refl; cycle_open = refl; closed = refl });
      collector_is = λ yes. refl;
    }

-- ---- no flip

pub hand_read-requires-clause-steady : goal.hand_read-requires-clause-steady
hand_read-requires-clause-steady g c =
    (c.try_flip.ensures.kept c.self.inside.world.calling).steady c.self.invariant.steady.steady

pub hand_read-requires-clause-read : goal.hand_read-requires-clause-read
hand_read-requires-clause-read g c =
    let f = c.try_flip.ensures.flips in
    let none = ap is_ok c.in-Err.is in
    f.flips.roots_stay none ∙ ap roots_in (sym (f.stays none))

pub invariant_of-self-in-Err : goal.invariant_of-self-in-Err
invariant_of-self-in-Err g c =
    let calling = c.self.inside.world.calling in
    keeps_collected _ _ _ c.self.inside.schedule.items
    (keeps-then _ _ _ (c.try_flip.ensures.kept calling) (c.hand_read.ensures.kept calling))
    c.self.invariant

pub returns-in-Err-clause-tried : goal.returns-in-Err-clause-tried
returns-in-Err-clause-tried g c =
    let memory = c.self.inside.runtime.memory in
    let left = c.try_flip.new.runtime.memory in
    let roots : List Word = roots_in c.self.inside.world.contexts.table in
    let old : BothSides = sides_of g.M.Memory.heap g.M.Memory.grants g.M.LoggedMemory.did
    g.C.Collects.did memory c.args.collector.now in
    let new : BothSides = sides_of g.M.Memory.heap g.M.Memory.grants g.M.LoggedMemory.did
    g.C.Collects.did left c.try_flip.new.collector in
    record {
      memory = memory;
      is_of = subst (λ (s : Story). IsMemoryOf s (g.M.Memory.heap memory)
          (g.M.Memory.grants memory)) c.self.view_is
          (memory_of _ c.self.inside.schedule.items _ c.self.invariant refl refl
          (record { space = refl; used = refl; flips = refl; cycle_open = refl; closed = refl }));
      left = left;
      tried = c.try_flip.new.collector;
      roots = roots;
      renamed = c.try_flip.new.roots.words.items;
      few = c.try_flip.ensures.flips.few;
      answer = subst (λ (came : Result Unit Unready). g.C.Collects.answers c.args.collector.now memory roots came)
          c.in-Err.is c.try_flip.ensures.answer;
      flips = subst (λ (came : Result Unit Unready). IsFlip came old new roots
          c.try_flip.new.roots.words.items) c.in-Err.is c.try_flip.ensures.flips.flips;
      left_is = λ yes. absurd (true≢false (sym yes));
      collector_is = λ yes. absurd (true≢false (sym yes));
    }

pub returns-in-Err-clause-same : goal.returns-in-Err-clause-same
returns-in-Err-clause-same g c = λ no.
    let f = c.try_flip.ensures.flips.flips in
    let none = ap is_ok c.in-Err.is in
    let view = c.self.view_is in
    let shared = c.hand_read.ensures.shared ∙ c.try_flip.ensures.shared in
    let heap = c.hand_read.ensures.heap ∙ f.heap_stays none in
    let stay = f.grants_stay none in
    let program = ap (λ (s : Shared). s.program.now) shared ∙ ap (λ (s : Story). s.program) view in
    let output = ap (λ (s : Shared). s.printed.most) shared
    ∙ ap (λ (s : Story). s.most.output) view in
    let space = ap (λ (h : Heap). h.space.size) heap ∙ ap (λ (s : Story). s.space) view in
    let used = ap (λ (h : Heap). h.used) heap ∙ ap (λ (s : Story). s.used) view in
    let flips = ap (λ (h : Heap). h.space.flips) heap ∙ ap (λ (s : Story). s.flips) view in
    let cycle = ap (λ (g : Grants). g.cycle_open) c.hand_read.ensures.grants
    ∙ (ap (λ (g : Grants). g.cycle_open) stay ∙ ap (λ (s : Story). s.cycle_open) view) in
    let logs = ap (λ (g : Grants). logs_closed g.closed) c.hand_read.ensures.grants
    ∙ (ap (λ (g : Grants). logs_closed g.closed) stay ∙ ap (λ (s : Story). s.closed) view) in
    λ i. record (view i) {
      program = program i;
      most = record { output = output i; entries = (view i).most.entries };
      space = space i;
      used = used i;
      flips = flips i;
      cycle_open = cycle i;
      closed = logs i;
    }
