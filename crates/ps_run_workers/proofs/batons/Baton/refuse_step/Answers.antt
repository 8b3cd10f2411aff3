-- A refused step more, or the end for want of memory.
use Rattle.std.proofs.Common.{◌≡◌, ◌+◌, ◌<◌, ◌^◌, ap, refl, sym, subst, ◌∙◌, arith, None, List, true, false}
use Rattle.ps_language.specs.declared.schedules.Entry.{Entry}
use Rattle.ps_language.specs.Schedules.{added, count_of, moves}
use Rattle.ps_run_schedules.specs.Turns.{move_of}
use Rattle.ps_vault.specs.Reports.{all_fit}
use Rattle.ps_language.proofs.ScheduleLaws.{count_of-added}
use Rattle.ps_vault.specs.Stories.{world_at}
use Rattle.ps_vault.proofs.Reasons.{memory_wanted}
use Rattle.ps_vault.proofs.Screening.{begins_added}
use Rattle.ps_vault.proofs.Warrants.{refused_added}
use Rattle.ps_run_workers.specs.Batons.{Progress, MayGoOn, MayRefuse, Keeps}
use Rattle.ps_run_workers.proofs.Keeping.{progress, on_error, short_starved, keeps_made, waits_none, counts_on, keeps_wanted, MakesObjects}
use Rattle.ps_run_workers.proofs.batons.Baton.refuse_step.Goals as goal

pub invariant_of-self : goal.invariant_of-self
invariant_of-self g c =
    short_starved g.S.Interpret.asks g.O.Origin.start
    (progress c.self.inside.vault c.self.inside.config c.self.inside.made
    c.self.inside.budget c.self.inside.screen c.self.inside.outcome) c.reserve_entries.new.self c.args.context
    c.self.invariant (subst (λ (p : Progress). MayGoOn p c.args.context) (sym c.self.view_is)
    c.requires.may) c.reserve_entries.ensures.program c.reserve_entries.ensures.most
    c.reserve_entries.ensures.schedule
    c.reserve_entries.ensures.calling c.reserve_entries.ensures.space
    c.reserve_entries.ensures.flips c.reserve_entries.ensures.capacity (on_error c.reserve_entries.result _
    c.reserve_entries.ensures.short (sym c.is_err.ensures.value ∙ c.if-is_err.true))

pub overflow_add-self : goal.overflow_add-self
overflow_add-self g c =
    let fits : c.self.inside.made + 1 < 2 ^ 32 =
    counts_on g.S.Interpret.asks g.O.Origin.start
    (progress c.self.inside.vault c.self.inside.config c.self.inside.made
    c.self.inside.budget c.self.inside.screen c.self.inside.outcome) 1 c.self.invariant
    (let may : MayGoOn (progress c.self.inside.vault c.self.inside.config c.self.inside.made
    c.self.inside.budget c.self.inside.screen c.self.inside.outcome) c.args.context =
    subst (λ (p : Progress). MayGoOn p c.args.context) (sym c.self.view_is) c.requires.may in
    omega (arith, may.left)) in
    omega (arith, fits)

pub invariant_of-self-in-Ok : goal.invariant_of-self-in-Ok
invariant_of-self-in-Ok g c =
    let may : MayGoOn (progress c.self.inside.vault c.self.inside.config c.self.inside.made
    c.self.inside.budget c.self.inside.screen c.self.inside.outcome) c.args.context =
    subst (λ (p : Progress). MayGoOn p c.args.context) (sym c.self.view_is) c.requires.may in
    let made : count_of c.step.new.self.schedule ≡ count_of c.self.inside.vault.schedule + 1 =
    ap count_of c.in-Ok.ensures.made
    ∙ (count_of-added c.reserve_entries.new.self.schedule (move_of c.args.context true None)
    ∙ ap (λ (s : List Entry). count_of s + 1) c.reserve_entries.ensures.schedule) in
    subst (λ o. Keeps g.S.Interpret.asks g.O.Origin.start
    (progress c.step.new.self c.self.inside.config (c.self.inside.made + 1) c.self.inside.budget
    c.self.inside.screen o)) (sym (ap (λ (p : Progress). p.outcome) c.self.view_is
    ∙ c.requires.outcome))
    (keeps_made g.S.Interpret.asks g.O.Origin.start
    (progress c.self.inside.vault c.self.inside.config c.self.inside.made
    c.self.inside.budget c.self.inside.screen c.self.inside.outcome) c.step.new.self 1 None c.self.invariant (record {
      program = c.step.ensures.program ∙ c.reserve_entries.ensures.program;
      begins = begins_added c.self.inside.vault.schedule c.step.new.self.schedule
          (move_of c.args.context true None)
          (c.in-Ok.ensures.made ∙ ap (λ (s : List Entry).
          added s (move_of c.args.context true None)) c.reserve_entries.ensures.schedule);
      counted = made;
      fits = λ fit. c.in-Ok.ensures.fits refl
          (ap (λ (s : List Entry). all_fit (moves s)) c.reserve_entries.ensures.schedule ∙ fit);
      most = c.step.ensures.most ∙ c.reserve_entries.ensures.most;
      space = c.step.ensures.space ∙ c.reserve_entries.ensures.space;
      warranted = refused_added c.self.inside.vault c.step.new.self c.args.context
          (subst (λ (p : Progress). MayRefuse p c.args.context) (sym c.self.view_is)
          c.requires.refusal)
          (c.step.ensures.space ∙ c.reserve_entries.ensures.space)
          (c.step.ensures.program ∙ c.reserve_entries.ensures.program)
          (c.in-Ok.ensures.made ∙ ap (λ (s : List Entry).
          added s (move_of c.args.context true None)) c.reserve_entries.ensures.schedule);
      flips = c.step.ensures.flips ∙ c.reserve_entries.ensures.flips;
      more = omega (arith, c.reserve_entries.ensures.capacity, c.step.ensures.capacity);
    })
    (omega (arith, may.left))
    (waits_none (progress c.step.new.self c.self.inside.config (c.self.inside.made + 1)
    c.self.inside.budget c.self.inside.screen None)
    c.in-Ok.ensures.calling_on) tt)

pub invariant_of-self-in-Err-Memory : goal.invariant_of-self-in-Err-Memory
invariant_of-self-in-Err-Memory g c =
    let may : MayGoOn (progress c.self.inside.vault c.self.inside.config c.self.inside.made
    c.self.inside.budget c.self.inside.screen c.self.inside.outcome) c.args.context =
    subst (λ (p : Progress). MayGoOn p c.args.context) (sym c.self.view_is) c.requires.may in
    keeps_wanted g.S.Interpret.asks g.O.Origin.start
    (progress c.self.inside.vault c.self.inside.config c.self.inside.made
    c.self.inside.budget c.self.inside.screen c.self.inside.outcome) c.step.new.self c.args.context true
    c.self.invariant may (c.step.ensures.program ∙ c.reserve_entries.ensures.program)
    (c.step.ensures.most ∙ c.reserve_entries.ensures.most)
    (c.in-Err-Memory.ensures.not_made ∙ c.reserve_entries.ensures.schedule)
    (c.step.ensures.space ∙ c.reserve_entries.ensures.space)
    (c.step.ensures.flips ∙ c.reserve_entries.ensures.flips) c.step.ensures.calling
    (omega (arith, c.reserve_entries.ensures.capacity, c.step.ensures.capacity))
    (λ _. subst (λ (p : Progress). MakesObjects g.S.Interpret.asks c.args.context
    (world_at p.story)) (sym c.self.view_is) c.requires.makes)
    (memory_wanted g.M.Memory.heap g.M.Memory.grants g.S.Interpret.asks c.args.context true
    c.step.new.self false c.requires.bounded
    (rw c.in-Err-Memory.field-0-is at c.in-Err-Memory.ensures.held_up))
