-- Steps more, or the end for want of memory.
use Rattle.std.proofs.Common.{◌≡◌, ◌+◌, ◌<◌, ◌≤◌, ◌^◌, ℕ, List, Option, None, inl, inr, refl, ap, sym, subst, ◌∙◌, arith}
use Rattle.std.specs.Prelude.{IfSome}
use Rattle.ps_language.specs.declared.schedules.Entry.{Entry}
use Rattle.ps_language.specs.Schedules.{Begins, count_of, moves}
use Rattle.ps_language.specs.Worlds.{world}
use Rattle.ps_vault.specs.declared.reports.Outcome.{Outcome}
use Rattle.ps_vault.specs.Reports.{all_fit}
use Rattle.ps_vault.specs.Stories.{Story, world_at}
use Rattle.ps_vault.proofs.Screening.{begins_adds}
use Rattle.ps_vault.proofs.Warrants.{warranted_same}
use Rattle.ps_run_workers.specs.Batons.{Keeps, MayGoOn, Progress}
use Rattle.ps_run_workers.proofs.Keeping.{Goes, come_to, counts_on, keeps_made, on_error, progress, short_starved, waits_as, waits_none, world_stays}
use Rattle.ps_run_workers.proofs.batons.Baton.advance.Given as givens
use Rattle.ps_run_workers.proofs.batons.Baton.advance.Goals as goal
use Rattle.ps_run_workers.proofs.batons.Baton.advance.Goals.{After-advance-advanced}

pub invariant_of-self : goal.invariant_of-self
invariant_of-self g c =
    short_starved g.S.Interpret.asks g.O.Origin.start
    (progress c.self.inside.vault c.self.inside.config c.self.inside.made
    c.self.inside.budget c.self.inside.screen c.self.inside.outcome) c.reserve_entries.new.self c.args.context
    c.self.invariant (subst (λ (p : Progress). MayGoOn p c.args.context) (sym c.self.view_is)
    c.requires.may) c.reserve_entries.ensures.program c.reserve_entries.ensures.most
    c.reserve_entries.ensures.schedule
    c.reserve_entries.ensures.calling c.reserve_entries.ensures.space
    c.reserve_entries.ensures.flips c.reserve_entries.ensures.capacity (on_error c.reserve_entries.result _
    c.reserve_entries.ensures.short (sym c.is_err.ensures.value ∙ c.if-is_err.true))

pub overflow_add-self : goal.overflow_add-self
overflow_add-self g c =
    let fits : c.self.inside.made + c.advance-advanced.result.made < 2 ^ 32 =
    counts_on g.S.Interpret.asks g.O.Origin.start
    (progress c.self.inside.vault c.self.inside.config c.self.inside.made
    c.self.inside.budget c.self.inside.screen c.self.inside.outcome)
    c.advance-advanced.result.made c.self.invariant
    (subst (λ (p : Progress). p.made + c.advance-advanced.result.made ≤ p.budget)
    (sym c.self.view_is) (omega (arith, c.requires.left, c.advance-advanced.ensures.within))) in
    omega (arith, fits)

pub returns-in-Err-clause-stays : goal.returns-in-Err-clause-stays
returns-in-Err-clause-stays g c = λ held one.
    let reserved : Story = c.reserve_entries.new.self in
    let fewer : c.advance-advanced.result.made < c.args.most =
    c.advance-advanced.ensures.fewer (rw c.in-Err.is refl) in
    let none : c.advance-advanced.result.made ≡ 0 = omega (arith, fewer, one) in
    world_stays reserved c.advance-advanced.new.self c.args.context
    c.advance-advanced.result.made c.advance-advanced.ensures.program
    c.advance-advanced.ensures.takes none
    ∙ ap (λ (p : List ℕ). world p reserved.schedule) c.reserve_entries.ensures.program
    ∙ ap (world c.self.inside.vault.program) c.reserve_entries.ensures.schedule
    ∙ ap (λ (p : Progress). world_at p.story) c.self.view_is

-- ---- behind the steps

abbrev before : (g : givens.Over) (c : After-advance-advanced g) → Progress
before g c = progress c.self.inside.vault c.self.inside.config c.self.inside.made
    c.self.inside.budget c.self.inside.screen c.self.inside.outcome

goes : (g : givens.Over) (c : After-advance-advanced g)
    → Goes (before g c) c.advance-advanced.new.self c.advance-advanced.result.made
goes g c =
    let same = c.reserve_entries.ensures.schedule in
    record {
      program = c.advance-advanced.ensures.program ∙ c.reserve_entries.ensures.program;
      begins = subst (λ (s : List Entry). Begins s c.advance-advanced.new.self.schedule) same
          (begins_adds c.args.context c.advance-advanced.result.made
          c.reserve_entries.new.self.schedule c.advance-advanced.new.self.schedule
          c.advance-advanced.ensures.takes);
      counted = c.advance-advanced.ensures.counted
          ∙ ap (λ (s : List Entry). count_of s + c.advance-advanced.result.made) same;
      fits = λ fit. c.advance-advanced.ensures.fits
          (ap (λ (s : List Entry). all_fit (moves s)) same ∙ fit);
      most = c.advance-advanced.ensures.most ∙ c.reserve_entries.ensures.most;
      space = c.advance-advanced.ensures.space ∙ c.reserve_entries.ensures.space;
      warranted = λ all. c.advance-advanced.ensures.warranted refl
          (warranted_same c.self.inside.vault c.reserve_entries.new.self
          c.reserve_entries.ensures.space c.reserve_entries.ensures.program same all);
      flips = c.advance-advanced.ensures.flips ∙ c.reserve_entries.ensures.flips;
      more = omega (arith, c.reserve_entries.ensures.capacity, c.advance-advanced.ensures.capacity);
    }

within_now : (g : givens.Over) (c : After-advance-advanced g)
    → c.self.inside.made + c.advance-advanced.result.made ≤ c.self.inside.budget
within_now g c = subst (λ (p : Progress). p.made + c.advance-advanced.result.made ≤ p.budget)
    (sym c.self.view_is) (omega (arith, c.requires.left, c.advance-advanced.ensures.within))

none_yet : (g : givens.Over) (c : After-advance-advanced g) → c.self.inside.outcome ≡ None
none_yet g c = ap (λ (p : Progress). p.outcome) c.self.view_is ∙ c.requires.outcome

kept : (g : givens.Over) (c : After-advance-advanced g)
    → IfSome c.advance-advanced.new.self.caller (MayGoOn (come_to (before g c)
    c.advance-advanced.new.self (c.self.inside.made + c.advance-advanced.result.made) None))
    → Keeps g.S.Interpret.asks g.O.Origin.start (come_to (before g c) c.advance-advanced.new.self
    (c.self.inside.made + c.advance-advanced.result.made) c.self.inside.outcome)
kept g c waits = subst (λ (o : Option Outcome). Keeps g.S.Interpret.asks g.O.Origin.start
    (come_to (before g c) c.advance-advanced.new.self
    (c.self.inside.made + c.advance-advanced.result.made) o)) (sym (none_yet g c))
    (keeps_made g.S.Interpret.asks g.O.Origin.start (before g c) c.advance-advanced.new.self
    c.advance-advanced.result.made None c.self.invariant (goes g c) (within_now g c) waits tt)

pub invariant_of-self-in-Err : goal.invariant_of-self-in-Err
invariant_of-self-in-Err g c =
    let at = (goal.at.invariant_of-self-in-Err g c).After-advance-advanced in
    let held = rw c.in-Err.is at c.advance-advanced.ensures.held_up in
    let fewer : c.advance-advanced.result.made < c.args.most =
    c.advance-advanced.ensures.fewer (rw c.in-Err.is refl) in
    kept g at (waits_as (come_to (before g at) c.advance-advanced.new.self
    (c.self.inside.made + c.advance-advanced.result.made) None) c.args.context (record {
      calling = c.advance-advanced.ensures.calling;
      ready = held.ready;
      left = subst (λ (p : Progress). p.made + c.advance-advanced.result.made < p.budget)
          (sym c.self.view_is) (omega (arith, c.requires.left, fewer));
    }))

pub invariant_of-self-in-Ok : goal.invariant_of-self-in-Ok
invariant_of-self-in-Ok g c =
    let at = (goal.at.invariant_of-self-in-Ok g c).After-advance-advanced in
    kept g at (waits_none (come_to (before g at) c.advance-advanced.new.self
    (c.self.inside.made + c.advance-advanced.result.made) None)
    (c.advance-advanced.ensures.calling_on (rw c.in-Ok.is refl)))
