-- A slice is the run of a baton that goes on from here.
use Rattle.std.proofs.Common.{◌≡◌, ℕ, List, ◌+◌, ◌-◌, ◌^◌, refl, sym, ap, ◌∙◌, subst}
use Rattle.std.specs.Prelude.{min}
use Rattle.ps_vault.specs.Parking.{IsParked, story_of}
use Rattle.ps_vault.specs.Screens.{Sight}
use Rattle.ps_vault.specs.Stories.{Story}
use Rattle.ps_run_workers.specs.Batons.{Keeps}
use Rattle.ps_run_workers.specs.Slices.{at_pause, budget_behind, IsSlice, no_sight, start_at}
use Rattle.ps_run_workers.proofs.Slices.{come_rests, come_slice, rests_further, rests_made, unseen_sight, with_steps}
use Rattle.ps_run_workers.proofs.standing.Standing.advance.Goals as goal

pub advance_in-paused-requires-clause-parked : goal.advance_in-paused-requires-clause-parked
advance_in-paused-requires-clause-parked g c =
    subst (λ (bytes : List ℕ). IsParked g.M.Memory.heap g.M.Memory.grants bytes
    c.self.inside.paused.parked) (sym c.as_slice-bytes.ensures.value) c.self.invariant.parked

pub advance_in-paused-requires-clause-keeps : goal.advance_in-paused-requires-clause-keeps
advance_in-paused-requires-clause-keeps g c =
    let unseen = unseen_sight c.new-screen.result c.new-screen.ensures.seen
    c.new-screen.ensures.watching c.new-screen.ensures.shown c.new-screen.ensures.failed in
    let steps : ℕ = c.saturating_add.result in
    subst (λ (sight : Sight). Keeps g.S.Interpret.asks
    (start_at (story_of g.M.Memory.heap g.M.Memory.grants c.as_slice-bytes.result.now
    c.self.inside.paused.parked) (with_steps c.self.inside.paused.config steps))
    (at_pause (story_of g.M.Memory.heap g.M.Memory.grants c.as_slice-bytes.result.now
    c.self.inside.paused.parked) (with_steps c.self.inside.paused.config steps)
    c.self.inside.paused.made sight)) (sym unseen)
    (subst (λ (bytes : List ℕ). Keeps g.S.Interpret.asks
    (start_at (story_of g.M.Memory.heap g.M.Memory.grants bytes
    c.self.inside.paused.parked) (with_steps c.self.inside.paused.config steps))
    (at_pause (story_of g.M.Memory.heap g.M.Memory.grants bytes
    c.self.inside.paused.parked) (with_steps c.self.inside.paused.config steps)
    c.self.inside.paused.made no_sight)) (sym c.as_slice-bytes.ensures.value)
    (rests_further g.S.Interpret.asks g.M.Memory.heap g.M.Memory.grants c.self.inside.program.items
    c.self.inside.paused c.args.steps steps c.self.invariant c.requires c.saturating_add.ensures))

pub invariant_of-standing : goal.invariant_of-standing
invariant_of-standing g c =
    come_rests g.S.Interpret.asks g.M.Memory.heap g.M.Memory.grants _ c.advance_in-paused.result
    c.self.inside.program.items c.advance_in-paused.ensures c.as_slice-bytes.ensures.value

pub returns : goal.returns
returns g c =
    let made = rests_made g.S.Interpret.asks g.M.Memory.heap g.M.Memory.grants
    c.self.inside.program.items c.self.inside.paused c.self.invariant in
    let budget : c.saturating_add.result
    ≡ budget_behind c.self.inside.paused.parked.schedule.items c.args.steps =
    c.saturating_add.ensures ∙ ap (λ (n : ℕ). min (n + c.args.steps) (2 ^ 32 - 1)) made in
    subst (λ (s : Story). IsSlice g.S.Interpret.asks (budget_behind s.schedule c.args.steps) s
    (story_of g.M.Memory.heap g.M.Memory.grants c.self.inside.program.items
    c.advance_in-paused.result.parked) c.advance_in-paused.result.outcome) c.self.view_is
    (subst (λ (n : ℕ). IsSlice g.S.Interpret.asks n
    (story_of g.M.Memory.heap g.M.Memory.grants c.self.inside.program.items
    c.self.inside.paused.parked)
    (story_of g.M.Memory.heap g.M.Memory.grants c.self.inside.program.items
    c.advance_in-paused.result.parked) c.advance_in-paused.result.outcome) budget
    (subst (λ (bytes : List ℕ). IsSlice g.S.Interpret.asks c.saturating_add.result
    (story_of g.M.Memory.heap g.M.Memory.grants bytes c.self.inside.paused.parked)
    (story_of g.M.Memory.heap g.M.Memory.grants bytes c.advance_in-paused.result.parked)
    c.advance_in-paused.result.outcome) c.as_slice-bytes.ensures.value
    (come_slice g.S.Interpret.asks g.M.Memory.heap g.M.Memory.grants
    (story_of g.M.Memory.heap g.M.Memory.grants c.as_slice-bytes.result.now
    c.self.inside.paused.parked)
    (with_steps c.self.inside.paused.config c.saturating_add.result) c.advance_in-paused.result
    c.advance_in-paused.ensures c.self.invariant.keeps.most c.self.invariant.keeps.space)))
