-- A step that finds no room where nothing is used but what lives is refused.
use Rattle.std.proofs.Common.{◌≡◌, ◌≤◌, refl, sym, ap, subst, ◌∙◌, arith}
use Rattle.std.proofs.lemmas.Bool.{true≢false}
use Rattle.std.proofs.lemmas.Bool.Decides.{nat_tests}
use Rattle.ps_vault.specs.Stories.{LacksRoom, Story, world_at}
use Rattle.ps_run_workers.specs.Batons.{Progress, Keeps}
use Rattle.ps_run_workers.proofs.Keeping.{lacks_in, refusal, refusal_now}
use Rattle.ps_run_workers.proofs.batons.Baton.make_room.Goals as goal
use Rattle.ps_run_workers.proofs.batons.Baton.make_room.Goals.{in-NeedSpace, in_default}

pub refuse_step-requires-clause-refusal : goal.refuse_step-requires-clause-refusal
refuse_step-requires-clause-refusal g c =
    let before : Progress = c.stop_all.new.self in
    let tried : Progress = c.advance.new.self in
    let inside : Story = c.self-then-matches.inside.vault in
    let view = c.self.view_is in
    let seen : inside ≡ tried.story =
    ap (λ (p : Progress). p.story) c.self-then-matches.view_is in
    let made : before.made ≤ tried.made =
    let was = ap (λ (p : Progress). p.made) view in let more = c.advance.ensures.made in
    omega (arith, was, more) in
    let used : tried.story.used ≡ before.story.used =
    let was = ap (λ (p : Progress). p.story.used) view in
    let first = c.used-used.ensures.is in
    let second = c.used.ensures.is in
    let now = ap (λ (s : Story). s.used) seen in
    grind (arith, nat_tests, c.if-used.true, was, first, second, now) in
    let lacks : LacksRoom tried.story c.args.context = elim c.match-matches.branch [
      | in-NeedSpace w ↦ lacks_in tried.story c.args.context _ c.in-Err.reason w.in-NeedSpace.is
          c.in-Err.ensures.room
      | in_default w ↦ absurd (true≢false (sym c.if-matches.true ∙ w.matches-is))
    ] in
    refusal_now tried c.used.new.self c.args.context
    (refusal g.S.Interpret.asks g.O.Origin.start before tried c.args.context
    (c.stop_all.ensures.tight c.if-not-stop_all.false)
    (subst (Keeps g.S.Interpret.asks g.O.Origin.start) c.self-then-matches.view_is c.self-then-matches.invariant)
    made
    (c.in-Err.ensures.stays refl refl
    ∙ ap world_at c.used-used.ensures.same ∙ ap (λ (p : Progress). world_at p.story) view)
    used c.in-Err.ensures.held_up.ready lacks)
    (sym (c.used.ensures.same ∙ seen))
