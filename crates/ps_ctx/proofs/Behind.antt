-- The step behind many own ones.
use Rattle.std.proofs.Common.{◌≡◌, ◌≢◌, ℕ, ℤ, Bool, true, Option, Some, None, Ok, Err, refl, sym, ap, subst, ◌∙◌, List}
use Rattle.std.proofs.Common.{[], ◌∷◌}
use Rattle.std.specs.Prelude.{Result, IsSome, IfSome, ◌&&◌, if◌then◌else◌}
use Rattle.ps_language.specs.Effect.{Around, Scene}
use Rattle.ps_language.specs.Locks.{is_ready}
use Rattle.ps_language.specs.Machines.{may_end}
use Rattle.ps_language.specs.World.{Status, World}
use Rattle.ps_language.specs.Worlds.{after_moves}
use Rattle.ps_mem.specs.Heap.{Heap, birth_at}
use Rattle.ps_ops_operands.specs.declared.failure.NotMade.{NotMade as Reason}
use Rattle.ps_ops_control.specs.declared.frames.Frame.{Frame}
use Rattle.ps_ops_state.specs.Acts.{Asked, AreFew}
use Rattle.ps_ops_state.specs.Lent.{Lent}
use Rattle.ps_ops_state.specs.Attempts.{ordinary}
use Rattle.ps_ops_state.proofs.Meeting.{keeps-same}
use Rattle.ps_step_outcome.specs.declared.turned.Turned.{Turned}
use Rattle.ps_step_outcome.specs.declared.turned.Turned.TheVariants.{Goes, Calls, Breaks, Ends}
use Rattle.ps_step_interpreter.specs.Makes.{Runs, TurnsBehind}
use Rattle.ps_step_interpreter.specs.OwnSteps.{HasRun}
use Rattle.ps_ctx_table.specs.declared.members.Course.{Course}
use Rattle.ps_ctx_table.specs.declared.members.Course.TheVariants.{Running}
use Rattle.ps_ctx_table.specs.declared.members.Member.{Member}
use Rattle.ps_ctx_table.specs.Moves.{plain_moves}
use Rattle.ps_ctx_table.specs.Seats.{item_at, with_item}
use Rattle.ps_ctx_table.specs.Worlds.{status_of, context_of}
use Rattle.ps_ctx_table.specs.Desks.{Desk, lent_to, returned, desk_of, desk_after, has_finished, IsWorld, member_left}
use Rattle.ps_ctx_table.specs.Desks.{course_after}
use Rattle.ps_ctx_table.proofs.Owning.{own_ready}
use Rattle.ps_ctx_table.proofs.Places.{with_item-twice, item_at-with_item, one_there}
use Rattle.ps_ctx_table.proofs.Settled.{turned_changed}
use Rattle.ps_ctx_table.proofs.Stepping.{context_there}
use Rattle.ps_ctx.specs.declared.notes.Note.{Note}
use Rattle.ps_ctx.specs.declared.notes.Note.TheVariants.{Nothing, ShowsMemory}
use Rattle.ps_ctx.specs.Finishes.{settled_desk, settled_held, Finishes}
use Rattle.ps_ctx.specs.Held.{Held, held, CourseAt, IsSteadyHeld, MayStep, course_in}
use Rattle.ps_ctx.specs.Lending.{LendsDesk, RunsSo, TurnsSo}
use Rattle.ps_ctx.specs.Steps.{AreShown, HasMade, IsCounted, shown_words, StepsBehind, Steps}
use Rattle.ps_ctx.proofs.Calling.{none_left}
use Rattle.ps_ctx.proofs.Running.{or_false, run_desk, run_steady, run_world, run_made}
use Rattle.ps_ctx.proofs.Telling.{shown_of}
use Rattle.ps_ctx.proofs.Turned.{own_leaves, turned_is_steady, turned_finishes, unmade_steps}

course_framed : (frames : List Frame) → frames ≢ [] → course_after Goes frames ≡ Running
course_framed [] some = absurd (some refl)
course_framed (frame ∷ frames) some = refl

-- ---- so many own steps, and none behind them

pub run_settled : (before after : Desk) (identifier : ℕ) (goes : (old new : Lent) → Type 0)
    (lends : LendsDesk identifier goes before after)
    → settled_desk Goes identifier after
    ≡ desk_after before identifier lends.member lends.after (course_after Goes lends.after.frames)
    before.has_faulted
run_settled before after identifier goes lends =
    let now : Member = record lends.member { context = returned lends.after } in
    ap (settled_desk Goes identifier) lends.is
    ∙ (λ i. record (settled_desk Goes identifier
    (desk_of lends.after (with_item before.members identifier (Some now)) before.has_faulted)) {
      members = turned_changed Goes identifier before.members lends.member now lends.found i;
      has_faulted = or_false before.has_faulted i;
    })

pub run_settles : (before after : Desk) (identifier : ℕ) (made : ℕ)
    → IsSteadyHeld (held before None) → CourseAt identifier Running before.members
    → LendsDesk identifier (HasRun made) before after
    → HasMade identifier made (held before None) (held (settled_desk Goes identifier after) None)
run_settles before after identifier made steady course lends =
    subst (λ (d : Desk). HasMade identifier made (held before None) (held d None))
    (sym (run_settled before after identifier (HasRun made) lends))
    (run_made before steady.steady steady.framed identifier made lends.member lends.found
    (ap (λ (m : Member). m.course)
    (one_there before.members identifier lends.member course.member lends.found course.found)
    ∙ course.is) lends.after lends.goes_on)

-- where a frame is left, it still runs
run_framed : (before after : Desk) (identifier : ℕ) (made : ℕ)
    → IsSteadyHeld (held before None) → CourseAt identifier Running before.members
    → (lends : LendsDesk identifier (HasRun made) before after) → lends.after.frames ≢ []
    → HasMade identifier made (held before None) (held after None)
run_framed before after identifier made steady course lends some =
    let runs : lends.member.course ≡ Running =
    ap (λ (m : Member). m.course)
    (one_there before.members identifier lends.member course.member lends.found course.found)
    ∙ course.is in
    let still : course_after Goes lends.after.frames ≡ Running =
    course_framed lends.after.frames some in
    let now : Member = record lends.member {
      context = returned lends.after;
      course = course_after Goes lends.after.frames;
    } in
    let left : member_left now ≡ Some (record lends.member { context = returned lends.after }) =
    ap (λ (c : Course). if lends.member.is_detached && has_finished c then None else Some now) still
    ∙ (none_left lends.member.is_detached now
    ∙ (λ i. Some (record lends.member {
      context = returned lends.after;
      course = (still ∙ sym runs) i;
    }))) in
    subst (λ (d : Desk). HasMade identifier made (held before None) (held d None))
    (sym (lends.is ∙ ap (λ item. desk_of lends.after (with_item before.members identifier item)
    before.has_faulted) (sym left)))
    (run_made before steady.steady steady.framed identifier made lends.member lends.found runs
    lends.after lends.goes_on)

pub run_left : (asks : Status → Around → Scene → Asked) (before after : Desk)
    (identifier slot most made : ℕ) (next : Option (Result Turned Reason)) (framed : Bool)
    → IsSteadyHeld (held before None) → CourseAt identifier Running before.members
    → LendsDesk identifier (RunsSo asks slot most made next framed) before after
    → next ≡ None → framed ≡ true → HasMade identifier made (held before None) (held after None)
run_left asks before after identifier slot most made next framed steady course lends none some =
    run_framed before after identifier made steady course (record {
      member = lends.member;
      found = lends.found;
      after = lends.after;
      goes_on = subst (λ told. Runs asks slot made told (lent_to before lends.member.context)
          lends.after) none lends.goes_on.runs;
      is = lends.is;
    }) (lends.goes_on.left some)

-- it is still there
pub still_there : (members : List (Option Member)) (after : List (Option Member)) (identifier : ℕ)
    (old now : Member) → item_at members identifier ≡ Some old
    → after ≡ with_item members identifier (Some now) → IsSome (item_at after identifier)
still_there members after identifier old now found is =
    subst IsSome (sym (ap (λ list. item_at list identifier) is
    ∙ item_at-with_item members identifier old (Some now) found)) refl

-- no step is made
pub made_none : (identifier : ℕ) (h : Held) → IsSteadyHeld h → MayStep h.calling identifier
    → HasMade identifier 0 h h
unfolding after_moves
made_none identifier h steady may = record {
  at = λ w at ready. at;
  ready = λ w at ready. refl;
  quiet = λ w at ready. tt;
  others = λ w at ready. tt;
  keeps = keeps-same h.desk.heap;
  steady = steady;
  program = refl;
  most = refl;
  caller = may;
  first = λ some. (refl, refl);
}

-- a step by itself
pub step_alone : (asks : Status → Around → Scene → Asked) (identifier slot : ℕ)
    (shown : Option (ℤ × ℤ)) (told : Result Note Reason) (old new : Held) → IsSteadyHeld old
    → MayStep old.calling identifier → Steps asks identifier (ordinary slot) shown told old new
    → IfSome shown (AreShown old.desk.heap)
    → StepsBehind asks identifier slot 0 shown told old new
unfolding after_moves
step_alone asks identifier slot shown told old new steady may steps are = record {
  mid = old;
  makes = made_none identifier old steady may;
  ready = λ w at ready. ready;
  steps = steps;
  shows = λ w at ready is. are;
}

nothing_shown : (told : Result Note Reason) → told ≡ Ok Nothing → told ≡ Ok ShowsMemory → ⊥
nothing_shown told nothing shows = cc

-- ---- and its turn behind them

-- what was lent of a running context
abbrev pub GoesBehind : (asks : Status → Around → Scene → Asked) → (slot made : ℕ)
    → Result Turned Reason → (old new : Lent) → Type 0
GoesBehind asks slot made result old new = TurnsBehind asks slot made result old new

module _ (asks : Status → Around → Scene → Asked) (before after : Desk) (identifier slot made : ℕ)
    (shown : Option (ℤ × ℤ)) (steady : IsSteadyHeld (held before None))
    (course : CourseAt identifier Running before.members) (result : Result Turned Reason)
    (lends : LendsDesk identifier (GoesBehind asks slot made result) before after) where
  abbrev mid : Lent
  mid = lends.goes_on.mid

  pub runs : lends.member.course ≡ Running
  runs =
      ap (λ (m : Member). m.course)
      (one_there before.members identifier lends.member course.member lends.found course.found)
      ∙ course.is

  abbrev mid_member : Member
  mid_member =
      record lends.member { context = returned mid; course = course_after Goes mid.frames }

  abbrev pub mid_desk : Desk
  mid_desk = run_desk before steady.steady steady.framed identifier made lends.member lends.found
      runs mid lends.goes_on.makes

  mid_runs : mid_member.course ≡ Running
  mid_runs = course_framed mid.frames lends.goes_on.framed

  mid_found : item_at mid_desk.members identifier ≡ Some mid_member
  mid_found =
      item_at-with_item before.members identifier lends.member (member_left mid_member) lends.found
      ∙ (ap (λ (c : Course). if lends.member.is_detached && has_finished c then None
      else Some mid_member) mid_runs
      ∙ none_left lends.member.is_detached mid_member)

  mid_course : CourseAt identifier (course_in None) mid_desk.members
  mid_course = record { member = mid_member; found = mid_found; is = mid_runs }

  mid_lends : LendsDesk identifier (TurnsSo asks None (ordinary slot) result) mid_desk after
  mid_lends = record {
    member = mid_member;
    found = mid_found;
    after = lends.after;
    goes_on = lends.goes_on.turns;
    is =
        lends.is
        ∙ (λ i. desk_of lends.after (with_item before.members identifier (Some (record lends.member
        { context = returned lends.after; course = (runs ∙ sym mid_runs) i }))) before.has_faulted)
        ∙ ap (λ members. desk_of lends.after members before.has_faulted)
        (sym (with_item-twice before.members identifier (member_left mid_member)
        (Some (record mid_member { context = returned lends.after }))));
  }

  mid_steady : IsSteadyHeld (held mid_desk None)
  mid_steady = run_steady before steady.steady steady.framed identifier made lends.member
      lends.found runs mid lends.goes_on.makes

  mid_world : (w : World) → IsWorld before w
      → IsWorld mid_desk (after_moves w (plain_moves identifier made))
  mid_world = run_world before steady.steady steady.framed identifier made lends.member
      lends.found runs mid lends.goes_on.makes

  mid_ready : (w : World) → IsWorld before w
      → is_ready (after_moves w (plain_moves identifier made)) identifier ≡ true
  mid_ready w at =
      let now = after_moves w (plain_moves identifier made) in
      own_ready now identifier (context_of mid_desk.heap mid_desk.names mid_member)
      (context_there mid_desk now (mid_world w at) identifier mid_member mid_found)
      (ap (λ (c : Course). may_end (status_of (birth_at mid_desk.heap) c)) mid_runs)

  behind : (told : Result Note Reason) (final : Held)
      → Steps asks identifier (ordinary slot) shown told (held mid_desk None) final
      → ((w : World) → IsWorld mid_desk w → told ≡ Ok ShowsMemory
      → IfSome shown (AreShown mid_desk.heap))
      → StepsBehind asks identifier slot made shown told (held before None) final
  behind told final steps shows = record {
    mid = held mid_desk None;
    makes = run_made before steady.steady steady.framed identifier made lends.member lends.found
        runs mid lends.goes_on.makes;
    ready = λ w at ready. mid_ready w at;
    steps = steps;
    shows = λ w at ready. shows (after_moves w (plain_moves identifier made)) (mid_world w at);
  }

  -- the turn is made

  pub behind_is_steady : (turned : Turned) → result ≡ Ok turned
      → IsSteadyHeld (settled_held turned identifier after)
  behind_is_steady turned ok =
      turned_is_steady asks None mid_desk after identifier (ordinary slot) shown mid_steady
      mid_course result mid_lends turned ok

  -- it is not
  pub behind_unmade : AreFew asks → shown ≡ None → (reason : Reason) → result ≡ Err reason
      → StepsBehind asks identifier slot made shown (Err reason) (held before None)
      (held after None)
  behind_unmade few none reason err =
      behind (Err reason) (held after None)
      (unmade_steps asks None mid_desk after identifier (ordinary slot) shown mid_steady
      mid_course result mid_lends few reason err)
      (λ w at is. absurd (cc))

  -- the memory that its call is shown is the one before its turn
  called_shows : (turned : Turned) → result ≡ Ok turned → (told : Result Note Reason)
      (final : Held) → Finishes turned identifier (ordinary slot) shown told
      (settled_held turned identifier after) final → IfSome shown (AreShown after.heap)
      → (w : World) → IsWorld mid_desk w → told ≡ Ok ShowsMemory
      → IfSome shown (AreShown mid_desk.heap)
  called_shows (Calls operator) ok told final finishes are w at is =
      subst (λ (h : Heap). IfSome shown (AreShown h))
      (ap (λ (d : Desk). d.heap) mid_lends.is
      ∙ own_leaves asks None mid_desk after identifier (ordinary slot) shown mid_steady mid_course
      result mid_lends operator ok w at) are
  called_shows Goes ok told final finishes are w at is = absurd (nothing_shown told finishes.0 is)
  called_shows (Breaks cause) ok told final finishes are w at is =
      absurd (nothing_shown told finishes.0 is)
  called_shows (Ends faults) ok told final finishes are w at is =
      absurd (nothing_shown told finishes.0 is)

  pub behind_finishes : (shows : Bool)
      → shown ≡ (if shows then Some (shown_words after.heap) else None)
      → IfSome shown (λ pair. IsCounted after.heap)
      → (turned : Turned) → result ≡ Ok turned → (told : Result Note Reason)
      (final : Held) → Finishes turned identifier (ordinary slot) shown told
      (settled_held turned identifier after) final
      → StepsBehind asks identifier slot made shown told (held before None) final
  behind_finishes shows is counted turned ok told final finishes =
      behind told final
      (turned_finishes asks None mid_desk after identifier (ordinary slot) shown mid_steady
      mid_course result mid_lends turned ok told final finishes)
      (called_shows turned ok told final finishes (shown_of after.heap shows shown is counted))
