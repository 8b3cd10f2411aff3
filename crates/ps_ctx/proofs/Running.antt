-- Many own steps of one context are so many moves of the world.
use Rattle.std.proofs.Common.{◌≡◌, ℕ, zero, suc, Bool, true, false, IsTrue, Option, Some, None, refl, sym, ap, subst}
use Rattle.std.proofs.Common.{◌∙◌, List, [], ◌∷◌}
use Rattle.std.specs.Prelude.{◌||◌, option_and_then}
use Rattle.ps_language.specs.Contexts.{context_at, with_context}
use Rattle.ps_language.specs.Effect.{nothing}
use Rattle.ps_language.specs.Machines.{may_end, Reached, reaches, leaves_to_world, own_step}
use Rattle.ps_language.specs.Schedules.{Move, plain_move}
use Rattle.ps_language.specs.Step.{machine_of, with_machine, Stepped, after_own, stepped}
use Rattle.ps_language.specs.World.{running, Context, Machine, World}
use Rattle.ps_language.specs.Worlds.{after_moves, all_ready}
use Rattle.ps_mem.specs.Heap.{birth_at}
use Rattle.ps_ops_control.specs.declared.frames.Frame.{Frame}
use Rattle.ps_ops_state.specs.Lent.{Lent, scene_of}
use Rattle.ps_step_outcome.specs.declared.turned.Turned.TheVariants.{Goes}
use Rattle.ps_step_interpreter.specs.Courses as alone
use Rattle.ps_step_interpreter.specs.OwnSteps.{machine_in, own_next, own_after, status_with, ComesTo, HasRun}
use Rattle.ps_ctx_table.specs.declared.members.Course.TheVariants.{Running}
use Rattle.ps_ctx_table.specs.declared.members.Member.{Member}
use Rattle.ps_ctx_table.specs.Moves.{OwnStep, OwnSteps, plain_moves}
use Rattle.ps_ctx_table.specs.Seats.{item_at}
use Rattle.ps_ctx_table.specs.Worlds.{status_of, context_of}
use Rattle.ps_ctx_table.specs.Desks.{Desk, lent_to, returned, desk_after, HasFrame, AreFramed, IsWorld, IsLentBy}
use Rattle.ps_ctx_table.specs.Desks.{IsCourseHeld, IsSteady, course_after}
use Rattle.ps_ctx_table.proofs.Owning.{goes_left, own_move, own_moves, own_all_ready, put_apart, put_back, put_same}
use Rattle.ps_ctx_table.proofs.Stepping.{stepped_own, context_there}
use Rattle.ps_ctx_table.proofs.Turning.{went_steady, went_world, member_at}
use Rattle.ps_ops_state.specs.Lent.{IsShown}
use Rattle.ps_ctx.specs.Held.{held, IsSteadyHeld}
use Rattle.ps_ctx.specs.Steps.{AllFrom, IsQuiet, KeepsOthers, HasMade}
use Rattle.ps_ctx.proofs.Owning.{framed_with}

-- ---- own steps in a row, from the first on

record IsFirst (program : List ℕ) (made : ℕ) (machine last : Machine) : Type 0 where
  mid : Machine
  first : own_next program machine ≡ Some mid
  others : own_after program made mid ≡ Some last

first_more : (program : List ℕ) (made : ℕ) (machine last : Machine) (so_far : Option Machine)
    → ((mid : Machine) → so_far ≡ Some mid → IsFirst program made machine mid)
    → option_and_then (own_next program) so_far ≡ Some last
    → IsFirst program (suc made) machine last
unfolding own_after
first_more program made machine last None are is = absurd (cc)
first_more program made machine last (Some mid) are is =
    let so_far = are mid refl in
    record {
      mid = so_far.mid;
      first = so_far.first;
      others = ap (option_and_then (own_next program)) so_far.others ∙ is;
    }

first_of_steps : (program : List ℕ) (made : ℕ) (machine last : Machine)
    → own_after program (suc made) machine ≡ Some last → IsFirst program made machine last
unfolding own_after
first_of_steps program zero machine last is = record { mid = last; first = is; others = refl }
first_of_steps program (suc made) machine last is =
    first_more program made machine last (own_after program (suc made) machine)
    (first_of_steps program made machine) is

reached_in : (reached : Reached) (next : Machine) → machine_in reached ≡ Some next
    → reached ≡ reaches next
reached_in (reaches machine) next is = ap reaches (cc)
reached_in (leaves_to_world calling machine) next is = absurd (cc)

own_one : (program : List ℕ) (machine next : Machine) → own_next program machine ≡ Some next
    → OwnStep program machine next
own_one program machine next is = by (may_end machine.context.status) refl
  where
    by : (b : Bool) → may_end machine.context.status ≡ b → OwnStep program machine next
    by true may = record {
      goes = may;
      reached = reached_in (own_step program false machine) next (rw may at is);
    }
    by false over = absurd (let bad : None ≡ Some next = (rw over at is) in cc)

pub own_steps : (program : List ℕ) (made : ℕ) (machine last : Machine)
    → own_after program made machine ≡ Some last → OwnSteps program made machine last
unfolding own_after
own_steps program zero machine last is = cc
own_steps program (suc made) machine last is =
    let first = first_of_steps program made machine last is in (
      first.mid,
      own_one program machine first.mid first.first,
      own_steps program made first.mid last first.others,
    )

-- ---- so many moves

moved_by : (made : ℕ) (w : World) (identifier : ℕ) (context : Context)
    → context_at w identifier ≡ Some context → may_end context.status ≡ true → (last : Machine)
    → OwnSteps w.program made (machine_of w context) last
    → after_moves w (plain_moves identifier made) ≡ with_machine identifier w last
unfolding after_moves
moved_by zero w identifier context found may last own =
    sym (put_same w identifier context found (goes_left context may))
    ∙ ap (with_machine identifier w) own
moved_by (suc made) w identifier context found may last own =
    own_moves made w identifier context found last own

-- of an own step nothing is told
one_quiet : (w : World) (identifier : ℕ) (context : Context)
    → context_at w identifier ≡ Some context → (next : Machine)
    → OwnStep w.program (machine_of w context) next
    → (stepped w identifier false None).note ≡ nothing
one_quiet w identifier context found next own =
    ap (λ (s : Stepped). s.note)
    (stepped_own w identifier false None context found own.goes
    ∙ ap (after_own identifier false None w) own.reached)

-- it leaves every other context as it is
one_others : (w : World) (identifier : ℕ) (context : Context)
    → context_at w identifier ≡ Some context → (next : Machine)
    → OwnStep w.program (machine_of w context) next
    → KeepsOthers identifier w (plain_move identifier)
one_others w identifier context found next own = λ other apart.
    ap (λ (now : World). context_at now other) (own_move w identifier context found next own)
    ∙ put_apart w identifier other next (λ same. apart (sym same))

-- what is so of each own step is so of all of them
module _ (IsSo : World → Move → Type 0) (identifier : ℕ)
    (one : (w : World) (context : Context) → context_at w identifier ≡ Some context
    → (next : Machine) → OwnStep w.program (machine_of w context) next
    → IsSo w (plain_move identifier)) where
  own_all : (made : ℕ) (w : World) (context : Context)
      → context_at w identifier ≡ Some context → (last : Machine)
      → OwnSteps w.program made (machine_of w context) last
      → AllFrom IsSo w (plain_moves identifier made)
  unfolding with_context
  own_all zero w context found last own = tt
  own_all (suc zero) w context found last own = (one w context found own.0 own.1, tt)
  own_all (suc (suc made)) w context found last own =
      let next = own.0 in
      let left = goes_left next.context own.2.1.goes in (
        one w context found next own.1,
        subst (λ (now : World). AllFrom IsSo now (plain_moves identifier (suc made)))
            (sym (own_move w identifier context found next own.1))
            (own_all (suc made) (with_machine identifier w next) next.context
            (put_back w identifier context found next left) last own.2),
      )

pub or_false : (b : Bool) → b || false ≡ b
or_false true = refl
or_false false = refl

status_goes : (births : ℕ → ℕ) (frames : List Frame)
    → status_of births (course_after Goes frames) ≡ status_with frames
status_goes births [] = refl
status_goes births (frame ∷ frames) = refl

over_goes : (h : _) (frames : List Frame) → IsCourseHeld h (course_after Goes frames)
over_goes h [] = tt
over_goes h (frame ∷ frames) = tt

frame_goes : (frames : List Frame) → HasFrame (course_after Goes frames) frames
frame_goes [] = tt
frame_goes (frame ∷ frames) = tt

some_frame : (frames : List Frame) → HasFrame Running frames → status_with frames ≡ running
some_frame [] framed = absurd framed
some_frame (frame ∷ frames) framed = refl

-- ---- a running context of the table

module _ (d : Desk) (steady : IsSteady d) (framed : AreFramed d.members) (identifier made : ℕ)
    (member : Member) (found : item_at d.members identifier ≡ Some member)
    (runs : member.course ≡ Running) (new : Lent)
    (run : HasRun made (lent_to d member.context) new) where
  abbrev pub run_desk : Desk
  run_desk = desk_after d identifier member new (course_after Goes new.frames) d.has_faulted

  pub run_steady : IsSteadyHeld (held run_desk None)
  run_steady = record {
    steady = went_steady d steady identifier member new (course_after Goes new.frames)
        d.has_faulted run.keeps run.stays run.good (over_goes new.heap new.frames);
    framed = framed_with d.members identifier
        (record member { context = returned new; course = course_after Goes new.frames }) framed
        (frame_goes new.frames);
  }

  module _ (w : World) (at : IsWorld d w) where
    abbrev context : Context
    context = context_of d.heap d.names member

    abbrev machine : Machine
    machine = machine_of w context

    status_is : context.status ≡ running
    status_is = ap (status_of (birth_at d.heap)) runs

    has_frame : HasFrame Running member.context.frames
    has_frame =
        subst (λ course. HasFrame course member.context.frames) runs
        (member_at (λ one. HasFrame one.course one.context.frames) d.members identifier member
        framed found)

    -- what is lent is its machine's
    here : alone.IsLentBy (lent_to d member.context) (status_with member.context.frames)
        w.error_lines machine
    here = record {
      shown = member_at (λ one. IsShown (lent_to d one.context) w.store) d.members identifier
          member at.members found;
      scene = λ i. record (scene_of (lent_to d member.context) w.store) { names = sym at.names i };
      is_so = status_is ∙ sym (some_frame member.context.frames has_frame);
      error_dictionary = refl;
      printed = at.printed;
      error_lines = refl;
    }

    comes : ComesTo d.program made machine new
    comes = run.comes machine here

    own : OwnSteps w.program made machine comes.next
    own = subst (λ (p : List ℕ). OwnSteps p made machine comes.next) (sym at.program)
        (own_steps d.program made machine comes.next comes.steps)

    lent_next : IsLentBy new member.is_detached
        (status_of (birth_at new.heap) (course_after Goes new.frames)) w.error_lines comes.next
    lent_next = record {
      shown = comes.lent.shown;
      scene = comes.lent.scene;
      error_dictionary = comes.lent.error_dictionary;
      detached = comes.detached;
      is_so = comes.lent.is_so ∙ sym (status_goes (birth_at new.heap) new.frames);
      printed = comes.lent.printed;
      error_lines = comes.lent.error_lines;
    }

    may : may_end context.status ≡ true
    may = ap may_end status_is

    there : context_at w identifier ≡ Some context
    there = context_there d w at identifier member found

    pub run_world : IsWorld run_desk (after_moves w (plain_moves identifier made))
    run_world =
        subst (IsWorld run_desk)
        (sym (moved_by made w identifier context there may comes.next own))
        (went_world d steady identifier member new (course_after Goes new.frames) d.has_faulted
        run.keeps run.stays run.good (over_goes new.heap new.frames) w at w.error_lines comes.next
        comes.lasts lent_next at.faulted)

    run_ready : IsTrue (all_ready w (plain_moves identifier made))
    run_ready = own_all_ready made w identifier context there comes.next own

    pub run_quiet : AllFrom IsQuiet w (plain_moves identifier made)
    run_quiet =
        own_all IsQuiet identifier (λ w. one_quiet w identifier) made w context there comes.next own

    run_others : AllFrom (KeepsOthers identifier) w (plain_moves identifier made)
    run_others =
        own_all (KeepsOthers identifier) identifier (λ w. one_others w identifier) made w context
        there comes.next own

  pub run_made : HasMade identifier made (held d None) (held run_desk None)
  run_made = record {
    at = λ w at ready. run_world w at;
    ready = λ w at ready. run_ready w at;
    quiet = λ w at ready. run_quiet w at;
    others = λ w at ready. run_others w at;
    keeps = run.keeps;
    steady = run_steady;
    program = run.stays.program;
    most = run.stays.most;
    caller = tt;
    first = λ some. absurd (cc);
  }
