-- All contexts before the first step.
use Rattle.std.proofs.Common.{◌≡◌, ℕ, false, List, [], ◌∷◌, Some, None, refl, sym, ap}
use Rattle.ps_language.specs.Effect.{Around, Scene}
use Rattle.ps_language.specs.Worlds.{first_context, starting_world}
use Rattle.ps_language.specs.World as world
use Rattle.ps_mem.specs.Heap.{Heap, Grants}
use Rattle.ps_ops_control.specs.declared.frames.Frame.{Frame}
use Rattle.ps_ops_control.specs.Frames.{frames_in}
use Rattle.ps_ops_state.specs.declared.lent.Context.{Context}
use Rattle.ps_ops_state.specs.declared.lent.Shared.{Shared}
use Rattle.ps_ops_state.specs.Lent.{lent}
use Rattle.ps_ctx_start.specs.Starts.{Starts}
use Rattle.ps_ctx_table.specs.declared.members.Course.TheVariants.{Running}
use Rattle.ps_ctx_table.specs.declared.members.Member.{Member}
use Rattle.ps_ctx_table.specs.Worlds.{context_of, contexts_in}
use Rattle.ps_ctx_table.specs.Desks.{Desk, desk, HasFrame, IsWorld}
use Rattle.ps_ctx.specs.Held.{held, IsSteadyHeld}

module _ (program : List ℕ) (heap : Heap) (grants : Grants) (context : Context) (shared : Shared)
    (starts : Starts program (lent heap grants context shared)) where
  abbrev pub first_member : Member
  first_member =
      record { context = context; course = Running; is_detached = false }

  abbrev pub first_desk : Desk
  first_desk =
      desk heap grants (Some first_member ∷ []) shared false

  context_is : first_context ≡ context_of heap shared.names first_member
  unfolding starting_world
  context_is = λ i. record {
    operands = (sym starts.scene i).operands;
    dictionaries = (sym starts.scene i).dictionaries;
    frames = (sym starts.scene i).frames;
    error_dictionary = (sym starts.around i).error_dictionary;
    is_detached = false;
    status = world.running;
  }

  pub first_world : IsWorld first_desk (starting_world program)
  unfolding starting_world contexts_in
  first_world = record {
    shows = starts.shown.shows;
    program = ap (λ (a : Around). a.program) (sym starts.around);
    names = ap (λ (s : Scene). s.names) (sym starts.scene);
    printed = sym starts.printed;
    faulted = refl;
    contexts = ap (λ one. Some one ∷ []) context_is;
    members = (starts.shown, tt);
  }

  framed_by : (frames : List Frame) (one : world.Frame) (rest : List world.Frame)
      → frames_in heap shared.names frames ≡ one ∷ rest → HasFrame Running frames
  framed_by [] one rest is = cc
  framed_by (frame ∷ frames) one rest is = tt

  pub first_steady : IsSteadyHeld (held first_desk None)
  unfolding starting_world
  first_steady = record {
    steady = record {
      sound = starts.good.sound;
      names = starts.good.names;
      first = starts.good.first;
      empty = starts.good.empty;
      members = (record { good = starts.good; course = tt }, tt);
    };
    framed = (
      framed_by context.frames _ _ (ap (λ (s : Scene). s.frames) starts.scene),
      tt,
    );
  }
