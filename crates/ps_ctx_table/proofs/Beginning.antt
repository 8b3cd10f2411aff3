-- The world of one context and no other, as at the start of a program.
use Rattle.std.proofs.Common.{◌≡◌, ℕ, Bool, [], ◌∷◌, Some, refl, sym, ap, ◌∙◌}
use Rattle.std.specs.Prelude.{not, nat_eq}
use Rattle.ps_language.specs.Effect.{Scene}
use Rattle.ps_language.specs.World.{Context, Machine}
use Rattle.ps_mem.specs.Heap.{birth_at}
use Rattle.ps_ops_state.specs.Lent.{Lent, IsGood}
use Rattle.ps_ctx_table.specs.declared.members.Course.{Course}
use Rattle.ps_ctx_table.specs.declared.members.Member.{Member}
use Rattle.ps_ctx_table.specs.Worlds.{status_of, contexts_in}
use Rattle.ps_ctx_table.specs.Desks.{Desk, returned, desk_of, IsWorld, IsLentBy, IsCourseHeld, IsSteady}
use Rattle.ps_ctx_table.proofs.Going.{context-lent}

module _ (l : Lent) (course : Course) (is_detached has_faulted : Bool) where
  abbrev first : Member
  first = record { context = returned l; course = course; is_detached = is_detached }

  abbrev first_desk : Desk
  first_desk = desk_of l (Some first ∷ []) has_faulted

  pub first_steady : IsGood l → IsCourseHeld l.heap course
      → IsSteady (desk_of l
      (Some (record { context = returned l; course = course; is_detached = is_detached }) ∷ [])
      has_faulted)
  first_steady good held = record {
    sound = good.sound;
    names = good.names;
    first = good.first;
    empty = good.empty;
    members = (record { good = good; course = held }, tt);
  }

  -- of a machine that what is lent is of
  pub first_world : (lines : ℕ) (machine : Machine)
      → IsLentBy l is_detached (status_of (birth_at l.heap) course) lines machine
      → has_faulted ≡ not (nat_eq lines 0)
      → IsWorld (desk_of l
      (Some (record { context = returned l; course = course; is_detached = is_detached }) ∷ [])
      has_faulted) (record {
        program = l.program;
        store = machine.store;
        contexts = Some machine.context ∷ [];
        printed = machine.printed;
        error_lines = machine.error_lines;
        names = machine.names;
      })
  unfolding contexts_in
  first_world lines machine lent faulted = record {
    shows = lent.shown.shows;
    program = refl;
    names = ap (λ (scene : Scene). scene.names) (sym lent.scene);
    printed = lent.printed;
    faulted = faulted ∙ ap (λ n. not (nat_eq n 0)) (sym lent.error_lines);
    contexts = ap (λ (c : Context). Some c ∷ [])
        (sym (context-lent first_desk first lines machine lent));
    members = (lent.shown, tt);
  }
