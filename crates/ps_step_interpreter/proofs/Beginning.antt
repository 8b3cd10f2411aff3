-- What is lent at the start is the first machine's.
use Rattle.std.proofs.Common.{ℕ, List, refl, sym, ap}
use Rattle.ps_language.specs.Effect.{Around}
use Rattle.ps_language.specs.World.{running}
use Rattle.ps_language.specs.Worlds.{starting_world}
use Rattle.ps_ops_state.specs.Lent.{Lent}
use Rattle.ps_ctx_start.specs.Starts.{first_machine, Starts}
use Rattle.ps_step_interpreter.specs.Courses.{IsLentBy}

pub first_lent : (program : List ℕ) (l : Lent) → Starts program l
    → IsLentBy l running 0 (first_machine program)
unfolding starting_world
first_lent program l starts = record {
  shown = starts.shown;
  scene = starts.scene;
  is_so = refl;
  error_dictionary = ap (λ (a : Around). a.error_dictionary) (sym starts.around);
  printed = sym starts.printed;
  error_lines = refl;
}
