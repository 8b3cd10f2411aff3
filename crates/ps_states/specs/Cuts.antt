-- The lines of the cuts of a run.
use Rattle.std.specs.Prelude.{ℕ, List}
use Rattle.ps_language.specs.World.{World}
use Rattle.ps_views.specs.declared.cuts.CutAt.{CutAt}
use Rattle.ps_views.specs.declared.cuts.Turn.{Turn}
use Rattle.ps_views.specs.Cuts.{cut_line}
use Rattle.ps_states.specs.Charts.{Chart}
use Rattle.ps_states.specs.Next.{Next}
use Rattle.ps_states.specs.Steps.{step_next}

-- a context that could step, by what its next step does
abbrev pub turn_of : (context : ℕ) → Next → Turn
turn_of context next =
    record { context = context; position = next.position; coming = next.coming }

-- the line of a cut, by the world before it
abbrev pub cut_text : Chart → World → CutAt → List ℕ
cut_text chart now cut = cut_line chart.file (record {
  behind = cut.behind;
  left = turn_of cut.left (step_next chart now cut.left);
  other = turn_of cut.other (step_next chart now cut.other);
}) (step_next chart now cut.left).value
