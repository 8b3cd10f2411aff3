-- What the values of the code stand for.
use Rattle.ps_states.specs.declared.charts.Chart.{Chart as ChartOf}
use Rattle.ps_states.specs.declared.next.Next.{Next as NextOf}
use Rattle.ps_states.specs.Charts.{Chart}
use Rattle.ps_states.specs.declared.steps.Known.{Known as KnownOf}
use Rattle.ps_states.specs.Next.{Next}
use Rattle.ps_states.specs.Steps.{Known}

-- what a run is told by
abbrev pub chart_of : ChartOf → Chart
chart_of chart =
    record { file = chart.file.now; program = chart.program.now; origins = chart.origins.now }

-- what the next step does
abbrev pub next_shown : NextOf → Next
next_shown next =
    record { coming = next.coming; value = next.value.items; position = next.position }

-- what is known before a step
abbrev pub known_shown : KnownOf → Known
known_shown known = record {
  step = known.by.step;
  context = known.by.context;
  is_made = known.is_made;
  next = next_shown known.next;
  contexts = known.contexts;
  printed = known.printed;
  locks = known.locks.items;
  stops = known.stops;
}
