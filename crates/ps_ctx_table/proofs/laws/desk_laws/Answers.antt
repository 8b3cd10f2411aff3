use Rattle.ps_ctx_table.proofs.Beginning.{first_world}
use Rattle.ps_ctx_table.proofs.Changing.{more_world, gone_world, changed_world, notified_world}
use Rattle.ps_ctx_table.proofs.Lifting.{settled_world}
use Rattle.ps_ctx_table.proofs.Named.{named_same}
use Rattle.ps_ctx_table.proofs.Owning.{went_moves}
use Rattle.ps_ctx_table.proofs.Stepping.{turned_steps}
use Rattle.ps_ctx_table.proofs.Turning.{went_steady, turned_machine, turned_world, turned_steady, unmade_world}
use Rattle.ps_ctx_table.proofs.Turning.{unmade_steady}
use Rattle.ps_ctx_table.proofs.laws.desk_laws.Goals as goal

pub returns-clause-turn : goal.returns-clause-turn
returns-clause-turn c = λ d w identifier member asks turn attempt new turned shown at steady found
    made may is. (
      turned_machine d steady identifier member found asks turn attempt new turned made w at,
      turned_steps d w at identifier member found steady asks turn attempt new turned made shown may
          is,
      turned_world d steady identifier member found asks turn attempt new turned made w at,
      turned_steady d steady identifier member found asks turn attempt new turned made,
    )

pub returns-clause-unmade : goal.returns-clause-unmade
returns-clause-unmade c = λ d w identifier member asks turn attempt new reason at steady found
    unmade. (
      unmade_world d steady identifier member found asks turn attempt new reason unmade w at,
      unmade_steady d steady identifier member found asks turn attempt new reason unmade,
    )

pub returns-clause-moves : goal.returns-clause-moves
returns-clause-moves c = λ d w identifier member new course made next at steady found keeps stays
    good held own lasts lent. (
      went_moves d steady identifier member new course d.has_faulted keeps stays good held w at
          found made w.error_lines next own lasts lent at.faulted,
      went_steady d steady identifier member new course d.has_faulted keeps stays good held,
    )

pub returns-clause-settles : goal.returns-clause-settles
returns-clause-settles c = λ d w identifier member at found runs.
    settled_world d w at identifier member found runs

pub returns-clause-more : goal.returns-clause-more
returns-clause-more c = λ d w member at shown. more_world d member w at shown

pub returns-clause-gone : goal.returns-clause-gone
returns-clause-gone c = λ d w identifier at. gone_world d identifier w at

pub returns-clause-changed : goal.returns-clause-changed
returns-clause-changed c = λ d w identifier member at shown.
    changed_world d identifier member w at shown

pub returns-clause-notified : goal.returns-clause-notified
returns-clause-notified c = λ d w condition at steady stands.
    notified_world d steady condition stands w at

pub returns-clause-named : goal.returns-clause-named
returns-clause-named c = λ d w identifier at.
    named_same d.heap d.names d.members w identifier at.contexts

pub returns-clause-first : goal.returns-clause-first
returns-clause-first c = λ l course is_detached has_faulted lines machine lent faulted.
    first_world l course is_detached has_faulted lines machine lent faulted
