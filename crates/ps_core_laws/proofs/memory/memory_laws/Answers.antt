use Rattle.ps_core_laws.specs.Runs.{run}
use Rattle.ps_core_laws.proofs.Facts.{facts, part_knows, head_found}
use Rattle.ps_core_laws.proofs.Bodies.{makes_bodies}
use Rattle.ps_core_laws.proofs.Copied.{copies}
use Rattle.ps_core_laws.proofs.Counted.{counted}
use Rattle.ps_core_laws.proofs.Cycles.{grants, sees_heads, opens, closes_logs}
use Rattle.ps_core_laws.proofs.Flipped.{replicas_low, keeps-indexes}
use Rattle.ps_core_laws.proofs.GoesOn.{goes_on, loads_go_on}
use Rattle.ps_core_laws.proofs.Loads.{control_loads, field_loads, header_loads}
use Rattle.ps_core_laws.proofs.Room.{heap_start}
use Rattle.ps_core_laws.proofs.Stored.{rooms, stores, fills, logs, makes}
use Rattle.ps_core_laws.proofs.memory.memory_laws.Goals as goal

pub returns-clause-knows : goal.returns-clause-knows
returns-clause-knows c = part_knows c.law.ensures.kept

pub returns-clause-stores_go_on : goal.returns-clause-stores_go_on
returns-clause-stores_go_on c = goes_on

pub returns-clause-loads_go_on : goal.returns-clause-loads_go_on
returns-clause-loads_go_on c = λ v r. loads_go_on v

pub returns-clause-control : goal.returns-clause-control
returns-clause-control c = λ v r. control_loads v

pub returns-clause-loads : goal.returns-clause-loads
returns-clause-loads c = λ v r. field_loads c.law.ensures.words v
    (facts v (part_knows c.law.ensures.kept v r))

pub returns-clause-headers : goal.returns-clause-headers
returns-clause-headers c = λ v r. header_loads c.law.ensures.words v
    (facts v (part_knows c.law.ensures.kept v r))

pub returns-clause-counted : goal.returns-clause-counted
returns-clause-counted c = λ v r. counted v (part_knows c.law.ensures.kept v r)

pub returns-clause-room : goal.returns-clause-room
returns-clause-room c = λ v r. rooms v (facts v (part_knows c.law.ensures.kept v r))

pub returns-clause-stores : goal.returns-clause-stores
returns-clause-stores c = λ v r. stores v (facts v (part_knows c.law.ensures.kept v r))

pub returns-clause-logs : goal.returns-clause-logs
returns-clause-logs c = λ v r. logs v (facts v (part_knows c.law.ensures.kept v r))

pub returns-clause-fills : goal.returns-clause-fills
returns-clause-fills c = λ v r. fills v (facts v (part_knows c.law.ensures.kept v r))

pub returns-clause-copies : goal.returns-clause-copies
returns-clause-copies c = λ v r. copies v (facts v (part_knows c.law.ensures.kept v r))

pub returns-clause-makes : goal.returns-clause-makes
returns-clause-makes c = λ v r. makes v (facts v (part_knows c.law.ensures.kept v r))

pub returns-clause-bodies : goal.returns-clause-bodies
returns-clause-bodies c = λ v r. makes_bodies v (facts v (part_knows c.law.ensures.kept v r))

pub returns-clause-records : goal.returns-clause-records
returns-clause-records c = λ v r. grants v (part_knows c.law.ensures.kept v r)

pub returns-clause-heads : goal.returns-clause-heads
returns-clause-heads c = λ v r. sees_heads v (facts v (part_knows c.law.ensures.kept v r))
    (head_found c.law.ensures.words c.law.ensures.kept c.law.ensures.taken v)

pub returns-clause-opens : goal.returns-clause-opens
returns-clause-opens c = λ v r. opens v (part_knows c.law.ensures.kept v r)

pub returns-clause-closes : goal.returns-clause-closes
returns-clause-closes c = λ v r. closes_logs v (part_knows c.law.ensures.kept v r)

pub returns-clause-indexes : goal.returns-clause-indexes
returns-clause-indexes c = λ space size events h roots p.
    keeps-indexes (run space events) roots (c.law.ensures.pairs space size events h)
    (c.law.ensures.carries space size events h roots p)
    (c.law.ensures.flips space size events h roots p)
    (replicas_low (run space events) (c.law.ensures.kept space size events h))

pub returns-clause-start : goal.returns-clause-start
returns-clause-start c = heap_start
