use Rattle.ps_gc_roots.proofs.Membering.{members-values, members-format}
use Rattle.ps_gc_roots.proofs.Moving.{moved-keeps, granted-keeps}
use Rattle.ps_gc_roots.proofs.Whole.{whole-lives}
use Rattle.ps_gc_roots.proofs.laws.root_laws.Goals as goal

pub returns-clause-values : goal.returns-clause-values
returns-clause-values c = λ d steady addressed. members-values d addressed d.members steady.members

pub returns-clause-formats : goal.returns-clause-formats
returns-clause-formats c = λ d steady addressed. members-format d addressed d.members steady.members

pub returns-clause-moved : goal.returns-clause-moved
returns-clause-moved c = λ d now grants forward calling moves have addressed steady.
    moved-keeps d now grants forward moves addressed have calling steady

pub returns-clause-granted : goal.returns-clause-granted
returns-clause-granted c = granted-keeps

pub returns-clause-lives : goal.returns-clause-lives
returns-clause-lives c = λ d now forward w moves have just addressed steady at.
    whole-lives d now d.grants forward moves have just addressed steady w at
