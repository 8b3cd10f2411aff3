use Rattle.ps_mem.specs.Objects.{heap_in}
use Rattle.ps_vault.proofs.Beginning.{nothing_stands}
use Rattle.ps_cuts.proofs.Standing.{nothing_made}
use Rattle.ps_cuts.proofs.runs.PlainRun.new.Goals as goal

pub new-requires : goal.new-requires
unfolding heap_in
new-requires g c = record { empty = nothing_stands _ _ c.plain_with_marks.ensures }

pub returns-clause-made : goal.returns-clause-made
returns-clause-made g c =
    nothing_made c.in_ok-vault.vault c.in_ok-path.path.items c.in_ok-vault.ensures.calling
    c.in_ok-vault.ensures.schedule c.in_ok-path.ensures.items
