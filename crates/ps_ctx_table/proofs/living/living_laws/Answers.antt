use Rattle.ps_ctx_table.proofs.Reached.{reachable-stands, live-stands}
use Rattle.ps_ctx_table.proofs.living.living_laws.Goals as goal

pub returns-clause-stands : goal.returns-clause-stands
returns-clause-stands c = λ d w identifier context birth at steady found lowest reachable.
    reachable-stands d w at steady identifier context found lowest birth reachable

pub returns-clause-words : goal.returns-clause-words
returns-clause-words c = λ d w identifier context words at steady addressed found lowest live.
    live-stands d w at steady identifier context found lowest addressed words live
