use Rattle.ps_core_laws.specs.Runs.{run}
use Rattle.ps_core_laws.proofs.Closed.{still}
use Rattle.ps_core_laws.proofs.Kept.{good}
use Rattle.ps_core_laws.proofs.Replicating.{replicas_low}
use Rattle.ps_core_laws.proofs.LawFacts.{pairs_hold, replicas_agree, copy_agrees, names_standing, words_follow, ready}
use Rattle.ps_core_laws.proofs.LawFacts.{flips_so, forwards_old, carries_so}
use Rattle.ps_core_laws.proofs.Seconds.{seconds}
use Rattle.ps_core_laws.proofs.Reached.{exact, noted}
use Rattle.ps_core_laws.proofs.Births.{numbered}
use Rattle.ps_core_laws.proofs.KeptFacts.{kept}
use Rattle.ps_core_laws.proofs.Renames.{renames}
use Rattle.ps_core_laws.proofs.Spaced.{spaced}
use Rattle.ps_core_laws.proofs.law.Goals as goal

pub returns-clause-pairs : goal.returns-clause-pairs
returns-clause-pairs c = λ space size events h. pairs_hold space size (run space events)
    (good space size events h)

pub returns-clause-agreement : goal.returns-clause-agreement
returns-clause-agreement c =
    λ space size events h. replicas_agree space size (run space events) (good space size events h)

pub returns-clause-copying : goal.returns-clause-copying
returns-clause-copying c =
    λ space size events h. copy_agrees space size (run space events) (good space size events h)

pub returns-clause-references : goal.returns-clause-references
returns-clause-references c =
    λ space size events h. names_standing space size (run space events) (good space size events h)

pub returns-clause-taken : goal.returns-clause-taken
returns-clause-taken c = λ space size events h. (good space size events h).logs.begins

pub returns-clause-closed : goal.returns-clause-closed
returns-clause-closed c =
    λ space newer older slot h closed same. (still space slot newer older h closed).log same

pub returns-clause-old : goal.returns-clause-old
returns-clause-old c = λ b space size events h a p. forwards_old space size (run space events)
    (good space size events h) a b p

pub returns-clause-ready : goal.returns-clause-ready
returns-clause-ready c = λ space size events h roots p. ready space size (run space events)
    (good space size events h) roots p

pub returns-clause-carries : goal.returns-clause-carries
returns-clause-carries c =
    λ space size events h roots p. carries_so space size (run space events)
    (good space size events h) roots p

pub returns-clause-flips : goal.returns-clause-flips
returns-clause-flips c = λ space size events h roots p. flips_so space size (run space events)
    (good space size events h) roots p

pub returns-clause-words : goal.returns-clause-words
returns-clause-words c = λ space size events h. words_follow space size (run space events)
    (good space size events h)

pub returns-clause-forwarding : goal.returns-clause-forwarding
returns-clause-forwarding c = λ space size events h. (seconds space size events h).second

pub returns-clause-kept : goal.returns-clause-kept
returns-clause-kept c = kept

pub returns-clause-renames : goal.returns-clause-renames
returns-clause-renames c =
    λ space size events h. renames (run space events)
    (replicas_low space (run space events) (good space size events h) size)

pub returns-clause-made : goal.returns-clause-made
returns-clause-made c = λ space size events h header p. numbered (run space events) header
    (spaced space size events h).distinct p.vm.birth

pub returns-clause-noted : goal.returns-clause-noted
returns-clause-noted c = noted

pub returns-clause-reachable : goal.returns-clause-reachable
returns-clause-reachable c = λ space size events h roots p none same.
    exact space size events h roots p none same
