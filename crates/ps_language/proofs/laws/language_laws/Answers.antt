-- The laws of the language.
use Rattle.ps_language.proofs.OperandsKept.{turn_as-keeps}
use Rattle.ps_language.proofs.Refusals.{refused-unasked, refused-asked}
use Rattle.ps_language.proofs.Recorded.{recorded-same}
use Rattle.ps_language.proofs.WorldLaws.{step-unready, world-append}
use Rattle.ps_language.proofs.ScheduleLaws.{moves-added, longest-added, begins-part}
use Rattle.ps_language.proofs.PrintedSteps.{printed-begins}
use Rattle.ps_language.proofs.LiveLaws.{Live-unique, starting-live}
use Rattle.ps_language.proofs.Exists.{exists}
use Rattle.ps_language.proofs.Taken.{taken-less}
use Rattle.ps_language.proofs.LowestSteps.{after_moves-lowest}
use Rattle.ps_language.proofs.laws.language_laws.Goals as goal

pub returns-clause-kept : goal.returns-clause-kept
returns-clause-kept c around status scene = (turn_as-keeps around status scene.frames scene).0

pub returns-clause-unasked : goal.returns-clause-unasked
returns-clause-unasked c = refused-unasked

pub returns-clause-refused : goal.returns-clause-refused
returns-clause-refused c = refused-asked

pub returns-clause-unready : goal.returns-clause-unready
returns-clause-unready c now move unready =
    step-unready now move.context move.refused move.shown unready

pub returns-clause-recorded : goal.returns-clause-recorded
returns-clause-recorded c = recorded-same

pub returns-clause-onward : goal.returns-clause-onward
returns-clause-onward c = world-append

pub returns-clause-more : goal.returns-clause-more
returns-clause-more c = moves-added

pub returns-clause-longest : goal.returns-clause-longest
returns-clause-longest c = longest-added

pub returns-clause-begins : goal.returns-clause-begins
returns-clause-begins c = begins-part

pub returns-clause-prints : goal.returns-clause-prints
returns-clause-prints c = printed-begins

pub returns-clause-live : goal.returns-clause-live
returns-clause-live c = Live-unique

pub returns-clause-start : goal.returns-clause-start
returns-clause-start c = starting-live

pub returns-clause-exists : goal.returns-clause-exists
returns-clause-exists c = exists

pub returns-clause-taken : goal.returns-clause-taken
returns-clause-taken c now identifier context calling left m n found leaves lived lives =
    taken-less now identifier context found calling left leaves m n lived lives

pub returns-clause-lowest : goal.returns-clause-lowest
returns-clause-lowest c = after_moves-lowest
