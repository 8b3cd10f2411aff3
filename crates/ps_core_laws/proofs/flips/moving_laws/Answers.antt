use Rattle.ps_core_laws.proofs.Words.{words-moved}
use Rattle.ps_core_laws.proofs.Objects.{objects-moved, sound-moved, shown_all-moved}
use Rattle.ps_core_laws.proofs.ReachedObjects.{are-reached}
use Rattle.ps_core_laws.proofs.FlipSizes.{room-moved}
use Rattle.ps_core_laws.proofs.flips.moving_laws.Goals as goal

pub returns-clause-objects : goal.returns-clause-objects
returns-clause-objects c = objects-moved

pub returns-clause-room : goal.returns-clause-room
returns-clause-room c = room-moved

pub returns-clause-words : goal.returns-clause-words
returns-clause-words c = words-moved

pub returns-clause-sound : goal.returns-clause-sound
returns-clause-sound c = sound-moved

pub returns-clause-shown : goal.returns-clause-shown
returns-clause-shown c = shown_all-moved

pub returns-clause-reached : goal.returns-clause-reached
returns-clause-reached c = are-reached
