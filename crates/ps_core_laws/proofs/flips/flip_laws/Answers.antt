use Rattle.std.proofs.Common.{◌∷◌}
use Rattle.ps_core_machine.specs.declared.events.Event.TheVariants.{CycleStore}
use Rattle.ps_core_laws.specs.Runs.{run, Whenever}
use Rattle.ps_core_laws.specs.Moves.{IsMovedTo}
use Rattle.ps_core_laws.specs.Flips.{AtFlip}
use Rattle.ps_core_laws.proofs.Moved.{always-moves}
use Rattle.ps_core_laws.proofs.FlipFacts.{keeps-reachable, keeps-numbers, renames-words, opens-logs, goes-on}
use Rattle.ps_core_laws.proofs.flips.flip_laws.Goals as goal

pub returns : goal.returns
returns c =
    let l = c.law.ensures in
    let m = c.moving_laws.ensures in
    let moves : Whenever CycleStore (AtFlip IsMovedTo) =
    always-moves l.kept l.pairs l.carries l.flips in
    record {
      moves = moves;
      objects = λ space size events h roots p. m.objects _ _ _ (moves space size events h roots p);
      numbers = λ space size events h roots p. keeps-numbers (run space events) roots
          (moves space size events h roots p) m.room (l.kept space size events h).mutator;
      reachable = λ space size events h roots p. keeps-reachable (run space events) roots
          (l.ready space size events h roots p).carried (l.carries space size events h roots p);
      words = λ space size events h roots p. renames-words (run space events) roots
          (moves space size events h roots p) m.words;
      roots = λ space size events h roots p. renames-words (run space events) roots
          (moves space size events h roots p) m.words roots
          (l.ready space size events h roots p).carried;
      sound = λ space size events h roots p. m.sound _ _ _ (moves space size events h roots p);
      shown = λ space size events h roots p. m.shown _ _ _ (moves space size events h roots p);
      grants = λ space size events h roots p. opens-logs (run space events) roots p.vm.0
          (l.kept space size (CycleStore roots ∷ events) (h, p)).mutator;
      goes_on = goes-on;
    }
