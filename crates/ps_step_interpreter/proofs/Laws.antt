-- A step of a context by itself: of one that is ready, and of one that is not.
use Rattle.std.proofs.Common.{◌≡◌, ℕ, true, false, List, [], refl}
use Rattle.ps_language.specs.Schedules.{Move}
use Rattle.ps_language.specs.World.{Machine}
use Rattle.ps_step_interpreter.specs.Alone.{alone_step, is_alone_ready, after_alone_move}

-- ---- steps

-- of a context that isn't ready
pub unready_move : (program : List ℕ) (machine : Machine) (move : Move)
    → is_alone_ready machine move.context ≡ false
    → after_alone_move program machine move ≡ machine
unfolding after_alone_move
unready_move program machine move unready = rw (after_alone_move, unready) refl

-- of one that is
pub ready_move : (program : List ℕ) (machine : Machine) (move : Move)
    → is_alone_ready machine move.context ≡ true
    → after_alone_move program machine move ≡ alone_step program move.refused machine
unfolding after_alone_move
ready_move program machine move ready = rw (after_alone_move, ready) refl
