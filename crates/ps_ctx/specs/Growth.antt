-- What growth a step may want, and when it may fail.
use Rattle.std.specs.Prelude.{ℕ, ◌+◌, ◌&&◌, ◌||◌, nat_lt, Bool, false}
use Rattle.ps_ops_state.specs.Acts.{Needs}
use Rattle.ps_step_interpreter.specs.Needs.{wants}

-- room for the words of new objects, and their birth numbers; beside: for anything that isn't an
-- object of the memory, as a new context, bytes that are printed, a name, or what is read
pub record Growth : Type 0 where
  pub words : ℕ
  pub births : ℕ
  pub beside : Bool

abbrev pub no_growth : Growth
no_growth = record { words = 0; births = 0; beside = false }

-- of what is asked for
abbrev pub growth_for : Needs → Growth
growth_for needs =
    record { words = needs.words; births = needs.births; beside = wants false needs }

-- of both
abbrev pub growth_of_both : (one other : Growth) → Growth
growth_of_both one other =
    record {
      words = one.words + other.words;
      births = one.births + other.births;
      beside = one.beside || other.beside;
    }

-- whether it may fail: room for objects only where the memory grows
abbrev pub may_fail : (grows : Bool) → Growth → Bool
may_fail grows growth = (nat_lt 0 growth.words && grows) || growth.beside
