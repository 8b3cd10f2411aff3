-- Operators that take no memory, by their rows.
use Rattle.std.proofs.Common.{◌≡◌, List, refl}
use Rattle.ps_language.specs.declared.operators.Operator.{Operator}
use Rattle.ps_language.specs.declared.operators.Operator.TheVariants.{Pop, Exch, Dup, Index, Roll, Clear, Count, Mark}
use Rattle.ps_language.specs.declared.operators.Operator.TheVariants.{ClearToMark, CountToMark, Add, Sub, Mul, Idiv}
use Rattle.ps_language.specs.declared.operators.Operator.TheVariants.{Mod, Neg, Abs, Eq, Ne, Gt, Ge, Lt, Le, And, Or}
use Rattle.ps_language.specs.declared.operators.Operator.TheVariants.{Xor, Not, Bitshift}
use Rattle.ps_language.specs.Acts.{effect_of, operands_effect}
use Rattle.ps_language.specs.Effect.{Scene, Effect, makes, unwinds, raises, calls}
use Rattle.ps_language.specs.Outcome.{Outcome, leaves, fails}
use Rattle.ps_language.specs.Rows.{operand_row, reading_row}
use Rattle.ps_language.specs.RowsArithmetic.{add_row, sub_row, mul_row, idiv_row, mod_row, neg_row, abs_row}
use Rattle.ps_language.specs.RowsArithmetic.{bitshift_row, and_row, or_row, xor_row, not_row}
use Rattle.ps_language.specs.RowsRelations.{eq_row, ne_row, gt_row, ge_row, lt_row, le_row}
use Rattle.ps_language.specs.RowsStack.{pop_row, exch_row, dup_row, index_row, roll_row, clear_row, count_row, mark_row}
use Rattle.ps_language.specs.RowsStack.{cleartomark_row, counttomark_row}
use Rattle.ps_language.specs.Value.{Value, Store}
use Rattle.ps_ops_state.specs.Acts.{nothing_asked, no_rooms}
use Rattle.ps_step_execute.specs.Frugal.{IsOnOperands, IsFrugal, AreFrugal}
use Rattle.ps_ops.specs.Operators.{row_now, asked_of}
use Rattle.ps_ops.specs.Turns.{asked_by, operator_asks}
use Rattle.ps_ops.specs.Frugal.{frugal_operators}

on_operands : (scene : Scene) (outcome : Outcome (List Value))
    → IsOnOperands scene (operands_effect scene outcome)
on_operands scene (leaves operands) = (refl, refl)
on_operands scene (fails error) = _

asks_nothing : (effect : Effect) (scene : Scene)
    → (asked_by effect scene nothing_asked).scratch ≡ no_rooms
asks_nothing (makes after output) scene = refl
asks_nothing (unwinds cause after) scene = refl
asks_nothing (raises error) scene = refl
asks_nothing (calls deed) scene = refl

-- a row over operands alone, of an operator that asks for nothing
by_operands : (operator : Operator) (does : List Value → Outcome (List Value))
    → row_now operator ≡ operand_row does → asked_of operator ≡ nothing_asked
    → IsFrugal operator_asks operator
by_operands operator does row asked = record {
  effect = λ around scene. rw row (on_operands scene (does scene.operands));
  asked = λ around scene.
      rw asked (asks_nothing (effect_of (row_now operator) around scene) scene);
}

-- one that reads objects
by_reading : (operator : Operator) (does : Store → List Value → Outcome (List Value))
    → row_now operator ≡ reading_row does → asked_of operator ≡ nothing_asked
    → IsFrugal operator_asks operator
by_reading operator does row asked = record {
  effect = λ around scene. rw row (on_operands scene (does scene.store scene.operands));
  asked = λ around scene.
      rw asked (asks_nothing (effect_of (row_now operator) around scene) scene);
}

pub frugal : AreFrugal operator_asks frugal_operators
frugal = (
  by_operands Pop pop_row refl refl,
  (
    by_operands Exch exch_row refl refl,
    (
      by_operands Dup dup_row refl refl,
      (
        by_operands Index index_row refl refl,
        (
          by_operands Roll roll_row refl refl,
          (
            by_operands Clear clear_row refl refl,
            (
              by_operands Count count_row refl refl,
              (
                by_operands Mark mark_row refl refl,
                (
                  by_operands ClearToMark cleartomark_row refl refl,
                  (
                    by_operands CountToMark counttomark_row refl refl,
                    (
                      by_operands Add add_row refl refl,
                      (
                        by_operands Sub sub_row refl refl,
                        (
                          by_operands Mul mul_row refl refl,
                          (
                            by_operands Idiv idiv_row refl refl,
                            (
                              by_operands Mod mod_row refl refl,
                              (
                                by_operands Neg neg_row refl refl,
                                (
                                  by_operands Abs abs_row refl refl,
                                  (
                                    by_reading Eq eq_row refl refl,
                                    (
                                      by_reading Ne ne_row refl refl,
                                      (
                                        by_reading Gt gt_row refl refl,
                                        (
                                          by_reading Ge ge_row refl refl,
                                          (
                                            by_reading Lt lt_row refl refl,
                                            (
                                              by_reading Le le_row refl refl,
                                              (
                                                by_operands And and_row refl refl,
                                                (
                                                  by_operands Or or_row refl refl,
                                                  (
                                                    by_operands Xor xor_row refl refl,
                                                    (
                                                      by_operands Not not_row refl refl,
                                                      (
                                                        by_operands Bitshift bitshift_row refl refl,
                                                        _,
                                                      ),
                                                    ),
                                                  ),
                                                ),
                                              ),
                                            ),
                                          ),
                                        ),
                                      ),
                                    ),
                                  ),
                                ),
                              ),
                            ),
                          ),
                        ),
                      ),
                    ),
                  ),
                ),
              ),
            ),
          ),
        ),
      ),
    ),
  ),
)
