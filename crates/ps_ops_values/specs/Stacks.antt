-- The rows of the operators that show the whole operand stack (PLRM2, 8 'Operators': File).
use Rattle.std.specs.Prelude.{List}
use Rattle.ps_language.specs.Outcome.{Outcome, Printing}
use Rattle.ps_language.specs.RowsOutput.{stack_row, pstack_row}
use Rattle.ps_language.specs.Value.{Value, Store}
use Rattle.ps_text.specs.declared.lines.Form.{Form}
use Rattle.ps_text.specs.declared.lines.Form.TheVariants.{Plain, Full}

-- by the form of its lines
abbrev pub stack_row_as : Form → Store → List Value → Outcome Printing
stack_row_as Plain = stack_row
stack_row_as Full = pstack_row
