-- The errors stand by the letter.
use Rattle.std.proofs.Common.{◌≡◌, ◌+◌, Some, refl}
use Rattle.std.specs.Prelude.{slice_get}
use Rattle.ps_language.specs.declared.errors.ErrorName.{ErrorName}
use Rattle.ps_language.specs.declared.errors.ErrorName.TheVariants.{DictStackOverflow, DictStackUnderflow}
use Rattle.ps_language.specs.declared.errors.ErrorName.TheVariants.{ExecStackOverflow, InvalidAccess, InvalidContext}
use Rattle.ps_language.specs.declared.errors.ErrorName.TheVariants.{InvalidExit, LimitCheck, RangeCheck, StackOverflow}
use Rattle.ps_language.specs.declared.errors.ErrorName.TheVariants.{StackUnderflow, SyntaxError, TypeCheck, Undefined}
use Rattle.ps_language.specs.declared.errors.ErrorName.TheVariants.{UndefinedResult, UnmatchedMark, VmError}
use Rattle.ps_language.specs.StepErrors.{error_text}
use Rattle.ps_language.specs.Worlds.{first_names}
use denote.Enum.Declared.{tag_of}
use Rattle.ps_language.specs.contracts.errors.ErrorName.{the_type}
use Rattle.ps_step_outcome.proofs.notes.error_number.Goals as goal

first_at : (error : ErrorName)
    → slice_get first_names (0 + tag_of the_type error) ≡ Some (error_text error)
unfolding first_names
first_at DictStackOverflow = refl
first_at DictStackUnderflow = refl
first_at ExecStackOverflow = refl
first_at InvalidAccess = refl
first_at InvalidContext = refl
first_at InvalidExit = refl
first_at LimitCheck = refl
first_at RangeCheck = refl
first_at StackOverflow = refl
first_at StackUnderflow = refl
first_at SyntaxError = refl
first_at TypeCheck = refl
first_at Undefined = refl
first_at UndefinedResult = refl
first_at UnmatchedMark = refl
first_at VmError = refl

pub returns-clause-name : goal.returns-clause-name
returns-clause-name c = first_at c.args.error
