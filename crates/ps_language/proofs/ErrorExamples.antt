-- Whole programs, computed: control, bind, access and errors. Each value is what the rules of the
-- standard and of this profile say.
use Rattle.std.specs.Prelude.{◌≡◌, Bool, true, false, [], ◌∷◌, codes}
use mathlib.Core.Path.{refl}
use Rattle.ps_language.specs.declared.errors.ErrorName.TheVariants.{LimitCheck}
use Rattle.ps_language.specs.declared.operators.Operator.TheVariants.{Add}
use Rattle.ps_language.specs.Value.{array_value, operator_value, array_object}
use Rattle.ps_language.specs.Effect.{Scene}
use Rattle.ps_language.specs.Outcome.{Outcome, leaves, fails}
use Rattle.ps_language.specs.Readers.{executable, whole}
use Rattle.ps_language.specs.StepBind.{bind_step}
use Rattle.ps_language.specs.Worlds.{world, printed, IsFaulted}
use Rattle.ps_language.proofs.Evaluation.{evaluation}
use Rattle.ps_language.proofs.ProgramExamples.{turns}

-- ---- control

-- exit ends at forall
left_forall : printed (codes "(ab) {exit} forall =") (turns 1 8 ∷ []) ≡ codes "97\n"
unfolding evaluation
left_forall = refl

-- the first of the two procedures is for true
chosen : printed (codes "true {1} {2} ifelse = false {1} {2} ifelse =") (turns 1 13 ∷ []) ≡ codes
    "1\n2\n"
unfolding evaluation
chosen = refl

-- a procedure is entered by its access
no_access : printed (codes "{1 2} noaccess exec") (turns 1 6 ∷ []) ≡ codes
    "%%[ Error: invalidaccess; OffendingCommand: --nostringval-- ]%%\n"
unfolding evaluation
no_access = refl

-- the dictionary stack holds 20
full_dictionary_stack : printed (codes "18 {1 dict begin} repeat countdictstack = 1 dict begin")
    (turns 1 84 ∷ []) ≡ codes "20\n%%[ Error: dictstackoverflow; OffendingCommand: begin ]%%\n"
unfolding evaluation
full_dictionary_stack = refl

-- systemdict is read-only
system_access : printed (codes "systemdict wcheck = systemdict rcheck =") (turns 1 7 ∷ []) ≡ codes
    "false\ntrue\n"
unfolding evaluation
system_access = refl

-- a // name behind a dictionary that can't be read is an invalidaccess
hidden_name : printed (codes "({//foo}) cvx 1 dict begin {currentdict noaccess pop exec} bind exec")
    (turns 1 18 ∷ []) ≡ codes "%%[ Error: invalidaccess; OffendingCommand: foo ]%%\n"
unfolding evaluation
hidden_name = refl

-- ---- bind

-- an inner procedure is read-only then
bound_inner : printed (codes "{{add}} bind 0 get wcheck =") (turns 1 10 ∷ []) ≡ codes "false\n"
unfolding evaluation
bound_inner = refl

-- a procedure in a procedure: the one of birth 1 in that of birth 0
abbrev nested : Scene
nested = record {
  operands = [];
  dictionaries = [];
  frames = [];
  store = array_object (executable (array_value (whole 1 1)) ∷ [])
      ∷ array_object (executable (operator_value Add) ∷ []) ∷ [];
  names = [];
}

-- one of depth 33 is too deep
bound_too_deep : bind_step (whole 0 1) 0 32 [] nested ≡ fails LimitCheck
unfolding evaluation
bound_too_deep = refl

-- whether there is no error
abbrev is_left : {A : Type 0} → Outcome A → Bool
is_left (leaves a) = true
is_left (fails error) = false

-- one of depth 32 is not
bound_deepest : is_left (bind_step (whole 0 1) 0 31 [] nested) ≡ true
unfolding evaluation
bound_deepest = refl

-- ---- $error

-- before an error there is no name of one
no_error : printed (codes "$error {== ==} forall") (turns 1 16 ∷ []) ≡ codes
    "false\n/newerror\nnull\n/errorname\nnull\n/command\n"
unfolding evaluation
no_error = refl

-- an absent key is added where there is room
added_key : printed (codes "$error /command undef 1 0 idiv") (turns 1 8 ∷ []) ≡ codes
    "%%[ Error: undefinedresult; OffendingCommand: idiv ]%%\n"
unfolding evaluation
added_key = refl

-- and only there
full_dictionary : printed (codes "$error /command undef $error begin 1 1 6 {dup def} for 1 0 idiv")
    (turns 1 40 ∷ []) ≡ codes "%%[ Error: undefinedresult; OffendingCommand: --nostringval-- ]%%\n"
unfolding evaluation
full_dictionary = refl

-- an error is new where newerror is true, and 1 is not
not_true : printed (codes "$error /newerror 1 put stop") (turns 1 7 ∷ []) ≡ []
unfolding evaluation
not_true = refl

-- once it was told it isn't new any more
told_once : printed (codes "mark {$error 1 0 idiv} fork join pop pop /newerror get =")
    (turns 1 3 ∷ turns 2 4 ∷ turns 1 7 ∷ []) ≡ codes
    "%%[ Error: undefinedresult; OffendingCommand: idiv ]%%\nfalse\n"
unfolding evaluation
told_once = refl

-- a line is counted
line_counted : IsFaulted (world (codes "foo") (turns 1 2 ∷ []))
unfolding evaluation
line_counted = refl
