-- The world at the start of a program, and the world after a schedule (PLRM2, 3.7, 7.1).
use Rattle.std.specs.Prelude.{ℕ, suc, ℤ, Bool, true, false, not, Option, Some, None, ◌&&◌, ◌||◌}
use Rattle.std.specs.Prelude.{List, [], ◌∷◌, ◌++◌, map, nat_eq, IsTrue, codes}
use Rattle.std.specs.List.{list_all}
use Rattle.std.specs.Option.{option_map_or}
use Rattle.ps_language.specs.declared.access.Access.TheVariants.{Unlimited, ReadOnly}
use Rattle.ps_language.specs.declared.operators.Operator.{Operator}
use Rattle.ps_language.specs.declared.errors.ErrorName.{ErrorName}
use Rattle.ps_language.specs.declared.errors.ErrorName.TheVariants.{DictStackOverflow}
use Rattle.ps_language.specs.declared.errors.ErrorName.TheVariants.{DictStackUnderflow}
use Rattle.ps_language.specs.declared.errors.ErrorName.TheVariants.{ExecStackOverflow}
use Rattle.ps_language.specs.declared.errors.ErrorName.TheVariants.{InvalidAccess, InvalidContext}
use Rattle.ps_language.specs.declared.errors.ErrorName.TheVariants.{InvalidExit, LimitCheck}
use Rattle.ps_language.specs.declared.errors.ErrorName.TheVariants.{RangeCheck, StackOverflow}
use Rattle.ps_language.specs.declared.errors.ErrorName.TheVariants.{StackUnderflow, SyntaxError}
use Rattle.ps_language.specs.declared.errors.ErrorName.TheVariants.{TypeCheck, Undefined}
use Rattle.ps_language.specs.declared.errors.ErrorName.TheVariants.{UndefinedResult, UnmatchedMark}
use Rattle.ps_language.specs.declared.errors.ErrorName.TheVariants.{VmError}
use Rattle.ps_language.specs.Value.{What, name_value, operator_value, dictionary_value, Value}
use Rattle.ps_language.specs.Value.{Dictionary, Object, dictionary_object}
use Rattle.ps_language.specs.World.{from_program, text_frame, running, Context, World}
use Rattle.ps_language.specs.declared.schedules.Entry.{Entry}
use Rattle.ps_language.specs.Schedules.{Move, moves}
use Rattle.ps_language.specs.Operators.{every_operator, operator_name}
use Rattle.ps_language.specs.Readers.{literal, executable, null, boolean, literal_name}
use Rattle.ps_language.specs.StepErrors.{error_text, new_error_pairs, new_error_dictionary}
use Rattle.ps_language.specs.Contexts.{is_finished}
use Rattle.ps_language.specs.Locks.{is_ready}
use Rattle.ps_language.specs.Effect.{Note, shows_memory}
use Rattle.ps_language.specs.Step.{stepped, step}

-- the birth numbers of the first three objects
abbrev pub systemdict : ℕ
systemdict = 0

-- where definitions go at first
abbrev pub userdict : ℕ
userdict = 1

-- $error of the first context
abbrev pub first_error_dictionary : ℕ
first_error_dictionary = 2

-- how a program sees the first
abbrev pub system_value : Value
system_value = literal (dictionary_value systemdict)

-- and the second
abbrev pub user_value : Value
user_value = literal (dictionary_value userdict)

-- an operator under its name
abbrev pub operator_pair : Operator → Value × Value
operator_pair operator = (
  literal_name (operator_name operator),
  executable
      (operator_value operator),
)

-- the names that have values
abbrev pub value_pairs : List (Value × Value)
value_pairs =
    (literal_name (codes "true"), boolean true) ∷
    (literal_name (codes "false"), boolean false) ∷
    (literal_name (codes "null"), null) ∷
    (literal_name (codes "systemdict"), system_value) ∷
    (literal_name (codes "userdict"), user_value) ∷ []

-- the operators by number, then the values
unfoldable pub system_pairs : List (Value × Value)
system_pairs = map operator_pair every_operator ++ value_pairs

-- systemdict
abbrev pub system_dictionary : Dictionary
system_dictionary = record { pairs = system_pairs; capacity = 128; access = ReadOnly }

-- userdict
abbrev pub user_dictionary : Dictionary
user_dictionary = record { pairs = []; capacity = 32; access = Unlimited }

-- these three
abbrev pub first_store : List Object
first_store = dictionary_object system_dictionary ∷ dictionary_object user_dictionary
    ∷ new_error_dictionary ∷ []

-- by the type
abbrev pub text_in : What → List ℕ
text_in (name_value text) = text
text_in _ = []

-- the names under which values stand
abbrev pub names_of : List (Value × Value) → List (List ℕ)
names_of pairs = map (λ pair. text_in pair.0.what) pairs

-- the errors by the letter
abbrev pub every_error : List ErrorName
every_error =
    DictStackOverflow ∷ DictStackUnderflow ∷ ExecStackOverflow ∷ InvalidAccess ∷ InvalidContext
    ∷ InvalidExit ∷
    LimitCheck ∷ RangeCheck ∷ StackOverflow ∷ StackUnderflow ∷ SyntaxError ∷ TypeCheck ∷
    Undefined ∷ UndefinedResult ∷ UnmatchedMark ∷ VmError ∷ []

-- what type gives
abbrev pub type_names : List (List ℕ)
type_names =
    codes "integertype" ∷ codes "booleantype" ∷ codes "nulltype" ∷ codes "marktype"
    ∷ codes "nametype" ∷ codes "operatortype" ∷
    codes "arraytype" ∷ codes "stringtype" ∷ codes "dicttype" ∷ codes "locktype"
    ∷ codes "conditiontype" ∷ []

-- The names met at the start, in this order: the errors by the letter, the types of values, the
-- keys of $error, what systemdict has beside the operators, and the operators in theirs
unfoldable pub first_names : List (List ℕ)
first_names = map error_text every_error ++ type_names ++ names_of new_error_pairs
    ++ names_of value_pairs ++ map operator_name every_operator

-- the first context, about to scan the program
abbrev pub first_context : Context
first_context =
    record {
      operands = [];
      dictionaries = user_value ∷ system_value ∷ [];
      frames = text_frame from_program 0 ∷ [];
      error_dictionary = first_error_dictionary;
      is_detached = false;
      status = running;
    }

-- the world before the first step
unfoldable pub starting_world : (program : List ℕ) → World
starting_world program =
    record {
      program = program;
      store = first_store;
      contexts = Some first_context ∷ [];
      printed = [];
      error_lines = 0;
      names = first_names;
    }

-- what the schedule keeps of what was shown: the pair, where a vmstatus acted
abbrev pub kept_pair : Note → Option (ℤ × ℤ) → Option (ℤ × ℤ)
kept_pair shows_memory shown = shown
kept_pair _ shown = None

-- a step as the schedule keeps it
abbrev pub recorded : World → Move → Move
recorded now move = record move
    { shown = kept_pair (stepped now move.context move.refused move.shown).note move.shown }

-- one step
abbrev pub after_move : World → Move → World
after_move now move = step now move.context move.refused move.shown

-- step after step
unfoldable pub after_moves : World → List Move → World
after_moves now [] = now
after_moves now (move ∷ rest) = after_moves (after_move now move) rest

-- the world of a program after a schedule
unfoldable pub world : (program : List ℕ) → (schedule : List Entry) → World
world program schedule = after_moves (starting_world program) (moves schedule)

-- the bytes that it printed
unfoldable pub printed : (program : List ℕ) → (schedule : List Entry) → List ℕ
printed program schedule = (world program schedule).printed

-- whether each step is one of a context that is ready just before it
abbrev pub all_ready : World → List Move → Bool
all_ready now [] = true
all_ready now (move ∷ rest) = is_ready now move.context && all_ready (after_move now move) rest

-- a schedule all of whose steps are made
unfoldable pub IsProper : (program : List ℕ) → (schedule : List Entry) → Type 0
IsProper program schedule = IsTrue (all_ready (starting_world program) (moves schedule))

-- ---- outcomes

-- a context that is finished or ended
abbrev pub is_over : Option Context → Bool
is_over context = option_map_or (λ there. is_finished there.status) context true

-- each context is finished or ended
unfoldable pub is_all_over : World → Bool
is_all_over now = list_all is_over now.contexts

-- whether one of the contexts from an identifier on is ready
abbrev pub is_one_ready : World → ℕ → List (Option Context) → Bool
is_one_ready now identifier [] = false
is_one_ready now identifier (context ∷ contexts) =
    is_ready now identifier || is_one_ready now (suc identifier) contexts

-- whether any context is ready
unfoldable pub is_some_ready : World → Bool
is_some_ready now = is_one_ready now 1 now.contexts

-- all is over and no error line was printed
abbrev pub IsFinished : World → Type 0
IsFinished now = IsTrue (is_all_over now && nat_eq now.error_lines 0)

-- all is over and an error line was printed
abbrev pub IsFaulted : World → Type 0
IsFaulted now = IsTrue (is_all_over now && not (nat_eq now.error_lines 0))

-- a context is left, and none is ready
abbrev pub IsAllWaiting : World → Type 0
IsAllWaiting now = IsTrue (not (is_all_over now) && not (is_some_ready now))
