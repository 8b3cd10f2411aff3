-- The values that a context has, as they are seen from outside (PLRM2, 3.3, 3.4, 3.7.1, 3.10).
use Rattle.std.specs.Prelude.{◌≡◌, ◌++◌, ℕ, List, [], length, drop, nat_le, slice_get}
use Rattle.std.specs.Prelude.{Bool, Option, Some, None, IfSome, Result, Ok, Err, if◌then◌else◌}
use Rattle.ps_language.specs.Access.{dictionary_at, part_bytes}
use Rattle.ps_language.specs.Contexts.{context_at}
use Rattle.ps_language.specs.Dictionaries.{find}
use Rattle.ps_language.specs.Lowest.{HasFirstDictionaries}
use Rattle.ps_language.specs.Operators.{operator_name}
use Rattle.ps_language.specs.Readers.{literal_name}
use Rattle.ps_language.specs.StepErrors.{errorname_key, command_key}
use Rattle.ps_language.specs.Value.{What, null_value, mark_value, integer_value, boolean_value}
use Rattle.ps_language.specs.Value.{name_value, operator_value, array_value, string_value}
use Rattle.ps_language.specs.Value.{dictionary_value, lock_value, condition_value, Value, Store}
use Rattle.ps_language.specs.World.{Context, World}
use Rattle.ps_language.specs.Worlds.{userdict}
use Rattle.ps_ctx_readers.specs.declared.views.Place.{Place}
use Rattle.ps_ctx_readers.specs.declared.views.Place.TheVariants.{Operand, ErrorName, ErrorCommand}
use Rattle.ps_ctx_readers.specs.declared.views.Place.TheVariants.{Definition}
use Rattle.ps_ctx_readers.specs.declared.views.Untold.{Untold}
use Rattle.ps_ctx_readers.specs.declared.views.Untold.TheVariants.{NoContext, NoValue}
use Rattle.ps_ctx_readers.specs.declared.views.ToldValue.{ToldValue}
use Rattle.ps_ctx_readers.specs.declared.views.ValueView.{ValueView}
use Rattle.ps_ctx_readers.specs.declared.views.WhatView.{WhatView}
use Rattle.ps_ctx_readers.specs.declared.views.WhatView.TheVariants.{Null, Mark, Integer, Boolean}
use Rattle.ps_ctx_readers.specs.declared.views.WhatView.TheVariants.{Name, Operator, Array, Text}
use Rattle.ps_ctx_readers.specs.declared.views.WhatView.TheVariants.{Dictionary, Lock, Condition}

-- ---- a value

-- a simple one as it is, and of another how much it holds
abbrev pub what_seen : Store → What → WhatView
what_seen store null_value = Null
what_seen store mark_value = Mark
what_seen store (integer_value number) = Integer number
what_seen store (boolean_value truth) = Boolean truth
what_seen store (name_value text) = Name (length text)
what_seen store (operator_value operator) = Operator (length (operator_name operator))
what_seen store (array_value part) = Array part.count
what_seen store (string_value part) = Text part.count
what_seen store (dictionary_value birth) = Dictionary (length (dictionary_at store birth).pairs)
what_seen store (lock_value birth) = Lock
what_seen store (condition_value birth) = Condition

-- with its attribute
abbrev pub value_seen : Store → Value → ValueView
value_seen store v = record { what = what_seen store v.what; executable = v.executable }

-- the bytes of a string, and of the name that a name or an operator is; nothing else has any
abbrev pub bytes_seen : Store → What → List ℕ
bytes_seen store (name_value text) = text
bytes_seen store (operator_value operator) = operator_name operator
bytes_seen store (string_value part) = part_bytes store part
bytes_seen store _ = []

-- ---- where it is

-- what a context has there: an operand below so many others, what its $error has, and what userdict
-- has under a name
abbrev pub value_in : Place → Store → Context → Option Value
value_in (Operand depth) store one = slice_get one.operands depth
value_in ErrorName store one = find (dictionary_at store one.error_dictionary).pairs errorname_key
value_in ErrorCommand store one = find (dictionary_at store one.error_dictionary).pairs command_key
value_in (Definition key) store one =
    find (dictionary_at store userdict).pairs (literal_name key.now)

-- what was found, or that there is none
abbrev pub told : {A : Type 0} → Option A → Result A Untold
told None = Err NoValue
told (Some found) = Ok found

abbrev pub told_in : Place → Store → Option Context → Result Value Untold
told_in place store None = Err NoContext
told_in place store (Some one) = told (value_in place store one)

-- of the context of an identifier
abbrev pub value_told : World → (context : ℕ) → Place → Result Value Untold
value_told now context place = told_in place now.store (context_at now context)

-- the lowest dictionaries of the context, if it is there, are the first ones
abbrev pub HasLowest : Option Context → Type 0
HasLowest found = IfSome found (λ one. HasFirstDictionaries one.dictionaries)

-- ---- what a room is handed

-- all of these bytes at the front of a room that has place for them, and behind them what it had;
-- in another what it had
abbrev pub written : (bytes room : List ℕ) → List ℕ
written bytes room =
    if nat_le (length bytes) (length room) then bytes ++ drop (length bytes) room else room

-- these were written, or there is no place for them, as is told
pub record IsWritten (bytes old new : List ℕ) (whole : Bool) : Type 0 where
  pub room : new ≡ written bytes old
  pub told : whole ≡ nat_le (length bytes) (length old)

-- a value is told as it is seen, and its bytes were written
pub record IsToldOf (store : Store) (v : Value) (old new : List ℕ) (told : ToldValue) : Type 0
  where
    pub view : told.view ≡ value_seen store v
    pub bytes : IsWritten (bytes_seen store v.what) old new told.whole

-- of what was found; else it is told why not, and nothing was written
abbrev pub IsToldAs : Store → (found : Result Value Untold) → (old new : List ℕ)
    → Result ToldValue Untold → Type 0
IsToldAs store (Ok v) old new (Ok told) = IsToldOf store v old new told
IsToldAs store (Err why) old new (Err told) = (told ≡ why) × (new ≡ old)
IsToldAs store found old new told = ⊥

-- of what a context of a world has at a place
abbrev pub IsTold : World → (context : ℕ) → Place → (old new : List ℕ) → Result ToldValue Untold
    → Type 0
IsTold now context place old new result =
    IsToldAs now.store (value_told now context place) old new result
