-- What a host is told of the values that a run has.
use Rattle.std.specs.Prelude.{◌≡◌, ℕ, ℤ, pos, List, Option, Some, None, Result, Ok, Err, if◌then◌else◌}
use Rattle.ps_ctx_readers.specs.declared.views.Place.{Place}
use Rattle.ps_ctx_readers.specs.declared.views.ToldValue.{ToldValue}
use Rattle.ps_ctx_readers.specs.declared.views.Untold.{Untold}
use Rattle.ps_ctx_readers.specs.declared.views.Untold.TheVariants.{NoContext, NoValue}
use Rattle.ps_ctx_readers.specs.declared.views.ValueView.{ValueView}
use Rattle.ps_ctx_readers.specs.declared.views.WhatView.{WhatView}
use Rattle.ps_ctx_readers.specs.declared.views.WhatView.TheVariants.{Null, Mark, Integer, Boolean, Name, Operator, Array, Text, Dictionary, Lock, Condition}
use Rattle.ps_ctx_readers.specs.Values.{IsTold}
use Rattle.ps_vault.specs.Stories.{Story, world_at}
use Rattle.ps_run_hosts.specs.declared.hosting.Refusal.TheVariants.{Closed}
use Rattle.ps_run_hosts.specs.declared.values.HostValue.{HostValue}
use Rattle.ps_run_hosts.specs.Hosts.{code_of_refusal, number_of}

-- what it is, by a number: in the order in which the names of the types are met (PLRM2, 8 'type')
abbrev pub kind_of : WhatView → ℕ
kind_of (Integer number) = 1
kind_of (Boolean truth) = 2
kind_of Null = 3
kind_of Mark = 4
kind_of (Name length) = 5
kind_of (Operator length) = 6
kind_of (Array length) = 7
kind_of (Text length) = 8
kind_of (Dictionary length) = 9
kind_of Lock = 10
kind_of Condition = 11

-- a simple one as a number
abbrev pub number_in : WhatView → ℤ
number_in (Integer number) = number
number_in (Boolean truth) = pos (number_of truth)
number_in _ = pos 0

-- how much another holds
abbrev pub length_in : WhatView → ℕ
length_in (Name length) = length
length_in (Operator length) = length
length_in (Array length) = length
length_in (Text length) = length
length_in (Dictionary length) = length
length_in _ = 0

abbrev pub handed_value : ValueView → HostValue
handed_value view = record {
  kind = kind_of view.what;
  executable = number_of view.executable;
  number = number_in view.what;
  length = length_in view.what;
}

-- the code of what was told; none is a code of a run, or of a call that made none
abbrev pub code_of_told : Result ToldValue Untold → ℕ
code_of_told (Ok told) = if told.whole then 0 else 24
code_of_told (Err NoContext) = 22
code_of_told (Err NoValue) = 23

-- what the host's value is then
abbrev pub value_after : Result ToldValue Untold → HostValue → HostValue
value_after (Ok told) value = handed_value told.view
value_after (Err why) value = value

-- a host's value and its room for bytes, before or after a call
pub record ValueRoom : Type 0 where
  pub value : HostValue
  pub bytes : List ℕ

-- a host was told this of a value of the run
pub record IsValueOf (story : Story) (context : ℕ) (place : Place) (old new : ValueRoom) (code : ℕ)
    : Type 0 where
  pub told : Result ToldValue Untold
  pub is : IsTold (world_at story) context place old.bytes new.bytes told
  pub value : new.value ≡ value_after told old.value
  pub code_is : code ≡ code_of_told told

-- where no run stands nothing is told
abbrev pub IsValueIn : Option Story → (context : ℕ) → Place → (old new : ValueRoom) → (code : ℕ)
    → Type 0
IsValueIn None context place old new code = (new ≡ old) × (code ≡ code_of_refusal Closed)
IsValueIn (Some story) context place old new code = IsValueOf story context place old new code
