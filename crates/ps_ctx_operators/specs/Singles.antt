-- Objects of one field: locks and conditions (PLRM2, 7.1).
use Rattle.std.specs.Prelude.{ℕ, zero, suc, Option, Some, None}
use Rattle.ps_language.specs.declared.kinds.Kind.{Kind}
use Rattle.ps_language.specs.declared.kinds.Kind.TheVariants as kinds
use Rattle.ps_language.specs.Value.{Object, lock_object, condition_object}
use Rattle.ps_ctx_operators.specs.declared.locks.Single.{Single}
use Rattle.ps_ctx_operators.specs.declared.locks.Single.TheVariants.{Lock, Condition}

abbrev pub kind_of : Single → Kind
kind_of Lock = kinds.Lock
kind_of Condition = kinds.Condition

-- a new one; a lock is free
abbrev pub object_of : Single → Object
object_of Lock = lock_object None
object_of Condition = condition_object

-- the owner of a lock by its identifier, which is at least 1; 0 where it is free
abbrev pub owner_by : ℕ → Option ℕ
owner_by zero = None
owner_by (suc n) = Some (suc n)
