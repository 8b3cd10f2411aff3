-- What a value is, one reader for each type; and the places that the collector changes.
use Rattle.std.specs.Prelude.{ℕ, ℤ, ◌+◌, ◌*◌, ◌/◌, ◌%◌, ◌^◌, ◌&&◌, Bool, true, false, Option, Some}
use Rattle.std.specs.Prelude.{None, nat_le, if◌then◌else◌}
use Rattle.ps_language.specs.Access.{is_executable}
use Rattle.ps_language.specs.declared.access.Access.{Access}
use Rattle.ps_language.specs.declared.operators.Operator.{Operator as OperatorName}
use Rattle.ps_language.specs.declared.kinds.Kind.{Kind}
use Rattle.ps_language.specs.declared.kinds.Kind.TheVariants.{Array as ArrayKind, Text as TextKind}
use Rattle.ps_language.specs.declared.kinds.Kind.TheVariants.{Dictionary as DictionaryKind}
use Rattle.ps_language.specs.declared.kinds.Kind.TheVariants.{Lock as LockKind}
use Rattle.ps_language.specs.declared.kinds.Kind.TheVariants.{Condition as ConditionKind}
use Rattle.ps_language.specs.declared.kinds.Kind.TheVariants.{Body as BodyKind}
use Rattle.ps_word.specs.declared.values.Part.{Part}
use Rattle.ps_word.specs.declared.values.Content.{Content}
use Rattle.ps_word.specs.declared.values.Content.TheVariants.{Null, Integer, Boolean, Mark, Name}
use Rattle.ps_word.specs.declared.values.Content.TheVariants.{Operator, Array, Text, Dictionary}
use Rattle.ps_word.specs.declared.values.Content.TheVariants.{Lock, Condition, Body}

abbrev pub is_null : Content → Bool
is_null Null = true
is_null _ = false

abbrev pub is_mark : Content → Bool
is_mark Mark = true
is_mark _ = false

abbrev pub as_integer : Content → Option ℤ
as_integer (Integer i) = Some i
as_integer _ = None

-- two integers
abbrev pub both_integers : Content → Content → Option (ℤ × ℤ)
both_integers (Integer i) (Integer j) = Some (i, j)
both_integers _ _ = None

abbrev pub as_boolean : Content → Option Bool
as_boolean (Boolean b) = Some b
as_boolean _ = None

abbrev pub as_name : Content → Option ℕ
as_name (Name number) = Some number
as_name _ = None

abbrev pub as_operator : Content → Option OperatorName
as_operator (Operator operator) = Some operator
as_operator _ = None

abbrev pub as_array : Content → Option Part
as_array (Array part) = Some part
as_array _ = None

-- a procedure, an executable array, whose access permits execution
abbrev pub as_enterable : (executable : Bool) → Content → Option Part
as_enterable true (Array part) = if is_executable part.access then Some part else None
as_enterable _ _ = None

abbrev pub as_text : Content → Option Part
as_text (Text part) = Some part
as_text _ = None

abbrev pub as_dictionary : Content → Option ℕ
as_dictionary (Dictionary address) = Some address
as_dictionary _ = None

abbrev pub as_lock : Content → Option ℕ
as_lock (Lock address) = Some address
as_lock _ = None

abbrev pub as_condition : Content → Option ℕ
as_condition (Condition address) = Some address
as_condition _ = None

abbrev pub as_body : Content → Option ℕ
as_body (Body address) = Some address
as_body _ = None

-- an array's or a string's part
abbrev pub as_part : Content → Option Part
as_part (Array part) = Some part
as_part (Text part) = Some part
as_part _ = None

-- the address of the object that a reference names
abbrev pub address_of : Content → Option ℕ
address_of (Array part) = Some part.address
address_of (Text part) = Some part.address
address_of (Dictionary address) = Some address
address_of (Lock address) = Some address
address_of (Condition address) = Some address
address_of (Body address) = Some address
address_of _ = None

-- the kind of that object
abbrev pub kind_of : Content → Option Kind
kind_of (Array part) = Some ArrayKind
kind_of (Text part) = Some TextKind
kind_of (Dictionary address) = Some DictionaryKind
kind_of (Lock address) = Some LockKind
kind_of (Condition address) = Some ConditionKind
kind_of (Body address) = Some BodyKind
kind_of _ = None

-- an array or a string with another access; else as it is
abbrev pub with_access : Content → Access → Content
with_access (Array part) access = Array (record part { access = access })
with_access (Text part) access = Text (record part { access = access })
with_access content _ = content

-- a reference to an object at another address; else as it is
abbrev pub with_address : Content → ℕ → Content
with_address (Array part) address = Array (record part { address = address })
with_address (Text part) address = Text (record part { address = address })
with_address (Dictionary _) address = Dictionary address
with_address (Lock _) address = Lock address
with_address (Condition _) address = Condition address
with_address (Body _) address = Body address
with_address content _ = content

-- ---- the same of numbers

-- the types 6 to 11 are references
abbrev pub is_reference : ℕ → Bool
is_reference w = nat_le 6 (w / 2 ^ 60) && nat_le (w / 2 ^ 60) 11

-- the number with these bits in the places of the address
unfoldable pub readdressed : ℕ → ℕ → ℕ
readdressed w address = (w / 2 ^ 56) * 2 ^ 56 + address * 2 ^ 32 + w % 2 ^ 32
