-- The layout of this run time's words: which number stands for a value. Bit 0 is the lowest; bits
-- that no case sets are zero.
use Rattle.std.specs.Prelude.{◌≡◌, ℕ, ℤ, ◌+◌, ◌*◌, ◌/◌, ◌%◌, ◌^◌, ◌<◌, ◌==◌, ◌&&◌, Bool, true}
use Rattle.std.specs.Prelude.{false, if◌then◌else◌, FitsSigned, slice_index_or}
use Rattle.std.specs.Int.{w32, cast_signed, cast_unsigned}
use Rattle.ps_language.specs.declared.access.Access.{Access}
use Rattle.ps_language.specs.declared.access.Access.TheVariants.{Unlimited, ReadOnly, ExecuteOnly}
use Rattle.ps_language.specs.declared.access.Access.TheVariants.{NoAccess}
use Rattle.ps_language.specs.declared.operators.Operator.TheVariants.{Pop}
use Rattle.ps_language.specs.Operators.{every_operator}
use Rattle.ps_language.specs.Operators.{operator_number}
use Rattle.ps_word.specs.declared.values.Part.{Part}
use Rattle.ps_word.specs.declared.values.Content.{Content}
use Rattle.ps_word.specs.declared.values.Content.TheVariants.{Null, Integer, Boolean, Mark, Name}
use Rattle.ps_word.specs.declared.values.Content.TheVariants.{Operator, Array, Text, Dictionary}
use Rattle.ps_word.specs.declared.values.Content.TheVariants.{Lock, Condition, Body}
use Rattle.ps_word.specs.declared.values.Value.{Value}

-- ---- from a value to its number

-- the type, in bits 60 to 63
abbrev pub type_number : Content → ℕ
type_number Null = 0
type_number (Integer _) = 1
type_number (Boolean _) = 2
type_number Mark = 3
type_number (Name _) = 4
type_number (Operator _) = 5
type_number (Array _) = 6
type_number (Text _) = 7
type_number (Dictionary _) = 8
type_number (Lock _) = 9
type_number (Condition _) = 10
type_number (Body _) = 11

-- the access, in bits 57 and 58
abbrev pub access_number : Access → ℕ
access_number Unlimited = 0
access_number ReadOnly = 1
access_number ExecuteOnly = 2
access_number NoAccess = 3

-- a bit
abbrev pub bit_of : Bool → ℕ
bit_of true = 1
bit_of false = 0

-- access, then address from bit 32 on, offset from bit 16 on, length from bit 0 on
abbrev pub part_bits : Part → ℕ
part_bits p = access_number p.access * 2 ^ 57 + p.address * 2 ^ 32 + p.offset * 2 ^ 16 + p.length

-- what stands below bit 59: an integer in two's complement of 32 bits, a reference's address from
-- bit 32 on
abbrev pub content_bits : Content → ℕ
content_bits Null = 0
content_bits (Integer i) = cast_unsigned w32 i
content_bits (Boolean b) = bit_of b
content_bits Mark = 0
content_bits (Name number) = number
content_bits (Operator o) = operator_number o
content_bits (Array p) = part_bits p
content_bits (Text p) = part_bits p
content_bits (Dictionary address) = address * 2 ^ 32
content_bits (Lock address) = address * 2 ^ 32
content_bits (Condition address) = address * 2 ^ 32
content_bits (Body address) = address * 2 ^ 32

-- the number that stands for a value; bit 59 says that it is executable
unfoldable pub packed : Value → ℕ
packed v = type_number v.content * 2 ^ 60 + bit_of v.executable * 2 ^ 59 + content_bits v.content

-- ---- the values that have a number

-- 24 bits
abbrev pub IsAddress : ℕ → Type 0
IsAddress address = address < 2 ^ 24

-- a part ends within the longest object
pub record IsPart (p : Part) : Type 0 where
  pub address : IsAddress p.address
  pub within : p.offset + p.length < 2 ^ 16

-- names are numbered up to 65,534
abbrev pub IsContent : Content → Type 0
IsContent Null = Unit {0}
IsContent (Integer i) = FitsSigned w32 i
IsContent (Boolean _) = Unit {0}
IsContent Mark = Unit {0}
IsContent (Name number) = number < 65535
IsContent (Operator _) = Unit {0}
IsContent (Array p) = IsPart p
IsContent (Text p) = IsPart p
IsContent (Dictionary address) = IsAddress address
IsContent (Lock address) = IsAddress address
IsContent (Condition address) = IsAddress address
IsContent (Body address) = IsAddress address

abbrev pub is_body : Content → Bool
is_body (Body _) = true
is_body _ = false

-- a dictionary's body is never executable
pub record IsInFormat (v : Value) : Type 0 where
  pub content : IsContent v.content
  pub literal_body : is_body v.content && v.executable ≡ false

-- ---- from a number to what its bits say

abbrev pub type_in : ℕ → ℕ
type_in w = w / 2 ^ 60

abbrev pub access_of : ℕ → Access
access_of n =
    if n == 0 then Unlimited else
    (if n == 1 then ReadOnly else (if n == 2 then ExecuteOnly else NoAccess))

abbrev pub access_in : ℕ → Access
access_in w = access_of ((w / 2 ^ 57) % 4)

abbrev pub integer_in : ℕ → ℤ
integer_in w = cast_signed w32 (w % 2 ^ 32)

abbrev pub address_in : ℕ → ℕ
address_in w = (w / 2 ^ 32) % 2 ^ 24

abbrev pub part_in : ℕ → Part
part_in w =
    record {
      address = address_in w;
      offset = (w / 2 ^ 16) % 2 ^ 16;
      length = w % 2 ^ 16;
      access =
          access_in w;
    }

-- by the type; a number of no type says null, and an operator's number that none has says pop
abbrev pub content_of : ℕ → ℕ → Content
content_of t w =
    if t == 1 then Integer (integer_in w)
    else (if t == 2 then Boolean (w % 2 == 1)
    else (if t == 3 then Mark
    else (if t == 4 then Name (w % 2 ^ 16)
    else (if t == 5 then Operator (slice_index_or every_operator (w % 2 ^ 8) Pop)
    else (if t == 6 then Array (part_in w)
    else (if t == 7 then Text (part_in w)
    else (if t == 8 then Dictionary (address_in w)
    else (if t == 9 then Lock (address_in w)
    else (if t == 10 then Condition (address_in w)
    else (if t == 11 then Body (address_in w)
    else Null))))))))))

unfoldable pub content_in : ℕ → Content
content_in w = content_of (type_in w) w

unfoldable pub executable_in : ℕ → Bool
executable_in w = (w / 2 ^ 59) % 2 == 1

-- what the bits of a number say; the value of each word of the format
abbrev pub value_in : ℕ → Value
value_in w = record { content = content_in w; executable = executable_in w }

-- a word of the format: the number of a value
pub record IsWord (w : ℕ) : Type 0 where
  pub value : IsInFormat (value_in w)
  pub exact : packed (value_in w) ≡ w
