-- The two words in front of each object's fields: the layout of this run time. Bits that no case
-- names are zero.
use Rattle.std.specs.Prelude.{ℕ, ◌+◌, ◌*◌, ◌/◌, ◌%◌, ◌^◌, ◌<◌}
use Rattle.ps_language.specs.declared.kinds.Kind.{Kind}
use Rattle.ps_language.specs.declared.kinds.Kind.TheVariants.{Array, Text, Dictionary, Lock}
use Rattle.ps_language.specs.declared.kinds.Kind.TheVariants.{Condition, Body}
use Rattle.ps_word.specs.declared.headers.Header.{Header}
use Rattle.ps_word.specs.declared.headers.Forward.{Forward}

-- the numbers of the types that refer to them
abbrev pub kind_number : Kind → ℕ
kind_number Array = 6
kind_number Text = 7
kind_number Dictionary = 8
kind_number Lock = 9
kind_number Condition = 10
kind_number Body = 11

-- kind from bit 60 on, number of fields from bit 40 on, birth number from bit 0 on
unfoldable pub header_packed : Header → ℕ
header_packed h = kind_number h.kind * 2 ^ 60 + h.fields * 2 ^ 40 + h.birth

-- birth numbers are below it
abbrev pub birth_limit : ℕ
birth_limit = 2 ^ 40

pub record IsHeader (h : Header) : Type 0 where
  pub fields : h.fields < 2 ^ 20
  pub birth : h.birth < birth_limit

-- cycle from bit 24 on, address of the replica from bit 0 on
unfoldable pub forward_packed : Forward → ℕ
forward_packed f = f.cycle * 2 ^ 24 + f.address

-- cycle numbers are below it
abbrev pub cycle_limit : ℕ
cycle_limit = 2 ^ 32

pub record IsForward (f : Forward) : Type 0 where
  pub cycle : f.cycle < cycle_limit
  pub address : f.address < 2 ^ 24

-- ---- the places

abbrev pub kind_in : ℕ → ℕ
kind_in w = w / 2 ^ 60

abbrev pub fields_in : ℕ → ℕ
fields_in w = (w / 2 ^ 40) % 2 ^ 20

abbrev pub birth_in : ℕ → ℕ
birth_in w = w % 2 ^ 40

abbrev pub cycle_in : ℕ → ℕ
cycle_in w = w / 2 ^ 24

abbrev pub forward_address_in : ℕ → ℕ
forward_address_in w = w % 2 ^ 24
