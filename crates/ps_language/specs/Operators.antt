-- The operators: their order, their numbers and their names (PLRM2, 8).
use Rattle.std.specs.Prelude.{ℕ, List, [], ◌∷◌, codes}
use Rattle.ps_language.specs.declared.operators.Operator.{Operator}
use Rattle.ps_language.specs.declared.operators.Operator.TheVariants.{Pop, Exch, Dup, Copy, Index}
use Rattle.ps_language.specs.declared.operators.Operator.TheVariants.{Roll, Clear, Count, Mark}
use Rattle.ps_language.specs.declared.operators.Operator.TheVariants.{ClearToMark, CountToMark, Add}
use Rattle.ps_language.specs.declared.operators.Operator.TheVariants.{Sub, Mul, Idiv, Mod, Neg, Abs}
use Rattle.ps_language.specs.declared.operators.Operator.TheVariants.{Eq, Ne, Gt, Ge, Lt, Le, And}
use Rattle.ps_language.specs.declared.operators.Operator.TheVariants.{Or, Xor, Not, Bitshift, Array}
use Rattle.ps_language.specs.declared.operators.Operator.TheVariants.{BeginArray, EndArray}
use Rattle.ps_language.specs.declared.operators.Operator.TheVariants.{MakeString, Length, Get, Put}
use Rattle.ps_language.specs.declared.operators.Operator.TheVariants.{GetInterval, PutInterval}
use Rattle.ps_language.specs.declared.operators.Operator.TheVariants.{Aload, Astore, Forall, Search}
use Rattle.ps_language.specs.declared.operators.Operator.TheVariants.{AnchorSearch, Dict, BeginDict}
use Rattle.ps_language.specs.declared.operators.Operator.TheVariants.{EndDict, MaxLength, Begin}
use Rattle.ps_language.specs.declared.operators.Operator.TheVariants.{End, Def, Load, Store, Undef}
use Rattle.ps_language.specs.declared.operators.Operator.TheVariants.{Known, Where, CurrentDict}
use Rattle.ps_language.specs.declared.operators.Operator.TheVariants.{CountDictStack}
use Rattle.ps_language.specs.declared.operators.Operator.TheVariants.{ClearDictStack, ErrorDict}
use Rattle.ps_language.specs.declared.operators.Operator.TheVariants.{Exec, If, IfElse, For, Repeat}
use Rattle.ps_language.specs.declared.operators.Operator.TheVariants.{Loop, Exit, Stop, Stopped}
use Rattle.ps_language.specs.declared.operators.Operator.TheVariants.{Quit, Bind, TypeOf, Cvlit}
use Rattle.ps_language.specs.declared.operators.Operator.TheVariants.{Cvx, Xcheck, ExecuteOnly}
use Rattle.ps_language.specs.declared.operators.Operator.TheVariants.{NoAccess, ReadOnly, Rcheck}
use Rattle.ps_language.specs.declared.operators.Operator.TheVariants.{Wcheck, Cvi, Cvn, Cvs, Equals}
use Rattle.ps_language.specs.declared.operators.Operator.TheVariants.{EqualsEquals, Stack, Pstack}
use Rattle.ps_language.specs.declared.operators.Operator.TheVariants.{Print, CurrentContext, Fork}
use Rattle.ps_language.specs.declared.operators.Operator.TheVariants.{Join, Detach, Lock, Monitor}
use Rattle.ps_language.specs.declared.operators.Operator.TheVariants.{Condition, Wait, Notify}
use Rattle.ps_language.specs.declared.operators.Operator.TheVariants.{Yield, VmStatus, VmReclaim}

-- in the order of systemdict
abbrev pub every_operator : List Operator
every_operator =
    Pop ∷ Exch ∷ Dup ∷ Copy ∷ Index ∷ Roll ∷ Clear ∷ Count ∷ Mark ∷ ClearToMark ∷ CountToMark ∷
    Add ∷ Sub ∷ Mul ∷ Idiv ∷ Mod ∷ Neg ∷ Abs ∷ Eq ∷ Ne ∷ Gt ∷ Ge ∷ Lt ∷ Le ∷ And ∷ Or ∷ Xor ∷
    Not ∷ Bitshift ∷ Array ∷ BeginArray ∷ EndArray ∷ MakeString ∷ Length ∷ Get ∷ Put ∷
    GetInterval ∷ PutInterval ∷ Aload ∷ Astore ∷ Forall ∷ Search ∷ AnchorSearch ∷ Dict ∷
    BeginDict ∷ EndDict ∷ MaxLength ∷ Begin ∷ End ∷ Def ∷ Load ∷ Store ∷ Undef ∷ Known ∷ Where ∷
    CurrentDict ∷ CountDictStack ∷ ClearDictStack ∷ ErrorDict ∷ Exec ∷ If ∷ IfElse ∷ For ∷
    Repeat ∷ Loop ∷ Exit ∷ Stop ∷ Stopped ∷ Quit ∷ Bind ∷ TypeOf ∷ Cvlit ∷ Cvx ∷ Xcheck ∷
    ExecuteOnly ∷ NoAccess ∷ ReadOnly ∷ Rcheck ∷ Wcheck ∷ Cvi ∷ Cvn ∷ Cvs ∷ Equals ∷
    EqualsEquals ∷ Stack ∷ Pstack ∷ Print ∷ CurrentContext ∷ Fork ∷ Join ∷ Detach ∷ Lock ∷
    Monitor ∷ Condition ∷ Wait ∷ Notify ∷ Yield ∷ VmStatus ∷ VmReclaim ∷ []

-- how many they are
abbrev pub operator_count : ℕ
operator_count = 99

-- their places there
abbrev pub operator_number : Operator → ℕ
operator_number Pop = 0
operator_number Exch = 1
operator_number Dup = 2
operator_number Copy = 3
operator_number Index = 4
operator_number Roll = 5
operator_number Clear = 6
operator_number Count = 7
operator_number Mark = 8
operator_number ClearToMark = 9
operator_number CountToMark = 10
operator_number Add = 11
operator_number Sub = 12
operator_number Mul = 13
operator_number Idiv = 14
operator_number Mod = 15
operator_number Neg = 16
operator_number Abs = 17
operator_number Eq = 18
operator_number Ne = 19
operator_number Gt = 20
operator_number Ge = 21
operator_number Lt = 22
operator_number Le = 23
operator_number And = 24
operator_number Or = 25
operator_number Xor = 26
operator_number Not = 27
operator_number Bitshift = 28
operator_number Array = 29
operator_number BeginArray = 30
operator_number EndArray = 31
operator_number MakeString = 32
operator_number Length = 33
operator_number Get = 34
operator_number Put = 35
operator_number GetInterval = 36
operator_number PutInterval = 37
operator_number Aload = 38
operator_number Astore = 39
operator_number Forall = 40
operator_number Search = 41
operator_number AnchorSearch = 42
operator_number Dict = 43
operator_number BeginDict = 44
operator_number EndDict = 45
operator_number MaxLength = 46
operator_number Begin = 47
operator_number End = 48
operator_number Def = 49
operator_number Load = 50
operator_number Store = 51
operator_number Undef = 52
operator_number Known = 53
operator_number Where = 54
operator_number CurrentDict = 55
operator_number CountDictStack = 56
operator_number ClearDictStack = 57
operator_number ErrorDict = 58
operator_number Exec = 59
operator_number If = 60
operator_number IfElse = 61
operator_number For = 62
operator_number Repeat = 63
operator_number Loop = 64
operator_number Exit = 65
operator_number Stop = 66
operator_number Stopped = 67
operator_number Quit = 68
operator_number Bind = 69
operator_number TypeOf = 70
operator_number Cvlit = 71
operator_number Cvx = 72
operator_number Xcheck = 73
operator_number ExecuteOnly = 74
operator_number NoAccess = 75
operator_number ReadOnly = 76
operator_number Rcheck = 77
operator_number Wcheck = 78
operator_number Cvi = 79
operator_number Cvn = 80
operator_number Cvs = 81
operator_number Equals = 82
operator_number EqualsEquals = 83
operator_number Stack = 84
operator_number Pstack = 85
operator_number Print = 86
operator_number CurrentContext = 87
operator_number Fork = 88
operator_number Join = 89
operator_number Detach = 90
operator_number Lock = 91
operator_number Monitor = 92
operator_number Condition = 93
operator_number Wait = 94
operator_number Notify = 95
operator_number Yield = 96
operator_number VmStatus = 97
operator_number VmReclaim = 98

-- their names
abbrev pub operator_name : Operator → List ℕ
operator_name Pop = codes "pop"
operator_name Exch = codes "exch"
operator_name Dup = codes "dup"
operator_name Copy = codes "copy"
operator_name Index = codes "index"
operator_name Roll = codes "roll"
operator_name Clear = codes "clear"
operator_name Count = codes "count"
operator_name Mark = codes "mark"
operator_name ClearToMark = codes "cleartomark"
operator_name CountToMark = codes "counttomark"
operator_name Add = codes "add"
operator_name Sub = codes "sub"
operator_name Mul = codes "mul"
operator_name Idiv = codes "idiv"
operator_name Mod = codes "mod"
operator_name Neg = codes "neg"
operator_name Abs = codes "abs"
operator_name Eq = codes "eq"
operator_name Ne = codes "ne"
operator_name Gt = codes "gt"
operator_name Ge = codes "ge"
operator_name Lt = codes "lt"
operator_name Le = codes "le"
operator_name And = codes "and"
operator_name Or = codes "or"
operator_name Xor = codes "xor"
operator_name Not = codes "not"
operator_name Bitshift = codes "bitshift"
operator_name Array = codes "array"
operator_name BeginArray = codes "["
operator_name EndArray = codes "]"
operator_name MakeString = codes "string"
operator_name Length = codes "length"
operator_name Get = codes "get"
operator_name Put = codes "put"
operator_name GetInterval = codes "getinterval"
operator_name PutInterval = codes "putinterval"
operator_name Aload = codes "aload"
operator_name Astore = codes "astore"
operator_name Forall = codes "forall"
operator_name Search = codes "search"
operator_name AnchorSearch = codes "anchorsearch"
operator_name Dict = codes "dict"
operator_name BeginDict = codes "<<"
operator_name EndDict = codes ">>"
operator_name MaxLength = codes "maxlength"
operator_name Begin = codes "begin"
operator_name End = codes "end"
operator_name Def = codes "def"
operator_name Load = codes "load"
operator_name Store = codes "store"
operator_name Undef = codes "undef"
operator_name Known = codes "known"
operator_name Where = codes "where"
operator_name CurrentDict = codes "currentdict"
operator_name CountDictStack = codes "countdictstack"
operator_name ClearDictStack = codes "cleardictstack"
operator_name ErrorDict = codes "$error"
operator_name Exec = codes "exec"
operator_name If = codes "if"
operator_name IfElse = codes "ifelse"
operator_name For = codes "for"
operator_name Repeat = codes "repeat"
operator_name Loop = codes "loop"
operator_name Exit = codes "exit"
operator_name Stop = codes "stop"
operator_name Stopped = codes "stopped"
operator_name Quit = codes "quit"
operator_name Bind = codes "bind"
operator_name TypeOf = codes "type"
operator_name Cvlit = codes "cvlit"
operator_name Cvx = codes "cvx"
operator_name Xcheck = codes "xcheck"
operator_name ExecuteOnly = codes "executeonly"
operator_name NoAccess = codes "noaccess"
operator_name ReadOnly = codes "readonly"
operator_name Rcheck = codes "rcheck"
operator_name Wcheck = codes "wcheck"
operator_name Cvi = codes "cvi"
operator_name Cvn = codes "cvn"
operator_name Cvs = codes "cvs"
operator_name Equals = codes "="
operator_name EqualsEquals = codes "=="
operator_name Stack = codes "stack"
operator_name Pstack = codes "pstack"
operator_name Print = codes "print"
operator_name CurrentContext = codes "currentcontext"
operator_name Fork = codes "fork"
operator_name Join = codes "join"
operator_name Detach = codes "detach"
operator_name Lock = codes "lock"
operator_name Monitor = codes "monitor"
operator_name Condition = codes "condition"
operator_name Wait = codes "wait"
operator_name Notify = codes "notify"
operator_name Yield = codes "yield"
operator_name VmStatus = codes "vmstatus"
operator_name VmReclaim = codes "vmreclaim"
