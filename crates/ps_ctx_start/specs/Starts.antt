-- When what stands is what stands at the start of a run (PLRM2, 3.7, 7.1).
use Rattle.std.specs.Prelude.{◌≡◌, ℕ, ◌<◌, ◌^◌, List}
use Rattle.ps_language.specs.declared.kinds.Kind.TheVariants.{Dictionary}
use Rattle.ps_language.specs.World.{Machine}
use Rattle.ps_language.specs.Machines as machines
use Rattle.ps_language.specs.Step.{machine_of}
use Rattle.ps_language.specs.Worlds.{first_names, first_store, first_context, starting_world, systemdict, userdict, first_error_dictionary}
use Rattle.ps_mem.specs.Heap.{Heap, birth_at, empty_heap}
use Rattle.ps_mem.specs.References.{StandsAs}
use Rattle.ps_mem.specs.Shows.{IsSound, Shows}
use Rattle.ps_ops_operands.specs.declared.failure.NotMade.{NotMade}
use Rattle.ps_ops_operands.specs.Changes.{no_records, words_asked, IsReasonFor}
use Rattle.ps_ops_state.specs.Lent.{Lent, scene_of, around_of, IsShown, IsGood}
use Rattle.ps_ctx_start.specs.declared.dictionaries.FirstDictionaries.{FirstDictionaries}

-- nothing stands
abbrev pub IsEmptyHeap : Heap → Type 0
IsEmptyHeap h = h ≡ empty_heap h.space

-- a dictionary of this birth number stands there, and a reference to it fits a word
pub record IsDictionaryOf (h : Heap) (address birth : ℕ) : Type 0 where
  pub stands : StandsAs h Dictionary address 4
  pub below : address < 2 ^ 24
  pub born : birth_at h address ≡ birth

-- the first objects stand, and nothing else
pub record AreFirst (h : Heap) (made : FirstDictionaries) : Type 0 where
  pub sound : IsSound h
  pub shows : Shows h first_names first_store
  pub system : IsDictionaryOf h made.system systemdict
  pub user : IsDictionaryOf h made.user userdict
  pub error : IsDictionaryOf h made.error first_error_dictionary

-- why nothing was made: the first objects have no room, or a growth was refused
abbrev pub IsStartReason : NotMade → Heap → Type 0
IsStartReason reason h = IsReasonFor no_records (words_asked 528 3 h) (Unit {0}) reason

-- the first context of a program before its first step, with what it shares
abbrev pub first_machine : (program : List ℕ) → Machine
first_machine program = machine_of (starting_world program) first_context

-- what is lent is that machine's
pub record Starts (program : List ℕ) (l : Lent) : Type 0 where
  pub good : IsGood l
  pub shown : IsShown l first_store
  pub scene : scene_of l first_store ≡ machines.scene_of (first_machine program)
  pub around : around_of l ≡ machines.around_of program (first_machine program)
  pub printed : l.printed ≡ (first_machine program).printed
