-- What is lent to an operator, as words, and the scene that it shows (PLRM2, 3.4).
use Rattle.std.specs.Prelude.{◌≡◌, ℕ, ◌<◌, ◌^◌, List, [], length, vec_capacity}
use Rattle.ps_language.specs.declared.kinds.Kind.TheVariants.{Dictionary}
use Rattle.ps_language.specs.Value.{Store}
use Rattle.ps_language.specs.Effect.{Around, Scene}
use Rattle.ps_word.specs.declared.words.Word.{Word}
use Rattle.ps_mem.specs.Heap.{Heap, Grants, birth_at}
use Rattle.ps_mem.specs.References.{StandsAs}
use Rattle.ps_mem.specs.Shows.{AreValues, IsSound, AreWithin, Shows}
use Rattle.ps_names.specs.Names.{AreNames}
use Rattle.ps_ops_operands.specs.Changes.{values_in}
use Rattle.ps_ops_operands.specs.FirstNames.{BeginWithFirst}
use Rattle.ps_ops_control.specs.declared.frames.Frame.{Frame}
use Rattle.ps_ops_control.specs.Frames.{frames_in, AreFrames, AreFramesWithin}
use Rattle.ps_ops_state.specs.declared.lent.Context.{Context}
use Rattle.ps_ops_state.specs.declared.lent.Runtime.{Runtime}
use Rattle.ps_ops_state.specs.declared.lent.Scratch.{Scratch}
use Rattle.ps_ops_state.specs.declared.lent.Shared.{Shared}

-- the stacks have the topmost first
pub record Lent : Type 0 where
  pub heap : Heap
  pub grants : Grants
  pub operands : List Word
  pub dictionaries : List Word
  pub frames : List Frame
  pub error_dictionary : ℕ  -- the address of the context's own $error
  pub program : List ℕ
  pub names : List (List ℕ)
  pub printed : List ℕ
  pub most : ℕ  -- the bytes that may be printed
  pub room : ℕ  -- those that can be printed before the output grows or has no more
  pub scratch : Scratch

abbrev pub lent : Heap → Grants → Context → Shared → Lent
lent heap grants context shared = record {
  heap = heap;
  grants = grants;
  operands = context.operands;
  dictionaries = context.dictionaries;
  frames = context.frames;
  error_dictionary = context.error_dictionary;
  program = shared.program.now;
  names = shared.names;
  printed = shared.printed.bytes;
  most = shared.printed.most;
  room = shared.printed.room;
  scratch = shared.scratch;
}

-- of what all contexts share, with the memory's heap and grants
abbrev pub lent_of : {M : Type 0} → (M → Heap) → (M → Grants) → Context → Runtime M → Lent
lent_of heap grants context runtime =
    lent (heap runtime.memory) (grants runtime.memory) context runtime.shared

-- how much can be read before the lists for it grow: bytes, bytes that are sought, and words
pub record Rooms : Type 0 where
  pub text : ℕ
  pub sought : ℕ
  pub words : ℕ

abbrev pub rooms_of : Scratch → Rooms
rooms_of scratch = record {
  text = vec_capacity scratch.text;
  sought = vec_capacity scratch.sought;
  words = vec_capacity scratch.words;
}

-- nothing is left in it
pub record IsEmpty (scratch : Scratch) : Type 0 where
  pub text : scratch.text.items ≡ []
  pub sought : scratch.sought.items ≡ []
  pub words : scratch.words.items ≡ []

-- ---- what it stands for

-- the scene over a store
abbrev pub scene_of : Lent → Store → Scene
scene_of l store = record {
  operands = values_in l.heap l.names l.operands;
  dictionaries = values_in l.heap l.names l.dictionaries;
  frames = frames_in l.heap l.names l.frames;
  store = store;
  names = l.names;
}

-- what surrounds it
abbrev pub around_of : Lent → Around
around_of l =
    record { program = l.program; error_dictionary = birth_at l.heap l.error_dictionary }

-- the memory shows the store under the names met, and all stacks are within both
pub record IsShown (l : Lent) (store : Store) : Type 0 where
  pub shows : Shows l.heap l.names store
  pub operands : AreWithin l.heap l.names store l.operands
  pub dictionaries : AreWithin l.heap l.names store l.dictionaries
  pub frames : AreFramesWithin l.heap l.names store l.frames

-- ---- what holds of it in every memory

-- a dictionary stands there, and a reference to it fits a word
pub record IsErrorDictionary (h : Heap) (address : ℕ) : Type 0 where
  pub stands : StandsAs h Dictionary address 4
  pub below : address < 2 ^ 24

-- What is held refers to what stands in a sound memory, $error stands, the names are such as may be
-- met and begin with the first ones, among which those of $error are, and nothing is left of what
-- an operator read
pub record IsGood (l : Lent) : Type 0 where
  pub sound : IsSound l.heap
  pub operands : AreValues l.heap l.operands
  pub dictionaries : AreValues l.heap l.dictionaries
  pub frames : AreFrames l.heap (length l.program) l.frames
  pub error_stands : IsErrorDictionary l.heap l.error_dictionary
  pub names : AreNames l.names
  pub first : BeginWithFirst l.names
  pub empty : IsEmpty l.scratch
