-- What the words of a memory refer to.
use Rattle.std.specs.Prelude.{ℕ, ◌+◌, ◌/◌, ◌≤◌, ◌≡◌, ◌≢◌, List, length, Some}
use Rattle.std.specs.List.{AllByRecursion}
use Rattle.ps_language.specs.declared.kinds.Kind.{Kind}
use Rattle.ps_language.specs.declared.kinds.Kind.TheVariants.{Array as ArrayKind, Text as TextKind, Dictionary as DictionaryKind, Lock as LockKind, Condition as ConditionKind, Body as BodyKind}
use Rattle.ps_word.specs.declared.words.Word.{Word}
use Rattle.ps_word.specs.declared.values.Content.{Content}
use Rattle.ps_word.specs.declared.values.Content.TheVariants.{Null, Integer, Boolean, Mark, Name, Operator, Array, Text, Dictionary, Lock, Condition, Body}
use Rattle.ps_word.specs.Format.{content_in}
use Rattle.ps_mem.specs.Heap.{Heap, Standing, object_at}

-- an object of this kind stands there, of so many fields at least
pub record StandsAs (h : Heap) (kind : Kind) (address fields : ℕ) : Type 0 where
  pub object : Standing
  pub at : object_at h address ≡ Some object
  pub kind_is : object.kind ≡ kind
  pub fits : fields ≤ length object.fields

-- the words of so many bytes, eight a word
abbrev pub words_for : ℕ → ℕ
words_for bytes = (bytes + 7) / 8

-- what a reference names stands, and a part lies within its object
abbrev pub IsKnownContent : Heap → Content → Type 0
IsKnownContent h (Array p) = StandsAs h ArrayKind p.address (p.offset + p.length)
IsKnownContent h (Text p) = StandsAs h TextKind p.address (words_for (p.offset + p.length))
IsKnownContent h (Dictionary address) = StandsAs h DictionaryKind address 4
IsKnownContent h (Lock address) = StandsAs h LockKind address 1
IsKnownContent h (Condition address) = StandsAs h ConditionKind address 1
IsKnownContent h (Body address) = StandsAs h BodyKind address 0
IsKnownContent h Null = Unit {0}
IsKnownContent h (Integer _) = Unit {0}
IsKnownContent h (Boolean _) = Unit {0}
IsKnownContent h Mark = Unit {0}
IsKnownContent h (Name _) = Unit {0}
IsKnownContent h (Operator _) = Unit {0}

unfoldable pub IsKnown : Heap → Word → Type 0
IsKnown h w = IsKnownContent h (content_in w.0)

abbrev pub AreKnown : Heap → List Word → Type 0
AreKnown h words = AllByRecursion (IsKnown h) words

-- what words to be stored in an object refer to stands; the words of a string refer to nothing
pub record NamesStanding (h : Heap) (address : ℕ) (words : List Word) : Type 0 where
  pub known : (o : Standing) → object_at h address ≡ Some o → o.kind ≢ TextKind → AreKnown h words
