-- When what stands in a memory is sound, and when it shows a store of the language under the names
-- met.
use Rattle.std.specs.Prelude.{ℕ, pos, ◌+◌, ◌-◌, ◌*◌, ◌≤◌, ◌<◌, ◌≡◌, ◌≢◌, false, List, [], ◌∷◌, ◌++◌, map, length, take, drop, replicate, Option, Some, None, slice_get}
use Rattle.std.specs.List.{AllByRecursion}
use Rattle.ps_language.specs.declared.kinds.Kind.{Kind}
use Rattle.ps_language.specs.declared.kinds.Kind.TheVariants.{Array as ArrayKind, Text as TextKind, Dictionary as DictionaryKind, Lock as LockKind, Condition as ConditionKind, Body as BodyKind}
use Rattle.ps_language.specs.Value.{Value, Dictionary as DictionaryValue, Object, array_object, string_object, dictionary_object, lock_object, condition_object, Store}
use Rattle.ps_language.specs.Access.{bytes}
use Rattle.ps_word.specs.declared.words.Word.{Word}
use Rattle.ps_word.specs.declared.values.Content.{Content}
use Rattle.ps_word.specs.declared.values.Content.TheVariants.{Null, Integer, Boolean, Mark, Name, Operator, Array, Text, Dictionary, Lock, Condition, Body}
use Rattle.ps_word.specs.Format.{content_in, value_in, IsWord, is_body, access_number}
use Rattle.ps_language.specs.Limits.{capacity_limit}
use Rattle.ps_mem.specs.Index.{pairs_of_words, index_words}
use Rattle.ps_mem.specs.Heap.{Heap, Standing, object_at, birth_at, zero_word}
use Rattle.ps_mem.specs.References.{IsKnown}
use Rattle.ps_mem.specs.Meaning.{value_of}
use Rattle.ps_mem.specs.Strings.{AreBytes, words_of}

-- ---- sound

-- a word that is a value's, whose reference, if it is one, names what stands
pub record IsValue (h : Heap) (w : Word) : Type 0 where
  pub word : IsWord w.0
  pub known : IsKnown h w
  pub visible : is_body (content_in w.0) ≡ false

abbrev pub AreValues : Heap → List Word → Type 0
AreValues h words = AllByRecursion (IsValue h) words

-- the literal integer of a natural number
abbrev pub IsNatural : Word → ℕ → Type 0
IsNatural w n = value_in w.0 ≡ record { content = Integer (pos n); executable = false }

-- the fields of a dictionary: number of pairs, capacity, access, and its body, which has its birth
-- number, room for the pairs, and their index in the words behind them
pub record DictionaryFields (h : Heap) (birth : ℕ) (fields : List Word) : Type 0 where
  pub count_word : Word
  pub capacity_word : Word
  pub access_word : Word
  pub body_word : Word
  pub are : fields ≡ count_word ∷ capacity_word ∷ access_word ∷ body_word ∷ []
  pub count : ℕ
  pub capacity : ℕ
  pub access : ℕ
  pub body : ℕ
  pub body_fields : List Word
  pub count_is : IsNatural count_word count
  pub capacity_is : IsNatural capacity_word capacity
  pub access_is : IsNatural access_word access
  pub body_is : value_in body_word.0 ≡ record { content = Body body; executable = false }
  pub stands : object_at h body ≡ Some
      (record { kind = BodyKind; birth = birth; fields = body_fields })
  pub within : count ≤ capacity
  pub room : length body_fields ≡ 3 * capacity
  pub few : capacity ≤ capacity_limit
  pub indexed : drop (2 * capacity) body_fields ≡ index_words (birth_at h) capacity
      (take count (pairs_of_words body_fields))

-- the fields of an object of this kind and birth number
pub data AreFields (h : Heap) : Kind → ℕ → List Word → Type 0 where
  array_fields : {birth : ℕ} {fields : List Word} → AreValues h fields
      → AreFields h ArrayKind birth fields
  text_fields : {birth : ℕ} {fields : List Word} → AreFields h TextKind birth fields
  dictionary_fields : {birth : ℕ} {fields : List Word} → DictionaryFields h birth fields
      → AreFields h DictionaryKind birth fields
  lock_fields : {birth : ℕ} {owner : Word} (n : ℕ) → IsNatural owner n
      → AreFields h LockKind birth (owner ∷ [])
  condition_fields : {birth : ℕ} → AreFields h ConditionKind birth (zero_word ∷ [])
  body_fields : {birth : ℕ} {fields : List Word} → AreValues h fields
      → AreFields h BodyKind birth fields

-- but for bodies no two objects have one birth number, each is below the next, and all fields are
-- as their kinds want them
pub record IsSound (h : Heap) : Type 0 where
  pub single : (a b : ℕ) (o p : Standing) → object_at h a ≡ Some o → object_at h b ≡ Some p
      → o.kind ≢ BodyKind → p.kind ≢ BodyKind → o.birth ≡ p.birth → a ≡ b
  pub below : (a : ℕ) (o : Standing) → object_at h a ≡ Some o → o.birth < h.next
  pub fields : (a : ℕ) (o : Standing) → object_at h a ≡ Some o → AreFields h o.kind o.birth o.fields

-- a sound memory and the words that are held from outside it
pub record IsReady (h : Heap) (words : List Word) : Type 0 where
  pub sound : IsSound h
  pub values : AreValues h words

-- ---- the store that is shown

-- a name's number is of a name met, and a part of a string lies within its bytes
abbrev pub IsWithinContent : (births : ℕ → ℕ) → List (List ℕ) → Store → Content → Type 0
IsWithinContent births names store (Name number) = number < length names
IsWithinContent births names store (Text p) =
    p.offset + p.length ≤ length (bytes store (births p.address))
IsWithinContent births names store Null = Unit {0}
IsWithinContent births names store (Integer _) = Unit {0}
IsWithinContent births names store (Boolean _) = Unit {0}
IsWithinContent births names store Mark = Unit {0}
IsWithinContent births names store (Operator _) = Unit {0}
IsWithinContent births names store (Array _) = Unit {0}
IsWithinContent births names store (Dictionary _) = Unit {0}
IsWithinContent births names store (Lock _) = Unit {0}
IsWithinContent births names store (Condition _) = Unit {0}
IsWithinContent births names store (Body _) = Unit {0}

unfoldable pub IsWithin : (births : ℕ → ℕ) → List (List ℕ) → Store → Word → Type 0
IsWithin births names store w = IsWithinContent births names store (content_in w.0)

abbrev pub AreWithin : Heap → List (List ℕ) → Store → List Word → Type 0
AreWithin h names store words = AllByRecursion (IsWithin (birth_at h) names store) words

-- the words of pairs, key before value
abbrev pub words_of_pairs : List (Word × Word) → List Word
words_of_pairs [] = []
words_of_pairs (pair ∷ pairs) = pair.0 ∷ pair.1 ∷ words_of_pairs pairs

-- the key and the value that two words stand for
abbrev pub pair_of : (births : ℕ → ℕ) → (names : List (List ℕ)) → (Word × Word) → Value × Value
pair_of births names pair = (value_of births names pair.0, value_of births names pair.1)

-- a dictionary in its fields: its body holds the pairs in order, then nulls, then the index
pub record ShowsDictionary (h : Heap) (names : List (List ℕ)) (birth : ℕ) (fields : List Word)
    (d : DictionaryValue) : Type 0 where
  pub shape : DictionaryFields h birth fields
  pub count : shape.count ≡ length d.pairs
  pub capacity : shape.capacity ≡ d.capacity
  pub access : shape.access ≡ access_number d.access
  pub pairs : List (Word × Word)
  pub index : List Word
  pub holds : shape.body_fields ≡ words_of_pairs pairs
      ++ (replicate (2 * (d.capacity - length d.pairs)) zero_word ++ index)
  pub are : d.pairs ≡ map (pair_of (birth_at h) names) pairs

-- a lock's owner by identifier, which is at least 1; 0 where it is free
abbrev pub IsOwner : Word → Option ℕ → Type 0
IsOwner w None = IsNatural w 0
IsOwner w (Some identifier) = (0 < identifier) × IsNatural w identifier

-- that the fields of an object of this kind and birth number are this object of the language; the
-- words of a string follow from its bytes
pub data IsShown (h : Heap) (names : List (List ℕ)) : Kind → ℕ → List Word → Object → Type 0 where
  shown_array : {birth : ℕ} {fields : List Word} {elements : List Value}
      → elements ≡ map (value_of (birth_at h) names) fields
      → IsShown h names ArrayKind birth fields (array_object elements)
  shown_text : {birth : ℕ} {fields : List Word} {bytes : List ℕ} → AreBytes bytes
      → fields ≡ words_of bytes → IsShown h names TextKind birth fields (string_object bytes)
  shown_dictionary : {birth : ℕ} {fields : List Word} {d : DictionaryValue}
      → ShowsDictionary h names birth fields d
      → IsShown h names DictionaryKind birth fields (dictionary_object d)
  shown_lock : {birth : ℕ} {word : Word} {owner : Option ℕ} → IsOwner word owner
      → IsShown h names LockKind birth (word ∷ []) (lock_object owner)
  shown_condition : {birth : ℕ}
      → IsShown h names ConditionKind birth (zero_word ∷ []) condition_object

-- the store's object of this birth number is what these fields are
pub record IsObject (h : Heap) (names : List (List ℕ)) (store : Store) (kind : Kind) (birth : ℕ)
    (fields : List Word) : Type 0 where
  pub object : Object
  pub there : slice_get store birth ≡ Some object
  pub shown : IsShown h names kind birth fields object

-- what stands, bodies aside, is the store's objects of its birth numbers; the store may hold more,
-- which was collected
pub record Shows (h : Heap) (names : List (List ℕ)) (store : Store) : Type 0 where
  pub next : h.next ≡ length store
  pub objects : (a : ℕ) (o : Standing) → object_at h a ≡ Some o → o.kind ≢ BodyKind
      → IsObject h names store o.kind o.birth o.fields
  pub within : (a : ℕ) (o : Standing) → object_at h a ≡ Some o → o.kind ≢ TextKind
      → AreWithin h names store o.fields
