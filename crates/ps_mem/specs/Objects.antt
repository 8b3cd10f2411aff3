-- A list of words in which objects stand one after another, each two words of header and then its
-- fields: what stands there.
use Rattle.std.specs.Prelude.{ℕ, zero, suc, ◌==◌, List, [], ◌∷◌, map, take, drop, Bool, true, ◌&&◌, nat_le, Option, Some, None, if◌then◌else◌}
use Rattle.ps_language.specs.declared.kinds.Kind.{Kind}
use Rattle.ps_language.specs.declared.kinds.Kind.TheVariants.{Array, Text, Dictionary, Lock, Condition, Body}
use Rattle.ps_word.specs.declared.words.Word.{Word}
use Rattle.ps_word.specs.Headers.{kind_in, fields_in, birth_in}
use Rattle.ps_mem.specs.Heap.{Standing, Space, Heap}

-- the kind of a number; any number but 6 to 10 says body
abbrev pub kind_of_number : ℕ → Kind
kind_of_number n =
    if n == 6 then Array
    else (if n == 7 then Text
    else (if n == 8 then Dictionary
    else (if n == 9 then Lock
    else (if n == 10 then Condition
    else Body))))

abbrev pub word_of : ℕ → Word
word_of n = record { 0 = n }

-- the object of which this is the first word and these are the words behind it, the first of them
-- its second header
unfoldable pub standing_of : ℕ → List ℕ → Standing
standing_of w behind =
    record {
      kind = kind_of_number (kind_in w);
      birth = birth_in w;
      fields =
          map word_of (take (fields_in w) (drop 1 behind));
    }

-- the object at a place of the words, of which so many still belong to the object before
unfoldable pub object_in : List ℕ → ℕ → ℕ → Option Standing
object_in [] skip place = None
object_in (w ∷ ws) zero zero = Some (standing_of w ws)
object_in (w ∷ ws) zero (suc place) = object_in ws (suc (fields_in w)) place
object_in (w ∷ ws) (suc skip) zero = None
object_in (w ∷ ws) (suc skip) (suc place) = object_in ws skip place

-- how many words the last object still wants behind these
unfoldable pub wanting : List ℕ → ℕ → ℕ
wanting [] skip = skip
wanting (w ∷ ws) zero = wanting ws (suc (fields_in w))
wanting (w ∷ ws) (suc skip) = wanting ws skip

-- the kinds have the numbers 6 to 11
abbrev pub is_kind_number : ℕ → Bool
is_kind_number n = nat_le 6 n && nat_le n 11

-- whether the first word of each object says a kind
unfoldable pub all_headers : List ℕ → ℕ → Bool
all_headers [] skip = true
all_headers (w ∷ ws) zero = is_kind_number (kind_in w) && all_headers ws (suc (fields_in w))
all_headers (w ∷ ws) (suc skip) = all_headers ws skip

-- what stands in the first words, where these are the next birth number and the space
unfoldable pub heap_in : List ℕ → ℕ → ℕ → Space → Heap
heap_in words used next space =
    record { at = object_in (take used words) 0; next = next; used = used; space = space }
