-- Which dictionaries may have a name as a key, as a memory's marks tell it.
use Rattle.std.specs.Prelude.{ℕ, ◌≡◌, ◌+◌, ◌%◌, ◌==◌, Bool, true, false, List, slice_get, slice_index_or, Some, if◌then◌else◌}
use Rattle.ps_language.specs.declared.kinds.Kind.TheVariants.{Body as BodyKind}
use Rattle.ps_word.specs.declared.words.Word.{Word}
use Rattle.ps_word.specs.declared.values.Content.TheVariants.{Name}
use Rattle.ps_word.specs.Format.{content_in}
use Rattle.ps_mem.specs.Heap.{Heap, Standing, object_at}
use Rattle.ps_mem.specs.declared.marks.Mark.{Mark}
use Rattle.ps_mem.specs.declared.marks.Mark.TheVariants.{Nowhere, In, Anywhere}

-- ---- one mark

-- whether the dictionary of a birth number may have the name
abbrev pub admits : Mark → ℕ → Bool
admits Nowhere birth = false
admits (In one) birth = one == birth
admits Anywhere birth = true

-- the least mark that admits this birth number too
abbrev pub widened : Mark → ℕ → Mark
widened Nowhere birth = In birth
widened (In one) birth = if one == birth then In one else Anywhere
widened Anywhere birth = Anywhere

-- ---- the marks of all names

-- so many are kept: names whose numbers leave the same remainder share one
abbrev pub marks_kept : ℕ
marks_kept = 1024

abbrev pub mark_of : List Mark → ℕ → Mark
mark_of marks name = slice_index_or marks (name % marks_kept) Anywhere

-- ---- what they tell

-- no body has the name as a key but those that the mark admits: keys stand at the even places
abbrev pub Tells : Heap → (name : ℕ) → Mark → Type 0
Tells h name mark =
    (address place : ℕ) (o : Standing) (w : Word) → object_at h address ≡ Some o
    → o.kind ≡ BodyKind → slice_get o.fields place ≡ Some w → place % 2 ≡ 0
    → content_in w.0 ≡ Name name → admits mark o.birth ≡ true

abbrev pub Covers : Heap → List Mark → Type 0
Covers h marks = (name : ℕ) → Tells h name (mark_of marks name)

-- ---- what is marked before it is stored

-- the name's mark admits the body at an address, where one stands there
abbrev pub IsKeyMarked : Heap → List Mark → (address name : ℕ) → Type 0
IsKeyMarked h marks address name =
    (o : Standing) → object_at h address ≡ Some o → o.kind ≡ BodyKind
    → admits (mark_of marks name) o.birth ≡ true

-- a word that comes to a place there, and is a name's, is no key of a body or is marked
abbrev pub IsMarked : Heap → List Mark → (address place : ℕ) → Word → Type 0
IsMarked h marks address place w =
    place % 2 ≡ 0 → (name : ℕ) → content_in w.0 ≡ Name name → IsKeyMarked h marks address name

abbrev pub AreMarked : Heap → List Mark → (address place : ℕ) → List Word → Type 0
AreMarked h marks address place words =
    (i : ℕ) (w : Word) → slice_get words i ≡ Some w → IsMarked h marks address (place + i) w

-- what was admitted is admitted still
abbrev pub Widens : (old new : List Mark) → Type 0
Widens old new =
    (name birth : ℕ) → admits (mark_of old name) birth ≡ true
    → admits (mark_of new name) birth ≡ true
