-- Two arrays or two strings among values, and what one of them holds written into the other.
use Rattle.std.proofs.Common.{◌≡◌, ℕ, ◌+◌, ◌-◌, arith, List, take, drop, Some, None, refl, ap, ◌∙◌}
use Rattle.std.specs.Prelude.{option_map, slice_range}
use Rattle.ps_language.specs.Value.{Part as PartValue, What, array_value, string_value, Value, Store}
use Rattle.ps_language.specs.Access.{bytes, elements, splice, with_bytes, with_elements, part_bytes, part_elements, with_part_bytes, with_part_elements}
use Rattle.ps_language.specs.Readers.{array_in, string_in, as_array, as_string}
use Rattle.ps_language.specs.RowsSequences.{pair_in, as_pair, with_contents_in, with_contents}
use Rattle.ps_word.specs.declared.values.Part.{Part}
use Rattle.ps_mem.specs.Heap.{Heap, birth_at}
use Rattle.ps_mem.specs.Meaning.{part_of}
use Rattle.ps_mem.specs.Shows.{Shows}
use Rattle.ps_seq.proofs.ArrayLemmas.{nothing_copied}
use Rattle.ps_seq.proofs.TextStores.{nothing_put}
use Rattle.ps_ops_sequences.specs.declared.pairs.Sequence.{Sequence}
use Rattle.ps_ops_sequences.specs.declared.pairs.Sequence.TheVariants.{Arrays, Strings}
use Rattle.ps_ops_sequences.specs.Pairs.{StandsIn, read_as, written}
use Rattle.ps_ops_sequences.specs.Asks.{asked_for, asked_in}

-- ---- by the type

array_pair : (x y : What) (q : PartValue) → array_in y ≡ Some q
    → pair_in x y ≡ option_map (λ p. (p, q)) (array_in x)
array_pair (array_value p) (array_value r) q is =
    let same : r ≡ q = cc in ap (λ t. Some (p, t)) same
array_pair (array_value p) y q is = cc
array_pair (string_value p) (array_value r) q is = refl
array_pair (string_value p) y q is = cc
array_pair x y q is = refl

string_pair : (x y : What) (q : PartValue) → string_in y ≡ Some q
    → pair_in x y ≡ option_map (λ p. (p, q)) (string_in x)
string_pair (string_value p) (string_value r) q is =
    let same : r ≡ q = cc in ap (λ t. Some (p, t)) same
string_pair (string_value p) y q is = cc
string_pair (array_value p) (string_value r) q is = refl
string_pair (array_value p) y q is = cc
string_pair x y q is = refl

no_pair : (x y : What) → array_in y ≡ None → string_in y ≡ None → pair_in x y ≡ None
no_pair (array_value p) (array_value r) array string = cc
no_pair (array_value p) y array string = refl
no_pair (string_value p) (string_value r) array string = cc
no_pair (string_value p) y array string = refl
no_pair x y array string = refl

array_contents : (s : Store) (x : What) (p from to : PartValue) (place : ℕ) → array_in x ≡ Some p
    → with_contents_in s x from to place ≡ with_part_elements s to place (part_elements s from)
array_contents s (array_value _) p from to place is = refl
array_contents s x p from to place is = cc

string_contents : (s : Store) (x : What) (p from to : PartValue) (place : ℕ)
    → string_in x ≡ Some p
    → with_contents_in s x from to place ≡ with_part_bytes s to place (part_bytes s from)
string_contents s (string_value _) p from to place is = refl
string_contents s x p from to place is = cc

-- ---- of values

module _ (x y : Value) where
  pub pair_of_arrays : (q : PartValue) → as_array y ≡ Some q
      → as_pair x y ≡ option_map (λ p. (p, q)) (as_array x)
  unfolding as_pair as_array
  pair_of_arrays q is = array_pair x.what y.what q is

  pub pair_of_strings : (q : PartValue) → as_string y ≡ Some q
      → as_pair x y ≡ option_map (λ p. (p, q)) (as_string x)
  unfolding as_pair as_string
  pair_of_strings q is = string_pair x.what y.what q is

  pub pair_of_neither : as_array y ≡ None → as_string y ≡ None → as_pair x y ≡ None
  unfolding as_pair as_array as_string
  pair_of_neither array string = no_pair x.what y.what array string

asked_array : (x : What) (p : PartValue) → array_in x ≡ Some p
    → asked_in x ≡ asked_for Arrays p.count
asked_array (array_value r) p is = let same : r ≡ p = cc in ap (λ q. asked_for Arrays q.count) same
asked_array x p is = cc

asked_string : (x : What) (p : PartValue) → string_in x ≡ Some p
    → asked_in x ≡ asked_for Strings p.count
asked_string (string_value r) p is =
    let same : r ≡ p = cc in ap (λ q. asked_for Strings q.count) same
asked_string x p is = cc

module _ (x : Value) (p : PartValue) where
  pub contents_of : (of : Sequence) → read_as of x ≡ Some p → (s : Store) (from to : PartValue)
      (place : ℕ) → with_contents s x from to place ≡ written of s from to place
  unfolding with_contents as_array as_string
  contents_of Arrays is s from to place = array_contents s x.what p from to place is
  contents_of Strings is s from to place = string_contents s x.what p from to place is

  pub asked_of : (of : Sequence) → read_as of x ≡ Some p
      → asked_in x.what ≡ asked_for of p.count
  unfolding as_array as_string
  asked_of Arrays is = asked_array x.what p is
  asked_of Strings is = asked_string x.what p is

-- ---- nothing is written

module _ (h : Heap) (names : List (List ℕ)) (s : Store) (shows : Shows h names s) where
  pub nothing_written : (of : Sequence) (from to : Part) (place : ℕ) → StandsIn h of to
      → from.length ≡ 0
      → written of s (part_of (birth_at h) from) (part_of (birth_at h) to) place ≡ s
  nothing_written Arrays from to place stands none =
      let b = birth_at h to.address in
      let es = elements s (birth_at h from.address) in
      ap (λ n. with_elements s b (splice (elements s b) (to.offset + place)
      (slice_range es from.offset (from.offset + n)))) none
      ∙ nothing_copied h to.address _ stands names s shows (to.offset + place) from.offset es
  nothing_written Strings from to place stands none =
      let b = birth_at h to.address in
      let bs = bytes s (birth_at h from.address) in
      let zero : (from.offset + 0) - from.offset ≡ 0 = omega arith in
      ap (λ n. with_bytes s b (splice (bytes s b) (to.offset + place)
      (slice_range bs from.offset (from.offset + n)))) none
      ∙ (ap (λ n. with_bytes s b (splice (bytes s b) (to.offset + place)
      (take n (drop from.offset bs)))) zero
      ∙ nothing_put h to.address _ stands names s shows (to.offset + place))
