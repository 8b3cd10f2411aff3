-- The first dictionaries: what they keep of one another, and the store that they are.
use Rattle.std.proofs.Common.{◌≡◌, ℕ, List, [], ◌∷◌, length, refl, sym, ap, ◌∙◌, ◌+◌, ◌*◌}
use Rattle.ps_language.specs.declared.access.Access.TheVariants.{ReadOnly}
use Rattle.ps_language.specs.declared.kinds.Kind.{Kind}
use Rattle.ps_language.specs.Operators.{operator_count}
use Rattle.ps_language.specs.Value.{Value, dictionary_object, Store}
use Rattle.ps_language.specs.Access.{empty_dictionary, dictionary_at, with_dictionary}
use Rattle.ps_language.specs.Dictionaries.{put_pairs}
use Rattle.ps_language.specs.StepErrors.{new_error_dictionary}
use Rattle.ps_language.specs.Worlds.{system_pairs, first_store}
use Rattle.ps_word.specs.declared.words.Word.{Word}
use Rattle.ps_mem.specs.Heap.{Heap, birth_at, fields_of, fields_at}
use Rattle.ps_mem.specs.Index.{pairs_of_words}
use Rattle.ps_mem.specs.Keeps.{Keeps, Extends}
use Rattle.ps_mem.specs.References.{StandsAs}
use Rattle.ps_mem.specs.Shows.{words_of_pairs}
use Rattle.ps_mem.proofs.KeepsLemmas.{birth_at-kept}
use Rattle.ps_ctx_start.specs.Words.{system_words}
use Rattle.ps_ctx_start.proofs.Meaning.{system-put}

pub pairs-back : (pairs : List (Word × Word)) → pairs_of_words (words_of_pairs pairs) ≡ pairs
unfolding pairs_of_words
pairs-back [] = refl
pairs-back (pair ∷ pairs) = ap (λ ps. pair ∷ ps) (pairs-back pairs)

-- what stood has the fields that it had
pub fields-same : (g h : Heap) → Extends g h → (kind : Kind) (a n : ℕ) → StandsAs g kind a n
    → fields_at h a ≡ fields_at g a
unfolding fields_at
fields-same g h extends kind a n s =
    ap fields_of (extends.same a s.object s.at ∙ sym s.at)

pub birth-same : (g h : Heap) → Keeps g h → (kind : Kind) (a n : ℕ) → StandsAs g kind a n
    → birth_at h a ≡ birth_at g a
birth-same g h keeps kind a n s = birth_at-kept g h keeps a s.object s.at

-- ---- the store

-- systemdict without pairs, userdict and $error
abbrev pub store_before : Store
store_before =
    dictionary_object (empty_dictionary 128) ∷ dictionary_object (empty_dictionary 32)
    ∷ new_error_dictionary ∷ []

-- pairs put into the dictionary of a birth number, and another access
abbrev pub with_put : List (Value × Value) → ℕ → Store → Store
with_put pairs birth s = with_dictionary s birth
    (record (dictionary_at s birth) { pairs = put_pairs (dictionary_at s birth).pairs pairs })

abbrev pub with_read_only : ℕ → Store → Store
with_read_only birth s =
    with_dictionary s birth (record (dictionary_at s birth) { access = ReadOnly })

-- systemdict with these pairs, read-only, and the others
abbrev store_after : List (Value × Value) → Store
store_after pairs =
    dictionary_object (record { pairs = pairs; capacity = 128; access = ReadOnly })
    ∷ dictionary_object (empty_dictionary 32) ∷ new_error_dictionary ∷ []

put_first : with_read_only 0 (with_put system_pairs 0 store_before)
    ≡ store_after (put_pairs [] system_pairs)
unfolding with_dictionary dictionary_at
put_first = refl

pub store-made : (first second : ℕ) (pairs : List (Value × Value)) → first ≡ 0 → second ≡ 0
    → pairs ≡ system_pairs
    → with_read_only second (with_put pairs first store_before) ≡ first_store
store-made first second pairs one two are =
    ap (λ n. with_read_only second (with_put pairs n store_before)) one
    ∙ (ap (λ n. with_read_only n (with_put pairs 0 store_before)) two
    ∙ (ap (λ ps. with_read_only 0 (with_put ps 0 store_before)) are
    ∙ (put_first ∙ ap store_after system-put)))

-- ---- how many words the pairs of systemdict are

pub system-long : (system user : ℕ)
    → length (words_of_pairs (system_words system user)) ≡ 2 * operator_count + 10
unfolding system_words
system-long system user = refl
