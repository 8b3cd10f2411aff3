-- The pairs of systemdict pushed one after another.
use Rattle.std.proofs.Common.{◌≡◌, ℕ, zero, suc, ◌+◌, ◌*◌, ◌<◌, ◌≤◌, true, false, List, [], ◌∷◌, ◌++◌, length, map, take, refl, sym, ap, ◌∙◌, arith, append_assoc}
use Rattle.std.specs.Prelude.{slice_index_or, get_or}
use Rattle.std.proofs.lemmas.List.{length-map, length-take-le, map-append, take_all}
use Rattle.ps_language.specs.declared.operators.Operator.TheVariants.{Pop}
use Rattle.ps_language.specs.Operators.{every_operator, operator_count, operator_number}
use Rattle.ps_word.specs.declared.words.Word.{Word}
use Rattle.ps_word.specs.declared.values.Content.TheVariants.{Name, Operator}
use Rattle.ps_mem.specs.Shows.{words_of_pairs}
use Rattle.ps_dict.proofs.Fresh.{slice_get-get_or, take-next}
use Rattle.ps_dict.proofs.Pairs.{words-append, length-words_of_pairs}
use Rattle.ps_ctx_start.specs.Words.{word_of, operator_words, value_words, system_words}

-- ---- the operators by their numbers

-- so many numbers from one on
abbrev counting : ℕ → ℕ → List ℕ
counting from zero = []
counting from (suc more) = from ∷ counting (suc from) more

counted : (from many i d : ℕ) → i < many → get_or (counting from many) i d ≡ from + i
counted from zero i d below = absurd (omega (arith, below))
counted from (suc many) zero d below = omega arith
counted from (suc many) (suc i) d below =
    let e = counted (suc from) many i d (omega (arith, below)) in omega (arith, e)

mapped : {A B : Type 0} (f : A → B) (xs : List A) (i : ℕ) (a : A) (b : B) → i < length xs
    → get_or (map f xs) i b ≡ f (get_or xs i a)
mapped f [] i a b below = absurd (omega (arith, below))
mapped f (x ∷ xs) zero a b below = refl
mapped f (x ∷ xs) (suc i) a b below = mapped f xs i a b (omega (arith, below))

all_numbers : map operator_number every_operator ≡ counting 0 operator_count
all_numbers = refl

many : length every_operator ≡ operator_count
many = refl

pub number-of : (i : ℕ) → i < operator_count → operator_number (slice_index_or every_operator i Pop) ≡ i
number-of i below =
    sym (mapped operator_number every_operator i Pop 0 (omega (arith, below, many)))
    ∙ (ap (λ ns. get_or ns i 0) all_numbers ∙ (counted 0 operator_count i 0 below ∙ (let same : 0 + i ≡ i = omega arith in same)))

-- ---- pushed

-- of the first operators
abbrev pub pushed : ℕ → List Word
pushed count = words_of_pairs (map operator_words (take count every_operator))

pub pushed-long : (count : ℕ) → count ≤ operator_count → length (pushed count) ≡ 2 * count
pushed-long count below =
    length-words_of_pairs (map operator_words (take count every_operator))
    ∙ ap (λ n. 2 * n) (length-map (take count every_operator) operator_words
    ∙ length-take-le count every_operator (omega (arith, below, many)))

pub pushed-next : (i : ℕ) → i < operator_count
    → pushed i ++ word_of (Name (35 + i)) false
    ∷ word_of (Operator (slice_index_or every_operator i Pop)) true ∷ [] ≡ pushed (i + 1)
pushed-next i below =
    let operator = slice_index_or every_operator i Pop in
    ap (λ n. pushed i ++ word_of (Name (35 + n)) false ∷ word_of (Operator operator) true ∷ [])
    (sym (number-of i below))
    ∙ (sym (words-append (map operator_words (take i every_operator))
    (operator_words operator ∷ []))
    ∙ ap words_of_pairs (sym (ap (map operator_words)
    (take-next every_operator i operator
    (slice_get-get_or every_operator i Pop (omega (arith, below, many))))
    ∙ map-append operator_words (take i every_operator) (operator ∷ []))))

pub pushed-all : (count : ℕ) → operator_count ≤ count
    → pushed count ≡ words_of_pairs (map operator_words every_operator)
pushed-all count all = ap (λ os. words_of_pairs (map operator_words os))
    (take_all count every_operator (omega (arith, all, many)))

pub operators-long : length (words_of_pairs (map operator_words every_operator))
    ≡ 2 * operator_count
operators-long =
    sym (ap length (pushed-all operator_count (omega arith)))
    ∙ pushed-long operator_count (omega arith)

pub system-pushed : (system user : ℕ)
    → words_of_pairs (map operator_words every_operator) ++ words_of_pairs (value_words system user)
    ≡ words_of_pairs (system_words system user)
unfolding system_words
system-pushed system user =
    sym (words-append (map operator_words every_operator) (value_words system user))

-- a pair more behind what was pushed behind others
pub pair-behind : (first front before after : List Word) (key value word : Word)
    → after ≡ before ++ key ∷ value ∷ [] → before ≡ first ++ front → value ≡ word
    → after ≡ first ++ (front ++ key ∷ word ∷ [])
pair-behind first front before after key value word is was same =
    is ∙ (ap (λ ws. ws ++ key ∷ value ∷ []) was
    ∙ (append_assoc first front (key ∷ value ∷ [])
    ∙ ap (λ w. first ++ (front ++ key ∷ w ∷ [])) same))
