-- What the elements of a procedure come to: the first one, and then the others.
use Rattle.std.proofs.Common.{◌≡◌, ℕ, ◌+◌, ◌≤◌, ◌++◌, arith, Bool, true, false, List, [], ◌∷◌, length, Option, Some}
use Rattle.std.proofs.Common.{None, refl, sym, ap, ◌∙◌, append-nil, length-append, bytes_eq}
use Rattle.std.specs.Prelude.{fold, if◌then◌else◌, is_some, option_map}
use Rattle.std.specs.List.{AllByRecursion, list_any}
use Rattle.std.proofs.lemmas.List.Sums.{fold-append}
use Rattle.ps_language.specs.declared.errors.ErrorName.{ErrorName}
use Rattle.ps_language.specs.Dictionaries.{meet}
use Rattle.ps_language.specs.StepTokens.{names_in, Missing, missing_name, missing_or, missing_in}
use Rattle.ps_language.specs.StepValues.{LookedUp, known, unknown, unreadable}
use Rattle.ps_language.specs.Token.{Token, Tokens, number_token, literal_name_token, executable_name_token}
use Rattle.ps_language.specs.Token.{immediate_name_token, string_token, procedure_token, no_tokens, more_tokens}
use Rattle.ps_step_tokens.specs.Missing.{error_of}
use Rattle.ps_step_tokens.specs.Procedures.{element_words}

-- ---- names

pub names_more : (token : Token) (rest : Tokens) → names_in (more_tokens token rest)
    ≡ names_in (more_tokens token no_tokens) ++ names_in rest
names_more (number_token number) rest = refl
names_more (literal_name_token text) rest = refl
names_more (executable_name_token text) rest = refl
names_more (immediate_name_token text) rest = refl
names_more (string_token bytes) rest = refl
names_more (procedure_token inner) rest =
    ap (λ (ns : List (List ℕ)). ns ++ names_in rest) (sym (append-nil (names_in inner)))

-- met, the first one's and those of the others
pub met_more : (P : List ℕ → Type 0) (xs ys : List (List ℕ)) → AllByRecursion P (xs ++ ys)
    → AllByRecursion P xs × AllByRecursion P ys
met_more P [] ys all = (tt, all)
met_more P (x ∷ xs) ys all =
    let rest = met_more P xs ys all.1 in ((all.0, rest.0), rest.1)

pub formed_more : (names : List (List ℕ)) (token : Token) (rest : Tokens)
    → fold meet names (names_in (more_tokens token rest))
    ≡ fold meet (fold meet names (names_in (more_tokens token no_tokens))) (names_in rest)
formed_more names token rest =
    ap (fold meet names) (names_more token rest)
    ∙ fold-append meet names (names_in (more_tokens token no_tokens)) (names_in rest)

meet_longer : (names : List (List ℕ)) (text : List ℕ) → length names ≤ length (meet names text)
meet_longer names text = by (list_any (bytes_eq text) names)
  where
    by : (met : Bool) → length names ≤ length (if met then names else names ++ text ∷ [])
    by true = omega arith
    by false = let size = length-append names (text ∷ []) in omega (arith, size)

pub fold_longer : (names texts : List (List ℕ)) → length names ≤ length (fold meet names texts)
fold_longer names [] = omega arith
fold_longer names (text ∷ texts) =
    let one = meet_longer names text in
    let rest = fold_longer (meet names text) texts in
    omega (arith, one, rest)

-- each is one more at most
meet_few : (names : List (List ℕ)) (text : List ℕ)
    → length (meet names text) ≤ length names + 1
meet_few names text = by (list_any (bytes_eq text) names)
  where
    by : (met : Bool) → length (if met then names else names ++ text ∷ []) ≤ length names + 1
    by true = omega arith
    by false = let size = length-append names (text ∷ []) in omega (arith, size)

pub fold_few : (names texts : List (List ℕ))
    → length (fold meet names texts) ≤ length names + length texts
fold_few names [] = omega arith
fold_few names (text ∷ texts) =
    let one = meet_few names text in
    let rest = fold_few (meet names text) texts in
    omega (arith, one, rest)

-- and no more than there are elements
pub names_few : (elements : Tokens) → length (names_in elements) ≤ element_words elements
names_few no_tokens = omega arith
names_few (more_tokens (number_token number) rest) = let few = names_few rest in omega (arith, few)
names_few (more_tokens (literal_name_token text) rest) =
    let few = names_few rest in omega (arith, few)
names_few (more_tokens (executable_name_token text) rest) =
    let few = names_few rest in omega (arith, few)
names_few (more_tokens (immediate_name_token text) rest) =
    let few = names_few rest in omega (arith, few)
names_few (more_tokens (string_token bytes) rest) = let few = names_few rest in omega (arith, few)
names_few (more_tokens (procedure_token inner) rest) =
    let first = names_few inner in
    let few = names_few rest in
    let size = length-append (names_in inner) (names_in rest) in
    omega (arith, first, few, size)

-- ---- names behind //

module _ (look : List ℕ → LookedUp) where
  name_or : (text : List ℕ) (found : LookedUp) (later : Option Missing)
      → missing_name text found later ≡ missing_or (missing_name text found None) later
  name_or text (known value) later = refl
  name_or text unknown later = refl
  name_or text unreadable later = refl

  or_none : (inner later : Option Missing)
      → missing_or inner later ≡ missing_or (missing_or inner None) later
  or_none (Some missing) later = refl
  or_none None later = refl

  pub missing_more : (token : Token) (rest : Tokens) → missing_in look (more_tokens token rest)
      ≡ missing_or (missing_in look (more_tokens token no_tokens)) (missing_in look rest)
  missing_more (number_token number) rest = refl
  missing_more (literal_name_token text) rest = refl
  missing_more (executable_name_token text) rest = refl
  missing_more (immediate_name_token text) rest = name_or text (look text) (missing_in look rest)
  missing_more (string_token bytes) rest = refl
  missing_more (procedure_token inner) rest = or_none (missing_in look inner) (missing_in look rest)

  -- a procedure alone
  pub missing_alone : (inner : Tokens)
      → missing_in look inner ≡ missing_in look (more_tokens (procedure_token inner) no_tokens)
  missing_alone inner = by (missing_in look inner)
    where
      by : (missing : Option Missing) → missing ≡ missing_or missing None
      by (Some missing) = refl
      by None = refl

-- of one name, by its error
pub missing_by : (text : List ℕ) (found : LookedUp)
    → missing_name text found None
    ≡ option_map (λ (error : ErrorName). record { text = text; error = error }) (error_of found)
missing_by text (known value) = refl
missing_by text unknown = refl
missing_by text unreadable = refl

-- ---- the first of two

module _ {A : Type 0} (f : A → Missing) where
  pub or_some : (found : Option A) → is_some found ≡ true → (later : Option Missing)
      → missing_or (option_map f found) later ≡ option_map f found
  or_some (Some a) some later = refl
  or_some None some later = absurd (cc)

  pub or_other : (found : Option A) → is_some found ≡ false → (later : Option Missing)
      → missing_or (option_map f found) later ≡ later
  or_other (Some a) none later = absurd (cc)
  or_other None none later = refl
