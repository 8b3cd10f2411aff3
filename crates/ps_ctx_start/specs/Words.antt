-- The pairs of the first dictionaries as words.
use Rattle.std.specs.Prelude.{ℕ, Bool, true, false, List, [], ◌∷◌, ◌++◌, map, ◌+◌}
use Rattle.ps_language.specs.declared.operators.Operator.{Operator as OperatorName}
use Rattle.ps_language.specs.Operators.{every_operator, operator_number}
use Rattle.ps_word.specs.declared.words.Word.{Word}
use Rattle.ps_word.specs.declared.values.Content.{Content}
use Rattle.ps_word.specs.declared.values.Content.TheVariants.{Null, Boolean, Name, Operator, Dictionary}
use Rattle.ps_word.specs.Format.{packed}

-- of a content, literal or executable
abbrev pub word_of : Content → (executable : Bool) → Word
word_of content executable =
    record { 0 = packed (record { content = content; executable = executable }) }

-- a name by its number, and its value
abbrev pub named : (number : ℕ) → Content → (executable : Bool) → Word × Word
named number content executable = (word_of (Name number) false, word_of content executable)

-- an operator under its name; the names of operators follow 35 others
abbrev pub operator_words : OperatorName → Word × Word
operator_words operator = named (35 + operator_number operator) (Operator operator) true

-- the other pairs of systemdict, by the addresses of systemdict and userdict
abbrev pub value_words : (system user : ℕ) → List (Word × Word)
value_words system user =
    named 30 (Boolean true) false ∷ named 31 (Boolean false) false ∷ named 32 Null false
    ∷ named 33 (Dictionary system) false ∷ named 34 (Dictionary user) false ∷ []

-- all its pairs
unfoldable pub system_words : (system user : ℕ) → List (Word × Word)
system_words system user = map operator_words every_operator ++ value_words system user

-- the pairs of $error before the first error
abbrev pub error_words : List (Word × Word)
error_words =
    named 27 (Boolean false) false ∷ named 28 Null false ∷ named 29 Null false ∷ []
