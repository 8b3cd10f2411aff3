-- What the text of a definition is, by examples.
use Rattle.std.proofs.Common.{◌≡◌, ℕ, true, List, [], ◌∷◌, ◌++◌, refl, ap, arith}
use Rattle.std.proofs.lemmas.Fmt.{decimal_digit}
use Rattle.std.specs.Prelude.{codes, negsuc, pos}
use Rattle.ps_prologues.specs.Prologues.{definition_text, hex_text}
use Rattle.ps_prologues.specs.declared.definitions.DefinedValue.TheVariants.{Integer, Boolean}

-- a negative integer has its sign in front of its digits
negative : definition_text (codes "x") (Integer (negsuc 4)) ≡ codes "/x -5 def\n"
negative =
    ap (λ (ds : List ℕ). codes "/x -" ++ (ds ++ codes " def\n")) (decimal_digit 5 (omega arith))

zero_number : definition_text (codes "x") (Integer (pos 0)) ≡ codes "/x 0 def\n"
zero_number =
    ap (λ (ds : List ℕ). codes "/x " ++ (ds ++ codes " def\n")) (decimal_digit 0 (omega arith))

truth : definition_text (codes "on?") (Boolean true) ≡ codes "/on? true def\n"
truth = refl

-- a byte below 16 has two digits too, and letters are small
hello : hex_text (codes "Hi" ++ 0 ∷ 10 ∷ 255 ∷ []) ≡ codes "4869000aff"
hello = refl

no_bytes : hex_text [] ≡ []
no_bytes = refl
