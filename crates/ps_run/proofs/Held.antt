-- Whether a file holds the program.
use Rattle.std.proofs.Common.{◌≡◌, ◌≢◌, ℕ, Bool, true, false, true≢false, List, Option, Some, None, IfSome, sym, ◌∙◌}
use Rattle.std.specs.Str.{bytes_eq}
use Rattle.std.proofs.lemmas.Slice.Eq.{bytes_eq-Decides}

pub held : (found : Option (List ℕ)) (program : List ℕ) (is : Bool)
    → IfSome found (λ known. is ≡ bytes_eq known program) → is ≡ true
    → IfSome found (λ known. known ≡ program)
held None program is same holds = tt
held (Some known) program is same holds =
    (bytes_eq-Decides known program).0 (sym same ∙ holds)

pub not_held : (found : Option (List ℕ)) (program : List ℕ) (is : Bool)
    → IfSome found (λ known. is ≡ bytes_eq known program) → is ≡ false
    → IfSome found (λ known. known ≢ program)
not_held None program is same lacks = tt
not_held (Some known) program is same lacks = λ equal.
    true≢false (sym ((bytes_eq-Decides known program).1 equal) ∙ (sym same ∙ lacks))
