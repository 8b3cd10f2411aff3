-- What readers have left, and which bytes those were that they gave.
use Rattle.std.proofs.Common.{◌≡◌, ◌++◌, ◌<◌, ℕ, List, [], Option, None, Some, IfSome, Bool, true, false, refl, sym, ap, subst, ◌∙◌, append_assoc, append-nil, take, drop, length, arith}
use Rattle.std.specs.Bool.{◌==◌, Decides}
use Rattle.std.specs.Str.{bytes_eq}
use Rattle.std.specs.Io.KnownBytes.{Consumes, IsAtEnd}
use Rattle.std.proofs.lemmas.Bool.{true≢false}
use Rattle.std.proofs.lemmas.Bool.Decides.{Decides-eqb, Decides-like, same_from_decides, not_from_Decides}
use Rattle.std.proofs.lemmas.List.{append_cancel_left, length-append, nil_from_length, take-append-drop}
use Rattle.std.proofs.lemmas.Slice.Eq.{bytes_eq-Decides}
use Rattle.std.proofs.Math.Seq.{take-append_seam}

-- a reader at its end gave just what stood in front, so nothing may be left
pub ended_tells : (a b c : Option (List ℕ)) (bytes read left : List ℕ) → Consumes a b read
    → Consumes b c [] → IsAtEnd c → bytes ≡ read ++ left
    → IfSome a (λ known. (length left == 0) ≡ bytes_eq known bytes)
ended_tells None b c bytes read left front none ended is = tt
ended_tells (Some x) None c bytes read left front none ended is = absurd front
ended_tells (Some x) (Some y) None bytes read left front none ended is = absurd none
ended_tells (Some x) (Some y) (Some z) bytes read left front none ended is =
    let whole : x ≡ read = front ∙ ap (λ l. read ++ l) (none ∙ ended) ∙ append-nil read in
    same_from_decides _ _
    (Decides-like _
    (λ nothing. whole ∙ sym (is ∙ ap (λ l. read ++ l) (nil_from_length left nothing)
    ∙ append-nil read))
    (λ same. let lengths = ap length (sym whole ∙ same ∙ is) in
    omega (arith, lengths, length-append read left))
    (Decides-eqb (length left) 0))
    (bytes_eq-Decides x bytes)

-- bytes that don't begin with what was given aren't those of the reader
pub differing_tells : (a b c : Option (List ℕ)) (bytes read left part : List ℕ) → Consumes a b read
    → Consumes b c part → bytes ≡ read ++ left → bytes_eq (take (length part) left) part ≡ false
    → IfSome a (λ known. false ≡ bytes_eq known bytes)
differing_tells None b c bytes read left part front more is differs = tt
differing_tells (Some x) None c bytes read left part front more is differs = absurd front
differing_tells (Some x) (Some y) None bytes read left part front more is differs = absurd more
differing_tells (Some x) (Some y) (Some z) bytes read left part front more is differs =
    same_from_decides false _ (
      (λ no. absurd (true≢false (sym no))),
      λ same.
          let rest : part ++ z ≡ left =
          append_cancel_left read (part ++ z) left (ap (λ l. read ++ l) (sym more) ∙ sym front ∙ same ∙ is) in
          absurd (not_from_Decides _ (bytes_eq-Decides (take (length part) left) part) differs
          (ap (take (length part)) (sym rest) ∙ take-append_seam part z)),
    )
    (bytes_eq-Decides x bytes)

-- what begins with a part is the part and the rest
pub part_and_rest : (bytes read left part rest : List ℕ) → bytes ≡ read ++ left
    → bytes_eq (take (length part) left) part ≡ true → rest ≡ drop (length part) left
    → bytes ≡ (read ++ part) ++ rest
part_and_rest bytes read left part rest is begins dropped =
    is ∙ ap (λ l. read ++ l) (sym (take-append-drop (length part) left)
    ∙ ap (λ l. l ++ drop (length part) left)
    ((bytes_eq-Decides (take (length part) left) part).0 begins)
    ∙ ap (λ l. part ++ l) (sym dropped))
    ∙ sym (append_assoc read part rest)
