-- What known bytes come to behind one another.
use Rattle.std.proofs.Common.{◌≡◌, ◌-◌, ℕ, List, [], ◌++◌, Option, take, drop, length, sym, ap, ◌∙◌, arith, append_assoc, append-nil, length-drop}
use Rattle.std.specs.Io.KnownBytes.{Appends}
use Rattle.std.proofs.KnownBytes.{Appends-trans}
use Rattle.std.proofs.lemmas.List.{take_all}
use Rattle.ps_vault.specs.Screens.{AppendsPart}

-- bytes, and then a beginning of others
pub part_behind : (a b c : Option (List ℕ)) (xs ys : List ℕ) → Appends a b xs → AppendsPart b c ys
    → AppendsPart a c (xs ++ ys)
part_behind a b c xs ys first second = record {
  part = xs ++ second.part;
  rest = second.rest;
  is = ap (λ bytes. xs ++ bytes) second.is ∙ sym (append_assoc xs second.part second.rest);
  written = Appends-trans a b c xs second.part first second.written;
}

-- a beginning of bytes is one of those with others behind them
pub part_before : (a b : Option (List ℕ)) (xs ys : List ℕ) → AppendsPart a b xs
    → AppendsPart a b (xs ++ ys)
part_before a b xs ys some = record {
  part = some.part;
  rest = some.rest ++ ys;
  is = ap (λ bytes. bytes ++ ys) some.is ∙ append_assoc some.part some.rest ys;
  written = some.written;
}

-- all bytes are one
pub part_whole : (a b : Option (List ℕ)) (xs : List ℕ) → Appends a b xs → AppendsPart a b xs
part_whole a b xs all = record { part = xs; rest = []; is = sym (append-nil xs); written = all }

-- what is left is taken whole
pub rest_whole : (bytes : List ℕ) (m : ℕ) → take (length bytes - m) (drop m bytes) ≡ drop m bytes
rest_whole bytes m = take_all (length bytes - m) (drop m bytes)
    (let left = length-drop m bytes in omega (arith, left))
