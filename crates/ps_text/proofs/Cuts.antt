-- Bytes that are cut at an end.
use Rattle.std.proofs.Common.{◌≡◌, ℕ, zero, suc, ◌-◌, ◌<◌, ◌≤◌, min, cond, true, false, List, [], ◌∷◌, ◌++◌, length}
use Rattle.std.proofs.Common.{take, Result, Ok, Err, refl, sym, ap, arith, ◌∙◌, append_assoc, length-append}
use Rattle.std.proofs.Common.{length-take}
use Rattle.std.specs.Prelude.{OnOk, OnErr}
use Rattle.std.specs.Result.{is_ok, is_err}
use Rattle.std.specs.declared.alloc.AllocError.{AllocError}
use Rattle.std.proofs.lemmas.List.{take-take}
use Rattle.ps_text.specs.Shown.{GoesOn}

-- what is cut twice at one end
pub cut-cut : (end : ℕ) (xs ys : List ℕ) → take end (take end xs ++ ys) ≡ take end (xs ++ ys)
cut-cut zero xs ys = refl
cut-cut (suc end) [] ys = refl
cut-cut (suc end) (x ∷ xs) ys = ap (λ zs. x ∷ zs) (cut-cut end xs ys)

pub cut_more : (end : ℕ) (old a b now : List ℕ) → now ≡ take end (old ++ a)
    → take end (now ++ b) ≡ take end (old ++ (a ++ b))
cut_more end old a b now is = ap (λ xs. take end (xs ++ b)) is
    ∙ (cut-cut end (old ++ a) b ∙ ap (take end) (append_assoc old a b))

-- what is full stays so
pub cut_full : (end : ℕ) (now more : List ℕ) → end ≤ length now → length now ≤ end → take end (now ++ more) ≡ now
cut_full zero [] more full short = refl
cut_full zero (x ∷ now) more full short = absurd (omega arith)
cut_full (suc end) [] more full short = absurd (omega arith)
cut_full (suc end) (x ∷ now) more full short = ap (λ xs. x ∷ xs) (cut_full end now more (omega arith) (omega arith))

take_fits : (k n : ℕ) (xs : List ℕ) → k ≡ min (length xs) n → take n xs ≡ take k xs
take_fits k zero xs e = let none : 0 ≡ k = omega arith in ap (λ m. take m xs) none
take_fits zero (suc n) [] e = refl
take_fits (suc k) (suc n) [] e = refl
take_fits zero (suc n) (x ∷ xs) e = absurd (omega arith)
take_fits (suc k) (suc n) (x ∷ xs) e = ap (λ ys. x ∷ ys) (take_fits k n xs (omega arith))

-- as many bytes as fit
pub cut_fits : (end count : ℕ) (old bytes : List ℕ) → length old ≤ end → count ≡ min (length bytes) (end - length old)
    → take end (old ++ bytes) ≡ old ++ take count bytes
cut_fits end count [] bytes short is = take_fits count end bytes (omega arith)
cut_fits zero count (x ∷ old) bytes short is = absurd (omega arith)
cut_fits (suc end) count (x ∷ old) bytes short is =
    ap (λ xs. x ∷ xs) (cut_fits end count old bytes (omega arith) (omega arith))

pub cut_extended : (r : Result Unit AllocError) (end count : ℕ) (old bytes part new : List ℕ) → length old ≤ end
    → count ≡ min (length bytes) (end - length old) → part ≡ take count bytes →
    new ≡ cond (is_ok r) (old ++ part) old → OnOk r (new ≡ take end (old ++ bytes))
cut_extended (Ok done) end count old bytes part new short is cut e = e
    ∙ (ap (λ xs. old ++ xs) cut ∙ sym (cut_fits end count old bytes short is))
cut_extended (Err error) end count old bytes part new short is cut e = tt

module _ (P Q : Type 0) (f : P → Q) where
  pub on_ok : (r : Result Unit AllocError) → OnOk r P → OnOk r Q
  on_ok (Ok done) p = f p
  on_ok (Err error) p = p

-- a last piece behind what was written
pub cut_last : (r : Result Unit AllocError) (end : ℕ) (old a b now new : List ℕ) → now ≡ take end (old ++ a)
    → OnOk r (new ≡ take end (now ++ b)) → OnOk r (new ≡ take end (old ++ (a ++ b)))
cut_last r end old a b now new is last = on_ok _ _ (λ e. e ∙ cut_more end old a b now is) r last

-- ---- what has no room

pub longer_cut : (end : ℕ) (xs ys : List ℕ) → length (take end xs) ≤ length (take end (xs ++ ys))
longer_cut end xs ys = omega (arith, length-take end xs, length-take end (xs ++ ys), length-append xs ys)

pub longer : (end : ℕ) (old a b : List ℕ) → length (take end (old ++ a)) ≤ length (take end (old ++ (a ++ b)))
longer end old a b = let more = longer_cut end (old ++ a) b in
    omega (arith, more, ap (λ xs. length (take end xs)) (append_assoc old a b))

module _ (P Q : Type 0) (f : P → Q) where
  pub on_err : (r : Result Unit AllocError) → OnErr r P → OnErr r Q
  on_err (Ok done) p = p
  on_err (Err error) p = f p

-- a last piece finds no room
pub full_last : (r : Result Unit AllocError) (end : ℕ) (old a b now : List ℕ) (room room_now : ℕ)
    → now ≡ take end (old ++ a) → room ≤ room_now →
    OnErr r (room_now < length (take end (now ++ b))) → OnErr r (room < length (take end (old ++ (a ++ b))))
full_last r end old a b now room room_now is grown last =
    on_err _ _ (λ (h : room_now < length (take end (now ++ b))). omega
    (arith, grown, h, ap length (cut_more end old a b now is))) r last

-- a piece before the last finds none
pub full_first : (end : ℕ) (old a b : List ℕ) (room : ℕ) → room < length (take end (old ++ a))
    → room < length (take end (old ++ (a ++ b)))
full_first end old a b room h = omega (arith, h, longer end old a b)

pub full_next : (end : ℕ) (old a b now : List ℕ) (room room_now : ℕ) → now ≡ take end (old ++ a) → room ≤ room_now
    → room_now < length (take end (now ++ b)) → room < length (take end (old ++ (a ++ b)))
full_next end old a b now room room_now is grown h = omega (arith, grown, h, ap length (cut_more end old a b now is))

-- ---- three pieces

module _ (end : ℕ) (old a b now : List ℕ) (first : now ≡ take end (old ++ a)) (later : List ℕ) (second : later
    ≡ take end (now ++ b)) where
  both : later ≡ take end (old ++ (a ++ b))
  both = second ∙ cut_more end old a b now first

  pub cut_three : (r : Result Unit AllocError) (c new : List ℕ) → OnOk r (new ≡ take end (later ++ c))
      → OnOk r (new ≡ take end (old ++ ((a ++ b) ++ c)))
  cut_three r c new third = cut_last r end old (a ++ b) c later new both third

  pub full_three : (r : Result Unit AllocError) (c : List ℕ) (room room_later : ℕ) → room ≤ room_later
      → OnErr r (room_later < length (take end (later ++ c)))
      → OnErr r (room < length (take end (old ++ ((a ++ b) ++ c))))
  full_three r c room room_later grown third = full_last r end old (a ++ b) c later room room_later both grown third

-- at an exit by `?`
pub err_given : {T E : Type 0} (P : Type 0) (r : Result T E) → P → OnErr r P
err_given P (Ok done) p = tt
err_given P (Err error) p = p

-- ---- what goes on

take_less : (m n : ℕ) (xs ys : List ℕ) → m ≤ n → take n xs ≡ ys → take m xs ≡ take m ys
take_less m n xs ys h e = sym (take-take m n xs h) ∙ ap (take m) e

-- what begins with old is no shorter
pub begins_longer : (old new : List ℕ) → take (length old) new ≡ old → length old ≤ length new
begins_longer old new e = omega (arith, ap length e, length-take (length old) new)

pub begins_on : (old now new : List ℕ) → take (length old) now ≡ old → take (length now) new ≡ now
    → take (length old) new ≡ old
begins_on old now new first later = take_less (length old) (length now) new now (begins_longer old now first) later
    ∙ first

pub goes_further : (end : ℕ) (old now new : List ℕ) → GoesOn end old now → GoesOn end now new → GoesOn end old new
goes_further end old now new first later = record {
  begins = begins_on old now new first.begins later.begins;
  short = later.short;
}

-- ---- which of the two it was

pub was_ok : {T E : Type 0} (P : Type 0) (r : Result T E) → false ≡ is_err r → OnOk r P → P
was_ok P (Ok done) is holds = holds
was_ok P (Err error) is holds = cc

pub was_err : {T E : Type 0} (P : Type 0) (r : Result T E) → true ≡ is_err r → OnErr r P → P
was_err P (Ok done) is holds = cc
was_err P (Err error) is holds = holds

-- where there is room it was done
pub with_room : {P Q : Type 0} (r : Result Unit AllocError) → OnErr r P → (P → ⊥) → OnOk r Q → Q
with_room (Ok done) full room holds = holds
with_room (Err error) full room holds = absurd (room full)
