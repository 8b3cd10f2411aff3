-- Stores to the fields of an object, the last one first: they are permitted, and leave the part
-- that stores in rising order leave.
use Rattle.std.proofs.Common.{◌≡◌, ◌≢◌, ℕ, zero, suc, ◌+◌, ◌-◌, ◌<◌, ◌≤◌, true, false, nat_eq, List, [], ◌∷◌, length}
use Rattle.std.proofs.Common.{Some, None, Option, refl, sym, ap, ◌∙◌, inl, inr, subst, arith}
use Rattle.std.specs.Prelude.{slice_set, min, max}
use Rattle.ps_core_machine.specs.declared.events.Object.{Object}
use Rattle.ps_core_machine.specs.declared.events.Vm.{Vm}
use Rattle.ps_core_machine.specs.declared.events.Written.{Written}
use Rattle.ps_core_machine.specs.Objects.{among, object_at, stored, with_field, word_stands, adjoins, widened}
use Rattle.ps_core_machine.specs.Steps.{is_open, field_stored}
use Rattle.ps_core_laws.proofs.HeapTests.{bool_cases, le_true, same_number}
use Rattle.ps_core_laws.proofs.Headed.{stored_objects, stored_header}
use Rattle.ps_core_laws.specs.Stores.{fields_stored, fields_stored_down, MayStoreFieldsDown}
use Rattle.ps_core_laws.proofs.Written.{over, one, only, new_same, old_after, written_out, range, written_all}
use Rattle.ps_core_laws.proofs.Written.{AllStand, word_same, has_field, after_one, count_one}

only_down : (v : Vm) (a i : ℕ) (ws : List ℕ)
    → fields_stored_down v a i ws ≡ over v (fields_stored_down v a i ws)
only_down v a i [] = refl
only_down v a i (w ∷ ws) =
    let rest = fields_stored_down v a (i + 1) ws in
    one rest a i w ∙ ap (λ (x : Vm). over x (field_stored rest a i w)) (only_down v a (i + 1) ws)

open_down : (v : Vm) (a i : ℕ) (ws : List ℕ) → is_open (fields_stored_down v a i ws) ≡ is_open v
open_down v a i ws = ap is_open (only_down v a i ws)

-- ---- the objects

-- stores to one field after another, of the objects alone
abbrev with_words : List Object → ℕ → ℕ → List ℕ → List Object
with_words os a i [] = os
with_words os a i (w ∷ ws) = with_words (with_field os a i w) a (i + 1) ws

rising_objects : (v : Vm) (a i : ℕ) (ws : List ℕ)
    → (fields_stored v a i ws).objects ≡ with_words v.objects a i ws
rising_objects v a i [] = refl
rising_objects v a i (w ∷ ws) = rising_objects (field_stored v a i w) a (i + 1) ws
    ∙ ap (λ (os : List Object). with_words os a (i + 1) ws) (stored_objects v a i w)

set_apart : (xs : List ℕ) (i j w x : ℕ) → i ≢ j
    → slice_set (slice_set xs i w) j x ≡ slice_set (slice_set xs j x) i w
set_apart [] i j w x ne = refl
set_apart (y ∷ xs) zero zero w x ne = absurd (ne refl)
set_apart (y ∷ xs) zero (suc j) w x ne = refl
set_apart (y ∷ xs) (suc i) zero w x ne = refl
set_apart (y ∷ xs) (suc i) (suc j) w x ne =
    ap (λ (l : List ℕ). y ∷ l) (set_apart xs i j w x (λ e. ne (ap suc e)))

stored_hit : (a i w : ℕ) (o : Object) → nat_eq a o.address ≡ true
    → stored a i w o ≡ record o { fields = slice_set o.fields i w }
stored_hit a i w o t = rw t refl

stored_apart : (a i j w x : ℕ) → i ≢ j → (o : Object)
    → stored a j x (stored a i w o) ≡ stored a i w (stored a j x o)
stored_apart a i j w x ne o = elim (bool_cases (nat_eq a o.address)) [
  | inl t ↦ ap (stored a j x) (stored_hit a i w o t)
      ∙ (stored_hit a j x (record o { fields = slice_set o.fields i w }) t
      ∙ (ap (λ (fs : List ℕ). record o { fields = fs }) (set_apart o.fields i j w x ne)
      ∙ (sym (stored_hit a i w (record o { fields = slice_set o.fields j x }) t)
      ∙ sym (ap (stored a i w) (stored_hit a j x o t)))))
  | inr f ↦ rw f (rw f refl)
]

field_apart : (os : List Object) (a i j w x : ℕ) → i ≢ j
    → with_field (with_field os a i w) a j x ≡ with_field (with_field os a j x) a i w
field_apart [] a i j w x ne = refl
field_apart (o ∷ os) a i j w x ne =
    λ k. stored_apart a i j w x ne o k ∷ field_apart os a i j w x ne k

-- a store below the others comes to the same before them and after them
words_apart : (os : List Object) (a i w j : ℕ) (ws : List ℕ) → i < j
    → with_words (with_field os a i w) a j ws ≡ with_field (with_words os a j ws) a i w
words_apart os a i w j [] lt = refl
words_apart os a i w j (x ∷ ws) lt =
    let ne : i ≢ j = omega arith in
    ap (λ (l : List Object). with_words l a (j + 1) ws) (field_apart os a i j w x ne)
    ∙ words_apart (with_field os a j x) a i w (j + 1) ws (omega arith)

falling_objects : (v : Vm) (a i : ℕ) (ws : List ℕ)
    → (fields_stored_down v a i ws).objects ≡ with_words v.objects a i ws
falling_objects v a i [] = refl
falling_objects v a i (w ∷ ws) =
    stored_objects (fields_stored_down v a (i + 1) ws) a i w
    ∙ (ap (λ (os : List Object). with_field os a i w) (falling_objects v a (i + 1) ws)
    ∙ sym (words_apart v.objects a i w (i + 1) ws (omega arith)))

-- ---- what is new, and what is written

stored_true : (v : Vm) (a i w : ℕ) → (field_stored v a i w).stored ≡ true
stored_true v a i w = elim (bool_cases (among v.fresh a)) [ inl t ↦ rw t refl | inr f ↦ rw f refl ]

rising_stored : (v : Vm) (a i : ℕ) (ws : List ℕ) → v.stored ≡ true
    → (fields_stored v a i ws).stored ≡ true
rising_stored v a i [] e = e
rising_stored v a i (w ∷ ws) e =
    rising_stored (field_stored v a i w) a (i + 1) ws (stored_true v a i w)

new_down : (v : Vm) (a i : ℕ) (ws : List ℕ) → among v.fresh a ≡ true
    → ((fields_stored_down v a i ws).fresh ≡ v.fresh)
    × ((fields_stored_down v a i ws).written ≡ v.written)
new_down v a i [] t = (refl, refl)
new_down v a i (w ∷ ws) t =
    let r = new_down v a (i + 1) ws t in
    let rest = fields_stored_down v a (i + 1) ws in
    let t' : among rest.fresh a ≡ true = ap (λ (l : List ℕ). among l a) r.0 ∙ t in
    let fresh : (field_stored rest a i w).fresh ≡ rest.fresh = rw t' refl in
    let written : (field_stored rest a i w).written ≡ rest.written = rw t' refl in
    (fresh ∙ r.0, written ∙ r.1)

old_stays : (v : Vm) (a i : ℕ) (ws : List ℕ) → among v.fresh a ≡ false
    → among (fields_stored_down v a i ws).fresh a ≡ false
old_stays v a i [] off = off
old_stays v a i (w ∷ ws) off =
    let rest = fields_stored_down v a (i + 1) ws in
    let off' = old_stays v a (i + 1) ws off in
    let fresh : (field_stored rest a i w).fresh ≡ [] = rw off' refl in
    ap (λ (l : List ℕ). among l a) fresh

old_down : (v : Vm) (a i w : ℕ) (ws : List ℕ) → among v.fresh a ≡ false
    → (fields_stored_down v a i (w ∷ ws)).fresh ≡ []
old_down v a i w ws off = let off' = old_stays v a (i + 1) ws off in rw off' refl

out_down : (v : Vm) (a i : ℕ) (ws : List ℕ) → is_open v ≡ false
    → (fields_stored_down v a i ws).written ≡ v.written
out_down v a i [] out = refl
out_down v a i (w ∷ ws) out =
    let rest = fields_stored_down v a (i + 1) ws in
    let out' : is_open rest ≡ false = open_down v a (i + 1) ws ∙ out in
    let same : (field_stored rest a i w).written ≡ rest.written =
    elim (bool_cases (among rest.fresh a)) [ inl t ↦ rw t refl | inr n ↦ rw (n, out') refl ] in
    same ∙ out_down v a (i + 1) ws out

-- what is written begins where the last store was, or nothing is
abbrev StartsAt : Option Written → ℕ → ℕ → ℕ → Type 0
StartsAt written a i zero = written ≡ None
StartsAt written a i (suc n) = written ≡ Some (range a i (suc n))

starts_more : (written : Option Written) (a i n : ℕ) → StartsAt written a (i + 1) n
    → widened written a i ≡ range a i (suc n)
starts_more written a i zero e = ap (λ (x : Option Written). widened x a i) e
starts_more written a i (suc n) e =
    let low : min (i + 1) i ≡ i = omega arith in
    let more : max (i + 1 + suc n) (i + 1) - min (i + 1) i ≡ suc (suc n) = omega arith in
    ap (λ (x : Option Written). widened x a i) e ∙ (λ k. range a (low k) (more k))

starts_down : (v : Vm) (a i : ℕ) (ws : List ℕ) → is_open v ≡ true → among v.fresh a ≡ false
    → v.written ≡ None → StartsAt (fields_stored_down v a i ws).written a i (length ws)
starts_down v a i [] is off none = none
starts_down v a i (w ∷ ws) is off none =
    let rest = fields_stored_down v a (i + 1) ws in
    let is' : is_open rest ≡ true = open_down v a (i + 1) ws ∙ is in
    let off' = old_stays v a (i + 1) ws off in
    let wide : (field_stored rest a i w).written ≡ Some (widened rest.written a i) =
    rw (off', is') refl in
    wide ∙ ap (λ (x : Written). Some x)
    (starts_more rest.written a i (length ws) (starts_down v a (i + 1) ws is off none))

starts_adjoin : (written : Option Written) (a i n : ℕ) → StartsAt written a (i + 1) n
    → adjoins written a i ≡ true
starts_adjoin written a i zero e = ap (λ (x : Option Written). adjoins x a i) e
starts_adjoin written a i (suc n) e =
    ap (λ (x : Option Written). adjoins x a i) e
    ∙ (let t = same_number a in let lo = le_true (i + 1) (i + 1) (omega arith) in let hi =
    le_true i (i + 1 + suc n) (omega arith) in rw (t, lo, hi) refl)

-- ---- one part

-- the two orders leave the same part
pub falls : (v : Vm) (a i : ℕ) (ws : List ℕ) → v.written ≡ None
    → fields_stored_down v a i ws ≡ fields_stored v a i ws
falls v a i [] none = refl
falls v a i (w ∷ ws) none =
    let down = fields_stored_down v a i (w ∷ ws) in
    let up = fields_stored v a i (w ∷ ws) in
    let objects : down.objects ≡ up.objects =
    falling_objects v a i (w ∷ ws) ∙ sym (rising_objects v a i (w ∷ ws)) in
    let stored : down.stored ≡ up.stored = stored_true (fields_stored_down v a (i + 1) ws) a i w
    ∙ sym (rising_stored (field_stored v a i w) a (i + 1) ws (stored_true v a i w)) in
    let both : (down.fresh ≡ up.fresh) × (down.written ≡ up.written) =
    elim (bool_cases (among v.fresh a)) [
      | inl t ↦ let d = new_down v a i (w ∷ ws) t in let u = new_same v a i (w ∷ ws) t in
          (d.0 ∙ sym u.0, d.1 ∙ sym u.1)
      | inr off ↦ (
        old_down v a i w ws off ∙ sym (old_after v a i w ws off),
        elim (bool_cases (is_open v)) [
          | inr out ↦ out_down v a i (w ∷ ws) out ∙ sym (written_out v a i (w ∷ ws) out)
          | inl is ↦ starts_down v a i (w ∷ ws) is off none
              ∙ sym (written_all v a i w ws is off none)
        ],
      )
    ] in
    only_down v a i (w ∷ ws)
    ∙ ((λ k. record v {
      objects = objects k;
      stored = stored k;
      fresh = both.0 k;
      written = both.1 k;
    }) ∙ sym (only v a i (w ∷ ws)))

-- ---- when they are permitted

-- the object after the stores
record Fallen (v : Vm) (a : ℕ) (o : Object) (now : Vm) : Type 0 where
  pub object : Object
  pub at : object_at now.objects a ≡ Some object
  pub header : object.header ≡ o.header
  pub count : length object.fields ≡ length o.fields
  pub stands : (header x : ℕ) → word_stands v.objects header x ≡ true
      → word_stands now.objects header x ≡ true

fallen : (v : Vm) (a i : ℕ) (ws : List ℕ) (o : Object) → object_at v.objects a ≡ Some o
    → Fallen v a o (fields_stored_down v a i ws)
fallen v a i [] o e =
    record { object = o; at = e; header = refl; count = refl; stands = λ header x st. st }
fallen v a i (w ∷ ws) o e =
    let rest = fields_stored_down v a (i + 1) ws in
    let r = fallen v a (i + 1) ws o e in
    record {
      object = stored a i w r.object;
      at = after_one rest a i w r.object r.at;
      header = stored_header a i w r.object ∙ r.header;
      count = count_one a i w r.object ∙ r.count;
      stands = λ header x st. word_same rest a i w header x (r.stands header x st);
    }

pub may_fall : (v : Vm) (a i : ℕ) (ws : List ℕ) (o : Object) → object_at v.objects a ≡ Some o
    → i + length ws ≤ length o.fields → AllStand v.objects o.header ws → v.written ≡ None
    → MayStoreFieldsDown v a i ws
may_fall v a i [] o e le st none = tt
may_fall v a i (w ∷ ws) o e le st none =
    let rest = fields_stored_down v a (i + 1) ws in
    let r = fallen v a (i + 1) ws o e in
    let n = r.count in
    let stands : word_stands rest.objects r.object.header w ≡ true =
    subst (λ (h : ℕ). word_stands rest.objects h w ≡ true) (sym r.header)
    (r.stands o.header w st.0) in (
      may_fall v a (i + 1) ws o e (omega arith) st.1 none,
      (
        has_field rest i w (object_at rest.objects a) r.object r.at (omega arith) stands,
        λ off is. elim (bool_cases (among v.fresh a)) [
          | inl t ↦ let same = (new_down v a (i + 1) ws t).0 in
              let t' : among rest.fresh a ≡ true = ap (λ (l : List ℕ). among l a) same ∙ t in
              absurd (let b : true ≡ false = sym t' ∙ off in cc)
          | inr old ↦ starts_adjoin rest.written a i (length ws)
              (starts_down v a (i + 1) ws (sym (open_down v a (i + 1) ws) ∙ is) old none)
        ],
      ),
    )
