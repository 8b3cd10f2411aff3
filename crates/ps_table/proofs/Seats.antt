-- The table at the start, a seat that is cut in two, and two that are joined.
use Rattle.std.specs.Prelude.{Some, None}
use Rattle.std.proofs.Common.{◌≡◌, ◌≢◌, ◌⊎◌, ℕ, zero, suc, true, false, true≢false, List, [], ◌∷◌, ◌++◌, length, set}
use Rattle.std.proofs.Common.{refl, sym, ap, ◌∙◌, inl, inr, subst}
use mathlib.Core.Option.{some, some-injective, some-ne-none}
use lib.ListN.{get_elem?}
use Rattle.atomic_table.specs.Table as table
use Rattle.atomic_table.proofs.Lists.{at_set, set_again}
use Rattle.ps_core_machine.specs.declared.events.Event.{Event}
use Rattle.ps_core_machine.specs.Steps.{start}
use Rattle.ps_core_laws.specs.Runs.{IsSpace}
use Rattle.ps_table.specs.declared.plays.View.{View}
use Rattle.ps_table.specs.Shown.{Fits, Shows, first_view, spent_view, vm_side, gc_side, both_sides, no_view, same_view}
use Rattle.ps_table.proofs.Allows.{re_seated}

-- ---- the table at the start, a seat that is cut in two, and two that are joined

pub opens : (space : ℕ) → IsSpace space → (words : List ℕ) → words ≡ (start space).words
    → Shows space (table.opening {S = Unit {0}} words [] (first_view space))
opens space size words is = record {
  size = size;
  events = [];
  vm_at = 0;
  gc_at = 0;
  is_run = tt;
  words_are = is;
  each_view = one;
}
  where
    one : (at : ℕ) (v : View) → get_elem? (first_view space ∷ []) at ≡ some v → Fits space [] 0 0 at
        v
    one zero v e = subst (Fits space [] 0 0 0) (some-injective _ _ e) record {
      vm_here = λ h. refl;
      vm_list = λ h. refl;
      vm_is = λ h. refl;
      gc_here = λ h. refl;
      gc_list = λ h. refl;
      gc_is = λ h. refl;
      whole_is = λ es h. (cc, refl, refl);
    }
    one (suc at) v e = absurd (some-ne-none v (sym e))

at_end : {A : Type 0} (l : List A) (a b : A) (j : ℕ) → get_elem? (l ++ a ∷ []) j ≡ some b
    → (get_elem? l j ≡ some b) ⊎ ((j ≡ length l) × (a ≡ b))
at_end [] a b zero e = inr (refl, some-injective a b e)
at_end [] a b (suc j) e = absurd (some-ne-none b (sym e))
at_end (x ∷ xs) a b zero e = inl e
at_end (x ∷ xs) a b (suc j) e = elim (at_end xs a b j e) [
  | inl h ↦ inl h
  | inr h ↦ inr
      (ap suc h.0, h.1)
]

off : false ≡ true → ⊥
off e = true≢false (sym e)

-- no run is known
unknown : (es : List Event) → None ≡ Some es → ⊥
unknown es h = absurd (cc)

pub splits : (space id : ℕ) (v : View) → v.acts_vm ≡ true → v.acts_gc ≡ true
    → table.Splits {S = Unit {0}} (Shows space) id v (vm_side v) (gc_side v)
splits space id v vm gc s h at =
    let mine = h.each_view id v at in
    let n : ℕ = length (set s.views id (vm_side v)) in
    let one : (j : ℕ) (u : View) → get_elem? (set s.views id (vm_side v)) j ≡ some u
    → Fits space h.events h.vm_at n j u =
    re_seated (Fits space h.events h.vm_at h.gc_at) (Fits space h.events h.vm_at n) s.views id
    (vm_side v)
    record {
      vm_here = mine.vm_here;
      vm_list = mine.vm_list;
      vm_is = mine.vm_is;
      gc_here = λ e. absurd (off e);
      gc_list = λ e. absurd (off e);
      gc_is = λ e. absurd (off e);
      whole_is = λ es h. absurd (unknown es h);
    }
    (λ j u apart fits. record {
      vm_here = fits.vm_here;
      vm_list = fits.vm_list;
      vm_is = fits.vm_is;
      gc_here = λ e. absurd (apart (fits.gc_here e ∙ sym (mine.gc_here gc)));
      gc_list = fits.gc_list;
      gc_is = fits.gc_is;
      whole_is = fits.whole_is;
    })
    h.each_view in
    record {
      size = h.size;
      events = h.events;
      vm_at = h.vm_at;
      gc_at = n;
      is_run = h.is_run;
      words_are = h.words_are;
      each_view = λ j u e. elim (at_end (set s.views id (vm_side v)) (gc_side v) u j e) [
        | inl there ↦ one j u there
        | inr last ↦ subst (λ (y : ℕ × View). Fits space h.events h.vm_at n y.0 y.1)
            (λ i. (sym last.0 i, last.1 i))
            record {
              vm_here = λ e. absurd (off e);
              vm_list = λ e. absurd (off e);
              vm_is = λ e. absurd (off e);
              gc_here = λ e. refl;
              gc_list = mine.gc_list;
              gc_is = mine.gc_is;
              whole_is = λ es h. absurd (unknown es h);
            }
      ];
    }

pub joins : (space id other : ℕ) (v w : View) → v.acts_vm ≡ true → w.acts_gc ≡ true
    → table.Joins {S = Unit {0}} (Shows space) id v other w (both_sides v w) spent_view
joins space id other v w vm gc s h at apart at_other =
    let b : View = both_sides v w in
    let mine = h.each_view id v at in
    let theirs : Fits space h.events h.vm_at h.gc_at other w = elim (at_set s.views id other b w
    at_other) [
      | inl bad ↦ absurd (apart bad.0)
      | inr there ↦ h.each_view other w there.1
    ] in
    let one : (j : ℕ) (u : View) → get_elem? (set s.views id b) j ≡ some u → ((j ≡ id) × (u ≡ b)) ⊎
    ((j ≢ id) × Fits space h.events h.vm_at h.gc_at j u) =
    λ j u e. elim (at_set s.views id j b u e) [
      | inl here ↦ inl (here.0, sym here.1)
      | inr there ↦
          inr (there.0, h.each_view j u there.1)
    ] in
    record {
      size = h.size;
      events = h.events;
      vm_at = id;
      gc_at = id;
      is_run = h.is_run;
      words_are = h.words_are;
      each_view = λ j u e. elim (at_set (set s.views id b) other j spent_view u e) [
        | inl gone ↦ subst (λ (x : View). Fits space h.events id id j x) gone.1
            record {
              vm_here = λ e. absurd (off e);
              vm_list = λ e. absurd (off e);
              vm_is = λ e. absurd (off e);
              gc_here = λ e. absurd (off e);
              gc_list = λ e. absurd (off e);
              gc_is = λ e. absurd (off e);
              whole_is = λ es h. absurd (unknown es h);
            }
        | inr stays ↦ elim (one j u stays.1) [
          | inl here ↦ subst (λ (x : View). Fits space h.events id id j x) (sym here.1)
              record {
                vm_here = λ e. here.0;
                vm_list = mine.vm_list;
                vm_is = mine.vm_is;
                gc_here = λ e. here.0;
                gc_list = theirs.gc_list;
                gc_is = theirs.gc_is;
                whole_is = λ es h. absurd (unknown es h);
              }
          | inr else ↦ record {
            vm_here = λ e. else.1.vm_here e ∙ sym (mine.vm_here vm);
            vm_list = else.1.vm_list;
            vm_is = else.1.vm_is;
            gc_here = λ e. absurd (stays.0 (else.1.gc_here e ∙ sym (theirs.gc_here gc)));
            gc_list = else.1.gc_list;
            gc_is = else.1.gc_is;
            whole_is = else.1.whole_is;
          }
        ]
      ];
    }

-- a spare seat, which knows nothing
pub spares : (space id : ℕ) (v : View) → table.Splits {S = Unit {0}} (Shows space) id v
    (same_view v) (no_view v)
spares space id v s h at = record {
  size = h.size;
  events = h.events;
  vm_at = h.vm_at;
  gc_at = h.gc_at;
  is_run = h.is_run;
  words_are = h.words_are;
  each_view = λ j u e. elim (at_end (set s.views id v) spent_view u j e) [
    | inl there ↦ h.each_view j u (ap (λ (l : List View). get_elem? l j)
        (sym (set_again s.views id v at)) ∙ there)
    | inr last ↦ subst (λ (x : View). Fits space h.events h.vm_at h.gc_at j x) last.1
        record {
          vm_here = λ e. absurd (off e);
          vm_list = λ e. absurd (off e);
          vm_is = λ e. absurd (off e);
          gc_here = λ e. absurd (off e);
          gc_list = λ e. absurd (off e);
          gc_is = λ e. absurd (off e);
          whole_is = λ es h. absurd (unknown es h);
        }
  ];
}
