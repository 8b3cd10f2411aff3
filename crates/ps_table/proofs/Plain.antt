-- A step of a play over words that one seat steps through by itself.
use Rattle.std.proofs.Common.{◌≡◌, ℕ, zero, suc, true, List, [], ◌∷◌, ◌<◌, refl, sym, ap, ◌∙◌, subst}
use Rattle.std.specs.Prelude.{Option, Some, None, is_some, slice_index, slice_set}
use mathlib.Core.Option.{some, some-ne-none, some-injective}
use lib.ListN.{get_elem?}
use Rattle.atomic_table.specs.Table as table
use Rattle.ps_core_machine.specs.declared.events.Event.{Event}
use Rattle.ps_core_laws.specs.Runs.{run, IsRun}
use Rattle.ps_table.specs.declared.plays.View.{View}
use Rattle.ps_table.specs.Shown.{Fits, Shows, SeatState}
use Rattle.ps_table.specs.Plain.{AreNoted, Notes, ShowWords}
use Rattle.ps_table.proofs.Allows.{re_seated}

-- where no slot is at home and none is carried, none is taken
nothing_taken : (a : table.Act (Unit {0})) → table.Valid {S = Unit {0}} [] [] a
    → (table.carried_after {S = Unit {0}} [] a ≡ []) × (table.homes_after {S = Unit {0}} [] [] a ≡ [])
nothing_taken table.keeps v = (refl, refl)
nothing_taken (table.takes k y) v = absurd (some-ne-none _ (sym v))
nothing_taken table.gives v = (refl, refl)
nothing_taken (table.chain a b) v =
    let x = nothing_taken a v.0 in
    subst (λ (y : List (ℕ × Unit {0}) × List (mathlib.Core.Option.Option (Unit {0}))).
    table.Valid {S = Unit {0}} y.1 y.0 b
    → (table.carried_after {S = Unit {0}} y.0 b ≡ [])
    × (table.homes_after {S = Unit {0}} y.1 y.0 b ≡ []))
    (λ k. (sym x.0 k, sym x.1 k)) (nothing_taken b) v.1

-- so what is carried stays
carries_nothing : (c : List (ℕ × Unit {0})) (a : table.Act (Unit {0})) → c ≡ []
    → table.Valid {S = Unit {0}} [] c a → table.carried_after {S = Unit {0}} c a ≡ c
carries_nothing c a empty v =
    ap (λ (l : List (ℕ × Unit {0})). table.carried_after {S = Unit {0}} l a) empty
    ∙ ((nothing_taken a (subst (λ (l : List (ℕ × Unit {0})). table.Valid {S = Unit {0}} [] l a) empty
    v)).0 ∙ sym empty)

some_of : (x : Option (List Event)) → is_some x ≡ true → (es : List Event) × (x ≡ Some es)
some_of None h = absurd (cc)
some_of (Some es) h = (es, refl)

module _ (space : ℕ) (m : SeatState) where
  shows_alone : (events : List Event) → Notes space events m.0
      → Shows space (record { words = (run space events).words; homes = []; views = m.0 ∷ [] })
  shows_alone events noted = record {
    size = noted.size;
    events = events;
    vm_at = 0;
    gc_at = 0;
    is_run = noted.is_run;
    words_are = refl;
    each_view = one;
  }
    where
      one : (at : ℕ) (v : View) → get_elem? (m.0 ∷ []) at ≡ some v → Fits space events 0 0 at v
      one zero v e = subst (Fits space events 0 0 0) (some-injective _ _ e) noted.fits
      one (suc at) v e = absurd (some-ne-none v (sym e))

-- A step that every table with this rule allows is allowed by the note of it. The words are the
-- run's, before and after
module _ (space place : ℕ) (becomes : ℕ → ℕ) (items : List ℕ) (m : SeatState)
    (tells : ℕ → SeatState → Type 0) where
  abbrev pub at_place : ℕ
  at_place = slice_index items place

  abbrev pub after_it : List ℕ
  after_it = slice_set items place (becomes at_place)

  pub goes_on : m.1 ≡ [] → ShowWords space items m.0 → at_place < 18446744073709551616
      → table.Allows (Shows space) 0 0 m place becomes tells
      → ((m' : SeatState) → tells at_place m' → is_some m'.0.whole ≡ is_some m.0.whole)
      → (slots id : ℕ) → table.Allows (AreNoted space) slots id m 0 (λ n. n)
      (λ n m'. tells at_place m' × (m'.1 ≡ []) × ShowWords space after_it m'.0)
  goes_on empty shown small allows keeps slots id s h wide at low =
      let known = some_of m.0.whole shown.known in
      let noted = h id m.0 at known.0 known.1 in
      let words : List ℕ = (run space known.0).words in
      let is : items ≡ words = shown.words_are known.0 known.1 in
      let next = allows (record { words = words; homes = []; views = m.0 ∷ [] })
      (shows_alone space m known.0 noted) refl refl
      (subst (λ (ws : List ℕ). slice_index ws place < 18446744073709551616) is small) in
      let w : View = next.0 in
      let after = next.3 in
      let fits = after.each_view 0 w refl in
      let carried = carries_nothing m.1 next.1 empty next.2 in
      let told : tells at_place (w, m.1) = subst (λ (x : ℕ × List (ℕ × Unit {0})). tells x.0 (w, x.1))
      (λ k. (sym (ap (λ (ws : List ℕ). slice_index ws place) is) k, carried k)) next.4 in
      let mine : (events : List Event) → w.whole ≡ Some events → Notes space events w =
      λ events e. record {
        size = after.size;
        is_run = subst (λ (l : List Event). IsRun space l) (fits.whole_is events e).0 after.is_run;
        fits = subst (λ (l : List Event). Fits space l 0 0 0 w) (fits.whole_is events e).0 (record {
          vm_here = λ x. refl;
          vm_list = fits.vm_list;
          vm_is = fits.vm_is;
          gc_here = λ x. refl;
          gc_list = fits.gc_list;
          gc_is = fits.gc_is;
          whole_is = fits.whole_is;
        });
      } in
      let NotedAt : ℕ → View → Type 0 = λ j v. (events : List Event) → v.whole ≡ Some events
      → Notes space events v in (
        w,
        table.keeps,
        tt,
        re_seated NotedAt NotedAt s.views id w mine (λ j v off noted. noted) h,
        (
          told,
          empty,
          record {
            known = keeps (w, m.1) told ∙ shown.known;
            words_are = λ events e. ap
                (λ (ws : List ℕ). slice_set ws place (becomes (slice_index ws place))) is
                ∙ (after.words_are ∙ ap (λ (l : List Event). (run space l).words)
                (fits.whole_is events e).0);
          },
        ),
      )
