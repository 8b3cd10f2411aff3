-- Words that were handed over stay known.
use Rattle.std.proofs.Common.{◌≡◌, ℕ, zero, suc, true, false, List, [], ◌∷◌, Some, refl, sym, ap, ◌∙◌, inl, inr}
use Rattle.std.specs.Prelude.{slice_get}
use Rattle.ps_word.specs.declared.words.Word.{Word}
use Rattle.ps_record.specs.declared.Record.{Record}
use Rattle.ps_record.specs.declared.Record.TheVariants.{Close}
use Rattle.ps_core_machine.specs.declared.events.Gc.{Gc}
use Rattle.ps_core_machine.specs.Objects.{among, is_close}
use Rattle.ps_core_laws.proofs.HeapTests.{bool_cases, and_parts, and_both}
use Rattle.ps_core_laws.specs.Stores.{numbers}
use Rattle.ps_table.specs.declared.plays.View.{View}
use Rattle.ps_gc.specs.declared.collector.Drained.{Drained}
use Rattle.ps_gc.specs.declared.collector.Drained.TheVariants.{Nothing, Took, Closed}
use Rattle.ps_gc.specs.Events.{IsKnown, AreKnown, DrainedOf, FindsNothing, is_drained}
use Rattle.ps_gc.specs.Known.{is_known, are_known}
use Rattle.ps_gc.proofs.Sides.{known_is, is_known_as}

module _ (g h : Gc) (more : (b : ℕ) → among g.known b ≡ true → among h.known b ≡ true) where
  pub known_more : (ws : List Word) → are_known g ws ≡ true → are_known h ws ≡ true
  known_more [] are = refl
  known_more (w ∷ ws) are =
      let parts = and_parts (is_known g w) (are_known g ws) are in
      and_both (is_known h w) (are_known h ws)
      (is_known_as h w (λ ref. more _ (known_is g w parts.0 ref))) (known_more ws parts.1)

pub known_all : (g : Gc) (ws : List Word) → are_known g ws ≡ true → AreKnown g (numbers ws)
known_all g [] are = tt
known_all g (w ∷ ws) are =
    let parts = and_parts (is_known g w) (are_known g ws) are in
    (known_is g w parts.0, known_all g ws parts.1)

pub known_at : (g : Gc) (ws : List Word) (i : ℕ) (w : Word) → are_known g ws ≡ true
    → slice_get ws i ≡ Some w → IsKnown g w.0
known_at g [] i w are at = cc
known_at g (v ∷ ws) zero w are at =
    let same : v ≡ w = cc in
    let parts = and_parts (is_known g v) (are_known g ws) are in
    rw (sym same) (known_is g v parts.0)
known_at g (v ∷ ws) (suc i) w are at =
    known_at g ws i w (and_parts (is_known g v) (are_known g ws) are).1 at

-- a look at a log leaves what was known
pub drained_more : (slot : ℕ) (old new : View) (result : Drained)
    → (result ≡ Nothing → FindsNothing old new slot)
    → ((r : Record) → result ≡ Took r → DrainedOf old.gc new.gc slot r × (is_close r ≡ false))
    → (is_drained old.gc slot ≡ true → new.gc ≡ old.gc)
    → (is_drained old.gc slot ≡ false → result ≡ Closed → DrainedOf old.gc new.gc slot Close)
    → (b : ℕ) → among old.gc.known b ≡ true → among new.gc.known b ≡ true
drained_more slot old new Nothing nothing took already close b is =
    ap (λ (m : View). among m.gc.known b) (nothing refl).did ∙ is
drained_more slot old new (Took r) nothing took already close b is = (took r refl).0.known b is
drained_more slot old new Closed nothing took already close b is =
    elim (bool_cases (is_drained old.gc slot)) [
      | inl t ↦ ap (λ (g : Gc). among g.known b) (already t) ∙ is
      | inr f ↦ (close f refl).known b is
    ]
