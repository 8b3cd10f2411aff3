-- A memory and the words that are held of it stay ready.
use Rattle.std.proofs.Common.{◌≡◌, ℕ, Bool, true, false, List, [], ◌∷◌, ◌++◌, length, take, drop, refl, sym, subst, ◌∙◌}
use Rattle.std.proofs.lemmas.List.{take_at}
use Rattle.std.specs.Prelude.{if◌then◌else◌}
use Rattle.ps_word.specs.declared.words.Word.{Word}
use Rattle.ps_mem.specs.Heap.{Heap}
use Rattle.ps_mem.specs.Keeps.{Keeps, Extends}
use Rattle.ps_mem.specs.Shows.{IsValue, AreValues, IsSound, IsReady}
use Rattle.ps_mem.proofs.KeepsLemmas.{AreValues-kept, Keeps-Extends}
use Rattle.ps_mem.proofs.Lists.{all_append}
use Rattle.ps_core_laws.specs.Collected.{IsCollected}
use Rattle.ps_core_laws.proofs.Objects.{sound-moved}
use Rattle.ps_core_laws.proofs.Words.{AreValues-moved}

pub same_ready : (h now : Heap) (words : List Word) → now ≡ h → IsReady h words
    → IsReady now words
same_ready h now words same ready = subst (λ (k : Heap). IsReady k words) (sym same) ready

pub kept_ready : (h now : Heap) (words : List Word) → Keeps h now → IsSound now → IsReady h words
    → IsReady now words
kept_ready h now words keeps sound ready =
    record { sound = sound; values = AreValues-kept h now keeps words ready.values }

pub longer_ready : (h : Heap) (words : List Word) (w : Word) → IsReady h words → IsValue h w
    → IsReady h (words ++ w ∷ [])
longer_ready h words w ready value = record {
  sound = ready.sound;
  values = all_append (IsValue h) words (w ∷ []) ready.values (value, tt);
}

pub collected_ready : (h now : Heap) (roots renamed : List Word) → IsCollected h now roots renamed
    → IsReady h roots → IsReady now renamed
collected_ready h now roots renamed is ready = record {
  sound = sound-moved h now is.forward is.moves ready.sound;
  values = subst (AreValues now) (sym is.are)
      (AreValues-moved h now is.forward is.moves roots is.complete ready.values);
}

-- a word more is held, or wasn't put, of a memory in which more stands
pub made_ready : (h asked now : Heap) (words new : List Word) (w : Word) (put : Bool) → asked ≡ h
    → Extends asked now → IsSound now → IsValue now w
    → new ≡ (if put then words ++ w ∷ [] else words) → IsReady h words → IsReady now new
made_ready h asked now words new w put same extends sound value is ready =
    let kept = kept_ready asked now words (Keeps-Extends asked now extends) sound
    (same_ready h asked words same ready) in
    subst (IsReady now) (sym is)
    (elim put as (λ b. IsReady now (if b then words ++ w ∷ [] else words))
    [ true ↦ longer_ready now words w kept value | false ↦ kept ])

-- the words of a list behind a slice of all of them that was renamed, or wasn't
module _ (h now : Heap) (words roots renamed : List Word) (n : ℕ) (count : length renamed ≡ n)
    (same : roots ≡ words) (ready : IsReady h words) where
  back : IsReady now renamed → IsReady now (take n (renamed ++ drop (length renamed) words))
  back is = subst (IsReady now) (sym (take_at renamed (drop (length renamed) words) n count)) is

  pub moved_ready : IsCollected h now roots renamed
      → IsReady now (take n (renamed ++ drop (length renamed) words))
  moved_ready is =
      back (collected_ready h now roots renamed is (subst (IsReady h) (sym same) ready))

  pub stayed_ready : now ≡ h → renamed ≡ roots
      → IsReady now (take n (renamed ++ drop (length renamed) words))
  stayed_ready is kept =
      back (same_ready h now renamed is (subst (IsReady h) (sym (kept ∙ same)) ready))

  pub perhaps_ready : (moved : Bool) → (moved ≡ true → IsCollected h now roots renamed)
      → (moved ≡ false → now ≡ h) → (moved ≡ false → renamed ≡ roots)
      → IsReady now (take n (renamed ++ drop (length renamed) words))
  perhaps_ready true is heap kept = moved_ready (is refl)
  perhaps_ready false is heap kept = stayed_ready (heap refl) (kept refl)
