-- How all contexts stand, one after another, and the arrows to them.
use Rattle.std.proofs.Common.{◌≡◌, ◌∙◌, ap, sym, ℕ, ◌+◌, ◌<◌, Bool, List, [], ◌∷◌, ◌++◌, Some, length, arith, inl, inr}
use Rattle.std.specs.Prelude.{◌==◌, ◌&&◌, not, slice_get, if◌then◌else◌}
use Rattle.std.specs.List.{flat_map, range_with_len}
use Rattle.std.proofs.lemmas.Bool.{cases_lt}
use Rattle.std.proofs.lemmas.List.{flat_map_more}
use Rattle.ps_language.specs.World.{World}
use Rattle.ps_mem.proofs.Lists.{slice_get-append_end, slice_get-append_within}
use Rattle.ps_timelines.specs.declared.arrows.Arrow.{Arrow}
use Rattle.ps_timelines.proofs.Appended.{numbers_more}
use Rattle.ps_states.specs.declared.presences.Tie.{Tie}
use Rattle.ps_states.specs.declared.presences.Presence.{Presence}
use Rattle.ps_states.specs.Moments.{arrow_of, arrow_to, is_related, presence_at}

-- one more of them
pub told_more : (f : ℕ → Presence) (xs new : List Presence) (n : ℕ) (x : Presence) → length xs ≡ n
    → new ≡ xs ++ x ∷ [] → ((k : ℕ) → k < n → slice_get xs k ≡ Some (f (k + 1))) → x ≡ f (n + 1)
    → (k : ℕ) → k < n + 1 → slice_get new k ≡ Some (f (k + 1))
told_more f xs new n x count is so last k within = elim (cases_lt k n) [
  | inl less ↦
      ap (λ l. slice_get l k) is ∙ slice_get-append_within xs (x ∷ []) k (f (k + 1)) (so k less)
  | inr more ↦
      let at : k ≡ length xs = omega (arith, count, within, more) in
      let same : n ≡ k = omega (arith, count, within, more) in
      ap (λ l. slice_get l k) is ∙ ap (slice_get (xs ++ x ∷ [])) at ∙ slice_get-append_end xs [] x
      ∙ ap Some (last ∙ ap (λ m. f (m + 1)) same)
]

-- the arrow to one, where there is one
module _ (tie : Tie) (step from to : ℕ) (now after : World) where
  pub arrow_is : (wanted : Bool) (before behind : Presence) (arrow : Arrow)
      → wanted ≡ (not (from == to) && is_related tie before behind)
      → before ≡ presence_at now to → behind ≡ presence_at after to → arrow ≡ arrow_of step from to
      → (if wanted then arrow ∷ [] else []) ≡ arrow_to tie step from now after to
  arrow_is wanted before behind arrow want first second is =
      ap (λ (b : Bool). if b then arrow ∷ [] else [])
      (want ∙ ap (λ s. not (from == to) && is_related tie s behind) first
      ∙ ap (λ s. not (from == to) && is_related tie (presence_at now to) s) second)
      ∙ ap (λ a. if not (from == to) && is_related tie (presence_at now to) (presence_at after to)
      then a ∷ [] else []) is

-- and those to one more
pub arrows_more : (f : ℕ → List Arrow) (n : ℕ) (old before new : List Arrow)
    → before ≡ old ++ flat_map f (range_with_len 1 n) → new ≡ before ++ f (n + 1)
    → new ≡ old ++ flat_map f (range_with_len 1 (n + 1))
arrows_more f n old before new e g =
    let next : n + 1 ≡ 1 + n = omega arith in
    g ∙ ap (λ l. l ++ f (n + 1)) e ∙ flat_map_more f old (range_with_len 1 n) (n + 1)
    ∙ ap (λ l. old ++ flat_map f l)
    (ap (λ k. range_with_len 1 n ++ k ∷ []) next ∙ sym (numbers_more 1 n))
