-- What a vmstatus is shown.
use Rattle.std.proofs.Common.{◌≡◌, ℤ, Bool, true, false, Option, Some, None, refl}
use Rattle.std.specs.Prelude.{Result, Ok, Err, IfOk, IfSome, is_some, if◌then◌else◌}
use Rattle.ps_mem.specs.Heap.{Heap}
use Rattle.ps_ctx.specs.Steps.{AreShown, IsCounted, shown_words}

-- where it is to be shown something, that is of this memory
pub shown_of : (heap : Heap) (shows : Bool) (shown : Option (ℤ × ℤ))
    → shown ≡ (if shows then Some (shown_words heap) else None)
    → IfSome shown (λ pair. IsCounted heap) → IfSome shown (AreShown heap)
shown_of heap shows None is counted = tt
shown_of heap false (Some pair) is counted = absurd (cc)
shown_of heap true (Some pair) is counted =
    record { is = (let same : pair ≡ shown_words heap = cc in same); counted = counted }

-- and only there
pub shown_if : (pair : ℤ × ℤ) (shows : Bool) (shown : Option (ℤ × ℤ))
    → shown ≡ (if shows then Some pair else None) → is_some shown ≡ shows
shown_if pair true shown is = rw is refl
shown_if pair false shown is = rw is refl

-- what holds anyway holds of what was made
pub if_ok : {A E P : Type 0} (result : Result A E) → P → IfOk result (λ a. P)
if_ok (Ok a) so = so
if_ok (Err e) so = tt
