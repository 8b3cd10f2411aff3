-- Room on the execution stack, by the frames of the words.
use Rattle.std.proofs.Common.{◌≡◌, ℕ, ◌+◌, ◌<◌, ◌≤◌, true, false, List, length, map, arith}
use Rattle.std.proofs.lemmas.Bool.Decides.{nat_tests}
use Rattle.std.proofs.lemmas.List.{length-map}
use Rattle.ps_language.specs.World as world
use Rattle.ps_language.specs.Control.{frames_fit}
use Rattle.ps_ops_control.specs.declared.frames.Frame.{Frame}

module _ (meaning : Frame → world.Frame) (frames : List Frame) (n : ℕ) where
  pub fits : length frames + n ≤ 250 → frames_fit n (map meaning frames) ≡ true
  unfolding frames_fit
  fits room = rw (length-map frames meaning) (grind (arith, nat_tests))

  pub full : 250 < length frames + n → frames_fit n (map meaning frames) ≡ false
  unfolding frames_fit
  full room = rw (length-map frames meaning) (grind (arith, nat_tests))
