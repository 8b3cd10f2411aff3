-- Bytes of a part of a string, shown behind those before them.
use Rattle.std.proofs.Common.{◌≡◌, ℕ, ◌+◌, ◌<◌, ◌≤◌, List, ◌++◌, length, take, drop}
use Rattle.std.specs.Prelude.{slice_range}
use Rattle.std.specs.List.{flat_map}
use Rattle.ps_language.specs.Texts.{escaped}
use Rattle.ps_seq.proofs.CompareLemmas.{run_more}
use Rattle.ps_text.proofs.Rests.{run_step, run_full}

module _ (t : List ℕ) (offset long index count : ℕ) (within : offset + long ≤ length t)
    (inside : index + count ≤ long) (run shown : List ℕ)
    (lies : run ≡ slice_range t (offset + index) (offset + index + count))
    (is : flat_map escaped run ≡ shown) (end : ℕ) (all now : List ℕ)
    (rest : take end (now ++ flat_map escaped (drop index (slice_range t offset (offset + long))))
    ≡ all) where
  abbrev whole : List ℕ
  whole = slice_range t offset (offset + long)

  left : drop index whole ≡ run ++ drop (index + count) whole
  left = run_more t offset long index count within inside run lies

  pub shown_step : (new : List ℕ) → new ≡ take end (now ++ shown)
      → take end (new ++ flat_map escaped (drop (index + count) whole)) ≡ all
  shown_step = run_step end escaped all now index count whole run shown left is rest

  pub shown_full : (room : ℕ) → room < length (take end (now ++ shown)) → room < length all
  shown_full = run_full end escaped all now index count whole run shown left is rest
