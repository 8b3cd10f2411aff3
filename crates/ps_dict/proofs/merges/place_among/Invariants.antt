use Rattle.std.proofs.Common.{◌≡◌, None, take}
use Rattle.ps_mem.specs.Index.{pairs_of_words}
use Rattle.ps_dict.specs.Places.{place_of}
use Rattle.ps_dict.proofs.merges.place_among.Given as goal

-- the key isn't among the pairs up to the place
abbrev pub invariant-loop-place : goal.invariant-loop-place
invariant-loop-place l = place_of (take l.place (pairs_of_words l.words)) l.key ≡ None
