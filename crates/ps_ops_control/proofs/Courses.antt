-- The control values of for stay near 32 bits.
use Rattle.std.proofs.Common.{◌≡◌, ℤ, pos, negsuc, ◌+ℤ◌, ◌≤ℤ◌, false, arith, w32}
use Rattle.std.proofs.lemmas.Int.{ints}
use mir.Val.{SFits}
use Rattle.ps_language.specs.StepFrames.{is_past}
use Rattle.ps_ops_control.specs.Frames.{IsCourse}

pub course_begins : (first increment : ℤ) → SFits w32 first → IsCourse first increment
course_begins first (pos n) fits = (omega (arith, ints, fits), omega (arith, ints, fits))
course_begins first (negsuc n) fits = (omega (arith, ints, fits), omega (arith, ints, fits))

-- while it isn't past the limit it is an integer of 32 bits, and the next is near
pub course_goes : (control increment limit : ℤ) → IsCourse control increment → SFits w32 increment → SFits w32 limit
    → is_past control increment limit ≡ false → IsCourse (control +ℤ increment) increment
course_goes control (pos n) limit course step fits going = let low = course.0 in
    let high : control ≤ℤ limit = grind (arith, ints, going) in
    (omega (arith, ints, low, high, step, fits), omega (arith, ints, low, high, step, fits))
course_goes control (negsuc n) limit course step fits going = let high = course.1 in
    let low : limit ≤ℤ control = grind (arith, ints, going) in
    (omega (arith, ints, low, high, step, fits), omega (arith, ints, low, high, step, fits))
