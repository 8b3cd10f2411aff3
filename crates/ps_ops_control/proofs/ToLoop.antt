-- How many frames stand up to a loop (PLRM2, 8 'Operators': exit).
use Rattle.std.proofs.Common.{◌≡◌, ◌≢◌, ℕ, zero, suc, ◌+◌, ◌≤◌, Bool, true, false, List, [], ◌∷◌, length, drop, Option}
use Rattle.std.proofs.Common.{Some, None, refl, sym, ap, ◌∙◌, arith}
use Rattle.std.specs.Prelude.{option_map, slice_get, nat_le, if◌then◌else◌}
use Rattle.std.proofs.lemmas.Bool.Decides.{nat_tests}
use Rattle.ps_word.specs.declared.values.Part.{Part}
use Rattle.ps_ops_control.specs.declared.frames.Frame.{Frame}
use Rattle.ps_ops_control.specs.declared.frames.Frame.TheVariants.{Text, Procedure, Pending, Repeat, Loop, For, Forall}
use Rattle.ps_ops_control.specs.declared.frames.Frame.TheVariants.{Stopped, Monitor, Bind}
use Rattle.ps_ops_control.specs.declared.frames.Cause.TheVariants.{Exit}
use Rattle.ps_ops_control.specs.Turns.{ends_at_loop, frames_to_loop, no_more_than}
use Rattle.ps_ops_control.proofs.FramesLeft.{drop_at}

loop_first : (frame : Frame) (frames : List Frame) → ends_at_loop Exit frame ≡ true
    → frames_to_loop (frame ∷ frames) ≡ Some 1
loop_first (Repeat count body) frames is = refl
loop_first (Loop body) frames is = refl
loop_first (For control increment limit body) frames is = refl
loop_first (Forall over at body) frames is = refl
loop_first (Text source at) frames is = cc
loop_first (Procedure rest) frames is = cc
loop_first (Pending word) frames is = cc
loop_first (Monitor lock) frames is = cc
loop_first Stopped frames is = cc
loop_first (Bind over at depth) frames is = cc

none_first : (frame : Frame) (frames : List Frame) → ends_at_loop Exit frame ≡ false
    → ((rest : Part) → frame ≢ Procedure rest) → frames_to_loop (frame ∷ frames) ≡ None
none_first (Procedure rest) frames other nor = absurd (nor rest refl)
none_first (Repeat count body) frames other nor = cc
none_first (Loop body) frames other nor = cc
none_first (For control increment limit body) frames other nor = cc
none_first (Forall over at body) frames other nor = cc
none_first (Text source at) frames other nor = refl
none_first (Pending word) frames other nor = refl
none_first (Monitor lock) frames other nor = refl
none_first Stopped frames other nor = refl
none_first (Bind over at depth) frames other nor = refl

drop_end : (frames : List Frame) (depth : ℕ) → None ≡ slice_get frames depth
    → drop depth frames ≡ []
drop_end [] zero at = refl
drop_end [] (suc depth) at = refl
drop_end (frame ∷ frames) zero at = cc
drop_end (frame ∷ frames) (suc depth) at = drop_end frames depth at

-- a loop is a frame
some_to_loop : (frames : List Frame) (count : ℕ) → frames_to_loop frames ≡ Some count → 1 ≤ count
some_to_loop [] count is = cc
some_to_loop (Procedure rest ∷ frames) count is = by (frames_to_loop frames) is
  where
    by : (found : Option ℕ) → option_map suc found ≡ Some count → 1 ≤ count
    by None is = cc
    by (Some n) is = let one : suc n ≡ count = cc in omega (arith, one)
some_to_loop (Repeat number body ∷ frames) count is = let one : 1 ≡ count = cc in omega (arith, one)
some_to_loop (Loop body ∷ frames) count is = let one : 1 ≡ count = cc in omega (arith, one)
some_to_loop (For control increment limit body ∷ frames) count is =
    let one : 1 ≡ count = cc in omega (arith, one)
some_to_loop (Forall over at body ∷ frames) count is =
    let one : 1 ≡ count = cc in omega (arith, one)
some_to_loop (Text source at ∷ frames) count is = cc
some_to_loop (Pending word ∷ frames) count is = cc
some_to_loop (Monitor lock ∷ frames) count is = cc
some_to_loop (Stopped ∷ frames) count is = cc
some_to_loop (Bind over at depth ∷ frames) count is = cc

past : (depth : ℕ) (found : Option ℕ) → ((n : ℕ) → found ≡ Some n → 1 ≤ n)
    → no_more_than depth (option_map (λ n. depth + n) found) ≡ None
past depth None some = refl
past depth (Some n) some =
    let one = some n refl in
    let more : nat_le (depth + n) depth ≡ false = grind (arith, nat_tests, one) in
    rw more refl

-- so many, and no more than may be
pub may_be : (most count : ℕ) → count ≤ most → no_more_than most (Some count) ≡ Some count
may_be most count few =
    let is : nat_le count most ≡ true = grind (arith, nat_tests, few) in
    rw is refl

pub no_more : (most : ℕ) (found : Option ℕ) (count : ℕ) → Some count ≡ no_more_than most found
    → (count ≤ most) × (found ≡ Some count)
no_more most None count is = cc
no_more most (Some n) count is = by (nat_le n most) refl is
  where
    by : (b : Bool) → nat_le n most ≡ b → Some count ≡ (if b then Some n else None)
        → (count ≤ most) × (Some n ≡ Some count)
    by true few same = let one : count ≡ n = cc in
        ((let le : n ≤ most = grind (arith, nat_tests, few) in omega (arith, le, one)), sym same)
    by false few same = cc

-- what is found behind so many procedures
abbrev pub behind_so_many : (depth : ℕ) → List Frame → Option ℕ
behind_so_many depth frames = option_map (λ n. depth + n) (frames_to_loop (drop depth frames))

none_behind : (found : Option ℕ) → found ≡ option_map (λ n. 0 + n) found
none_behind None = refl
none_behind (Some n) = ap Some (omega arith)

pub found_from : (frames : List Frame) → frames_to_loop frames ≡ behind_so_many 0 frames
found_from frames = none_behind (frames_to_loop frames)

one_more : (depth : ℕ) (found : Option ℕ)
    → option_map (λ n. depth + n) (option_map suc found) ≡ option_map (λ n. depth + 1 + n) found
one_more depth None = refl
one_more depth (Some n) = ap Some (omega arith)

module _ (frames : List Frame) (depth : ℕ) (so_far : frames_to_loop frames ≡ behind_so_many depth frames)
  where
    pub found_here : (frame : Frame) → Some frame ≡ slice_get frames depth
        → ends_at_loop Exit frame ≡ true → frames_to_loop frames ≡ Some (depth + 1)
    found_here frame at is =
        so_far
        ∙ (ap (λ (fs : List Frame). option_map (λ n. depth + n) (frames_to_loop fs))
        (drop_at frames depth frame at)
        ∙ ap (option_map (λ n. depth + n)) (loop_first frame (drop (depth + 1) frames) is))

    pub found_on : (rest : _) → Some (Procedure rest) ≡ slice_get frames depth
        → frames_to_loop frames ≡ behind_so_many (depth + 1) frames
    found_on rest at =
        so_far
        ∙ (ap (λ (fs : List Frame). option_map (λ n. depth + n) (frames_to_loop fs))
        (drop_at frames depth (Procedure rest) at)
        ∙ one_more depth (frames_to_loop (drop (depth + 1) frames)))

    -- a frame that is neither
    pub found_none : (frame : Frame) → Some frame ≡ slice_get frames depth
        → ends_at_loop Exit frame ≡ false → ((rest : Part) → frame ≢ Procedure rest)
        → frames_to_loop frames ≡ None
    found_none frame at other nor =
        so_far
        ∙ (ap (λ (fs : List Frame). option_map (λ n. depth + n) (frames_to_loop fs))
        (drop_at frames depth frame at)
        ∙ ap (option_map (λ n. depth + n)) (none_first frame (drop (depth + 1) frames) other nor))

    -- no frame is left
    pub found_end : None ≡ slice_get frames depth → frames_to_loop frames ≡ None
    found_end at =
        so_far
        ∙ ap (λ (fs : List Frame). option_map (λ n. depth + n) (frames_to_loop fs))
        (drop_end frames depth at)

    -- those behind so many are more
    pub found_past : no_more_than depth (frames_to_loop frames) ≡ None
    found_past =
        ap (no_more_than depth) so_far
        ∙ past depth (frames_to_loop (drop depth frames)) (some_to_loop (drop depth frames))

-- there are so many
some_within : (frames : List Frame) (found : Option ℕ)
    → ((n : ℕ) → found ≡ Some n → n ≤ length frames)
    → (count : ℕ) → option_map suc found ≡ Some count → count ≤ suc (length frames)
some_within frames None few count is = cc
some_within frames (Some n) few count is =
    let one : suc n ≡ count = cc in
    let less = few n refl in
    omega (arith, one, less)

pub found_within : (frames : List Frame) (count : ℕ) → frames_to_loop frames ≡ Some count
    → count ≤ length frames
found_within [] count is = cc
found_within (Procedure rest ∷ frames) count is =
    some_within frames (frames_to_loop frames) (λ n same. found_within frames n same) count is
found_within (Repeat number body ∷ frames) count is = let one : 1 ≡ count = cc in omega (arith, one)
found_within (Loop body ∷ frames) count is = let one : 1 ≡ count = cc in omega (arith, one)
found_within (For control increment limit body ∷ frames) count is =
    let one : 1 ≡ count = cc in omega (arith, one)
found_within (Forall over at body ∷ frames) count is =
    let one : 1 ≡ count = cc in omega (arith, one)
found_within (Text source at ∷ frames) count is = cc
found_within (Pending word ∷ frames) count is = cc
found_within (Monitor lock ∷ frames) count is = cc
found_within (Stopped ∷ frames) count is = cc
found_within (Bind over at depth ∷ frames) count is = cc
