-- What is left of a trail behind so many frames.
use Rattle.std.proofs.Common.{◌≡◌, ◌≢◌, ℕ, zero, suc, ◌+◌, List, [], ◌∷◌, ◌++◌, drop, Option, Some, None, refl, sym, ap, ◌∙◌, arith, append-nil}
use Rattle.std.specs.Prelude.{option_map, slice_get}
use Rattle.std.specs.Option.{option_map_or}
use Rattle.std.proofs.lemmas.Option.{slice_get-map}
use Rattle.std.proofs.lemmas.List.{append_assoc}
use Rattle.ps_language.specs.World.{Frame, World}
use Rattle.ps_ctx_readers.specs.declared.frames.FrameView.{FrameView}
use Rattle.ps_ctx_readers.specs.Frames.{frames_at, seen}
use Rattle.ps_walks.specs.declared.raised.Map.{Map}
use Rattle.ps_walks.specs.declared.taken.Taken.{Taken}
use Rattle.ps_walks.specs.Places.{Call, call_of, caller_of, callers_of, calls_of, last_of, trail_of}

-- ---- lists

pub front_more : (all old more new left next : List Call) → all ≡ old ++ left
    → left ≡ more ++ next → new ≡ old ++ more → all ≡ new ++ next
front_more all old more new left next is on pushed =
    is ∙ ap (λ behind. old ++ behind) on ∙ sym (append_assoc old more next)
    ∙ ap (λ front. front ++ next) (sym pushed)

pub front_all : (all old left : List Call) → all ≡ old ++ left → left ≡ [] → old ≡ all
front_all all old left is none =
    sym (is ∙ ap (λ behind. old ++ behind) none ∙ append-nil old)

pub front_first : (all more new next : List Call) (old : List Call) → all ≡ more ++ next
    → new ≡ old ++ more → old ≡ [] → all ≡ new ++ next
front_first all more new next old is pushed none =
    is ∙ ap (λ front. front ++ next) (sym (pushed ∙ ap (λ front. front ++ more) none))

-- ---- trails

-- one, and those behind it
pub calls_first : (m : Map) (now : World) (taken : Taken) (rest : List Taken)
    → calls_of m now (taken ∷ rest) ≡ calls_of m now (taken ∷ []) ++ calls_of m now rest
unfolding calls_of
calls_first m now taken rest = by (call_of m now taken)
  where
    by : (found : Option Call)
        → option_map_or (λ call. call ∷ calls_of m now rest) found (calls_of m now rest)
        ≡ option_map_or (λ call. call ∷ []) found [] ++ calls_of m now rest
    by (Some call) = refl
    by None = refl

drop_first : (list : List Taken) (place : ℕ) (one : Taken) → slice_get list place ≡ Some one
    → drop place list ≡ one ∷ drop (suc place) list
drop_first [] place one is = cc
drop_first (first ∷ rest) zero one is = let same : first ≡ one = cc in ap (λ x. x ∷ rest) same
drop_first (first ∷ rest) (suc place) one is = drop_first rest place one is

drop_none : (list : List Taken) (place : ℕ) → slice_get list place ≡ None → drop place list ≡ []
drop_none [] zero none = refl
drop_none [] (suc place) none = refl
drop_none (first ∷ rest) zero none = cc
drop_none (first ∷ rest) (suc place) none = drop_none rest place none

-- what is told of a frame below so many others
abbrev pub caller_at : (taken : Taken) (token depth : ℕ) → FrameView → Taken
caller_at taken token zero view = caller_of taken (last_of view token)
caller_at taken token (suc depth) view = last_of view token

pub caller_top : (taken : Taken) (token depth : ℕ) (view : FrameView) → depth ≡ 0
    → caller_of taken (last_of view token) ≡ caller_at taken token depth view
caller_top taken token zero view is = refl
caller_top taken token (suc depth) view is = cc

pub caller_below : (taken : Taken) (token depth : ℕ) (view : FrameView) → depth ≢ 0
    → last_of view token ≡ caller_at taken token depth view
caller_below taken token zero view isnt = absurd (isnt refl)
caller_below taken token (suc depth) view isnt = refl

module _ (taken : Taken) (token : ℕ) where
  caller_there : (frames : List Frame) (depth : ℕ) (view : FrameView)
      → option_map seen (slice_get frames depth) ≡ Some view
      → slice_get (callers_of taken token frames) depth ≡ Some (caller_at taken token depth view)
  unfolding callers_of
  caller_there [] depth view is = cc
  caller_there (top ∷ below) zero view is =
      let same : seen top ≡ view = cc in ap (λ v. Some (caller_of taken (last_of v token))) same
  caller_there (top ∷ below) (suc depth) view is =
      slice_get-map (λ one. last_of (seen one) token) below depth ∙ by (slice_get below depth) is
    where
      by : (found : Option Frame) → option_map seen found ≡ Some view
          → option_map (λ one. last_of (seen one) token) found ≡ Some (last_of view token)
      by (Some one) same =
          let here : seen one ≡ view = cc in ap (λ v. Some (last_of v token)) here
      by None same = cc

  caller_gone : (frames : List Frame) (depth : ℕ)
      → option_map seen (slice_get frames depth) ≡ None
      → slice_get (callers_of taken token frames) depth ≡ None
  unfolding callers_of
  caller_gone [] depth is = refl
  caller_gone (top ∷ below) zero is = cc
  caller_gone (top ∷ below) (suc depth) is =
      slice_get-map (λ one. last_of (seen one) token) below depth ∙ by (slice_get below depth) is
    where
      by : (found : Option Frame) → option_map seen found ≡ None
          → option_map (λ one. last_of (seen one) token) found ≡ None
      by (Some one) same = cc
      by None same = refl

  -- what is told of the frames from a place on
  abbrev pub left : Map → World → List Frame → (place : ℕ) → List Call
  left m now frames place = calls_of m now (drop place (callers_of taken token frames))

  module _ (m : Map) (now : World) (frames : List Frame) (depth : ℕ) where
    pub calls_on : (view : FrameView) → option_map seen (slice_get frames depth) ≡ Some view
        → left m now frames depth ≡ calls_of m now (caller_at taken token depth view ∷ [])
        ++ left m now frames (depth + 1)
    calls_on view is =
        let next : suc depth ≡ depth + 1 = omega arith in
        ap (calls_of m now) (drop_first (callers_of taken token frames) depth
        (caller_at taken token depth view) (caller_there frames depth view is))
        ∙ calls_first m now (caller_at taken token depth view)
        (drop (suc depth) (callers_of taken token frames))
        ∙ ap (λ place. calls_of m now (caller_at taken token depth view ∷ [])
        ++ left m now frames place) next

    pub calls_end : option_map seen (slice_get frames depth) ≡ None
        → left m now frames depth ≡ []
    unfolding calls_of
    calls_end is = ap (calls_of m now)
        (drop_none (callers_of taken token frames) depth (caller_gone frames depth is))

-- a trail begins with where the step stands
pub trail_first : (m : Map) (now : World) (taken : Taken)
    → trail_of m now taken ≡ calls_of m now (taken ∷ [])
    ++ left taken m.token m now (frames_at now m.context) 0
unfolding trail_of
trail_first m now taken =
    calls_first m now taken (callers_of taken m.token (frames_at now m.context))
