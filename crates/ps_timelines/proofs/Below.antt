-- Lanes one below another.
use Rattle.std.proofs.Common.{◌≡◌, ap, sym, ◌∙◌, ℕ, ◌+◌, ◌*◌, ◌<◌, List, [], ◌∷◌, ◌++◌, length, take, get_or, append_assoc, arith}
use Rattle.std.proofs.lemmas.List.{append-nil, take_more, length-take}
use Rattle.ps_timelines.specs.declared.lanes.Lane.{Lane}
use Rattle.ps_timelines.specs.Lanes.{lane_text}
use Rattle.ps_timelines.specs.Pictures.{lanes_text}
use Rattle.ps_timelines.proofs.Appended.{two}

pub one_below : (steps y z : ℕ) (above : List Lane) (lane : Lane) → z ≡ y + 48 * length above
    → lanes_text steps y (above ++ lane ∷ []) ≡ lanes_text steps y above ++ lane_text steps z lane
unfolding lanes_text
one_below steps y z [] lane e =
    let same : y ≡ z = omega (arith, e) in
    append-nil (lane_text steps y lane) ∙ ap (λ n. lane_text steps n lane) same
one_below steps y z (first ∷ above) lane e =
    ap (λ t. lane_text steps y first ++ t) (one_below steps (y + 48) z above lane (omega (arith, e)))
    ∙ sym (append_assoc (lane_text steps y first) (lanes_text steps (y + 48) above) (lane_text steps z lane))

pub lane_more : (steps z : ℕ) (lanes : List Lane) (i : ℕ) (d : Lane) (old before new : List ℕ) → i < length lanes
    → z ≡ 70 + 48 * i → before ≡ old ++ lanes_text steps 70 (take i lanes)
    → new ≡ before ++ lane_text steps z (get_or lanes i d) → new ≡ old ++ lanes_text steps 70 (take (i + 1) lanes)
lane_more steps z lanes i d old before new h e f g =
    let so_far : length (take i lanes) ≡ i = length-take i lanes ∙ omega arith in
    two old before new (lanes_text steps 70 (take i lanes)) (lane_text steps z (get_or lanes i d)) f g
    ∙ ap (λ t. old ++ t) (sym (one_below steps 70 z (take i lanes) (get_or lanes i d) (omega (arith, e, so_far))))
    ∙ ap (λ l. old ++ lanes_text steps 70 l) (sym (take_more lanes i d h))

pub no_lane : (steps : ℕ) (old : List ℕ) → old ≡ old ++ lanes_text steps 70 []
unfolding lanes_text
no_lane steps old = sym (append-nil old)
