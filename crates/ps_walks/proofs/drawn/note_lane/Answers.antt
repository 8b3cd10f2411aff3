use Rattle.std.specs.Prelude.{not}
use Rattle.std.proofs.Common.{◌≡◌, Bool, true, false, ◌∙◌, ◌++◌, ◌∷◌, [], subst, refl, sym, ap}
use Rattle.std.proofs.lemmas.Result.{on_ok_weaker}
use Rattle.ps_states.specs.Moments.{error_text, moment_of}
use Rattle.ps_timelines.specs.Moments.{Show}
use Rattle.ps_walks.proofs.Drawing.{noted_error, noted_quiet}
use Rattle.ps_walks.proofs.drawn.note_lane.Goals as goal

not_so : (b : Bool) → not b ≡ true → b ≡ false
not_so true is = absurd cc
not_so false is = refl

is_so : (b : Bool) → not b ≡ false → b ≡ true
is_so true is = refl
is_so false is = absurd cc

pub error_text-requires : goal.error_text-requires
error_text-requires g c = record {
  steady = rw (c.moment_of.ensures.heap, c.moment_of.ensures.grants, c.moment_of.ensures.shared)
      c.requires.steady;
}

pub returns-then-not-moment-clause-noted : goal.returns-then-not-moment-clause-noted
returns-then-not-moment-clause-noted g c = λ w context moments labels at count is.
    let lane = c.args.lane.now in
    let moment = moment_of c.args.beat.end w context in
    let same = c.in_ok-moment.ensures.moment w at
    ∙ ap (moment_of c.args.beat.end w) is.context in
    noted_quiet context c.args.beat.step w moments labels moment c.in_ok-moment.moment lane _ same
    (not_so c.in_ok-moment.moment.fails c.if-not-moment.true) is refl (c.in_ok-note.ensures moments count is.intervals) refl

pub returns-clause-noted : goal.returns-clause-noted
returns-clause-noted g c = λ w context moments labels at count is.
    let moment = moment_of c.args.beat.end w context in
    let same = c.in_ok-moment.ensures.moment w at
    ∙ ap (moment_of c.args.beat.end w) is.context in
    let told = c.in_ok-text.ensures.text in
    let text = rw (c.moment_of.ensures.heap, c.moment_of.ensures.grants, c.moment_of.ensures.shared) at told in
    on_ok_weaker c.tell_error.result
    (noted_error context c.args.beat.step w moments labels moment c.in_ok-moment.moment
    c.tell_error.new.self c.in_ok-text.text.items same
    (is_so c.in_ok-moment.moment.fails c.if-not-moment.false)
    (text w at ∙ ap (error_text w) is.context) (c.tell_error.ensures.context ∙ is.context)
    (subst (λ drawn. Show drawn (moments ++ c.in_ok-moment.moment ∷ []))
    (sym c.tell_error.ensures.intervals) (c.in_ok-note.ensures moments count is.intervals)))
    (c.tell_error.ensures.labels labels is.labels)
