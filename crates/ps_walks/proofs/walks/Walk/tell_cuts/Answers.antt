-- The steps before the next cut, and its line.
use Rattle.std.proofs.Common.{◌≡◌, ◌≤◌, ◌<◌, ◌∙◌, ◌+◌, ◌-◌, ℕ, suc, List, [], ◌∷◌, ◌++◌, ap, append-nil, append_assoc, arith, drop, get_or, length, refl, subst, sym, take}
use Rattle.std.proofs.Math.Seq.{drop-cons}
use Rattle.std.proofs.lemmas.List.{drop_all}
use Rattle.ps_language.specs.Schedules.{Move}
use Rattle.ps_language.specs.World.{World}
use Rattle.ps_ctx_table.specs.Desks.{Desk, IsWorld}
use Rattle.ps_states.specs.Cuts.{cut_text}
use Rattle.ps_views.specs.declared.cuts.CutAt.{CutAt}
use Rattle.ps_views.specs.Cuts.{AreRising}
use Rattle.ps_walks.specs.Cuts.{AreCutLines}
use Rattle.ps_walks.specs.StepLines.{chart_in}
use Rattle.ps_walks.specs.Walks.{desk_in, walked_all}
use Rattle.ps_walks.proofs.Cutting.{dropped_between, lines_end, lines_next, rising_next, walked_between}
use Rattle.ps_walks.proofs.Following.{walked_none}
use Rattle.ps_walks.proofs.walks.Walk.tell_cuts.Goals as goal

-- the cut of a place
abbrev cut_in : List CutAt → (place : ℕ) → CutAt
cut_in cuts place = get_or cuts place (record { behind = 0; left = 0; other = 0 })

-- and those behind it
next : (cuts : List CutAt) (place : ℕ) → place < length cuts
    → drop place cuts ≡ cut_in cuts place ∷ drop (place + 1) cuts
next cuts place within =
    let more : suc place ≡ place + 1 = omega arith in
    drop-cons cuts place (record { behind = 0; left = 0; other = 0 }) within
    ∙ ap (λ n. cut_in cuts place ∷ drop n cuts) more

rises : (past : ℕ) (cuts : List CutAt) (place : ℕ) → place < length cuts
    → AreRising past (drop place cuts)
    → (past ≤ (cut_in cuts place).behind)
    × AreRising (cut_in cuts place).behind (drop (place + 1) cuts)
rises past cuts place within rising =
    rising_next past (cut_in cuts place) (drop place cuts) (drop (place + 1) cuts)
    (next cuts place within) rising

pub overflow_sub-cut : goal.overflow_sub-cut
overflow_sub-cut g c =
    (rises c.loop-cut.past c.args.cuts.now c.loop-cut.cut-index c.loop-cut-test.true
    c.loop-cut.invariant.rising).0

pub loop-cut-init : goal.loop-cut-init
loop-cut-init g c = record {
  stands = c.requires.stands;
  left = refl;
  rising = c.requires.rising;
  told = λ w is.
      let now = c.args.self.now in
      let d : Desk = desk_in g.M.Memory.heap g.M.Memory.grants now.runtime now.world in (
        [],
        subst (IsWorld d) (sym (walked_none w)) is,
        sym (append-nil c.args.text.now.items),
        λ rest are. are,
      );
}

pub loop-cut-preserved : goal.loop-cut-preserved
loop-cut-preserved g c =
    let cuts = c.args.cuts.now in
    let place = c.loop-cut.cut-index in
    let cut = cut_in cuts place in
    let past = c.loop-cut.past in
    let all : List Move = c.args.singles in
    let file = c.args.scribe.file.now in
    let within = c.loop-cut-test.true in
    let rising = rises past cuts place within c.loop-cut.invariant.rising in
    record {
      stands = c.in_ok-tell_cut.ensures.stands;
      left = c.in_ok-make_steps.ensures.left
          ∙ (ap (drop (cut.behind - past)) c.loop-cut.invariant.left
          ∙ dropped_between all past cut.behind rising.0);
      rising = rising.1;
      told = λ w is.
          let made = c.make_steps.new.self in
          let d : Desk = desk_in g.M.Memory.heap g.M.Memory.grants made.runtime made.world in
          let behind : ℕ → World = λ steps. walked_all w (take steps all) in
          let before = c.loop-cut.invariant.told w is in
          let here : IsWorld d (behind cut.behind) =
          subst (IsWorld d)
          (ap (λ left. walked_all (behind past) (take (cut.behind - past) left))
          c.loop-cut.invariant.left
          ∙ walked_between all past cut.behind rising.0 w)
          (c.in_ok-make_steps.ensures.walked (behind past) before.1) in
          let told = c.in_ok-tell_cut.ensures.line (behind cut.behind) here in
          let line = cut_text (chart_in file (behind cut.behind) told.0) (behind cut.behind) cut in (
            before.0 ++ line,
            c.in_ok-tell_cut.ensures.same (behind cut.behind) here,
            told.1 ∙ (ap (λ text. text ++ line) before.2
                ∙ append_assoc c.args.text.now.items before.0 line),
            λ rest are. subst (AreCutLines file behind cuts) (sym (append_assoc before.0 line rest))
                (before.3 (line ++ rest)
                (lines_next file behind cut (drop place cuts) (drop (place + 1) cuts) told.0 rest
                (next cuts place within) are)),
          );
    }

pub returns : goal.returns
returns g c = record {
  told = λ w is.
      let cuts = c.args.cuts.now in
      let place = c.loop-cut.cut-index in
      let all : List Move = c.args.singles in
      let before = c.loop-cut.invariant.told w is in
      let over : length cuts ≤ place = omega (arith, c.loop-cut-test.false) in (
        before.0,
        before.2,
        lines_end c.args.scribe.file.now (λ steps. walked_all w (take steps all))
            (drop place cuts) cuts before.0 (drop_all place cuts over) before.3,
      );
}
