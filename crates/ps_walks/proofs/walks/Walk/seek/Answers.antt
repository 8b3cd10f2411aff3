use Rattle.std.proofs.Common.{◌∙◌, None, Some, ◌+◌, sym, true≢false}
use Rattle.ps_language.specs.Schedules.{Move}
use Rattle.ps_run_schedules.specs.Turns.{move_of}
use Rattle.ps_states.specs.Sought.{sought_of}
use Rattle.ps_walks.specs.Walks.{walked}
use Rattle.ps_walks.proofs.Finding.{found_further, found_here, found_none}
use Rattle.ps_walks.proofs.walks.Walk.seek.Goals as goal

pub loop-single-init : goal.loop-single-init
loop-single-init g c = record {
  stands = c.requires.stands;
  none = λ w is. (w, is, λ found so. so);
}

pub loop-single-preserved : goal.loop-single-preserved
loop-single-preserved g c = record {
  stands = c.in_ok-fits.ensures.stands;
  none = λ w is.
      let before = c.loop-single.invariant.none w is in
      let single = c.in-Some.single in
      let move : Move = move_of single.context single.refused single.shown in
      let fits = c.in_ok-fits.ensures.fits before.0 before.1 in (
        walked before.0 move,
        c.in_ok-fits.ensures.walked before.0 before.1,
        λ found so. before.2 found
            (found_further c.args.scribe.file.now (sought_of c.args.sought) c.loop-single.step
            before.0 move c.next.new.self c.loop-single.left c.in-Some.ensures fits.0 found
            (λ fit. true≢false (sym (fits.1.1 fit) ∙ c.if-fits.false)) so),
      );
}

pub returns-then-fits : goal.returns-then-fits
returns-then-fits g c = λ w is.
    let before = c.loop-single.invariant.none w is in
    let single = c.in-Some.single in
    let move : Move = move_of single.context single.refused single.shown in
    let fits = c.in_ok-fits.ensures.fits before.0 before.1 in
    before.2 (Some (c.loop-single.step + 1))
    (found_here c.args.scribe.file.now (sought_of c.args.sought) c.loop-single.step before.0 move
    c.next.new.self c.loop-single.left c.in-Some.ensures fits.0 (fits.1.0 c.if-fits.true))

pub returns : goal.returns
returns g c = λ w is.
    let before = c.loop-single.invariant.none w is in
    before.2 None
    (found_none c.args.scribe.file.now (sought_of c.args.sought) c.loop-single.step before.0
    c.loop-single.left c.in_default.ensures.0)
