use Rattle.std.proofs.Common.{◌≡◌, List, map, drop, subst, ◌∙◌}
use Rattle.std.specs.Prelude.{flat_map}
use Rattle.ps_ops_control.specs.declared.frames.Frame.{Frame}
use Rattle.ps_gc_roots.specs.Roots.{roots_of_frame}
use Rattle.ps_gc_roots.specs.Renamed.{BeginWith, renamed_frame}
use Rattle.ps_gc_roots.proofs.Putting.{begin_rest, frames_written}
use Rattle.ps_gc_roots.proofs.writing.+write_frames.Goals as goal

pub returns-clause-renamed : goal.returns-clause-renamed
returns-clause-renamed t c = λ rename begin.
    let roots = c.args.roots.now in
    let count = c.count_of-count.result in
    c.push_reserved.ensures
    ∙ frames_written rename c.args.frames.now c.write_frames-below.new.frames c.in-Some.frame
    c.write_frame.result roots count c.in-Some.ensures c.count_of-count.ensures.count
    (subst (λ (rest : List Frame).
    BeginWith rename (flat_map roots_of_frame rest) (drop count roots)
    → c.write_frames-below.new.frames ≡ map (renamed_frame rename) rest) c.discard.ensures
    (λ behind. c.write_frames-below.ensures.renamed rename
    (begin_rest rename roots (flat_map roots_of_frame c.discard.new.self) count behind)))
    (c.write_frame.ensures rename) begin
