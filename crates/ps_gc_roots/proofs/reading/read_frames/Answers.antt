use Rattle.std.proofs.Common.{◌+◌, ◌++◌, drop, ap, ◌∙◌, arith}
use Rattle.std.specs.Prelude.{flat_map}
use Rattle.ps_ops_control.proofs.FramesLeft.{drop_at}
use Rattle.ps_gc_roots.specs.Roots.{roots_of_frame}
use Rattle.ps_gc_roots.proofs.Taking.{roots-read}
use Rattle.ps_gc_roots.proofs.reading.read_frames.Goals as goal

pub loop-depth-preserved : goal.loop-depth-preserved
loop-depth-preserved c =
    let at = drop_at c.args.frames.now c.loop-depth.depth c.in-Some.frame c.in-Some.ensures in
    record {
      read =
          ap (λ items. items
          ++ flat_map roots_of_frame (drop (c.loop-depth.depth + 1) c.args.frames.now))
          c.read_frame.ensures.roots
          ∙ roots-read roots_of_frame c.loop-depth.roots.items _ c.args.frames.now
          c.loop-depth.depth c.in-Some.frame at c.loop-depth.invariant.read;
      count = omega (arith, c.read_frame.ensures.longer);
      capacity = c.read_frame.ensures.capacity ∙ c.loop-depth.invariant.capacity;
    }
