use Rattle.std.proofs.Common.{◌+◌, ◌++◌, drop, ap, ◌∙◌, arith}
use Rattle.ps_gc_roots.proofs.Taking.{word-read}
use Rattle.ps_gc_roots.proofs.reading.read_words.Goals as goal

pub loop-depth-preserved : goal.loop-depth-preserved
loop-depth-preserved g c = record {
  read =
      ap (λ items. items ++ drop (c.loop-depth.depth + 1) c.args.words.now)
      c.push_reserved.ensures.items
      ∙ word-read c.loop-depth.roots.items _ c.args.words.now c.loop-depth.depth c.in-Some.word
      c.in-Some.ensures c.loop-depth.invariant.read;
  count = omega (arith, c.push_reserved.ensures.len);
  capacity = c.push_reserved.ensures.capacity ∙ c.loop-depth.invariant.capacity;
}
