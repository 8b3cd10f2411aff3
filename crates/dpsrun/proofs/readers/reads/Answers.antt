use Rattle.std.proofs.Common.{◌≡◌, ◌++◌, IfSome, take, refl, sym, subst, arith}
use Rattle.std.specs.Io.KnownBytes.{Consumes}
use Rattle.std.specs.Str.{bytes_eq}
use Rattle.std.proofs.KnownBytes.{Consumes-trans}
use Rattle.dpsrun.proofs.Left.{ended_tells, differing_tells, part_and_rest}
use Rattle.dpsrun.proofs.readers.reads.Goals as goal

pub returns-then-count-eq0 : goal.returns-then-count-eq0
returns-then-count-eq0 g c =
    let none = subst (λ n. Consumes (g.R.Read.remaining c.loop.reader)
    (g.R.Read.remaining c.read_some.new.reader) (take n c.read_some.new.part))
    c.if-count-eq0.true c.in_ok-count.ensures.bytes.0 in
    let ended = c.in_ok-count.ensures.bytes.1 c.if-count-eq0.true
    (omega (arith, c.read_some.auto.part)) in
    subst (λ is. IfSome (g.R.Read.remaining c.args.reader.now)
    (λ known. is ≡ bytes_eq known c.args.bytes.now)) (sym c.is_empty.ensures)
    (ended_tells _ _ _ _ c.loop.invariant.0 _ c.loop.invariant.1 none ended
    c.loop.invariant.2)

pub returns-in_default : goal.returns-in_default
returns-in_default g c =
    differing_tells _ _ _ _ c.loop.invariant.0 _ _ c.loop.invariant.1
    c.in_ok-count.ensures.bytes.0 c.loop.invariant.2 c.in_default.ensures.cases

pub loop-preserved : goal.loop-preserved
loop-preserved g c = (
  c.loop.invariant.0 ++ take c.in_ok-count.count c.read_some.new.part,
  Consumes-trans _ _ _ _ _ c.loop.invariant.1 c.in_ok-count.ensures.bytes.0,
  part_and_rest _ c.loop.invariant.0 _ _ _ c.loop.invariant.2 c.in-Some.ensures.cases.0
      c.in-Some.ensures.cases.1,
)
