use Rattle.std.proofs.Common.{◌≡◌, ◌<◌, ℕ, List, [], Err, length, arith, ap, sym, ◌∙◌, rules, length-append}
use Rattle.ps_run.specs.Driving.{most_program_bytes}
use Rattle.ps_run.proofs.ReadParts.{all_read, if_known, of_known, read_more}
use Rattle.ps_run.proofs.reading.read_whole.Goals as goal

pub returns-in_err-read_on-clause-fault : goal.returns-in_err-read_on-clause-fault
returns-in_err-read_on-clause-fault g c =
    let same : c.from_residual.result ≡ Err c.in_err-read_on.field-0.0 = search rules in
    rw same (if_known (g.F.FileSet.left c.args.files.now) _ (λ known is.
    let read = c.loop.invariant.read known is in
    of_known (g.F.FileSet.left c.loop.files) _ read.rest read.is_left
    c.in_err-read_on.ensures.fault))

pub returns-then-len-gt-MOST_PROGRAM_BYTES-clause-long : goal.returns-then-len-gt-MOST_PROGRAM_BYTES-clause-long
returns-then-len-gt-MOST_PROGRAM_BYTES-clause-long g c is_none =
    if_known (g.F.FileSet.left c.args.files.now) _ (λ known is.
    let read = read_more known [] c.loop.bytes.items c.read_on.new.bytes.items
    (g.F.FileSet.left c.loop.files) (g.F.FileSet.left c.read_on.new.self)
    (c.loop.invariant.read known is) c.in_ok-read_on.ensures.next in
    let long : most_program_bytes < length c.read_on.new.bytes.items = search rules in
    let size = ap {B = ℕ} (λ (bs : List ℕ). length bs) read.is in
    let sum = length-append c.read_on.new.bytes.items read.rest in
    omega (arith, long, size, sum))

pub returns-then-len-before-clause-bytes : goal.returns-then-len-before-clause-bytes
returns-then-len-before-clause-bytes g c =
    if_known (g.F.FileSet.left c.args.files.now) _ (λ known is.
    let same : length c.read_on.new.bytes.items ≡ length c.loop.bytes.items = search rules in
    sym (all_read known [] c.loop.bytes.items c.read_on.new.bytes.items
    (g.F.FileSet.left c.loop.files) (g.F.FileSet.left c.read_on.new.self)
    (c.loop.invariant.read known is) c.in_ok-read_on.ensures.next same))

pub loop-preserved : goal.loop-preserved
loop-preserved g c = record {
  few = search rules;
  read = λ known is.
      read_more known [] c.loop.bytes.items c.read_on.new.bytes.items
      (g.F.FileSet.left c.loop.files) (g.F.FileSet.left c.read_on.new.self)
      (c.loop.invariant.read known is) c.in_ok-read_on.ensures.next;
  kept = c.read_on.ensures.kept ∙ c.loop.invariant.kept;
  last = search rules;
  writes = c.read_on.ensures.writes ∙ c.loop.invariant.writes;
}
