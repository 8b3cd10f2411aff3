-- For want of memory the run ends.
use Rattle.std.proofs.Common.{rules}
use Rattle.ps_run_workers.proofs.Keeping.{ends_wanted}
use Rattle.ps_run_workers.proofs.batons.Baton.relieve.Goals as goal

pub finish-requires : goal.finish-requires
finish-requires g c = record {
  ends = ends_wanted g.M.Memory.heap g.M.Memory.grants g.S.Interpret.asks c.args.self.now
      c.args.context (search rules) c.requires.may
      (rw c.in-Memory.is at c.requires.held_up);
}
