use Rattle.std.proofs.Common.{ap, ◌∙◌, Some}
use Rattle.ps_mem.specs.Heap.{birth_at}
use Rattle.ps_states.proofs.Words.{stands_some, lock_stands, condition_stands, lock_told, condition_told, none_told}
use Rattle.ps_states.proofs.values.told_birth.Goals as goal

pub birth_of-requires : goal.birth_of-requires
birth_of-requires g c = record {
  stands = stands_some (lock_stands (g.M.Memory.heap c.args.memory.now) c.args.word c.in-Some.address
      c.in-Some.ensures c.requires.held);
}

pub returns-in-Some-clause-birth : goal.returns-in-Some-clause-birth
returns-in-Some-clause-birth g c = λ names.
    ap Some c.birth_of.ensures.birth
    ∙ lock_told (birth_at (g.M.Memory.heap c.args.memory.now)) names c.args.word c.in-Some.address c.in-Some.ensures

pub birth_of-requires-in-Some-as_condition : goal.birth_of-requires-in-Some-as_condition
birth_of-requires-in-Some-as_condition g c = record {
  stands = stands_some (condition_stands (g.M.Memory.heap c.args.memory.now) c.args.word
      c.in-Some-as_condition.address c.in-Some-as_condition.ensures c.requires.held);
}

pub returns-in-Some-as_condition-clause-birth : goal.returns-in-Some-as_condition-clause-birth
returns-in-Some-as_condition-clause-birth g c = λ names.
    ap Some c.birth_of-in-Some-as_condition.ensures.birth
    ∙ condition_told (birth_at (g.M.Memory.heap c.args.memory.now)) names c.args.word
    c.in-Some-as_condition.address c.in-Some-as_condition.ensures

pub returns-clause-birth : goal.returns-clause-birth
returns-clause-birth g c = λ names.
    none_told (birth_at (g.M.Memory.heap c.args.memory.now)) names c.args.word c.in_default.ensures
    c.in_default-as_condition.ensures
