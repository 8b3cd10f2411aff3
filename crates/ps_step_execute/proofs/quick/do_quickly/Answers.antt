-- A procedure is pushed, a name is treated as what is found, and all else as it is.
use Rattle.std.proofs.Common.{refl, sym, ap, ◌∙◌}
use Rattle.ps_mem.specs.Shows.{IsValue}
use Rattle.ps_ops_state.proofs.Lifts.{held}
use Rattle.ps_step_execute.proofs.Alone.{literal_treated, name_treats, operator_treated, own_treats, procedure_comes}
use Rattle.ps_step_execute.proofs.Alone.{treated_comes}
use Rattle.ps_step_execute.proofs.Executing.{literal_unmade, literal_unnamed, name_unmade, named, made}
use Rattle.ps_step_execute.proofs.Executing.{operator_unmade, operator_unnamed, unmade, unnamed}
use Rattle.ps_step_execute.proofs.quick.do_quickly.Goals as goal

pub operate_ahead-came-requires : goal.operate_ahead-came-requires
operate_ahead-came-requires g c = record { ready = held c.requires.good.1 }

pub look_up_name-requires-clause-sound : goal.look_up_name-requires-clause-sound
look_up_name-requires-clause-sound g c = c.requires.good.1.sound

pub look_up_name-requires-clause-dictionaries : goal.look_up_name-requires-clause-dictionaries
look_up_name-requires-clause-dictionaries g c = c.requires.good.1.dictionaries

pub treat_ahead-came-requires-clause-ready : goal.treat_ahead-came-requires-clause-ready
treat_ahead-came-requires-clause-ready g c =
    rw c.look_up_name.ensures.heap (held c.requires.good.1)

pub returns-then-not-is_executable-clause-comes : goal.returns-then-not-is_executable-clause-comes
returns-then-not-is_executable-clause-comes g c =
    let literal = sym c.is_executable.ensures ∙ c.if-not-is_executable.true in
    treated_comes g.O.Operate.asks (g.M.Memory.heap c.args.memory.now) c.args.dictionaries.now
    c.args.word c.args.operands.now c.push_quickly.new.operands c.of-came.result c.args.word _
    c.came_or.ensures c.requires.word
    (own_treats g.O.Operate.asks (g.M.Memory.heap c.args.memory.now) c.args.dictionaries.now
    c.args.word
    (λ births names. literal_unmade c.args.word births names literal)
    (λ births names. literal_unnamed c.args.word births names literal))
    (literal_treated g.O.Operate.asks c.args.word c.args.word
    (g.M.Memory.heap c.args.memory.now) _ _ _ literal c.push_quickly.result
    c.of-came.ensures (c.push_quickly.ensures c.args.word))

pub returns-in-Array-clause-comes : goal.returns-in-Array-clause-comes
returns-in-Array-clause-comes g c =
    procedure_comes g.O.Operate.asks (g.M.Memory.heap c.args.memory.now) c.args.dictionaries.now
    c.args.word c.args.operands.now c.push_quickly-in-Array.new.operands
    c.push_quickly-in-Array.result c.of-came-in-Array.result _ c.of-came-in-Array.ensures
    c.came_or-in-Array.ensures
    (λ births names. made c.args.word births names _
    (sym c.is_executable.ensures ∙ c.if-not-is_executable.false)
    (sym c.content.ensures ∙ c.in-Array.is))
    (c.push_quickly-in-Array.ensures c.args.word)

pub look_up_name-requires-clause-name : goal.look_up_name-requires-clause-name
look_up_name-requires-clause-name g c = sym c.content-2.ensures ∙ c.in-Name.is

pub returns-in-Some-look_up_name-clause-comes : goal.returns-in-Some-look_up_name-clause-comes
returns-in-Some-look_up_name-clause-comes g c =
    let may = sym c.is_executable.ensures ∙ c.if-not-is_executable.false in
    let content = sym c.content-2.ensures ∙ c.in-Name.is in
    treated_comes g.O.Operate.asks (g.M.Memory.heap c.args.memory.now) c.args.dictionaries.now
    c.args.word c.args.operands.now c.treat_ahead-came.new.operands c.treat_ahead-came.result
    c.in-Some-look_up_name.value _ c.came_or-in-Name.ensures c.in-Some-look_up_name.ensures.held
    (name_treats g.O.Operate.asks (g.M.Memory.heap c.args.memory.now) c.args.dictionaries.now
    c.args.word
    (λ births names. name_unmade c.args.word births names _ content may)
    (λ births names. named c.args.word births names _ may content)
    c.in-Some-look_up_name.value c.in-Some-look_up_name.ensures.value
    c.in-Some-look_up_name.ensures.within)
    (rw c.look_up_name.ensures.heap at (c.treat_ahead-came.ensures.comes c.args.word))

pub returns-in_default-content-2 : goal.returns-in_default-content-2
returns-in_default-content-2 g c =
    let may = sym c.is_executable.ensures ∙ c.if-not-is_executable.false in
    record {
      heap = refl;
      grants = refl;
      comes = (
        refl,
        (
          c.requires.word,
          own_treats g.O.Operate.asks (g.M.Memory.heap c.args.memory.now) c.args.dictionaries.now
              c.args.word
              (λ births names. unmade births names c.args.word c.content.result
              c.content.ensures may c.in_default-content.not-Array)
              (λ births names. unnamed births names c.args.word c.content-2.result
              c.content-2.ensures may c.in_default-content-2.not-Name),
        ),
      );
      enters = λ body is. absurd (cc is);
    }

pub returns-in-Some-clause-comes : goal.returns-in-Some-clause-comes
returns-in-Some-clause-comes g c =
    let is = c.in-Some.ensures.operator in
    treated_comes g.O.Operate.asks (g.M.Memory.heap c.args.memory.now) c.args.dictionaries.now
    c.args.word c.args.operands.now c.operate_ahead-came.new.operands c.operate_ahead-came.result
    c.args.word _ c.came_or-in-Some.ensures c.requires.word
    (own_treats g.O.Operate.asks (g.M.Memory.heap c.args.memory.now) c.args.dictionaries.now
    c.args.word
    (λ births names. operator_unmade c.args.word births names _ is.1 is.0)
    (λ births names. operator_unnamed c.args.word births names _ is.1 is.0))
    (operator_treated g.O.Operate.asks c.args.word c.args.word
    (g.M.Memory.heap c.args.memory.now) _ _ _ c.in-Some.operator is.0 is.1
    c.operate_ahead-came.ensures.comes)
