use Rattle.std.proofs.Common.{◌≡◌, ℕ, Option, Some, List, Err, inr, refl, sym, subst, rules, Bor, IfSome}
use Rattle.std.specs.Option.{option_map}
use Rattle.ps_run_schedules.specs.Texts.{IsBadAt}
use Rattle.ps_run_schedules.specs.declared.reading.ScheduleFault.{ScheduleFault}
use Rattle.ps_run.specs.Driving as driving
use Rattle.ps_run.specs.Telling.{Tells}
use Rattle.ps_run.specs.Driving.{HasNoSchedule, IsUnread, names_of}
use Rattle.ps_run.specs.declared.files.ReadFault.TheVariants as fault
use Rattle.ps_run.specs.declared.reading.NoSchedule.TheVariants.{Bad, Unread}
use Rattle.ps_run.proofs.ReadParts.{Comes, if_mapped, unread_comes}
use Rattle.ps_run.proofs.reading.read_given.Goals as goal

pub returns-in-Err-Unread-clause-unread : goal.returns-in-Err-Unread-clause-unread
returns-in-Err-Unread-clause-unread g c first =
    let is : c.read_schedule.result ≡ Err (Unread c.in-Err-Unread.fault) = search rules in
    let told = c.read_schedule.ensures.unread c.in-Err-Unread.fault is in
    let replay : option_map {T = Bor (List ℕ)} {U = List ℕ} (λ name. name.now)
    c.args.options.now.replay_file ≡ Some c.in-Some.name.now = search rules in
    subst (λ last. IfSome last (λ why. IsUnread (names_of c.args.options.now) why
    c.tell_unread-in-Err-Unread.result (g.X.Telling.told c.args.outside.now.err)
    (g.X.Telling.told c.tell_unread-in-Err-Unread.new.err))) (sym told.0) (record {
      is = c.tell_unread-in-Err-Unread.ensures.status;
      name = c.in-Some.name.now;
      is_named = inr replay;
      tells = c.tell_unread-in-Err-Unread.ensures.told;
    })

pub returns-in-Err-Unread-clause-fault : goal.returns-in-Err-Unread-clause-fault
returns-in-Err-Unread-clause-fault g c =
    let contents = g.F.FileSet.contents c.args.outside.now.files in
    let name = c.in-Some.name.now in
    let err = g.X.Telling.told c.args.outside.now.err in
    let new = g.X.Telling.told c.tell_unread-in-Err-Unread.new.err in
    let result = c.tell_unread-in-Err-Unread.result in
    let replay : option_map {T = Bor (List ℕ)} {U = List ℕ} (λ name. name.now)
    c.args.options.now.replay_file ≡ Some name = search rules in
    let is : c.read_schedule.result ≡ Err (Unread c.in-Err-Unread.fault) = search rules in
    let told = c.read_schedule.ensures.unread c.in-Err-Unread.fault is in
    let memory : IfSome (contents name) (λ known. c.in-Err-Unread.fault ≡ fault.Memory) =
    subst (λ left. IfSome left (λ known. c.in-Err-Unread.fault ≡ fault.Memory))
    c.in_default-open.ensures.left told.1 in
    subst (λ (given : Option (List ℕ)). Comes result err new
    (HasNoSchedule contents given err new)) (sym replay)
    (unread_comes c.in-Err-Unread.fault (contents name) _ result err new name
    c.tell_unread-in-Err-Unread.ensures.status c.tell_unread-in-Err-Unread.ensures.told memory)

pub returns-in-Err-Bad-BadLine-clause-fault : goal.returns-in-Err-Bad-BadLine-clause-fault
returns-in-Err-Bad-BadLine-clause-fault g c =
    let contents = g.F.FileSet.contents c.args.outside.now.files in
    let name = c.in-Some.name.now in
    let line = c.in-Err-Bad-BadLine.line in
    let err = g.X.Telling.told c.args.outside.now.err in
    let new = g.X.Telling.told c.tell_number.new.err in
    let replay : option_map {T = Bor (List ℕ)} {U = List ℕ} (λ name. name.now)
    c.args.options.now.replay_file ≡ Some name = search rules in
    let is : c.read_schedule.result ≡ Err (Bad (ScheduleFault.BadLine line)) = search rules in
    let part : Tells err new (driving.bad_line line) =
    rw (← c.in-Err-Bad-BadLine.line-is) c.tell_number.ensures in
    let bad : IfSome (contents name) (λ known. IsBadAt known line) =
    subst (λ left. IfSome left (λ known. IsBadAt known line)) c.in_default-open.ensures.left
    (c.read_schedule.ensures.bad line is) in
    inr (
      refl,
      subst (λ (given : Option (List ℕ)). HasNoSchedule contents given err new) (sym replay)
          (if_mapped (contents name) _ _ (λ known at. (line, at, part)) bad),
    )
