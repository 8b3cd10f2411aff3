-- Three texts one behind another, of integers that are passed on wider.
use Rattle.std.proofs.Common.{◌≡◌, ◌<◌, ◌++◌, length, vec_capacity, arith}
use Rattle.std.specs.Prelude.{codes}
use Rattle.std.proofs.lemmas.Int.{to_z-of_z}
use Rattle.std.proofs.lemmas.Result.{on_ok_weaker, on_err_weaker}
use Rattle.ps_views.specs.Frames.{after_text}
use Rattle.ps_views.proofs.Appended.{three, full_three}
use Rattle.ps_views.proofs.frames.append_range.Goals as goal

pub returns-clause-appended : goal.returns-clause-appended
returns-clause-appended c =
    let first : c.append_after.new.to.items ≡ c.args.to.now.items ++ after_text (codes ", next ") c.args.control =
    grind (arith, to_z-of_z, c.in_ok-append_after.ensures.appended) in
    let second : c.append_after-2.new.to.items ≡ c.append_after.new.to.items ++ after_text (codes " by ") c.args.increment =
    grind (arith, to_z-of_z, c.in_ok-append_after-2.ensures.appended) in
    on_ok_weaker c.append_after-3.result
    (λ third. three c.args.to.now.items c.append_after.new.to.items c.append_after-2.new.to.items
    c.append_after-3.new.to.items _ _ _ first second
    (let t : c.append_after-3.new.to.items ≡ c.append_after-2.new.to.items ++ after_text (codes " to ") c.args.limit =
    grind (arith, to_z-of_z, third) in t))
    c.append_after-3.ensures.appended

pub returns-clause-full : goal.returns-clause-full
returns-clause-full c =
    let first : c.append_after.new.to.items ≡ c.args.to.now.items ++ after_text (codes ", next ") c.args.control =
    grind (arith, to_z-of_z, c.in_ok-append_after.ensures.appended) in
    let second : c.append_after-2.new.to.items ≡ c.append_after.new.to.items ++ after_text (codes " by ") c.args.increment =
    grind (arith, to_z-of_z, c.in_ok-append_after-2.ensures.appended) in
    on_err_weaker c.append_after-3.result
    (λ full. full_three (vec_capacity c.args.to.now) (vec_capacity c.append_after-2.new.to) c.args.to.now.items
    c.append_after.new.to.items c.append_after-2.new.to.items _ _ _ first second
    (omega (arith, c.append_after.ensures.capacity, c.append_after-2.ensures.capacity))
    (let t : vec_capacity c.append_after-2.new.to
    < length (c.append_after-2.new.to.items ++ after_text (codes " to ") c.args.limit) =
    grind (arith, to_z-of_z, full) in t))
    c.append_after-3.ensures.full
