-- The pair is put, or there is no room for a new body.
use Rattle.std.proofs.Common.{refl, sym, append-nil, inl}
use Rattle.ps_ops_state.proofs.Forming.{refused_acts}
use Rattle.ps_ops_state.proofs.Meeting.{logs-same}
use Rattle.ps_ops_dictionaries.proofs.Putting.{left_scene, effect_is, lacking}
use Rattle.ps_ops_dictionaries.proofs.puts.put_new.Goals as goal

pub returns-then-is_refused-clause-acts : goal.returns-then-is_refused-clause-acts
returns-then-is_refused-clause-acts g c =
    let yes = c.is_refused.ensures.yes c.if-is_refused.true in
    λ inside. refused_acts _ _ _ (sym (append-nil _)) _ _ _ _ c.requires.good
    (logs-same 0 _ _) (inl refl) λ store shown. record {
      scene = left_scene _ c.requires.good _ c.args.entry.key c.args.entry.value
          c.args.entry.operands _ c.requires.known c.requires.key
          c.requires.plan c.requires.possible c.args.attempt inside store shown;
      output = _;
      is = effect_is _ c.requires.good _ c.args.entry.key c.args.entry.value
          c.args.entry.operands _ c.requires.known c.requires.key
          c.requires.plan c.requires.possible c.args.attempt inside store shown;
      names_are = refl;
      lacking = lacking _ c.requires.good _ c.args.entry.key c.args.entry.value
          c.args.entry.operands _ c.requires.known c.requires.key
          c.requires.plan c.requires.possible c.args.attempt inside store shown yes.0 yes.1;
    }

pub returns-clause-acts : goal.returns-clause-acts
returns-clause-acts g c = λ inside.
    c.put_planned.ensures.acts c.args.attempt refl (c.is_refused.ensures.no c.if-is_refused.false)
    inside
