-- A name that was met is found.
use Rattle.std.proofs.Common.{sym, ap, ◌∙◌, is_some, bytes_eq}
use Rattle.std.proofs.lemmas.Bool.{true≢false}
use Rattle.ps_names.proofs.Places.{any_position}
use Rattle.ps_step_tokens.proofs.objects.met_word.Goals as goal

pub unreachable-requires : goal.unreachable-requires
unreachable-requires c =
    absurd (true≢false (sym c.requires ∙ (any_position (bytes_eq c.args.text.now) c.args.names.now
    ∙ ap is_some (sym c.in_default.ensures.place))))
