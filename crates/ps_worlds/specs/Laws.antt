-- Laws of images and of schedules.
use Rattle.std.specs.Prelude.{◌≡◌, ℕ, true, List, length}
use Rattle.std.proofs.Common.{ap, sym, ◌∙◌}
use Rattle.std.proofs.lemmas.List.{length-map}
use Rattle.ps_language.specs.declared.schedules.Entry.{Entry}
use Rattle.ps_language.specs.Schedules.{Move, count_of, moves, plain_move}
use Rattle.ps_cuts.specs.Cuts.{steps_by}
use Rattle.ps_worlds.specs.declared.images.Image.{Image}
use Rattle.ps_worlds.specs.contracts.images.ImagePartialEq as images
use Rattle.ps_worlds.specs.Runs.{IsImage}
use Rattle.ps_worlds.specs.Equal.{image_same}

-- a path is as long as the schedule that makes it
pub counted : (schedule : List Entry) (path : List ℕ) → moves schedule ≡ steps_by path
    → length path ≡ count_of schedule
unfolding count_of
counted schedule path is =
    sym (length-map path plain_move) ∙ ap (λ (made : List Move). length made) (sym is)

-- an equal image is of where the same steps lead
pub image_alike : (program first path : List ℕ) (a b : Image)
    → images.TheImpl.ghosts.eq a b ≡ true → IsImage program first a path
    → IsImage program first b path
image_alike program first path a b same is = record {
  desk = is.desk;
  same = is.same;
  of = image_same first is.desk a b same is.of;
  at = is.at;
}
