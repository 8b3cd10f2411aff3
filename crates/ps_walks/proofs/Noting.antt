-- What a part of an array or of a string is a part of stands.
use Rattle.std.proofs.Common.{◌≡◌, ℕ, List, [], ◌∷◌, Some, refl, sym, ap, subst, ◌∙◌}
use Rattle.std.specs.Prelude.{IsSome, slice_get}
use Rattle.ps_language.specs.declared.kinds.Kind.{Kind}
use Rattle.ps_word.specs.declared.values.Content.{Content}
use Rattle.ps_word.specs.declared.values.Content.TheVariants.{Null, Integer, Boolean, Mark, Name, Operator, Array, Text}
use Rattle.ps_word.specs.declared.values.Content.TheVariants.{Dictionary, Lock, Condition, Body}
use Rattle.ps_word.specs.declared.values.Part.{Part}
use Rattle.ps_word.specs.declared.words.Word.{Word}
use Rattle.ps_word.specs.Format.{content_in}
use Rattle.ps_word.specs.Readers.{as_part}
use Rattle.ps_mem.specs.Heap.{Heap, object_at}
use Rattle.ps_mem.specs.References.{IsKnown, IsKnownContent, StandsAs}
use Rattle.ps_mem.specs.Shows.{AreValues, IsValue}

object_there : (h : Heap) (kind : Kind) (one part : Part) (fields : ℕ) → Some part ≡ Some one
    → StandsAs h kind one.address fields → IsSome (object_at h part.address)
object_there h kind one part fields is stands =
    let same : part ≡ one = cc in
    subst IsSome (sym (ap (λ (p : Part). object_at h p.address) same ∙ stands.at)) refl

content_stands : (h : Heap) (content : Content) (part : Part) → IsKnownContent h content
    → Some part ≡ as_part content → IsSome (object_at h part.address)
content_stands h Null part known is = cc
content_stands h (Integer _) part known is = cc
content_stands h (Boolean _) part known is = cc
content_stands h Mark part known is = cc
content_stands h (Name _) part known is = cc
content_stands h (Operator _) part known is = cc
content_stands h (Array one) part known is = object_there h _ one part _ is known
content_stands h (Text one) part known is = object_there h _ one part _ is known
content_stands h (Dictionary _) part known is = cc
content_stands h (Lock _) part known is = cc
content_stands h (Condition _) part known is = cc
content_stands h (Body _) part known is = cc

part_stands : (h : Heap) (w : Word) (part : Part) → IsValue h w
    → Some part ≡ as_part (content_in w.0) → IsSome (object_at h part.address)
unfolding IsKnown
part_stands h w part value is = content_stands h (content_in w.0) part value.known is

-- that of the topmost of these words
pub top_stands : (h : Heap) (words : List Word) (w : Word) (part : Part) → AreValues h words
    → Some w ≡ slice_get words 0 → Some part ≡ as_part (content_in w.0)
    → IsSome (object_at h part.address)
top_stands h [] w part values top is = cc
top_stands h (one ∷ words) w part values top is =
    let same : w ≡ one = cc in
    part_stands h w part (subst (IsValue h) (sym same) values.0) is
