use Rattle.std.proofs.Common.{◌+◌, ◌-◌, List, [], ◌∷◌, ◌++◌, length, take, drop, refl, ap, ◌∙◌}
use Rattle.std.specs.Prelude.{flat_map}
use Rattle.ps_word.specs.declared.values.Content.TheVariants.{Dictionary}
use Rattle.ps_word.specs.declared.words.Word.{Word}
use Rattle.ps_word.specs.Format.{address_in}
use Rattle.ps_gc_roots.specs.Roots.{literal, roots_of_frame}
use Rattle.ps_gc_roots.specs.Renamed.{BeginWith}
use Rattle.ps_gc_roots.proofs.Putting.{begin_first, begin_behind, begin_past, begin_take, begin_rest, begin_word}
use Rattle.ps_gc_roots.proofs.writing.write_context.Goals as goal

pub returns-clause-renamed : goal.returns-clause-renamed
returns-clause-renamed c = λ rename begin.
    let roots = c.args.roots.now in
    let context = c.args.context.now in
    let last : List Word = literal (Dictionary context.error_dictionary) ∷ [] in
    let frames : List Word = flat_map roots_of_frame context.frames in
    let operands = c.write_words-operands.result in
    let stacks = operands + c.write_words.result in
    let all = stacks + c.write_frames.result in
    let one : BeginWith rename (context.dictionaries ++ (frames ++ last)) (drop operands roots) =
    begin_behind rename roots context.operands (context.dictionaries ++ (frames ++ last)) operands
    c.write_words-operands.ensures.count begin in
    let two : BeginWith rename (frames ++ last) (drop stacks roots) =
    begin_past rename roots context.dictionaries (frames ++ last) operands c.write_words.result
    stacks c.write_words.ensures.count refl one in
    let three : BeginWith rename last (drop all roots) =
    begin_past rename roots frames last stacks c.write_frames.result all
    c.write_frames.ensures.count refl two in
    λ i. record {
      operands = (c.write_words-operands.ensures.words
          ∙ begin_take rename roots context.operands
          (begin_first rename roots context.operands (context.dictionaries ++ (frames ++ last))
          begin)) i;
      dictionaries = (c.write_words.ensures.words
          ∙ begin_take rename (take (length roots - operands) (drop operands roots))
          context.dictionaries
          (begin_rest rename roots context.dictionaries operands
          (begin_first rename (drop operands roots) context.dictionaries (frames ++ last) one))) i;
      frames = c.write_frames.ensures.renamed rename
          (begin_rest rename roots frames stacks
          (begin_first rename (drop stacks roots) frames last two)) i;
      error_dictionary = (c.low_address-context.ensures
          ∙ ap (λ (w : Word). address_in w.0)
          (begin_word rename roots (literal (Dictionary context.error_dictionary)) [] all _
          three)) i;
    }
