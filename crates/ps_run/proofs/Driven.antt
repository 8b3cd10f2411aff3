-- What a command line comes to, for other words of what it asks.
use Rattle.std.proofs.Common.{◌≡◌, ◌≢◌, ℕ, List, [], ◌∷◌, Bool, Option, Some, None, inl, inr, refl, subst, ◌∙◌}
use Rattle.std.specs.Prelude.{◌⊎◌, IfSome}
use Rattle.ps_language.specs.Effect.{Around, Scene}
use Rattle.ps_language.specs.World as world
use Rattle.ps_ops_state.specs.Acts as acts
use Rattle.ps_vault.specs.declared.reports.Report.{Report}
use Rattle.clap.specs.Words.{HasKind, Text}
use Rattle.clap.specs.Kinds.{Kinds, IsAmong}
use Rattle.clap.specs.Values.{kind_of}
use Rattle.clap.specs.declared.error.Error.{Error}
use Rattle.clap.specs.declared.error.kind.ErrorKind.TheVariants as kind
use Rattle.ps_run.specs.declared.statuses.Status.{Status}
use Rattle.ps_language.specs.declared.schedules.Entry.{Entry}
use Rattle.ps_run.specs.Driving.{Asked, Contents, Ended, IsPictureWritten, KeepsProgram, Names, Outputs, IsBegun, IsDriven, IsShown, IsWritten, IsWrittenName}
use Rattle.ps_run.specs.Telling.{Told}
use Rattle.ps_run.proofs.ReadParts.{of_known}

pub driven_more : (asks : world.Status → Around → Scene → acts.Asked) (names other : Names)
    (A B : Asked → Type 0) (F G : Type 0) (told : Status) (outputs : Outputs) → names ≡ other
    → ((asked : Asked) → A asked → B asked) → (F → G) → IsDriven asks names A F told outputs
    → IsDriven asks other B G told outputs
driven_more asks names other A B F G told outputs same more fault driven =
    with_more (subst (λ (n : Names). IsDriven asks n A F told outputs) same driven)
  where
    begun_more : (outputs.out_new ≡ outputs.out_old) ⊎ IsBegun asks other A outputs
        → (outputs.out_new ≡ outputs.out_old) ⊎ IsBegun asks other B outputs
    begun_more (inl same) = inl same
    begun_more (inr begun) = inr (record {
      asked = begun.asked;
      is_asked = more begun.asked begun.is_asked;
      is_single = begun.is_single;
      is_streamed = begun.is_streamed;
      program = begun.program;
      is_program = begun.is_program;
      schedule = begun.schedule;
      part = begun.part;
    })

    with_more : IsDriven asks other A F told outputs → IsDriven asks other B G told outputs
    with_more (inl usage) = inl (usage.0, usage.1, usage.2, fault usage.3)
    with_more (inr (inl memory)) =
        inr (inl (memory.0, begun_more memory.1, memory.2, memory.3))
    with_more (inr (inr (inl run))) = inr (inr (inl (record {
      asked = run.asked;
      is_asked = more run.asked run.is_asked;
      is_single = run.is_single;
      is_whole = run.is_whole;
      cut = run.cut;
      report = run.report;
      run = run.run;
      places = run.places;
      are_places = run.are_places;
      ended = run.ended;
      written = run.written;
      drawn = run.drawn;
      others = run.others;
      keeps = run.keeps;
    })))
    with_more (inr (inr (inr (inl runs)))) = inr (inr (inr (inl (record {
      asked = runs.asked;
      is_asked = more runs.asked runs.is_asked;
      runs = runs.runs;
      are_many = runs.are_many;
      program = runs.program;
      is_program = runs.is_program;
      endings = runs.endings;
      are = runs.are;
      entries = runs.entries;
      written = runs.written;
      keeps = runs.keeps;
    }))))
    with_more (inr (inr (inr (inr (inl all))))) = inr (inr (inr (inr (inl (record {
      asked = all.asked;
      is_asked = more all.asked all.is_asked;
      bounds = all.bounds;
      are_all = all.are_all;
      program = all.program;
      is_program = all.is_program;
      orders = all.orders;
      are = all.are;
      lines = all.lines;
      are_lines = all.are_lines;
      written = all.written;
      keeps = all.keeps;
    })))))
    with_more (inr (inr (inr (inr (inr (inl all)))))) = inr (inr (inr (inr (inr (inl (record {
      asked = all.asked;
      is_asked = more all.asked all.is_asked;
      most = all.most;
      are_all = all.are_all;
      program = all.program;
      is_program = all.is_program;
      found = all.found;
      are = all.are;
      written = all.written;
      keeps = all.keeps;
    }))))))
    with_more (inr (inr (inr (inr (inr (inr (inl state))))))) =
        inr (inr (inr (inr (inr (inr (inl (record {
          asked = state.asked;
          is_asked = more state.asked state.is_asked;
          view = state.view;
          is_at = state.is_at;
          program = state.program;
          is_program = state.is_program;
          given = state.given;
          is_given = state.is_given;
          within = state.within;
          text = state.text;
          is_text = state.is_text;
          written = state.written;
        })))))))
    with_more (inr (inr (inr (inr (inr (inr (inr untold))))))) =
        inr (inr (inr (inr (inr (inr (inr (record {
          asked = untold.asked;
          is_asked = more untold.asked untold.is_asked;
          is_at = untold.is_at;
          is_memory = untold.is_memory;
          printed = untold.printed;
          files = untold.files;
          tells = untold.tells;
        })))))))

-- the name of a file that is written, by other words of it
pub written_named : (recorded other drawn another : Option Text) (many more : Option ℕ)
    (name : Text) → recorded ≡ other → drawn ≡ another → many ≡ more
    → IsWrittenName recorded drawn many name → IsWrittenName other another more name
written_named recorded other drawn another many more name same alike equal is =
    subst (λ (m : Option ℕ). IsWrittenName other another m name) equal
    (subst (λ (d : Option Text). IsWrittenName other d many name) alike
    (subst (λ (r : Option Text). IsWrittenName r drawn many name) same is))

-- where only files of some names are written, and none of them holds the program, those that hold it
-- are let be
pub keeps_program : (old new : Contents) (Named : Text → Type 0) (program : List ℕ)
    → ((name : Text) → Named name → IfSome (old name) (λ known. known ≢ program))
    → ((name : Text) → ¬ Named name → new name ≡ old name)
    → KeepsProgram old new program
keeps_program old new Named program apart others = λ name holds.
    others name (λ is. of_known (old name) (λ known. known ≢ program) program holds (apart name is)
    refl) ∙ holds

-- what was written, where what stood before is told of what stood earlier
pub written_from : (cut : Bool) (recorded : Option Text) (places : List ℕ) (stats : Bool)
    (report : Report) (told : Status) (outputs : Outputs) (err : Told) (files : Contents)
    → outputs.err_old ≡ err → outputs.files_old ≡ files
    → IsWritten cut recorded places stats report told outputs
    → IsWritten cut recorded places stats report told
    (record outputs { err_old = err; files_old = files })
written_from cut recorded places stats report told outputs err files errs all written =
    subst (IsWritten cut recorded places stats report told)
    (λ i. record outputs { err_old = errs i; files_old = all i }) written

-- a state that was written, of a text that is the same, where what stood before is told of what
-- stood earlier, and files stay
pub shown_as : (text other : List ℕ) (told : Status) (outputs : Outputs) (err : Told)
    (files : Contents) → text ≡ other → outputs.err_old ≡ err → outputs.files_new ≡ files
    → IsShown text told outputs
    → IsShown other told (record outputs { err_old = err; files_new = files })
shown_as text other told outputs err files same errs all shown =
    subst (IsShown other told) (λ i. record outputs { err_old = errs i; files_new = all i })
    (subst (λ (t : List ℕ). IsShown t told outputs) same shown)

among_none : (k : _) (kinds : Kinds) → IsAmong k kinds → kinds ≡ [] → ⊥
among_none k [] among none = among
among_none k (first ∷ rest) among none = cc

-- an error that isn't for want of memory comes of a fault of the words
pub faulty : (kinds : Kinds) (e : Error) → HasKind kinds e → (kind_of e ≡ kind.OutOfMemory → ⊥)
    → kinds ≢ []
faulty kinds e (inl memory) other = absurd (other memory)
faulty kinds e (inr among) other = among_none (kind_of e) kinds among

-- a picture that was written is another too, where that is said of each text
pub picture_more : (drawn : Option Text) (P Q : List ℕ → Type 0) (schedule : List Entry)
    (old new : Ended) → ((text : List ℕ) → P text → Q text)
    → IsPictureWritten drawn P schedule old new → IsPictureWritten drawn Q schedule old new
picture_more None P Q schedule old new more is = is
picture_more (Some name) P Q schedule old new more (inl held) = inl (record {
  same = held.same;
  told = held.told;
  writes = held.writes;
  apart = held.apart;
  text = held.text;
  is_picture = more held.text held.is_picture;
  holds = held.holds;
})
picture_more (Some name) P Q schedule old new more (inr other) = inr other
