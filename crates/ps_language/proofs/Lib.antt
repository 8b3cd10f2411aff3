pub mod AskedLemmas
pub mod Behind
pub mod Blanks
mod ContextExamples
pub mod ControlStack
pub mod DictionaryLaws
pub mod EqualityLaws
mod ErrorExamples
pub mod Evaluation
pub mod ExampleScenes
pub mod Exists
pub mod Leaving
pub mod LeftContexts
pub mod LeftTurns
mod LiveExamples
pub mod LiveLaws
pub mod LowestDeeds
pub mod LowestRows
pub mod LowestStacks
pub mod LowestSteps
pub mod Numbers
pub mod OperandsKept
pub mod Places
pub mod PrintedDeeds
pub mod PrintedSteps
pub mod Procedures
pub mod ProgramExamples
pub mod Recorded
pub mod Refusals
pub mod RowExamples
pub mod RowExamplesFurther
mod ScanExamples
pub mod ScanLaw
pub mod ScanSteps
pub mod ScheduleLaws
pub mod Shown
pub mod Simples
pub mod SimplesFound
pub mod Spans
pub mod StringEnds
pub mod StringLaw
pub mod StringPlaces
pub mod Strings
pub mod Taken
pub mod WordForms
pub mod Words
pub mod WorldLaws
