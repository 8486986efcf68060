-- The correct result for a document.
use Rattle.std.specs.Prelude.{ℕ, List}
use Rattle.serde_json.specs.Data.{Data}
use Rattle.byte_graphs.specs.declared.documents.Answer.{Answer}
use Rattle.byte_graphs.specs.declared.documents.Answer.TheVariants as answer
use Rattle.byte_graphs.specs.Documents.{IsGraphData, IsDeepData, IsUnusableData, IsGraph, IsDeepGraph, IsUnusable}

abbrev pub IsAnswerFor : Data → Answer → Type 0
IsAnswerFor d (answer.Lines lines) = IsGraphData d
IsAnswerFor d (answer.Reason reason) = IsUnusableData d
IsAnswerFor d answer.TooDeep = IsDeepData d

abbrev pub IsAnswer : List ℕ → Answer → Type 0
IsAnswer text (answer.Lines lines) = IsGraph text
IsAnswer text (answer.Reason reason) = IsUnusable text
IsAnswer text answer.TooDeep = IsDeepGraph text
