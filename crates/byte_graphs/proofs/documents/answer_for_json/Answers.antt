use Rattle.std.proofs.Common.{inr}
use Rattle.byte_graphs.proofs.documents.answer_for_json.Goals as goal

pub returns-then-has_deep_condition : goal.returns-then-has_deep_condition
returns-then-has_deep_condition c =
    (c.in-Ok.metadata, (c.in-Ok.ensures, c.has_deep_condition.ensures.deep c.if-has_deep_condition.true))

pub returns-in_ok-lines-in-Ok-link : goal.returns-in_ok-lines-in-Ok-link
returns-in_ok-lines-in-Ok-link c = (
  c.in-Ok.metadata,
  c.in-Ok-link.linked,
  (
    c.in-Ok.ensures,
    c.has_deep_condition.ensures.shallow c.if-has_deep_condition.false,
    c.in-Ok-link.ensures,
  ),
)

pub returns-in_ok-reason-in-Err-link : goal.returns-in_ok-reason-in-Err-link
returns-in_ok-reason-in-Err-link c =
    inr (
      c.in-Ok.metadata,
      c.in-Err-link.refusal,
      (
        c.in-Ok.ensures,
        c.has_deep_condition.ensures.shallow c.if-has_deep_condition.false,
        c.in-Err-link.ensures,
        c.in_ok-reason-in-Err-link.ensures.memory,
      ),
    )
