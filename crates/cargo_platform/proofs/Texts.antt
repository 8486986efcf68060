-- Equality of texts beside their order.
use Rattle.std.specs.Cmp.Lexicographic.{texts_ties}

pub ruleset texts = (texts_ties)
