use Rattle.std.proofs.Common.{take}
use Rattle.std.specs.Prelude.{Contains}
use Rattle.declared_features.specs.Entries.{IsEntry}
use Rattle.declared_features.specs.Lists.{MatchesJust}
use Rattle.declared_features.specs.Inside.Names.{texts_in}
use Rattle.declared_features.proofs.linking.RequestedFeatures.entries.Given as goal

abbrev pub invariant-each : goal.invariant-each
invariant-each l = MatchesJust (λ t. Contains (texts_in (take l.i l.texts.items)) t) IsEntry l.entries.items
