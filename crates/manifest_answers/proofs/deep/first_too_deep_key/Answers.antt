use Rattle.std.proofs.Common.{◌∙◌, sym, ap, subst, List, map}
use Rattle.std.specs.List.{All}
use Rattle.manifests.specs.Entries.{entry_of}
use Rattle.manifests.specs.Tables.{target_told}
use Rattle.manifests.specs.declared.tables.TargetKey.{TargetKey}
use Rattle.manifest_answers.specs.Deep.{HasNoDeepKey, IsShallowEntry}
use Rattle.manifest_answers.proofs.deep.first_too_deep_key.Goals as goal

pub returns-in-Keys : goal.returns-in-Keys
returns-in-Keys c =
    subst HasNoDeepKey (ap target_told (sym c.in-Keys.is) ∙ c.in_ok-keys.ensures)
    (subst (λ (ks : List TargetKey). All IsShallowEntry (map entry_of ks)) c.deref.ensures.value
    c.in-None.ensures.shallow)
