use Rattle.std.proofs.Common.{◌∙◌, sym, ap, subst, map, Some}
use Rattle.std.proofs.lemmas.List.Sorted.{IsPermutation-map}
use Rattle.manifests.specs.Entries.{entry_of}
use Rattle.manifests.specs.Tables.{target_told}
use Rattle.manifests.specs.Documents.{AreInSomeOrder}
use Rattle.manifests.proofs.document.Document.target_keys.Goals as goal

pub returns-in_ok-sort_by_cached_key-in-Keys : goal.returns-in_ok-sort_by_cached_key-in-Keys
returns-in_ok-sort_by_cached_key-in-Keys c =
    let sorted = c.sort_by_cached_key.new.self.items in
    subst (λ t. AreInSomeOrder t (Some (Some (map entry_of sorted))))
    (sym (ap target_told c.in-Keys.is) ∙ c.in_ok-keys.ensures)
    (IsPermutation-map entry_of c.in-Keys.keys.items sorted c.sort_by_cached_key.ensures.permutation)
