-- The answers about a key, and the lints that apply to it. The promises about a report do not depend on these words.
use Rattle.std.specs.Prelude.{◌<◌, true, false, List, IsTrue, length}
use Rattle.cargo_platform.specs.Trees.{Condition}
use Rattle.exact_answers.specs.declared.fact_constraints.FactConstraints.{FactConstraints}
use Rattle.manifests.specs.Declarations.{DeclaredEntry}
use Rattle.predicate_classes.specs.Classes.{classified_in, open_in}
use Rattle.manifest_lints_findings.specs.declared.codes.KeyLint.TheVariants as code
use Rattle.manifest_lints_findings.specs.Codes.{CodeSet}
use Rattle.manifest_lints_findings.specs.Known.{holds_alone}
use Rattle.manifest_lints.specs.declared.at_targets.TheConstants.{MAX_OPEN_NAMES}
use Rattle.manifest_lints.specs.Truths.{IsNever, IsAlways, CanHold, CanFail}
use Rattle.manifest_lints.specs.Earlier.{is_same, is_equivalent}
use Rattle.manifest_lints.specs.declared.checked_keys.Answers.{Answers}
use Rattle.manifest_lints.specs.declared.checked_keys.CheckedKey.{CheckedKey}
use Rattle.manifest_lints.specs.Reports.{Settles, SettlesPlaces}

-- the answers about a condition by itself are right
pub record AnswersFor (k : FactConstraints) (ds : List DeclaredEntry) (c : Condition) (a : Answers) : Type 0 where
  pub never : Settles a.is_open a.never (IsNever k c) (CanHold k c)
  pub always : Settles a.is_open a.always (IsAlways k c) (CanFail k c)
  pub nowhere : SettlesPlaces true ds c a.nowhere
  pub everywhere : SettlesPlaces false ds c a.everywhere
  pub many : MAX_OPEN_NAMES < length (open_in (classified_in ds c)) → IsTrue a.is_open

-- the lints that apply to a key: by its answers, and by the key itself
abbrev pub applicable_codes : CheckedKey → CodeSet
applicable_codes f code.Never = f.answers.never
applicable_codes f code.Nowhere = f.answers.nowhere
applicable_codes f code.Same = is_same f.answers.earlier
applicable_codes f code.Equivalent = is_equivalent f.answers.earlier
applicable_codes f code.Always = f.answers.always
applicable_codes f code.Everywhere = f.answers.everywhere
applicable_codes f c = holds_alone f.key c
