-- Entries in the lists of features, as the page "Features" of the Cargo book writes them.
use Rattle.std.specs.Prelude.{◌≡◌, ◌++◌, ℕ, List, Contains, codes}
use Rattle.declared_features.specs.declared.entries.FeatureEntry.{FeatureEntry}
use Rattle.declared_features.specs.declared.entries.FeatureEntry.TheVariants as entry

abbrev pub HasSlash : List ℕ → Type 0
HasSlash text = Contains text 47

abbrev pub BeginsWith : List ℕ → List ℕ → Type 0
BeginsWith text front = (rest : List ℕ) × (text ≡ front ++ rest)

abbrev pub EndsWith : List ℕ → List ℕ → Type 0
EndsWith text end = (rest : List ℕ) × (text ≡ rest ++ end)

-- the text spells the entry: `f`, `dep:d`, `d/g` or `d?/g`
abbrev pub IsEntry : List ℕ → FeatureEntry → Type 0
IsEntry text (entry.Feature f) = (f.now ≡ text) × ¬ HasSlash text × ¬ BeginsWith text (codes "dep:")
IsEntry text (entry.Dependency d) = (text ≡ codes "dep:" ++ d.now) × ¬ HasSlash text
IsEntry text (entry.Strong d g) =
    (text ≡ d.now ++ codes "/" ++ g.now) × ¬ HasSlash d.now × ¬ EndsWith d.now (codes "?")
IsEntry text (entry.Weak d g) = (text ≡ d.now ++ codes "?/" ++ g.now) × ¬ HasSlash d.now
