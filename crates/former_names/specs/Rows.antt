-- The rows of the table.
use Rattle.std.specs.Prelude.{ℕ, List, map, Contains}
use Rattle.std.specs.Borrow.{Bor}
use Rattle.cargo_platform.specs.Trees.{CfgValue, Alone, KeyPair}
use Rattle.former_names.specs.declared.releases.Release.{Release}
use Rattle.former_names.specs.declared.rows.RemovalReleases.{RemovalReleases}
use Rattle.former_names.specs.declared.table.TheConstants.{TARGETS, FACTS, RENAMED}

abbrev pub Numbers : Type 0
Numbers = ℕ × ℕ × ℕ

-- a target's name, the last release known to have it, and the first known to lack it
abbrev pub TargetRow : Type 0
TargetRow = List ℕ × Numbers × Numbers

-- a fact's key and value, the last release known to have it, and the first known to lack it
abbrev pub FactRow : Type 0
FactRow = List ℕ × List ℕ × Numbers × Numbers

-- the former name of a target, and its name now
abbrev pub RenamedRow : Type 0
RenamedRow = List ℕ × List ℕ

-- rows, whatever their place in memory
abbrev pub targets_of : List (Bor (List ℕ) × Numbers × Numbers) → List TargetRow
targets_of rows = map (λ row. (row.0.now, row.1, row.2)) rows

abbrev pub facts_of : List (Bor (List ℕ) × Bor (List ℕ) × Numbers × Numbers) → List FactRow
facts_of rows = map (λ row. (row.0.now, row.1.now, row.2, row.3)) rows

abbrev pub renamed_of : List (Bor (List ℕ) × Bor (List ℕ)) → List RenamedRow
renamed_of rows = map (λ row. (row.0.now, row.1.now)) rows

unfoldable pub target_rows : List TargetRow
target_rows = map (λ row. (row.0.now, row.1, row.2)) TARGETS

unfoldable pub fact_rows : List FactRow
fact_rows = map (λ row. (row.0.now, row.1.now, row.2, row.3)) FACTS

unfoldable pub renamed_rows : List RenamedRow
renamed_rows = map (λ row. (row.0.now, row.1.now)) RENAMED

abbrev pub numbers_of : Release → Numbers
numbers_of r = (r.major, r.minor, r.patch)

-- the rows have the name of a target, with these releases
abbrev pub HasTarget : List TargetRow → List ℕ → RemovalReleases → Type 0
HasTarget rows name b = Contains rows (name, numbers_of b.last, numbers_of b.gone)

-- they have the key with the value
abbrev pub HasPair : List FactRow → List ℕ → List ℕ → RemovalReleases → Type 0
HasPair rows key value b = Contains rows (key, value, numbers_of b.last, numbers_of b.gone)

-- the table has the fact, whatever its raw mark
abbrev pub HasFact : CfgValue → RemovalReleases → Type 0
HasFact (Alone name) b = ⊥
HasFact (KeyPair key value) b = HasPair fact_rows key.name value b

-- the target with this name has another name now
abbrev pub IsRenamed : List RenamedRow → List ℕ → List ℕ → Type 0
IsRenamed rows name now = Contains rows (name, now)
