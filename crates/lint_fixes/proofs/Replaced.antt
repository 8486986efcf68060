-- Fixes of keys that a manifest lacks.
use Rattle.std.proofs.Common.{◌≡◌, ◌⊎◌, ℕ, Bool, true, false, not, cond, ◌||◌, ◌&&◌, List, [], ◌∷◌, ◌++◌, length}
use Rattle.std.proofs.Common.{All, Contains, Global, Some, Vec, vec_len, ◌==◌, arith, refl, true≢false}
use Rattle.std.proofs.Common.{sym, ap, ◌∙◌, subst, inl, inr}
use Rattle.std.proofs.lemmas.List.Folds.{list_any_at}
use Rattle.std.specs.List.{filter, list_all, list_any}
use Rattle.input_limits.specs.Marks.{IsUnmarked, byte_order_mark}
use Rattle.toml.specs.Data.{Members}
use Rattle.toml.specs.Parse.{parse_document}
use Rattle.workspaces.specs.Documents.{SpellsTable}
use Rattle.lint_fixes.specs.Fixing.{HasNoneOf, finds_key, is_replaced}
use Rattle.lint_fixes.specs.declared.fixing.Fix.{Fix}

first_of : (a b : Bool) → (a && b) ≡ true → a ≡ true
first_of true b h = refl
first_of false b h = h

second_of : (a b : Bool) → (a && b) ≡ true → b ≡ true
second_of true b h = h
second_of false b h = absurd (cc)

-- ---- the fixes that are applied

any_of_cond : (p : Fix → Bool) (b : Bool) (fix : Fix) (fixes : List Fix) → list_any p (cond b (fix ∷ fixes) fixes)
    ≡ cond b (p fix || list_any p fixes) (list_any p fixes)
any_of_cond p true fix fixes = refl
any_of_cond p false fix fixes = refl

step : (is_key has rest more : Bool) → ((not is_key || not has) && more) ≡ true → rest ≡ false
    → cond is_key ((not is_key || has) || rest) rest ≡ false
step true true rest more h none = absurd (cc)
step true false rest more h none = none
step false has rest more h none = none

-- a table that has none of the keys that fixes replace has none that a fix of a key finds
pub none_finds : (m : Members) (fixes : List Fix) → list_all (is_replaced m) fixes ≡ true
    → list_any (finds_key m) (filter (λ fix. fix.is_key) fixes) ≡ false
none_finds m [] h = refl
none_finds m (fix ∷ fixes) h =
    let rest = none_finds m fixes (second_of (is_replaced m fix) (list_all (is_replaced m) fixes) h) in
    any_of_cond (finds_key m) fix.is_key fix (filter (λ it. it.is_key) fixes) ∙ step fix.is_key _ _ _ h rest

-- ---- the fixes that are chosen

-- where none of the fixes finds its key, none of those that find theirs is one of them
pub none_chosen : (find : Fix → Bool) (fixes chosen : List Fix) → All (Contains fixes) chosen
    → list_all find chosen ≡ true → list_any find fixes ≡ false → chosen ≡ []
none_chosen find fixes [] among found none = refl
none_chosen find fixes (fix ∷ more) among found none =
    let (k, lt, is) = among 0 fix (omega arith) in
    let finds = first_of (find fix) (list_all find more) found in
    let any : list_any find fixes ≡ true = list_any_at find fixes k fix lt (ap find is ∙ finds) in
    absurd (cc)

-- one more fix that finds its key
pub all_push : (p : Fix → Bool) (fixes : List Fix) (fix : Fix) → list_all p fixes ≡ true → p fix ≡ true
    → list_all p (fixes ++ fix ∷ []) ≡ true
all_push p [] fix h k = ap (λ b. b && true) k
all_push p (other ∷ fixes) fix h k =
    let rest = all_push p fixes fix (second_of (p other) (list_all p fixes) h) k in
    ap (λ b. b && list_all p (fixes ++ fix ∷ [])) (first_of (p other) (list_all p fixes) h) ∙ rest

-- a list that is not empty has items
pub filled : {X : Type 0} (v : Vec X Global) (b : Bool) → b ≡ (vec_len v == 0) → b ≡ false → v.items ≡ [] → ⊥
filled v b is filled_it none =
    let zero : vec_len v ≡ 0 = v.ok.0 ∙ ap length none in
    let yes : b ≡ true = is ∙ ap (λ n. n == 0) zero in
    true≢false (sym yes ∙ filled_it)

-- ---- the table of a text

unmarked_once : (text a b : List ℕ) → IsUnmarked text a → IsUnmarked text b → a ≡ b
unmarked_once text a b (inl p) (inl q) = cc
unmarked_once text a b (inl p) (inr (without, q)) = absurd (without a p)
unmarked_once text a b (inr (without, p)) (inl q) = absurd (without b q)
unmarked_once text a b (inr (without, p)) (inr (so, q)) = p ∙ sym q

some_once : (a b : Members) → Some a ≡ Some b → a ≡ b
some_once a b h = cc

-- a text spells one table
pub table_once : (text : List ℕ) (a b : Members) → SpellsTable text (Some a) → SpellsTable text (Some b) → a ≡ b
table_once text a b (x, p, is) (y, q, so) =
    some_once a b (sym is ∙ ap parse_document (unmarked_once text x y p q) ∙ so)

-- a text that has none of the keys that the fixes replace has no fix that is chosen
pub nothing_chosen : (text : List ℕ) (manifest : Members) (fixes chosen : List Fix) → SpellsTable text (Some manifest)
    → All (Contains fixes) chosen → list_all (finds_key manifest) chosen ≡ true → HasNoneOf text fixes → chosen ≡ []
nothing_chosen text manifest fixes chosen spelled among found (m, spells, none) =
    let same : m ≡ manifest = table_once text m manifest spells spelled in
    none_chosen (finds_key manifest) fixes chosen among found (subst
    (λ x. list_any (finds_key x) fixes ≡ false) same none)
