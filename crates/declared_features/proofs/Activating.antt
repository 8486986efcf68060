-- The requests of an activation root, while they are gathered.
use Rattle.std.proofs.Common.{◌≡◌, ℕ, ◌+◌, ◌<◌, List, [], ◌∷◌, ◌++◌, length, map, get_or, take, sym, ◌∙◌, ap, Bool}
use Rattle.std.proofs.Common.{cond, true, false, subst, Option, Some, None}
use Rattle.std.specs.Prelude.{All, filter}
use Rattle.std.proofs.lemmas.List.{map-append, append-nil}
use Rattle.std.proofs.lemmas.List.Elements.{filter_more, All-push}
use Rattle.package_graphs.specs.declared.packages.Kind.{Kind}
use Rattle.cargo_features.specs.declared.packages.Dependency.{Dependency}
use Rattle.cargo_features.specs.declared.packages.Package.{Package}
use Rattle.declared_features.specs.Activation.{is_dev, request_of, IsUnused, IsActivationRoot, IsActive, AreActivated}
use Rattle.declared_features.specs.Activation.{as_before, with_root}
use Rattle.declared_features.proofs.Collecting.{some_same}

abbrev pub Request : Type 0
Request = ℕ × Kind × List ℕ

abbrev pub dev_requests : List Dependency → List Request
dev_requests ds = map request_of (filter (λ d. is_dev d.kind) ds)

dev_requests_more : (ds : List Dependency) (i : ℕ) (d : Dependency) → i < length ds → d ≡ get_or ds i d
    → dev_requests (take (i + 1) ds)
    ≡ dev_requests (take i ds) ++ map request_of (cond (is_dev d.kind) (d ∷ []) [])
dev_requests_more ds i d below is =
    let p : Dependency → Bool = λ d. is_dev d.kind in
    ap (map request_of) (filter_more p ds i d below)
    ∙ map-append request_of (filter p (take i ds)) (cond (p (get_or ds i d)) (get_or ds i d ∷ []) [])
    ∙ ap (λ (g : Dependency). dev_requests (take i ds) ++ map request_of (cond (is_dev g.kind) (g ∷ []) [])) (sym is)

-- a dependency that is no dev-dependency
pub passed_over : (ds : List Dependency) (i : ℕ) (d : Dependency) (first : Request) (requests : List Request)
    → i < length ds → d ≡ get_or ds i d → is_dev d.kind ≡ false → requests ≡ first ∷ dev_requests (take i ds)
    → requests ≡ first ∷ dev_requests (take (i + 1) ds)
passed_over ds i d first requests below is other before =
    before
    ∙ ap (λ (l : List Request). first ∷ l)
    (sym (dev_requests_more ds i d below is
    ∙ ap (λ (b : Bool). dev_requests (take i ds) ++ map request_of (cond b (d ∷ []) [])) other
    ∙ append-nil (dev_requests (take i ds))))

-- and one that is
pub copied : (ds : List Dependency) (i : ℕ) (d : Dependency) (first : Request) (old new : List Dependency)
    (copy : Dependency) → i < length ds → d ≡ get_or ds i d → is_dev d.kind ≡ true → new ≡ old ++ copy ∷ []
    → request_of copy ≡ request_of d → map request_of old ≡ first ∷ dev_requests (take i ds)
    → map request_of new ≡ first ∷ dev_requests (take (i + 1) ds)
copied ds i d first old new copy below is such pushed same before =
    ap (map request_of) pushed ∙ map-append request_of old (copy ∷ [])
    ∙ ap (λ (l : List Request). l ++ request_of copy ∷ []) before
    ∙ ap (λ (r : Request). first ∷ (dev_requests (take i ds) ++ r ∷ [])) same
    ∙ ap (λ (l : List Request). first ∷ l)
    (sym (dev_requests_more ds i d below is
    ∙ ap (λ (b : Bool). dev_requests (take i ds) ++ map request_of (cond b (d ∷ []) [])) such))

pub all_unused : (old new : List Dependency) (d : Dependency) → new ≡ old ++ d ∷ [] → All IsUnused old → IsUnused d
    → All IsUnused new
all_unused old new d pushed all one =
    subst (λ (l : List Dependency). All IsUnused l) (sym pushed) (All-push IsUnused old d all one)

-- ---- the packages with an activation root

pub no_current : (current : Option ℕ) (packages : List Package) → current ≡ None
    → AreActivated current packages packages
no_current current packages none =
    as_before (λ index is. absurd (let no_index : Some index ≡ None = sym is ∙ none in cc))

pub active : (current : Option ℕ) (packages : List Package) (index : ℕ) → current ≡ Some index
    → IsActive packages index → AreActivated current packages packages
active current packages index is such =
    as_before (λ other also.
    let one : Some index ≡ Some other = sym is ∙ also in
    let same : index ≡ other = some_same index other one in
    subst (λ (i : ℕ). IsActive packages i) same such)

pub activated : (current : Option ℕ) (packages new : List Package) (index : ℕ) (root : Package)
    → current ≡ Some index → IsActivationRoot packages index root → new ≡ packages ++ root ∷ []
    → AreActivated current packages new
activated current packages new index root is such pushed =
    subst (λ (l : List Package). AreActivated current packages l) (sym pushed) (with_root index root is such)
