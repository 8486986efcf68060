-- What the first packages depend on, and one more.
use Rattle.std.proofs.Common.{◌≡◌, ℕ, ◌<◌, ◌+◌, true, false, List, [], ◌∷◌, ◌++◌, take, length, get_or, sym, subst}
use Rattle.std.proofs.Common.{ap, ◌∙◌}
use Rattle.std.proofs.lemmas.List.{take_more}
use Rattle.cyclonedx.specs.Relations.{is_included, IsRelation, AreRelations, of_none, left_out, related}
use Rattle.cyclonedx.specs.declared.relations.Node.{Node}
use Rattle.cyclonedx.specs.declared.relations.Relation.{Relation}

pub none_related : (nodes : List Node) (rs : List Relation) → rs ≡ [] → AreRelations nodes [] rs
none_related nodes rs is = subst (λ (us : List Relation). AreRelations nodes [] us) (sym is) of_none

pub goes_on_left_out : (nodes : List Node) (i : ℕ) (n : Node) (rs us : List Relation) → i < length nodes
    → get_or nodes i n ≡ n → us ≡ rs → AreRelations nodes (take i nodes) rs → is_included n ≡ false
    → AreRelations nodes (take (i + 1) nodes) us
goes_on_left_out nodes i n rs us below is same before out =
    subst (λ (vs : List Relation). AreRelations nodes (take (i + 1) nodes) vs) (sym same)
    (subst (λ (ns : List Node). AreRelations nodes ns rs)
    (sym (take_more nodes i n below ∙ ap (λ (m : Node). take i nodes ++ m ∷ []) is))
    (left_out (take i nodes) n rs before out))

pub goes_on_related : (nodes : List Node) (i : ℕ) (n : Node) (rs us : List Relation) (r : Relation) → i < length nodes
    → get_or nodes i n ≡ n → us ≡ rs ++ r ∷ [] → AreRelations nodes (take i nodes) rs → is_included n ≡ true
    → IsRelation nodes n r → AreRelations nodes (take (i + 1) nodes) us
goes_on_related nodes i n rs us r below is pushed before into relation =
    subst (λ (vs : List Relation). AreRelations nodes (take (i + 1) nodes) vs) (sym pushed)
    (subst (λ (ns : List Node). AreRelations nodes ns (rs ++ r ∷ []))
    (sym (take_more nodes i n below ∙ ap (λ (m : Node). take i nodes ++ m ∷ []) is))
    (related (take i nodes) n rs r before into relation))
