-- What is decided and left of a condition, as more becomes known, and holders that tell more.
use Rattle.std.proofs.Common.{◌≡◌, ◌∙◌, refl, sym, ap, ℕ, Bool, true, false, List, Option, Some, None, IfSome}
use Rattle.std.proofs.Common.{true≢false}
use Rattle.std.specs.Prelude.{bytes_eq}
use Rattle.std.specs.FinSet.{contains}
use Rattle.cargo_platform.specs.Trees.{Condition, Target, Expression}
use Rattle.cargo_platform.specs.Facts.{Pair, FactSet}
use Rattle.partial_facts.specs.KleeneLaws.{TellsMore, LearnsName}
use Rattle.partial_facts.specs.Residual.{literal, residual_tree}
use Rattle.partial_facts.specs.Conditions.{is_target, unless_target, kleene_condition, residual_condition}
use Rattle.partial_facts.specs.Partly.{is_named, told_by, partly_told, IsPartlyKnown, KeepsNames}
use Rattle.partial_facts.proofs.Refining.{kept}
use Rattle.partial_facts.proofs.Steps.{in_steps}

pub condition_kept : (x y : Option (List ℕ)) (told more : Pair → Option Bool) (p : Condition) (b : Bool)
    → LearnsName x y → TellsMore told more → kleene_condition x told p ≡ Some b → kleene_condition y more p ≡ Some b
condition_kept (Some n) y told more (Target t) b learns grows h = ap (λ z. is_target z t) (learns n refl) ∙ h
condition_kept None y told more (Target t) b learns grows h = cc
condition_kept x y told more (Expression e) b learns grows h = kept told more grows e b h

literal_left : (told : Pair → Option Bool) (b : Bool) → residual_tree told (literal b) ≡ literal b
literal_left told true = refl
literal_left told false = refl

pub condition_in_steps : (x y : Option (List ℕ)) (told more : Pair → Option Bool) (p : Condition)
    → LearnsName x y → TellsMore told more
    → residual_condition y more (residual_condition x told p) ≡ residual_condition y more p
condition_in_steps (Some n) y told more (Target t) learns grows =
    ap Expression (literal_left more (bytes_eq t n))
    ∙ sym (ap (λ z. unless_target (is_target z t) t) (learns n refl))
condition_in_steps None y told more (Target t) learns grows = refl
condition_in_steps x y told more (Expression e) learns grows = ap Expression (in_steps told more grows e)

-- whether a pair is listed and its name complete, first and later
pub more_by : (l n m k b : Bool) → (l ≡ true → m ≡ true) → (n ≡ true → m ≡ true → l ≡ true) → (n ≡ true → k ≡ true)
    → told_by l n ≡ Some b → told_by m k ≡ Some b
more_by true n m k b has no_other names h = ap (λ z. told_by z k) (has refl) ∙ h
more_by false true true k b has no_other names h = absurd (true≢false (sym (no_other refl refl)))
more_by false true false k b has no_other names h = ap (told_by false) (names refl) ∙ h
more_by false false m k b has no_other names h = cc

pub partial_more : (listed more : FactSet) (complete names : List (List ℕ)) → IsPartlyKnown listed complete more
    → KeepsNames complete names → TellsMore (partly_told listed complete) (partly_told more names)
partial_more listed more complete names is keeps p b =
    more_by (contains listed p) (is_named p.name complete) (contains more p) (is_named p.name names) b (is.has p)
    (is.no_other p) (keeps p.name)

pub agreed : (told : Option Bool) (c b : Bool) → IfSome told (λ a. c ≡ a) → told ≡ Some b → Some c ≡ Some b
agreed (Some a) c b is h = ap Some is ∙ h
agreed None c b is h = cc
