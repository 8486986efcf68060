-- A list of facts rules out no more sets than it says.
use Rattle.std.proofs.Common.{◌≡◌, ◌∙◌, refl, sym, ap, subst, ℕ, Bool, true, false, None, IfSome, List}
use Rattle.std.proofs.Common.{[], ◌∷◌, ◌++◌, map, inl, inr, true≢false}
use Rattle.std.specs.List.{Contains}
use Rattle.std.specs.FinSet.{contains}
use Rattle.std.proofs.lemmas.List.{map_push}
use Rattle.std.proofs.lemmas.List.Elements.{Contains-append_left, Contains-push, Contains-push_cases}
use Rattle.cargo_platform.specs.Trees.{CfgValue}
use Rattle.cargo_platform.specs.Facts.{Pair, FactSet, pair_of, fact_set}
use Rattle.cargo_platform.specs.FactLaws.{IsInWhereListed}
use Rattle.partial_facts.specs.Partly.{is_named, told_by, partly_told, partly_possible, partly_sound}
use Rattle.partial_facts.specs.Partly.{IsAllowedByTold, IsLeftOpen}

has_by : (l n c : Bool) → IfSome (told_by l n) (λ b. c ≡ b) → l ≡ true → c ≡ true
has_by true n c h is = h
has_by false n c h is = absurd (true≢false (sym is))

no_other_by : (l n c : Bool) → IfSome (told_by l n) (λ b. c ≡ b) → n ≡ true → c ≡ true → l ≡ true
no_other_by true n c h named inside = refl
no_other_by false true c h named inside = absurd (true≢false (sym inside ∙ h))
no_other_by false false c h named inside = absurd (true≢false (sym named))

pub allowed : (listed : FactSet) (complete : List (List ℕ)) (s : FactSet) → IsAllowedByTold listed complete s
allowed listed complete s = (
  λ is p. partly_sound listed complete s p is,
  λ told. record {
    has = λ p. has_by (contains listed p) (is_named p.name complete) (contains s p) (told p);
    no_other = λ p. no_other_by (contains listed p) (is_named p.name complete) (contains s p) (told p);
  },
)

pub untold : (l n : Bool) → told_by l n ≡ None → (l ≡ false) × (n ≡ false)
untold true n h = cc
untold false true h = cc
untold false false h = (refl, refl)

pub left_open : ((ds : List CfgValue) (p : Pair) → IsInWhereListed ds p)
    → (cs : List CfgValue) (complete : List (List ℕ)) (c : CfgValue)
    → partly_told (fact_set cs) complete (pair_of c) ≡ None → IsLeftOpen cs complete c
left_open members cs complete c h =
    let ps : List Pair = map pair_of cs in
    let more : List CfgValue = cs ++ c ∷ [] in
    let pushed : map pair_of more ≡ ps ++ pair_of c ∷ [] = map_push pair_of cs c in
    let neither = untold (contains (fact_set cs) (pair_of c)) (is_named (pair_of c).name complete) h in
    let into : (q : Pair) → Contains (ps ++ pair_of c ∷ []) q → contains (fact_set more) q ≡ true =
    λ q k. (members more q).1 (subst (λ xs. Contains xs q) (sym pushed) k) in
    record {
      may_be = record {
        has = λ q inside. into q (Contains-append_left ps (pair_of c ∷ []) q ((members cs q).0 inside));
        no_other =
            λ q named inside. elim
            (Contains-push_cases ps (pair_of c) q (subst (λ xs. Contains xs q) pushed ((members more q).0 inside))) [
              | inl k ↦ (members cs q).1 k
              | inr e ↦ absurd (true≢false (sym named ∙ sym (ap (λ p. is_named p.name complete) e) ∙ neither.1))
            ];
      };
      is_in = into (pair_of c) (Contains-push ps (pair_of c));
      need_not_be = partly_possible (fact_set cs) complete;
      is_out = neither.0;
    }
