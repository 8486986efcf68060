-- What rules make of a level, one after the other.
use Rattle.std.proofs.Common.{◌≡◌, ℕ, List, [], ◌∷◌, ◌++◌, Option, inl, inr, sym, subst, ◌∙◌, suc, ◌<◌, length, arith}
use Rattle.std.specs.List.{All}
use Rattle.diagnostics.specs.declared.level_rules.DiagnosticLevel.{DiagnosticLevel}
use Rattle.diagnostics.specs.declared.level_rules.Rule.{Rule}
use Rattle.diagnostics.specs.LintLevels.{level_set, Hears, Makes}

pub one : (code : List ℕ) (key : Option (List ℕ)) (own v w : DiagnosticLevel) (rules : List Rule)
    → Makes code key own rules v → Makes code key own rules w → v ≡ w
one code key own v w [] made other = made ∙ sym other
one code key own v w (rule ∷ rules) (inl (hears, made)) (inl (_, other)) =
    one code key (level_set rule.setting) v w rules made other
one code key own v w (rule ∷ rules) (inl (hears, made)) (inr (deaf, other)) = absurd (deaf hears)
one code key own v w (rule ∷ rules) (inr (deaf, made)) (inl (hears, other)) = absurd (deaf hears)
one code key own v w (rule ∷ rules) (inr (deaf, made)) (inr (_, other)) = one code key own v w rules made other

pub kept : (code : List ℕ) (key : Option (List ℕ)) (own v : DiagnosticLevel) (rules : List Rule)
    → All (λ rule. Hears rule code key own → ⊥) rules → Makes code key own rules v → v ≡ own
kept code key own v [] deaf made = made
kept code key own v (rule ∷ rules) deaf (inl (hears, made)) = absurd (deaf 0 rule (omega arith) hears)
kept code key own v (rule ∷ rules) deaf (inr (_, made)) = kept code key own v rules
    (λ k d (h : k < length rules). deaf (suc k) d (omega arith)) made

pub last : (code : List ℕ) (key : Option (List ℕ)) (own v : DiagnosticLevel) (front back : List Rule) (rule : Rule)
    → ((w : DiagnosticLevel) → Hears rule code key w)
    → All (λ later. Hears later code key (level_set rule.setting) → ⊥) back
    → Makes code key own (front ++ rule ∷ back) v → v ≡ level_set rule.setting
last code key own v [] back rule hears deaf (inl (_, made)) = kept code key (level_set rule.setting) v back deaf made
last code key own v [] back rule hears deaf (inr (none, made)) = absurd (none (hears own))
last code key own v (first ∷ front) back rule hears deaf (inl (_, made)) =
    last code key (level_set first.setting) v front back rule hears deaf made
last code key own v (first ∷ front) back rule hears deaf (inr (_, made)) =
    last code key own v front back rule hears deaf made

pub then : (code : List ℕ) (key : Option (List ℕ)) (own w v : DiagnosticLevel) (front back : List Rule)
    → Makes code key own front w → Makes code key w back v → Makes code key own (front ++ back) v
then code key own w v [] back made more = subst (λ u. Makes code key u back v) made more
then code key own w v (rule ∷ front) back (inl (hears, made)) more =
    inl (hears, then code key (level_set rule.setting) w v front back made more)
then code key own w v (rule ∷ front) back (inr (deaf, made)) more =
    inr (deaf, then code key own w v front back made more)
