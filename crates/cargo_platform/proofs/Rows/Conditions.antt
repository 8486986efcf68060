-- Which texts are target names and conditions, which are not, and the messages about those that are refused.
use Rattle.std.proofs.Common.{◌≡◌, refl, sym, ap, ◌∙◌, ℕ, true, false, true≢false, List, [], ◌∷◌, codes, map}
use Rattle.std.proofs.Common.{inl, inr, arith, length, length-append, get_or}
use Rattle.std.specs.Prelude.{IsTrue, IsFalse, ◌==◌}
use Rattle.std.specs.Char.{encode_utf8}
use Rattle.std.specs.List.{list_all}
use Rattle.std.proofs.lemmas.List.{get_or-append_right}
use Rattle.ucd_table.specs.Rows.{in_ranges, value_in}
use Rattle.ucd_derived.specs.AlphabeticRanges.{alphabetic_ranges}
use Rattle.ucd_category.specs.GeneralCategoryRows.{general_category_rows}
use Rattle.unicode.specs.Binary.{is_alphabetic}
use Rattle.unicode.specs.GeneralCategory.{general_category}
use Rattle.unicode.specs.declared.properties.GeneralCategory.TheVariants.{DecimalNumber, OtherNumber, NonspacingMark}
use Rattle.cargo_platform.specs.Chars.{starts}
use Rattle.cargo_platform.specs.Trees.{Condition, Target, Expression}
use Rattle.cargo_platform.specs.Faults.{Fault, UnexpectedToken, InvalidTarget}
use Rattle.cargo_platform.specs.Platforms.{is_number_category, is_target_char, IsTargetName, IsCfgOf, IsBare}
use Rattle.cargo_platform.specs.Platforms.{IsConditionText, IsFirstRefused, IsTargetMessage, IsRefusedCondition}
use Rattle.cargo_platform.proofs.TargetNames.{name_is_bare, refused_is_no_name}
use Rattle.cargo_platform.proofs.Conditions.{one_inner}
use Rattle.cargo_platform.proofs.Rows.Trees.{a}
use Rattle.cargo_platform.proofs.Rows.Cut.{lone_a}
use Rattle.cargo_platform.proofs.Rows.Faults.{lone_parenthesis, whole_is_not_refused}

-- ---- target names

-- `é`, a Greek letter, `½` and a Roman numeral are, beside ASCII letters, digits and three marks
characters : map is_target_char
    (0x78 ∷ 0x36 ∷ 0x5F ∷ 0x2D ∷ 0x2E ∷ 0xE9 ∷ 0x3B1 ∷ 0xBD ∷ 0x2167 ∷ [])
    ≡ true ∷ true ∷ true ∷ true ∷ true ∷ true ∷ true ∷ true ∷ true ∷ []
unfolding is_alphabetic general_category in_ranges value_in alphabetic_ranges general_category_rows
characters = refl

-- `!`, a space, `(`, `/`, `€` and an accent that is alone are not
other_characters : IsFalse (is_target_char 0x21) × IsFalse (is_target_char 0x20) × IsFalse (is_target_char 0x28)
    × IsFalse (is_target_char 0x2F) × IsFalse (is_target_char 0x20AC) × IsFalse (is_target_char 0x300)
unfolding is_alphabetic general_category in_ranges value_in alphabetic_ranges general_category_rows
other_characters = (refl, refl, refl, refl, refl, refl)

numbers : (is_number_category DecimalNumber ≡ true) × (is_number_category OtherNumber ≡ true)
    × (is_number_category NonspacingMark ≡ false)
numbers = (refl, refl, refl)

passing : IsTrue (list_all is_target_char (codes "a")) × IsTrue (list_all is_target_char (codes "cfg"))
    × IsTrue (list_all is_target_char (codes "x86_64-a.b")) × IsTrue (list_all is_target_char (0xE9 ∷ []))
unfolding is_alphabetic general_category in_ranges value_in alphabetic_ranges general_category_rows
passing = (refl, refl, refl, refl)

pub target_name : IsTargetName (codes "x86_64-a.b")
unfolding encode_utf8
target_name = (codes "x86_64-a.b", refl, refl, passing.2)

a_target : IsTargetName (codes "a")
unfolding encode_utf8
a_target = (codes "a", refl, refl, passing.0)

-- `é`, in its two bytes
wide_target : IsTargetName (0xC3 ∷ 0xA9 ∷ [])
unfolding encode_utf8
wide_target = (0xE9 ∷ [], refl, refl, passing.3)

empty_target : IsTargetName []
empty_target = ([], refl, refl, refl)

-- ---- the first refused character

pub space_refused : IsFirstRefused (codes "a b") 0x20
unfolding encode_utf8
space_refused =
    (codes "a", codes " b", refl, a_target, (codes "b", record { scalar = refl; parts = refl }), other_characters.1)

pub mark_refused : IsFirstRefused (codes "!foo") 0x21
unfolding encode_utf8
mark_refused =
    ([], codes "!foo", refl, empty_target, (codes "foo", record { scalar = refl; parts = refl }), other_characters.0)

parenthesis_refused : IsFirstRefused (codes "cfg(a) ") 0x28
unfolding encode_utf8
parenthesis_refused = (
  codes "cfg",
  codes "(a) ",
  refl,
  (codes "cfg", refl, refl, passing.1),
  (codes "a) ", record { scalar = refl; parts = refl }),
  other_characters.2,
)

mark_behind : IsFirstRefused (codes "a!") 0x21
unfolding encode_utf8
mark_behind = (codes "a", codes "!", refl, a_target, ([], record { scalar = refl; parts = refl }), other_characters.0)

-- the space in `! ` comes too late
second_is_not_first : IsFirstRefused (codes "! ") 0x20 → ⊥
unfolding encode_utf8
second_is_not_first ([], rest, parts, named, begins, refused) =
    true≢false (ap (starts (λ c. c == 0x21)) (parts ∙ begins.1.parts))
second_is_not_first (c ∷ cs, rest, parts, named, begins, refused) =
    let marked : c ∷ cs ≡ 0x21 ∷ cs = ap (λ (z : List ℕ). get_or z 0 0 ∷ cs) (sym parts) in
    refused_is_no_name (c ∷ cs) 0x21
    ([], c ∷ cs, refl, empty_target, (cs, record { scalar = refl; parts = marked }), other_characters.0) named

no_mark_in_name : IsTargetName (codes "a!") → ⊥
no_mark_in_name p = refused_is_no_name (codes "a!") 0x21 mark_behind p

-- in a target name nothing is refused
nothing_refused : (c : ℕ) → IsFirstRefused (codes "a") c → ⊥
nothing_refused c p = refused_is_no_name (codes "a") c p a_target

-- ---- what is between `cfg(` and `)`

cfg_of_a : IsCfgOf (codes "cfg(a)") (codes "a")
cfg_of_a = refl

cfg_of_no_other : IsCfgOf (codes "cfg(a)") (codes "a)") → ⊥
cfg_of_no_other p = absurd (omega (arith, ap length p))

cfg_is_not_bare : IsBare (codes "cfg(a)") → ⊥
cfg_is_not_bare p = p (codes "a") cfg_of_a

-- a space after the last `)`
space_behind_is_bare : IsBare (codes "cfg(a) ")
space_behind_is_bare inner h =
    let two : length inner ≡ 2 = omega (arith, ap length h, length-append inner (codes ")")) in
    absurd
    (omega
    (arith, ap (λ (z : List ℕ). get_or z 6 0) h, get_or-append_right inner (codes ")") 2 2 0 two (omega arith)))

capitals_are_bare : IsBare (codes "CFG(a)")
capitals_are_bare inner h = absurd (omega (arith, ap (λ (z : List ℕ). get_or z 0 0) h))

short_is_bare : IsBare (codes "a!")
short_is_bare inner h = absurd (omega (arith, ap length h, length-append inner (codes ")")))

-- ---- conditions

condition_of_name : IsConditionText (codes "a") (Target (codes "a"))
condition_of_name = (refl, name_is_bare (codes "a") a_target, a_target)

condition_of_expression : IsConditionText (codes "cfg(a)") (Expression a)
condition_of_expression = (codes "a", refl, (_, lone_a, (refl, (refl, refl))))

-- a `cfg(..)` is no target name
cfg_is_no_target : (name : List ℕ) → IsConditionText (codes "cfg(a)") (Target name) → ⊥
cfg_is_no_target name p = cfg_is_not_bare p.1

-- and with a space after it it is no condition at all
space_behind : (p : Condition) → IsConditionText (codes "cfg(a) ") p → ⊥
space_behind (Target name) p = refused_is_no_name (codes "cfg(a) ") 0x28 parenthesis_refused p.2
space_behind (Expression e) p = space_behind_is_bare p.0 p.1

-- ---- the message on a refused name

message_on_mark : IsTargetMessage (codes "a!") (codes "unexpected character ! in target name")
unfolding encode_utf8
message_on_mark = inr (refl, (0x21, mark_behind, refl))

-- a parenthesis goes before the first refused character
message_on_parenthesis : IsTargetMessage (codes "a!(")
    (codes "unexpected `(` character, cfg expressions must start with `cfg(`")
message_on_parenthesis = inl (refl, refl)

no_message_on_mark : IsTargetMessage (codes "a!(") (codes "unexpected character ! in target name") → ⊥
no_message_on_mark (inl p) = absurd (omega (arith, ap length p.1))
no_message_on_mark (inr p) = true≢false p.0

-- ---- refused conditions

refused_name : IsRefusedCondition (codes "a!") (codes "a!")
    (InvalidTarget (codes "unexpected character ! in target name"))
refused_name = inr (short_is_bare, refl, (_, message_on_mark, refl))

-- the fault is of the text between `cfg(` and `)`
refused_expression : IsRefusedCondition (codes "cfg())") (codes ")")
    (UnexpectedToken (codes "identifier") (codes "`)`"))
refused_expression = inl (refl, lone_parenthesis)

whole_condition : (orig : List ℕ) (fault : Fault) → IsRefusedCondition (codes "cfg(a)") orig fault → ⊥
whole_condition orig fault (inl p) =
    whole_is_not_refused fault (rw (one_inner (codes "cfg(a)") orig (codes "a") p.0 cfg_of_a) at p.1)
whole_condition orig fault (inr p) = cfg_is_not_bare p.0
