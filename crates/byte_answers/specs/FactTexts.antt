-- Facts that borrow their texts from lines.
use Rattle.std.specs.Prelude.{◌≡◌, ℕ, List}
use Rattle.cargo_platform.specs.Trees.{CfgValue, Alone, KeyPair}
use Rattle.cargo_platform.specs.Tokens.{Placed, String}
use Rattle.cargo_platform.specs.Cut.{Token, Nothing}
use Rattle.cargo_platform.specs.Reading.{Progress, Gives}
use Rattle.byte_answers.specs.declared.fact_texts.FactText.{FactText}
use Rattle.byte_answers.specs.declared.fact_texts.FactText.TheVariants.{Name, Pair}

-- the name or the pair that a fact is
abbrev pub text_value : FactText → CfgValue
text_value (Name raw name) = Alone (record { raw = raw; name = name.now })
text_value (Pair raw key value) = KeyPair (record { raw = raw; name = key.now }) value.now

-- from this progress on, a call returns a string with this value, and the next one nothing
pub record EndsIn (old : Progress) (value : List ℕ) : Type 0 where
  pub token : Placed
  pub behind : Progress
  pub end : Progress
  pub is : token.token ≡ String value
  pub first : Gives old behind (Token token)
  pub last : Gives behind end Nothing
