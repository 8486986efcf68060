-- Lines of JSON that no text in them can end or disguise.
use Rattle.std.specs.Prelude.{◌≡◌, ℕ, Bool, ◌&&◌, nat_le, nat_lt, IsTrue, ◌⊎◌, List, ◌++◌, codes, All, encode_utf8_all}
use Rattle.std.specs.Prelude.{map}
use Rattle.cargo_platform.specs.Snippets.{shown}

-- a printable character of ASCII
abbrev pub is_printable : ℕ → Bool
is_printable c = nat_le 0x20 c && nat_lt c 0x7F

-- that, or a character that stands for one where texts are shown
abbrev pub IsShown : ℕ → Type 0
IsShown c = IsTrue (is_printable c) ⊎ ((d : ℕ) × (c ≡ shown d))

-- what is shown for some text
abbrev pub IsShownText : List ℕ → Type 0
IsShownText bytes = (cs : List ℕ) × (bytes ≡ encode_utf8_all (map shown cs))

-- a text goes on with characters that are shown
abbrev pub AppendsShown : List ℕ → List ℕ → Type 0
AppendsShown before after = (cs : List ℕ) × (All IsShown cs × (after ≡ before ++ encode_utf8_all cs))

-- and then with a line end
abbrev pub AppendsLine : List ℕ → List ℕ → Type 0
AppendsLine before after = (cs : List ℕ) × (All IsShown cs × (after ≡ before ++ (encode_utf8_all cs ++ codes "\n")))
