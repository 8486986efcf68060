-- Keys of one name, and texts of no bytes.
use Rattle.std.proofs.Common.{◌≡◌, ◌∙◌, ap, refl, ℕ, List, [], ◌∷◌, length, map, arith, String, string_bytes}
use Rattle.std.specs.declared.alloc.Global.{Global}
use Rattle.toml_parser.specs.Reading.{key_view}
use Rattle.toml_parser.specs.declared.key.Key as code

-- a text of no bytes is empty
pub nothing : (text : List ℕ) → length text ≡ 0 → text ≡ []
nothing [] none = refl
nothing (byte ∷ bytes) none = absurd (omega arith)

no_views : (names : List (String Global)) → length names ≡ 0 → map string_bytes names ≡ []
no_views [] none = refl
no_views (name ∷ names) none = absurd (omega arith)

-- a key without parts before the last is that name
pub one_name : (key : code.Key) (name : List ℕ) → length key.path.items ≡ 0 → string_bytes key.last ≡ name
    → key_view key ≡ ([], name)
one_name key name none same =
    ap (λ path. (path, string_bytes key.last)) (no_views key.path.items none) ∙ ap (λ last. ([], last)) same
