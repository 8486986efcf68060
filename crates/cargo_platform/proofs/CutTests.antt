-- A test of whether tokens with their places are cut so from a text, for worked rows: it computes.
use Rattle.std.proofs.Common.{◌≡◌, refl, sym, ℕ, Bool, true, false, not, ◌&&◌, true≢false, List, [], ◌∷◌, codes, length}
use Rattle.std.proofs.Common.{drop, slice_range, lit<, zero, suc}
use Rattle.std.specs.Prelude.{bytes_eq, ◌==◌}
use Rattle.std.specs.Str.{IsAscii}
use Rattle.std.specs.Char.{is_ascii}
use Rattle.std.specs.List.{list_all}
use Rattle.std.proofs.Math.Dec.{leb}
use Rattle.std.proofs.lemmas.Bool.{and_parts, leb-true, ltb-true}
use Rattle.std.proofs.lemmas.Str.{IsUtf8-from_ascii}
use Rattle.std.proofs.lemmas.Slice.Eq.{bytes_eq-Decides}
use Rattle.cargo_platform.specs.Chars.{is_identifier_start, is_identifier_rest, is_space, is_quote}
use Rattle.cargo_platform.specs.Chars.{starts}
use Rattle.cargo_platform.specs.Tokens.{Lexeme, LeftParen, RightParen, Ident, Comma, Equals, String, Placed, written}
use Rattle.cargo_platform.specs.Tokens.{IsWellWritten}
use Rattle.cargo_platform.specs.Cut.{IsPiece, IsWrittenAt, AreSpaces, EndsBefore, ComesBehind, IsCut}
use Rattle.cargo_platform.proofs.OneCut.{IsTail}
use Rattle.cargo_platform.proofs.SomeCut.{last_at, no_token_at, tail_comes}

-- strings here are ASCII
abbrev pub is_well_written : Lexeme → Bool
is_well_written (Ident raw []) = false
is_well_written (Ident raw (c ∷ cs)) = is_identifier_start c && list_all is_identifier_rest cs
is_well_written (String value) = list_all is_ascii value && list_all (λ c. not (is_quote c)) value
is_well_written t = true

ascii : (bs : List ℕ) → list_all is_ascii bs ≡ true → IsAscii bs
ascii [] h i = lit< tt
ascii (b ∷ bs) h zero = ltb-true b 128 (and_parts (is_ascii b) _ h).0
ascii (b ∷ bs) h (suc i) = ascii bs (and_parts (is_ascii b) _ h).1 i

well_written : (t : Lexeme) → is_well_written t ≡ true → IsWellWritten t
well_written (Ident raw []) h = absurd (true≢false (sym h))
well_written (Ident raw (c ∷ cs)) h = and_parts _ _ h
well_written (String value) h = (IsUtf8-from_ascii value (ascii value (and_parts _ _ h).0), (and_parts _ _ h).1)
well_written LeftParen h = tt
well_written RightParen h = tt
well_written Comma h = tt
well_written Equals h = tt

abbrev pub ends_before : Lexeme → List ℕ → Bool
ends_before (Ident raw name) rest =
    not (starts is_identifier_rest rest) && not (not raw && bytes_eq name (codes "r") && starts (λ c. c == 0x23) rest)
ends_before t rest = true

false_of : (b : Bool) → not b ≡ true → b ≡ false
false_of true h = absurd (true≢false (sym h))
false_of false h = refl

ends : (t : Lexeme) (rest : List ℕ) → ends_before t rest ≡ true → EndsBefore t rest
ends (Ident raw name) rest h = (false_of _ (and_parts _ _ h).0, false_of _ (and_parts _ _ h).1)
ends LeftParen rest h = tt
ends RightParen rest h = tt
ends Comma rest h = tt
ends Equals rest h = tt
ends (String value) rest h = tt

abbrev is_range : List ℕ → ℕ → ℕ → Bool
is_range text i j = leb i j && leb j (length text)

piece : (text : List ℕ) (i j : ℕ) (p : List ℕ) → is_range text i j ≡ true → slice_range text i j ≡ p
    → IsPiece text i j p
piece text i j p h e =
    record {
      ordered = leb-true i j (and_parts _ _ h).0;
      inside = leb-true j (length text)
          (and_parts _ _ h).1;
      bytes = e;
    }

abbrev are_spaces : List ℕ → ℕ → ℕ → Bool
are_spaces text i j = is_range text i j && list_all is_space (slice_range text i j)

pub spaces : (text : List ℕ) (i j : ℕ) → are_spaces text i j ≡ true → AreSpaces text i j
spaces text i j h =
    (slice_range text i j, piece text i j (slice_range text i j) (and_parts _ _ h).0 refl, (and_parts _ _ h).1)

abbrev is_written_at : List ℕ → Placed → Bool
is_written_at text t =
    is_well_written t.token && is_range text t.start t.end
    && bytes_eq (slice_range text t.start t.end) (written t.token)

pub written_at : (text : List ℕ) (t : Placed) → is_written_at text t ≡ true → IsWrittenAt text t
written_at text t h = (
  well_written t.token (and_parts _ _ (and_parts _ _ h).0).0,
  piece text t.start t.end (written t.token) (and_parts _ _ (and_parts _ _ h).0).1
      ((bytes_eq-Decides (slice_range text t.start t.end) (written t.token)).0 (and_parts _ _ h).1),
)

-- the tokens are cut so from a place on, up to the tail
abbrev pub is_cut_from : List ℕ → ℕ → List Placed → ℕ → Bool
is_cut_from text from [] tail = are_spaces text from tail
is_cut_from text from (t ∷ ts) tail =
    are_spaces text from t.start
    && (is_written_at text t && (ends_before t.token (drop t.end text) && is_cut_from text t.end ts tail))

comes_from : (text : List ℕ) (from : ℕ) (ts : List Placed) (tail : ℕ) → is_cut_from text from ts tail ≡ true
    → (rest : IsTail (drop tail text)) → ComesBehind text from ts (last_at text tail rest) tail
comes_from text from [] tail h rest = tail_comes text from tail (spaces text from tail h) rest
comes_from text from (t ∷ ts) tail h rest =
    let behind = (and_parts (are_spaces text from t.start) _ h).1 in
    let token = (and_parts (is_written_at text t) _ behind).1 in (
      (
        spaces text from t.start (and_parts _ _ h).0,
        written_at text t (and_parts _ _ behind).0,
        ends t.token (drop t.end text) (and_parts _ _ token).0,
        refl,
      ),
      comes_from text t.end ts tail (and_parts (ends_before t.token (drop t.end text)) _ token).1 rest,
    )

-- what passes the test, before a tail, comes, and then the item there
pub comes_by : (text : List ℕ) (ts : List Placed) (tail : ℕ) → is_cut_from text 0 ts tail ≡ true
    → (rest : IsTail (drop tail text)) → ComesBehind text 0 ts (last_at text tail rest) tail
comes_by text ts tail h rest = comes_from text 0 ts tail h rest

-- so it is the cut
pub cut_by : (text : List ℕ) (ts : List Placed) (tail : ℕ) → is_cut_from text 0 ts tail ≡ true
    → IsTail (drop tail text) → IsCut text ts tail
cut_by text ts tail h rest = record {
  last = last_at text tail rest;
  no_token = no_token_at text tail rest;
  comes = comes_by text ts tail h rest;
}
