-- What a message mentions, and lists that are joined.
use Rattle.std.proofs.Common.{◌≡◌, ◌∙◌, refl, sym, ap, subst, ℕ, List, [], ◌∷◌, ◌++◌, append_assoc, map, take}
use Rattle.std.specs.Prelude.{String, string_bytes}
use Rattle.std.specs.declared.alloc.Global.{Global}
use Rattle.std.specs.Prelude.{flat_map}
use Rattle.std.specs.List.{join_by}
use Rattle.std.proofs.lemmas.List.{append-nil, take-map, length-map}
use Rattle.std.proofs.lemmas.List.Folds.{flat_map-map}
use Rattle.manifest_lints_findings.specs.Messages.{said}
use Rattle.manifest_lints_findings.specs.Texts.{StandsIn, Mentions, and_more, joined_first}
use Rattle.manifest_lints_findings.specs.declared.wording.TheConstants.{MAX_SHOWN}

stands_behind : (t before m rest : List ℕ) → StandsIn t m rest → StandsIn t (before ++ m) rest
stands_behind t before m rest s = record {
  words = before ++ s.words;
  are = ap (λ n. before ++ n) s.are ∙ sym (append_assoc before s.words (t ++ rest));
}

stands_ahead : (t m rest after : List ℕ) → StandsIn t m rest → StandsIn t (m ++ after) (rest ++ after)
stands_ahead t m rest after s = record {
  words = s.words;
  are =
      ap (λ n. n ++ after) s.are ∙ append_assoc s.words (t ++ rest) after
      ∙ ap (λ n. s.words ++ n) (append_assoc t rest after);
}

-- what is mentioned in a part of a message is mentioned in it
mentions_behind : (ts : List (List ℕ)) (before m : List ℕ) → Mentions ts m → Mentions ts (before ++ m)
mentions_behind [] before m h = tt
mentions_behind (t ∷ ts) before m h = (h.0, stands_behind t before m h.0 h.1, h.2)

mentions_ahead : (ts : List (List ℕ)) (m after : List ℕ) → Mentions ts m → Mentions ts (m ++ after)
mentions_ahead [] m after h = tt
mentions_ahead (t ∷ ts) m after h =
    (h.0 ++ after, stands_ahead t m h.0 after h.1, mentions_ahead ts h.0 after h.2)

pub mentions_is : (t m : List ℕ) → m ≡ t → Mentions (t ∷ []) m
mentions_is t m is = ([], record { words = []; are = is ∙ sym (append-nil t) }, tt)

-- texts that are joined
module _ {X : Type 0} (text : X → List ℕ) (mark : List ℕ) where
  join_map : (xs : List X) → join_by text mark xs ≡ join_by (λ t. t) mark (map text xs)
  join_map [] = refl
  join_map (x ∷ xs) = ap (λ t. text x ++ t) (sym (flat_map-map (λ t. mark ++ t) text xs))

  pub joined_texts : (xs : List X) → joined_first text mark xs ≡ joined_first (λ t. t) mark (map text xs)
  joined_texts xs =
      let few = join_map (take MAX_SHOWN xs) ∙ ap (join_by (λ t. t) mark) (sym (take-map text MAX_SHOWN xs)) in
      (λ i. few i ++ and_more (sym (length-map xs text) i))

-- ---- parts of a message

-- a message that is these words, one that mentions something, and more words, mentions it
pub mentions_at : (ts : List (List ℕ)) (m words n after : List ℕ) → m ≡ words ++ (n ++ after) → Mentions ts n
    → Mentions ts m
mentions_at ts m words n after is h =
    subst (Mentions ts) (sym is) (mentions_behind ts words (n ++ after) (mentions_ahead ts n after h))

pub mentions_last : (ts : List (List ℕ)) (m words n : List ℕ) → m ≡ words ++ n → Mentions ts n → Mentions ts m
mentions_last ts m words n is h = subst (Mentions ts) (sym is) (mentions_behind ts words n h)

-- ---- a text alone among notes or helps

pub one_said : (ts : List (List ℕ)) (all : List (String Global)) (t : String Global) → all ≡ t ∷ []
    → Mentions ts (string_bytes t) → Mentions ts (said all)
one_said ts all t is h = subst (λ us. Mentions ts (said us)) (sym is) (mentions_ahead ts (string_bytes t) [] h)
