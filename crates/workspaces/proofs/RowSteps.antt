-- Rows of what last pieces take, one place at a time.
use Rattle.std.proofs.Common.{◌≡◌, ◌∷◌, ◌+◌, ◌-◌, ◌<◌, ◌≤◌, ℕ, suc, [], List, Bool, false, inl, inr, sym, ap}
use Rattle.std.proofs.Common.{◌∙◌, subst, arith, length, get_or, drop, set, drop-cons}
use Rattle.std.specs.Prelude.{◌↔◌, IsTrue}
use Rattle.std.proofs.Common.{◌++◌, ◌≢◌, length-append}
use Rattle.std.proofs.Math.ListN.{get_or-append}
use Rattle.std.proofs.Math.Seq.{get_or-append_seam}
use Rattle.std.proofs.lemmas.Bool.{cases_lt}
use Rattle.std.proofs.lemmas.Grind.{get_or-set_at}
use Rattle.std.proofs.lemmas.List.{get_or-set_other}
use Rattle.workspaces.specs.Stretches.{IsMatched}
use Rattle.workspaces.proofs.Steps.{none}

-- the last k + 1 pieces are the piece before the last k, and these
pub last_pieces : {P : Type 0} (ps : List P) (k : ℕ) (d : P) → k < length ps
    → drop (length ps - (k + 1)) ps ≡ get_or ps (length ps - 1 - k) d ∷ drop (length ps - k) ps
last_pieces ps k d h =
    let i = length ps - 1 - k in
    let inside : i < length ps = omega arith in
    let first : length ps - (k + 1) ≡ i = omega arith in
    let next : suc i ≡ length ps - k = omega arith in
    ap (λ n. drop n ps) first ∙ drop-cons ps i d inside ∙ ap (λ n. get_or ps i d ∷ drop n ps) next

at_place : (row : List Bool) (b : Bool) (n : ℕ) (F : ℕ → Type 0) → length row ≡ n + 1
    → ((j : ℕ) → j ≤ n → IsTrue (get_or row j false) ↔ F j) → IsTrue b ↔ F (n + 1)
    → (j : ℕ) → j ≤ n + 1 → IsTrue (get_or (row ++ b ∷ []) j false) ↔ F j
at_place row b n F long each last j inside =
    elim (cases_lt j (length row)) [
      | inl before ↦
          subst (λ (z : Bool). IsTrue z ↔ F j) (sym (get_or-append row (b ∷ []) false j before))
          (each j (omega (arith, long, before)))
      | inr past ↦
          let is : j ≡ n + 1 = omega (arith, long, past, inside) in
          let end : j ≡ length row = omega (arith, long, past, inside) in
          let read : get_or (row ++ b ∷ []) j false ≡ b =
          ap (λ i. get_or (row ++ b ∷ []) i false) end ∙ get_or-append_seam row b [] false in
          subst (λ (i : ℕ). IsTrue (get_or (row ++ b ∷ []) j false) ↔ F i) (sym is)
          (subst (λ (z : Bool). IsTrue z ↔ F (n + 1)) (sym read) last)
    ]

-- a place more at the end of a row
pub pushed : (row new : List Bool) (b : Bool) (n : ℕ) (F : ℕ → Type 0) → new ≡ row ++ b ∷ [] → length row ≡ n + 1
    → ((j : ℕ) → j ≤ n → IsTrue (get_or row j false) ↔ F j) → IsTrue b ↔ F (n + 1)
    → (j : ℕ) → j ≤ n + 1 → IsTrue (get_or new j false) ↔ F j
pushed row new b n F is long each last j inside =
    subst (λ (r : List Bool). IsTrue (get_or r j false) ↔ F j) (sym is) (at_place row b n F long each last j inside)

-- a place of a row that is written
pub written : (row : List Bool) (i : ℕ) (b : Bool) (F : ℕ → Type 0) → i < length row
    → ((j : ℕ) → j < i → IsTrue (get_or row j false) ↔ F j) → IsTrue b ↔ F i
    → (j : ℕ) → j ≤ i → IsTrue (get_or (set row i b) j false) ↔ F j
written row i b F fits each last j inside =
    elim (cases_lt j i) [
      | inl before ↦
          let other : j ≢ i = λ e. absurd (omega arith) in
          subst (λ (z : Bool). IsTrue z ↔ F j) (sym (get_or-set_other row i j b false other)) (each j before)
      | inr past ↦
          let is : j ≡ i = omega (arith, past, inside) in
          let read : get_or (set row i b) j false ≡ b = get_or-set_at row i j b false is fits in
          subst (λ (k : ℕ). IsTrue (get_or (set row i b) j false) ↔ F k) (sym is)
          (subst (λ (z : Bool). IsTrue z ↔ F i) (sym read) last)
    ]

-- the end of a row with one place more
pub end_of : (row new : List Bool) (b : Bool) (k : ℕ) → new ≡ row ++ b ∷ [] → length row ≡ k + 1
    → (length new ≡ k + 1 + 1) × (b ≡ get_or new (k + 1) false)
end_of row new b k is long =
    let at : get_or (row ++ b ∷ []) (k + 1) false ≡ b =
    ap (λ i. get_or (row ++ b ∷ []) i false) (sym long) ∙ get_or-append_seam row b [] false in
    let count : length (row ++ b ∷ []) ≡ length row + 1 = length-append row (b ∷ []) in (
      ap length is ∙ count ∙ ap (λ n. n + 1) long,
      sym (ap (λ (r : List Bool). get_or r (k + 1) false) is ∙ at),
    )

-- whether one more of the last pieces matches no items
pub none_more : {P T : Type 0} (m : P → Bool) (t : P → T → Type 0) (ps : List P) (k : ℕ) (p : P) (f b : Bool)
    → k < length ps → p ≡ get_or ps (length ps - 1 - k) p → IsTrue f ↔ IsMatched m t (drop (length ps - k) ps) []
    → IsTrue b ↔ IsTrue (m p) × IsTrue f → IsTrue b ↔ IsMatched m t (drop (length ps - (k + 1)) ps) []
none_more {P} m t ps k p f b inside at fewer both =
    let lasts = drop (length ps - k) ps in
    let all : drop (length ps - (k + 1)) ps ≡ p ∷ lasts =
    last_pieces ps k p inside ∙ ap (λ z. z ∷ lasts) (sym at) in
    let one = none m t p lasts in
    subst (λ (qs : List P). IsTrue b ↔ IsMatched m t qs []) (sym all)
    (λ h. let k = both.0 h in one.1 (k.0, fewer.0 k.1), λ h. let k = one.0 h in both.1 (k.0, fewer.1 k.1))
