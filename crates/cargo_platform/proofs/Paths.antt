-- What comes ahead of a reader is what the cut has next.
use Rattle.std.proofs.Common.{◌≡◌, refl, sym, ap, subst, ◌∙◌, ℕ, List, [], ◌∷◌, ◌++◌, arith, length, drop, true≢false}
use Rattle.std.proofs.Common.{◌+◌, append_assoc, drop_of_length-le, length-append}
use Rattle.std.proofs.lemmas.Bool.{and_from}
use Rattle.std.proofs.lemmas.List.Folds.{list_all-append}
use Rattle.std.specs.Prelude.{IsFalse}
use Rattle.cargo_platform.specs.Chars.{is_space}
use Rattle.cargo_platform.specs.Tokens.{Placed}
use Rattle.cargo_platform.specs.Cut.{AreSpaces, ComesBehind, is_token}
use Rattle.cargo_platform.specs.Cut.{Item, Nothing, Comes}
use Rattle.cargo_platform.specs.Inside.Ahead.{Ahead, Path}
use Rattle.cargo_platform.specs.Cut as cut
use Rattle.cargo_platform.proofs.LexicalFaults.{no_fault}
use Rattle.cargo_platform.proofs.OneCut.{piece_end, piece_rest, same_token, one_comes}
use Rattle.cargo_platform.proofs.SomeCut.{piece_at}

-- ---- spaces before an item

-- spaces and spaces after them
join : (text : List ℕ) (from mid to : ℕ) → AreSpaces text from mid → AreSpaces text mid to → AreSpaces text from to
join text from mid to s t =
    let whole : drop from text ≡ (s.0 ++ t.0) ++ drop to text = piece_rest text from mid s.0 s.1
    ∙ ap (λ (z : List ℕ). s.0 ++ z) (piece_rest text mid to t.0 t.1) ∙ sym (append_assoc s.0 t.0 (drop to text)) in
    let piece = piece_at text from (s.0 ++ t.0) (drop to text) (omega (arith, s.1.ordered, s.1.inside)) whole in
    let end : from + length (s.0 ++ t.0) ≡ to = omega
    (arith, piece_end text from mid s.0 s.1, piece_end text mid to t.0 t.1, length-append s.0 t.0) in
    (s.0 ++ t.0, rw (← end) piece, list_all-append is_space s.0 t.0 ∙ and_from _ _ s.2 t.2)

pub comes_from : (text : List ℕ) (from at to : ℕ) (i : Item) → AreSpaces text from at → Comes text at i to
    → Comes text from i to
comes_from text from at to (cut.Token t) s h = (join text from at t.start s h.0, h.1, h.2, h.3)
comes_from text from at to (cut.Lexical k place) s h = (join text from at place s h.0, h.1, h.2)
comes_from text from at to Nothing s h = (join text from at (length text) s h.0, h.1)

-- ---- what comes next, and the cut

-- what comes before these tokens, and then the last item
abbrev pub next_before : Item → List Placed → Item
next_before last [] = last
next_before last (t ∷ ts) = cut.Token t

-- after the same tokens one item comes
pub one_behind : (text : List ℕ) (from a b : ℕ) (ts : List Placed) (i j : Item) → ComesBehind text from ts i a
    → ComesBehind text from ts j b → i ≡ j
one_behind text from a b [] i j p q = (one_comes text from a b i j p q).0
one_behind text from a b (t ∷ ts) i j p q = one_behind text t.end a b ts i j p.1 q.1

-- after the first tokens of a cut comes what the cut has there
pub comes_behind : (text : List ℕ) (from tail : ℕ) (prefix after : List Placed) (last : Item)
    → ComesBehind text from (prefix ++ after) last tail
    → (to : ℕ) × ComesBehind text from prefix (next_before last after) to
comes_behind text from tail [] [] last c = (tail, c)
comes_behind text from tail [] (t ∷ ts) last c = (t.end, c.0)
comes_behind text from tail (t ∷ ts) after last c =
    let others = comes_behind text t.end tail ts after last c.1 in
    (others.0, (c.0, others.1))

-- and nothing else
pub behind_is : (text : List ℕ) (from to tail : ℕ) (prefix after : List Placed) (last i : Item)
    → ComesBehind text from (prefix ++ after) last tail → ComesBehind text from prefix i to → i ≡ next_before last after
behind_is text from to tail prefix after last i c h =
    let is = comes_behind text from tail prefix after last c in
    one_behind text from to is.0 prefix i (next_before last after) h is.1

-- tokens that come one after another are the first of the cut
pub first_left : (text : List ℕ) (from to tail : ℕ) (us ts : List Placed) (i last : Item) → IsFalse (is_token last)
    → ComesBehind text from ts last tail → ComesBehind text from us i to
    → (rest : List Placed) × (ts ≡ us ++ rest) × (i ≡ next_before last rest)
first_left text from to tail [] ts i last none c h = (ts, refl, behind_is text from to tail [] ts last i c h)
first_left text from to tail (t ∷ us) [] i last none c h =
    let same = one_comes text from t.end tail (cut.Token t) last h.0 c in
    absurd (true≢false (ap is_token same.0 ∙ none))
first_left text from to tail (t ∷ us) (u ∷ ts) i last none c h =
    let same = same_token text from u t c.0.0 h.0.0 c.0.1 h.0.1 c.0.2 h.0.2 in
    let more = subst (λ (z : Placed). ComesBehind text z.end ts last tail) same c.1 in
    let left = first_left text t.end to tail us ts i last none more h.1 in
    (left.0, λ i. same i ∷ left.1 i, left.2)

-- where nothing comes at last, the tail is the end
pub end_is : (text : List ℕ) (from tail : ℕ) (ts : List Placed) → ComesBehind text from ts Nothing tail
    → tail ≡ length text
end_is text from tail [] c = c.1
end_is text from tail (t ∷ ts) c = end_is text t.end tail ts c.1

-- and where the tail is the end, nothing comes at last
pub whole_ends : (text : List ℕ) (from tail : ℕ) (ts : List Placed) (last : Item) → tail ≡ length text
    → IsFalse (is_token last) → ComesBehind text from ts last tail → last ≡ Nothing
whole_ends text from tail (t ∷ ts) last end none c = whole_ends text t.end tail ts last end none c.1
whole_ends text from tail [] (cut.Token t) end none c = absurd (true≢false none)
whole_ends text from tail [] Nothing end none c = refl
whole_ends text from tail [] (cut.Lexical k at) end none c =
    let over : drop at text ≡ [] = drop_of_length-le text (omega (arith, end, c.2)) in
    absurd (no_fault k (rw (← over) c.1))

-- ---- what is ahead of a reader

-- what comes after spaces and tokens comes after the tokens
pub behind_spaces : (text : List ℕ) (from at to : ℕ) (us : List Placed) (i : Item) → AreSpaces text from at
    → ComesBehind text at us i to → ComesBehind text from us i to
behind_spaces text from at to [] i s h = comes_from text from at to i s h
behind_spaces text from at to (t ∷ us) i s h = (comes_from text from at t.end (cut.Token t) s h.0, h.1)

-- what comes next at the end of a way comes after its tokens
pub path_comes : (l m : Ahead) (us : List Placed) (i : Item) (to : ℕ) → Path l us m → Comes m.text m.place i to
    → ComesBehind l.text l.place us i to
path_comes l m [] i to p c =
    rw (← p) c
path_comes l m (t ∷ us) i to p c =
    let others = rw p.1.same_text at (path_comes p.0 m us i to p.2 c) in
    (p.1.comes, behind_spaces l.text t.end p.0.place to us i p.1.spaces others)

pub path_text : (l m : Ahead) (us : List Placed) → Path l us m → m.text ≡ l.text
path_text l m [] p = ap (λ (z : Ahead). z.text) p
path_text l m (t ∷ us) p = path_text p.0 m us p.2 ∙ p.1.same_text
