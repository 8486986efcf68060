-- The records of an expression, read from the last one on, leave this expression alone on a stack.
use Rattle.std.proofs.Common.{◌≡◌, refl, sym, ap, ◌∙◌, ℕ, suc, List, [], ◌∷◌, ◌++◌, length, append_assoc, append-nil}
use Rattle.std.proofs.Common.{arith}
use Rattle.std.proofs.Common.{◌<◌, ◌≤◌, ◌≢◌, ◌^◌, subst}
use Rattle.std.specs.Prelude.{⊤}
use Rattle.std.proofs.Common.{reverse}
use Rattle.std.proofs.lemmas.List.{length-append, length-map, length-reverse}
use Rattle.cargo_platform.specs.declared.cfg.CfgExpr.{CfgExpr}
use Rattle.cargo_platform.specs.Trees.{tree_of}
use Rattle.cargo_platform.specs.Trees.{CfgValue, Tree, Not, All, Any, Value, True, False, Trees, none, tree, trees_of}
use Rattle.byte_answers.specs.Flat.{numbers, flat, flats, flat_value, flat_values, count, IsTreeOfTexts}
use Rattle.byte_answers.specs.Flat.{AreTreesOfTexts}
use Rattle.byte_answers.specs.Flat.{IsValueOfTexts, AreOfTexts, IsFlatForm, AreFlatFacts}
use Rattle.byte_answers.specs.Pieces.{Piece, leaf, yes, no, negation, all_of, any_of, piece_bytes, Leaves}
use Rattle.byte_answers.specs.Pieces.{IsPieceOfTexts, first_number, piece_tag, stack_of}
use Rattle.std.specs.Str.{IsUtf8}
use Rattle.cargo_platform.specs.Trees.{Target, Expression}
use Rattle.byte_answers.proofs.Pieces.{one_piece, piece_sizes, same_fronts, value_tag, ending_tag, same_tag}
use Rattle.byte_answers.proofs.Pieces.{numbers_size}

-- the bytes of records, the last one first
abbrev pub pieces : List Piece → List ℕ
pieces [] = []
pieces (p ∷ ps) = pieces ps ++ piece_bytes p

abbrev pub AllOfTexts : List Piece → Type 0
AllOfTexts [] = ⊤
AllOfTexts (p ∷ ps) = IsPieceOfTexts p × AllOfTexts ps

-- what they make of a stack
abbrev pub Builds : List Piece → List Tree → Tree → Type 0
Builds [] st t = st ≡ t ∷ []
Builds (p ∷ ps) st t = (next : List Tree) × (Leaves p st next × Builds ps next t)

members : Trees → List Tree
members none = []
members (tree e es) = e ∷ members es

members_trees : (es : Trees) → trees_of (members es) ≡ es
unfolding members
members_trees none = refl
members_trees (tree e es) = ap (tree e) (members_trees es)

members_count : (es : Trees) → length (members es) ≡ count es
unfolding members
members_count none = refl
members_count (tree e es) = ap suc (members_count es)

-- the records of an expression before others
mutual
  pub back : Tree → List Piece → List Piece
  back (Not e) ps = back e (negation ∷ ps)
  back (All es) ps = back_all es (all_of (count es) ∷ ps)
  back (Any es) ps = back_all es (any_of (count es) ∷ ps)
  back (Value c) ps = leaf c ∷ ps
  back True ps = yes ∷ ps
  back False ps = no ∷ ps

  back_all : Trees → List Piece → List Piece
  back_all none ps = ps
  back_all (tree e es) ps = back_all es (back e ps)

mutual
  unfolding back back_all

  pub back_bytes : (e : Tree) (ps : List Piece) → pieces (back e ps) ≡ pieces ps ++ flat e
  back_bytes (Not e) ps = back_bytes e (negation ∷ ps) ∙ append_assoc (pieces ps) (numbers 1 0 6) (flat e)
  back_bytes (All es) ps =
      back_all_bytes es (all_of (count es) ∷ ps) ∙ append_assoc (pieces ps) (numbers (count es) 0 7) (flats es)
  back_bytes (Any es) ps =
      back_all_bytes es (any_of (count es) ∷ ps) ∙ append_assoc (pieces ps) (numbers (count es) 0 8) (flats es)
  back_bytes (Value c) ps = refl
  back_bytes True ps = refl
  back_bytes False ps = refl

  back_all_bytes : (es : Trees) (ps : List Piece) → pieces (back_all es ps) ≡ pieces ps ++ flats es
  back_all_bytes none ps = sym (append-nil (pieces ps))
  back_all_bytes (tree e es) ps =
      back_all_bytes es (back e ps) ∙ ap (λ (z : List ℕ). z ++ flats es) (back_bytes e ps)
      ∙ append_assoc (pieces ps) (flat e) (flats es)

mutual
  unfolding back back_all

  back_texts : (e : Tree) (ps : List Piece) → IsTreeOfTexts e → AllOfTexts ps → AllOfTexts (back e ps)
  back_texts (Not e) ps w v = back_texts e (negation ∷ ps) w (tt, v)
  back_texts (All es) ps w v = back_all_texts es (all_of (count es) ∷ ps) w (tt, v)
  back_texts (Any es) ps w v = back_all_texts es (any_of (count es) ∷ ps) w (tt, v)
  back_texts (Value c) ps w v = (w, v)
  back_texts True ps w v = (tt, v)
  back_texts False ps w v = (tt, v)

  back_all_texts : (es : Trees) (ps : List Piece) → AreTreesOfTexts es → AllOfTexts ps → AllOfTexts (back_all es ps)
  back_all_texts none ps w v = v
  back_all_texts (tree e es) ps w v = back_all_texts es (back e ps) w.1 (back_texts e ps w.0 v)

mutual
  unfolding back back_all members

  pub back_builds : (e : Tree) (ps : List Piece) (st : List Tree) (t : Tree) → Builds ps (e ∷ st) t
      → Builds (back e ps) st t
  back_builds (Not e) ps st t b =
      back_builds e (negation ∷ ps) st t (Not e ∷ st, ((e, (st, (refl, refl))), b))
  back_builds (All es) ps st t b =
      back_all_builds es (all_of (count es) ∷ ps) st t (
        All es ∷ st,
        ((members es, st, (members_count es, refl, ap (λ (z : Trees). All z ∷ st) (sym (members_trees es)))), b),
      )
  back_builds (Any es) ps st t b =
      back_all_builds es (any_of (count es) ∷ ps) st t (
        Any es ∷ st,
        ((members es, st, (members_count es, refl, ap (λ (z : Trees). Any z ∷ st) (sym (members_trees es)))), b),
      )
  back_builds (Value c) ps st t b = (Value c ∷ st, (refl, b))
  back_builds True ps st t b = (True ∷ st, (refl, b))
  back_builds False ps st t b = (False ∷ st, (refl, b))

  back_all_builds : (es : Trees) (ps : List Piece) (st : List Tree) (t : Tree) → Builds ps (members es ++ st) t
      → Builds (back_all es ps) st t
  back_all_builds none ps st t b = b
  back_all_builds (tree e es) ps st t b =
      back_all_builds es (back e ps) st t (back_builds e ps (members es ++ st) t b)

-- whichever expression the bytes are the flat form of, what is left has the records that make it of the stack
abbrev pub Leads : List ℕ → List ℕ → List Tree → Type 0
Leads bytes left st =
    (t : Tree) → IsTreeOfTexts t → flat t ≡ bytes
    → (ps : List Piece) × (AllOfTexts ps × (left ≡ pieces ps) × Builds ps st t)

pub leads_first : (bytes : List ℕ) → Leads bytes bytes []
leads_first bytes = λ t w is.
    (back t [], (back_texts t [] w tt, sym is ∙ sym (back_bytes t []), back_builds t [] [] t refl))

-- the first number of a record is one, where its members are on a stack
pub number_small : (left front : List ℕ) (p : Piece) (st next : List Tree) → length left < 2 ^ 64 → length st < 2 ^ 64
    → left ≡ front ++ piece_bytes p → Leaves p st next → first_number p < 2 ^ 64
number_small left front (leaf c) st next small few is made =
    omega (arith, (piece_sizes left front (leaf c) is).first)
number_small left front yes st next small few is made = omega arith
number_small left front no st next small few is made = omega arith
number_small left front negation st next small few is made = omega arith
number_small left front (all_of n) st next small few is (es, rest, (size, has, made)) =
    omega (arith, size, ap length has, length-append es rest)
number_small left front (any_of n) st next small few is (es, rest, (size, has, made)) =
    omega (arith, size, ap length has, length-append es rest)

-- a record makes one stack of a stack
pub one_stack : (p : Piece) (st one other : List Tree) → Leaves p st one → Leaves p st other → one ≡ other
one_stack (leaf c) st one other a b = a ∙ sym b
one_stack yes st one other a b = a ∙ sym b
one_stack no st one other a b = a ∙ sym b
one_stack negation st one other (e, (rest, (has, made))) (d, (more, (holds, left))) =
    let same : e ∷ rest ≡ d ∷ more = sym has ∙ holds in
    made ∙ (let it : Not e ∷ rest ≡ Not d ∷ more = cc in it) ∙ sym left
one_stack (all_of n) st one other (es, rest, (size, has, made)) (ds, more, (count, holds, left)) =
    let s = same_fronts es rest ds more (sym has ∙ holds) (size ∙ sym count) in
    made ∙ ap (λ (z : List Tree). All (trees_of z) ∷ rest) s.0
    ∙ ap (λ (z : List Tree). All (trees_of ds) ∷ z) s.1 ∙ sym left
one_stack (any_of n) st one other (es, rest, (size, has, made)) (ds, more, (count, holds, left)) =
    let s = same_fronts es rest ds more (sym has ∙ holds) (size ∙ sym count) in
    made ∙ ap (λ (z : List Tree). Any (trees_of z) ∷ rest) s.0
    ∙ ap (λ (z : List Tree). Any (trees_of ds) ∷ z) s.1 ∙ sym left

-- bytes that are left have a last record, which makes something of the stack
pub record HasLast (left : List ℕ) (st : List Tree) (t : Tree) : Type 0 where
  pub others : List Piece
  pub last : Piece
  pub next : List Tree
  pub of_texts : IsPieceOfTexts last
  pub all_of_texts : AllOfTexts others
  pub number : first_number last < 2 ^ 64
  pub is : left ≡ pieces others ++ piece_bytes last
  pub made : Leaves last st next
  pub builds : Builds others next t

last_of : (left : List ℕ) (st : List Tree) (t : Tree) (ps : List Piece) → length left ≢ 0 → length left < 2 ^ 64
    → length st < 2 ^ 64 → AllOfTexts ps → left ≡ pieces ps → Builds ps st t → HasLast left st t
last_of left st t [] some small few w is b = absurd (some (ap length is))
last_of left st t (p ∷ ps) some small few w is (next, (made, b)) = record {
  others = ps;
  last = p;
  next = next;
  of_texts = w.0;
  all_of_texts = w.1;
  number = number_small left (pieces ps) p st next small few is made;
  is = is;
  made = made;
  builds = b;
}

pub led : (bytes left : List ℕ) (st : List Tree) (t : Tree) → length left ≢ 0 → length left < 2 ^ 64
    → length st < 2 ^ 64 → Leads bytes left st → IsTreeOfTexts t → flat t ≡ bytes → HasLast left st t
led bytes left st t some small few leads w is =
    let found = leads t w is in
    last_of left st t found.0 some small few found.1.0 found.1.1 found.1.2

-- a record is taken off, and put onto the stack
pub leads_on : (bytes left before : List ℕ) (p : Piece) (st next : List Tree) → length left ≢ 0
    → length left < 2 ^ 64 → length st < 2 ^ 64 → first_number p < 2 ^ 64 → left ≡ before ++ piece_bytes p
    → Leaves p st next → Leads bytes left st → Leads bytes before next
leads_on bytes left before p st next some small few number is made leads = λ t w of.
    let h = led bytes left st t some small few leads w of in
    let same = one_piece left before (pieces h.others) p h.last small number h.number is h.is in
    let other : Leaves p st h.next = subst (λ (z : Piece). Leaves z st h.next) (sym same.1) h.made in (
      h.others,
      (
        h.all_of_texts,
        same.0,
        subst (λ (z : List Tree). Builds h.others z t) (one_stack p st h.next next other made) h.builds,
      ),
    )

-- a record that does not fit the stack is in no flat form
pub no_put : (bytes left before : List ℕ) (p : Piece) (st : List Tree) → length left ≢ 0
    → length left < 2 ^ 64 → length st < 2 ^ 64 → first_number p < 2 ^ 64 → left ≡ before ++ piece_bytes p
    → ((next : List Tree) → Leaves p st next → ⊥) → Leads bytes left st
    → (t : Tree) → IsTreeOfTexts t → flat t ≡ bytes → ⊥
no_put bytes left before p st some small few number is never leads t w of =
    let h = led bytes left st t some small few leads w of in
    let same = one_piece left before (pieces h.others) p h.last small number h.number is h.is in
    never h.next (subst (λ (z : Piece). Leaves z st h.next) (sym same.1) h.made)

-- bytes with no last record are the end of no flat form
pub no_record : (bytes left : List ℕ) (st : List Tree) → length left ≢ 0 → length left < 2 ^ 64
    → length st < 2 ^ 64 → ((front : List ℕ) (p : Piece) → IsPieceOfTexts p → first_number p < 2 ^ 64
    → left ≡ front ++ piece_bytes p → ⊥) → Leads bytes left st
    → (t : Tree) → IsTreeOfTexts t → flat t ≡ bytes → ⊥
no_record bytes left st some small few never leads t w of =
    let h = led bytes left st t some small few leads w of in
    never (pieces h.others) h.last h.of_texts h.number h.is

-- at the end one tree is on the stack
alone : (st : List Tree) (t : Tree) (ps : List Piece) → [] ≡ pieces ps → Builds ps st t → length st ≡ 1
alone st t [] is b = ap length b
alone st t (p ∷ ps) is b = absurd (omega (arith, (piece_sizes [] (pieces ps) p is).long))

pub led_alone : (bytes left : List ℕ) (st : List Tree) (t : Tree) → left ≡ [] → Leads bytes left st
    → IsTreeOfTexts t → flat t ≡ bytes → length st ≡ 1
led_alone bytes left st t empty leads w is =
    let found = leads t w is in
    alone st t found.0 (sym empty ∙ found.1.1) found.1.2

-- what a record makes of a stack has its bytes before those of the stack
flats_append : (es ds : List Tree) → flats (trees_of (es ++ ds)) ≡ flats (trees_of es) ++ flats (trees_of ds)
flats_append [] ds = refl
flats_append (e ∷ es) ds =
    ap (λ (z : List ℕ). flat e ++ z) (flats_append es ds)
    ∙ sym (append_assoc (flat e) (flats (trees_of es)) (flats (trees_of ds)))

trees_count : (es : List Tree) → count (trees_of es) ≡ length es
trees_count [] = refl
trees_count (e ∷ es) = ap suc (trees_count es)

pub made_flat : (p : Piece) (st next : List Tree) → Leaves p st next
    → flats (trees_of next) ≡ piece_bytes p ++ flats (trees_of st)
made_flat (leaf c) st next made = ap (λ (z : List Tree). flats (trees_of z)) made
made_flat yes st next made = ap (λ (z : List Tree). flats (trees_of z)) made
made_flat no st next made = ap (λ (z : List Tree). flats (trees_of z)) made
made_flat negation st next (e, (rest, (has, made))) =
    ap (λ (z : List Tree). flats (trees_of z)) made
    ∙ append_assoc (numbers 1 0 6) (flat e) (flats (trees_of rest))
    ∙ ap (λ (z : List Tree). numbers 1 0 6 ++ flats (trees_of z)) (sym has)
made_flat (all_of n) st next (es, rest, (size, has, made)) =
    ap (λ (z : List Tree). flats (trees_of z)) made
    ∙ append_assoc (numbers (count (trees_of es)) 0 7) (flats (trees_of es)) (flats (trees_of rest))
    ∙ ap (λ (z : ℕ). numbers z 0 7 ++ (flats (trees_of es) ++ flats (trees_of rest))) (trees_count es ∙ size)
    ∙ ap (λ (z : List ℕ). numbers n 0 7 ++ z)
    (sym (ap (λ (z : List Tree). flats (trees_of z)) has ∙ flats_append es rest))
made_flat (any_of n) st next (es, rest, (size, has, made)) =
    ap (λ (z : List Tree). flats (trees_of z)) made
    ∙ append_assoc (numbers (count (trees_of es)) 0 8) (flats (trees_of es)) (flats (trees_of rest))
    ∙ ap (λ (z : ℕ). numbers z 0 8 ++ (flats (trees_of es) ++ flats (trees_of rest))) (trees_count es ∙ size)
    ∙ ap (λ (z : List ℕ). numbers n 0 8 ++ z)
    (sym (ap (λ (z : List Tree). flats (trees_of z)) has ∙ flats_append es rest))

pub stack_size : (built : List CfgExpr) → length (stack_of built) ≡ length built
stack_size built = length-map (reverse built) tree_of ∙ length-reverse built

-- an expression's bytes end in a record
pub record HasPieces (bytes : List ℕ) : Type 0 where
  pub front : List ℕ
  pub last : Piece
  pub is : bytes ≡ front ++ piece_bytes last

ended_by : (bytes : List ℕ) (t : Tree) (ps : List Piece) → bytes ≡ pieces ps → Builds ps [] t → HasPieces bytes
ended_by bytes t [] is b = absurd (let it : [] ≡ t ∷ [] = b in cc)
ended_by bytes t (p ∷ ps) is b = record { front = pieces ps; last = p; is = is }

pub expression_ended : (bytes : List ℕ) (t : Tree) → flat t ≡ bytes → HasPieces bytes
expression_ended bytes t is =
    ended_by bytes t (back t []) (sym is ∙ sym (back_bytes t [])) (back_builds t [] [] t refl)

-- no record of an expression has the tag of a target's name
pub no_target : (p : Piece) → piece_tag p ≡ 9 → ⊥
no_target (leaf c) is = omega (arith, value_tag c)
no_target yes is = omega arith
no_target no is = omega arith
no_target negation is = omega arith
no_target (all_of n) is = omega arith
no_target (any_of n) is = omega arith

-- a flat form is 17 bytes long at least
pub form_long : (bytes : List ℕ) → IsFlatForm bytes → 17 ≤ length bytes
form_long bytes (Target name, (texts, is)) =
    omega (arith, ap length (sym is), length-append name (numbers (length name) 0 9), numbers_size (length name) 0 9)
form_long bytes (Expression e, (texts, is)) =
    let h = expression_ended bytes e is in (piece_sizes bytes h.front h.last h.is).long

-- one that ends in the tag of a target's name is that of such a name
pub form_of_target : (bytes before : List ℕ) (a b tag : ℕ) → bytes ≡ before ++ numbers a b tag → tag ≡ 9
    → ((name : List ℕ) → IsUtf8 name → before ++ numbers a b tag ≡ name ++ numbers (length name) 0 tag → ⊥)
    → IsFlatForm bytes → ⊥
form_of_target bytes before a b tag one tagged never (Target name, (texts, is)) =
    never name texts (sym one ∙ sym is ∙ ap (λ (t : ℕ). name ++ numbers (length name) 0 t) (sym tagged))
form_of_target bytes before a b tag one tagged never (Expression e, (texts, is)) =
    let h = expression_ended bytes e is in
    no_target h.last (sym (ending_tag bytes before h.front a b tag h.last one h.is) ∙ tagged)

-- any other is that of an expression
pub form_of_expression : (bytes before : List ℕ) (a b tag : ℕ) → bytes ≡ before ++ numbers a b tag → (tag ≡ 9 → ⊥)
    → ((t : Tree) → IsTreeOfTexts t → flat t ≡ bytes → ⊥) → IsFlatForm bytes → ⊥
form_of_expression bytes before a b tag one other never (Target name, (texts, is)) =
    other (same_tag before name a b tag (length name) 0 9 (sym one ∙ sym is))
form_of_expression bytes before a b tag one other never (Expression e, (texts, is)) = never e texts is

-- facts from the last one on
abbrev pub from_last : List CfgValue → List ℕ
from_last [] = []
from_last (c ∷ cs) = from_last cs ++ flat_value c

abbrev pub onto : List CfgValue → List CfgValue → List CfgValue
onto [] others = others
onto (c ∷ cs) others = onto cs (c ∷ others)

pub onto_bytes : (cs others : List CfgValue) → from_last (onto cs others) ≡ from_last others ++ flat_values cs
onto_bytes [] others = sym (append-nil (from_last others))
onto_bytes (c ∷ cs) others =
    onto_bytes cs (c ∷ others) ∙ append_assoc (from_last others) (flat_value c) (flat_values cs)

onto_texts : (cs others : List CfgValue) → AreOfTexts cs → AreOfTexts others → AreOfTexts (onto cs others)
onto_texts [] others w v = v
onto_texts (c ∷ cs) others w v = onto_texts cs (c ∷ others) w.1 (w.0, v)

-- whichever facts the bytes are the flat form of, what is left is that of the first of them
abbrev pub LeadsToFacts : List ℕ → List ℕ → Type 0
LeadsToFacts bytes left =
    (cs : List CfgValue) → AreOfTexts cs → flat_values cs ≡ bytes
    → (fs : List CfgValue) × (AreOfTexts fs × (left ≡ from_last fs))

pub facts_first : (bytes : List ℕ) → LeadsToFacts bytes bytes
facts_first bytes = λ cs w is. (onto cs [], (onto_texts cs [] w tt, sym is ∙ sym (onto_bytes cs [])))

pub record HasFact (left : List ℕ) : Type 0 where
  pub others : List CfgValue
  pub last : CfgValue
  pub of_texts : IsValueOfTexts last
  pub all_of_texts : AreOfTexts others
  pub is : left ≡ from_last others ++ flat_value last

fact_of : (left : List ℕ) (fs : List CfgValue) → (length left ≡ 0 → ⊥) → AreOfTexts fs → left ≡ from_last fs
    → HasFact left
fact_of left [] some w is = absurd (some (ap length is))
fact_of left (c ∷ cs) some w is = record { others = cs; last = c; of_texts = w.0; all_of_texts = w.1; is = is }

-- bytes with no last fact are the end of no facts
pub no_fact : (bytes left : List ℕ) → (length left ≡ 0 → ⊥)
    → ((front : List ℕ) (c : CfgValue) → IsValueOfTexts c → left ≡ front ++ flat_value c → ⊥)
    → LeadsToFacts bytes left → AreFlatFacts bytes → ⊥
no_fact bytes left some never leads (cs, (w, is)) =
    let found = leads cs w is in
    let h = fact_of left found.0 some found.1.0 found.1.1 in
    never (from_last h.others) h.last h.of_texts h.is

pub facts_on : (bytes left before : List ℕ) (c : CfgValue) → (length left ≡ 0 → ⊥) → length left < 2 ^ 64
    → left ≡ before ++ flat_value c → LeadsToFacts bytes left → LeadsToFacts bytes before
facts_on bytes left before c some small one leads = λ cs w is.
    let found = leads cs w is in
    let h = fact_of left found.0 some found.1.0 found.1.1 in
    let p = piece_sizes left before (leaf c) one in
    let q = piece_sizes left (from_last h.others) (leaf h.last) h.is in
    let same = one_piece left before (from_last h.others) (leaf c) (leaf h.last) small (omega (arith, p.first))
    (omega (arith, q.first)) one h.is in
    (h.others, (h.all_of_texts, same.0))
