-- Lines that spell facts, and the result for them.
use Rattle.std.proofs.Common.{◌≡◌, ◌<◌, ◌+◌, ◌-◌, ◌∙◌, ℕ, zero, suc, List, [], ◌∷◌, ◌++◌, length, length-take, get_or}
use Rattle.std.proofs.Common.{take, map, refl, sym, ap, subst, arith, append-nil, Result, Ok, Err, Vec}
use Rattle.std.specs.declared.alloc.Global.{Global}
use Rattle.std.specs.List.{AllByRecursion}
use Rattle.std.specs.Prelude.{IfOk}
use Rattle.std.specs.Result.{IsErrAnd}
use Rattle.std.proofs.lemmas.List.{get_or_read}
use Rattle.cargo_platform.specs.declared.cfg.Cfg.{Cfg}
use Rattle.cargo_platform.specs.declared.error.ParseError.{ParseError}
use Rattle.cargo_platform.specs.declared.fact_lines.FactsError.{FactsError}
use Rattle.cargo_platform.specs.declared.fact_lines.FactsError.TheVariants.{Line, Memory}
use Rattle.cargo_platform.specs.Trees.{CfgValue, value_of}
use Rattle.cargo_platform.specs.Spelling.{Values, IsValueText}
use Rattle.cargo_platform.specs.Faults.{IsRefused, IsRefusedAt}
use Rattle.cargo_platform.specs.WellFormed.{IsWellFormedValue}
use Rattle.cargo_platform.specs.Print.{print_value}
use Rattle.cargo_platform.specs.Errors.{orig_of, fault_in, span_in}
use Rattle.cargo_platform.specs.Lines.{lines_of, line_at, IsUnbroken, ended}
use Rattle.cargo_platform.specs.FactLines.{SpellFacts, SpellsNoFact, IsFirstNoFact, IfLine}
use Rattle.cargo_platform.proofs.OneText.{one_value_text}
use Rattle.cargo_platform.proofs.PrintedSpells.{printed_value_spells}
use Rattle.cargo_platform.proofs.WellFormedness.{spelled_well_formed_value}
use Rattle.cargo_platform.proofs.TextLines.{ended_lines}

-- one more line that spells one more fact
pub one_more : (texts : List (List ℕ)) (facts : List CfgValue) (text : List ℕ) (fact : CfgValue)
    → SpellFacts texts facts → IsValueText text fact
    → SpellFacts (texts ++ text ∷ []) (facts ++ fact ∷ [])
one_more [] [] text fact h v = (v, tt)
one_more [] (c ∷ facts) text fact h v = absurd h
one_more (t ∷ texts) [] text fact h v = absurd h
one_more (t ∷ texts) (c ∷ facts) text fact h v = (h.0, one_more texts facts text fact h.1 v)

-- what lines spell is well-formed
pub spelled_formed : (texts : List (List ℕ)) (facts : List CfgValue) → SpellFacts texts facts
    → AllByRecursion IsWellFormedValue facts
spelled_formed [] [] h = tt
spelled_formed [] (c ∷ facts) h = absurd h
spelled_formed (t ∷ texts) [] h = absurd h
spelled_formed (t ∷ texts) (c ∷ facts) h = (spelled_well_formed_value t c h.0, spelled_formed texts facts h.1)

-- there are as many facts as lines
pub as_many : (texts : List (List ℕ)) (facts : List CfgValue) → SpellFacts texts facts → length facts ≡ length texts
as_many [] [] h = refl
as_many [] (c ∷ facts) h = absurd h
as_many (t ∷ texts) [] h = absurd h
as_many (t ∷ texts) (c ∷ facts) h = ap suc (as_many texts facts h.1)

-- no line of those that spell facts spells none
pub none_refused : (texts : List (List ℕ)) (facts : List CfgValue) (i : ℕ) → SpellFacts texts facts → i < length texts
    → SpellsNoFact (get_or texts i []) → ⊥
none_refused [] facts i h l n = absurd (omega arith)
none_refused (t ∷ texts) [] i h l n = absurd h
none_refused (t ∷ texts) (c ∷ facts) zero h l n = n c h.0
none_refused (t ∷ texts) (c ∷ facts) (suc i) h l n = none_refused texts facts i h.1 (omega arith) n

-- lines spell at most one list of facts
pub one_list : (texts : List (List ℕ)) (cs ds : List CfgValue) → SpellFacts texts cs → SpellFacts texts ds → cs ≡ ds
one_list [] [] [] p q = refl
one_list [] [] (d ∷ ds) p q = absurd q
one_list [] (c ∷ cs) ds p q = absurd p
one_list (t ∷ texts) [] ds p q = absurd p
one_list (t ∷ texts) (c ∷ cs) [] p q = absurd q
one_list (t ∷ texts) (c ∷ cs) (d ∷ ds) p q =
    let first : c ≡ d = one_value_text t c d p.0 q.0 in
    let others : cs ≡ ds = one_list texts cs ds p.1 q.1 in
    λ i. first i ∷ others i

-- ---- printed facts

prints_spell : (cs : List CfgValue) → AllByRecursion IsWellFormedValue cs → SpellFacts (map print_value cs) cs
prints_spell [] w = tt
prints_spell (c ∷ cs) w = (printed_value_spells c w.0, prints_spell cs w.1)

-- the lines of a text of printed facts spell those facts
printed : (text : List ℕ) (cs : List CfgValue) → AllByRecursion IsWellFormedValue cs
    → AllByRecursion IsUnbroken (map print_value cs)
    → text ≡ ended (map print_value cs) → SpellFacts (lines_of text) cs
printed text cs w u e =
    let ls = map print_value cs in
    let cut : lines_of text ≡ ls = ap lines_of (e ∙ sym (append-nil (ended ls))) ∙ ended_lines ls [] u
    ∙ append-nil ls in
    subst (λ z. SpellFacts z cs) (sym cut) (prints_spell cs w)

-- ---- the answers

first_not_spelled : (ls : List (List ℕ)) (n : ℕ) (cs : List CfgValue) → IsFirstNoFact ls n → SpellFacts ls cs → ⊥
first_not_spelled ls n cs first h =
    let within : n - 1 < length ls = omega (arith, first.numbered.0, first.numbered.1) in
    none_refused ls cs (n - 1) h within first.here

-- what follows from the clauses on what is read, and on the refused line
pub list_formed : (text : List ℕ) (answer : Result (Vec Cfg Global) FactsError)
    → IfOk answer (λ v. SpellFacts (lines_of text) (map value_of v.items))
    → IfOk answer (λ v. AllByRecursion IsWellFormedValue (map value_of v.items))
list_formed text (Ok v) h = spelled_formed (lines_of text) (map value_of v.items) h
list_formed text (Err e) h = tt

pub list_back : (text : List ℕ) (answer : Result (Vec Cfg Global) FactsError)
    → IfOk answer (λ v. SpellFacts (lines_of text) (map value_of v.items))
    → IfLine answer (λ n e. IsFirstNoFact (lines_of text) n)
    → (cs : List CfgValue) → AllByRecursion IsWellFormedValue cs → AllByRecursion IsUnbroken (map print_value cs)
    → text ≡ ended (map print_value cs) → IfOk answer (λ v. map value_of v.items ≡ cs) × IfLine answer (λ n e. ⊥)
list_back text (Ok v) h first cs w u is =
    (one_list (lines_of text) (map value_of v.items) cs h (printed text cs w u is), tt)
list_back text (Err (Line n e)) h first cs w u is =
    (tt, first_not_spelled (lines_of text) n cs first (printed text cs w u is))
list_back text (Err (Memory e)) h first cs w u is = (tt, tt)

-- the line of this number is the first that spells no fact, and this is its error
pub record IsRefusedLine (ls : List (List ℕ)) (n : ℕ) (e : ParseError) : Type 0 where
  pub first : IsFirstNoFact ls n
  pub orig : orig_of e ≡ line_at ls n
  pub fault : IsRefused Values (line_at ls n) (fault_in e)
  pub span : IsRefusedAt Values (line_at ls n) (fault_in e) (span_in e)

-- the line after those that were read is refused
refused_at : (ls : List (List ℕ)) (n : ℕ) (e : ParseError) (i : ℕ) (facts : List CfgValue) → i < length ls
    → SpellFacts (take i ls) facts → n ≡ i + 1 → SpellsNoFact (get_or ls i []) → orig_of e ≡ get_or ls i []
    → IsRefusedAt Values (get_or ls i []) (fault_in e) (span_in e) → IsRefusedLine ls n e
refused_at ls n e i facts l h number none orig place =
    let at : i ≡ n - 1 = omega arith in
    let here : get_or ls i [] ≡ line_at ls n = ap (λ k. get_or ls k []) at in
    let span = subst (λ t. IsRefusedAt Values t (fault_in e) (span_in e)) here place in
    record {
      first = record {
        numbered = (omega arith, omega arith);
        before = (facts, subst (λ k. SpellFacts (take k ls) facts) at h);
        here = subst (λ t. SpellsNoFact t) here none;
      };
      orig = orig ∙ here;
      fault = span.0;
      span = span;
    }

-- the same, where the lines are the parts that a loop goes over, and k of them were read
pub refused_behind : (ls parts read : List (List ℕ)) (k number : ℕ) (l : List ℕ) (facts : List CfgValue)
    (r : FactsError) → parts ≡ ls
    → read ≡ take k parts → SpellFacts read facts → (k < length parts) × (l ≡ get_or parts k l)
    → number ≡ length facts + 1
    → IfLine {A = Cfg} (Err r) (λ n e. n ≡ number) → IfLine {A = Cfg} (Err r) (λ n e. SpellsNoFact l)
    → IfLine {A = Cfg} (Err r) (λ n e. orig_of e ≡ l)
    → IfLine {A = Cfg} (Err r) (λ n e. IsRefusedAt Values l (fault_in e) (span_in e))
    → IfLine {A = Cfg} (Err r) (λ n e. IsRefusedLine ls n e)
refused_behind ls parts read k number l facts (Memory e) cut taken spelled at count n none orig fault = tt
refused_behind ls parts read k number l facts (Line n e) cut taken spelled at count same none orig fault =
    let here : l ≡ get_or ls k [] = get_or_read parts k l at.0 at.1 [] ∙ ap (λ ls. get_or ls k []) cut in
    let within : k < length ls = subst (λ (ls : List (List ℕ)). k < length ls) cut at.0 in
    let before : SpellFacts (take k ls) facts =
    subst (λ ls. SpellFacts ls facts) (taken ∙ ap (take k) cut) spelled in
    let many : length facts ≡ length (take k ls) = as_many (take k ls) facts before in
    let number_is : n ≡ k + 1 = omega (arith, length-take k ls) in
    refused_at ls n e k facts within before number_is (subst (λ t. SpellsNoFact t) here none) (orig ∙ here)
    (subst (λ t. IsRefusedAt Values t (fault_in e) (span_in e)) here fault)

of_list : (P : ℕ → ParseError → Type 0) (r : FactsError) → IfLine {A = Cfg} (Err r) P
    → IfLine {A = Vec Cfg Global} (Err r) P
of_list P (Line n e) h = h
of_list P (Memory e) h = tt

-- an error that is passed on
pub passed_on : (P : ℕ → ParseError → Type 0) (r : FactsError) (answer : Result (Vec Cfg Global) FactsError)
    → IsErrAnd answer (λ x. x ≡ r) → IfLine {A = Cfg} (Err r) P → IfLine answer P
passed_on P r (Ok v) is h = absurd is
passed_on P r (Err e) is h = subst (λ x. IfLine {A = Vec Cfg Global} (Err x) P) (sym is) (of_list P r h)

pub no_list : (P : Vec Cfg Global → Type 0) (r : FactsError) (answer : Result (Vec Cfg Global) FactsError)
    → IsErrAnd answer (λ x. x ≡ r) → IfOk answer P
no_list P r (Ok v) is = absurd is
no_list P r (Err e) is = tt

-- a part of a statement about the refused line
pub if_line : (P Q : ℕ → ParseError → Type 0) (answer : Result (Vec Cfg Global) FactsError)
    → ((n : ℕ) (e : ParseError) → P n e → Q n e) → IfLine answer P → IfLine answer Q
if_line P Q (Ok v) f h = tt
if_line P Q (Err (Line n e)) f h = f n e h
if_line P Q (Err (Memory e)) f h = tt
