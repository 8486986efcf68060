-- One more value among those at `check-cfg`.
use Rattle.std.proofs.Common.{◌≡◌, ◌∙◌, sym, ap, subst, ℕ, ◌+◌, ◌<◌, List, [], ◌∷◌, ◌++◌, append_assoc, take}
use Rattle.std.proofs.Common.{length, get_or, Option, Some, None}
use Rattle.std.specs.Prelude.{option_to_list}
use Rattle.std.proofs.lemmas.List.{take_more, append-nil}
use Rattle.toml.specs.Data.{as_str}
use Rattle.toml.specs.View.{view, items_view}
use Rattle.toml.specs.declared.value.Value.{Value}
use Rattle.manifests.specs.Declarations.{DeclaredEntry, DeclareEach, each_more, AddsBy, strings}

push_string : (vs : List Value) (v : Value)
    → strings (items_view (vs ++ v ∷ [])) ≡ strings (items_view vs) ++ option_to_list (as_str (view v))
push_string [] v = append-nil (option_to_list (as_str (view v)))
push_string (w ∷ vs) v =
    ap (λ ts. option_to_list (as_str (view w)) ++ ts) (push_string vs v)
    ∙ sym (append_assoc (option_to_list (as_str (view w))) (strings (items_view vs)) (option_to_list (as_str (view v))))

pub next_strings : (vs : List Value) (i : ℕ) (d : Value) → i < length vs
    → strings (items_view (take (i + 1) vs))
    ≡ strings (items_view (take i vs)) ++ option_to_list (as_str (view (get_or vs i d)))
next_strings vs i d within =
    ap (λ ws. strings (items_view ws)) (take_more vs i d within) ∙ push_string (take i vs) (get_or vs i d)

adds : (o : Option (List ℕ)) (texts : List (List ℕ)) (old new : List DeclaredEntry) → DeclareEach texts old
    → AddsBy o old new → DeclareEach (texts ++ option_to_list o) new
adds (Some text) texts old new each more =
    subst (DeclareEach (texts ++ text ∷ [])) (sym more.2) (each_more texts old text more.0 each more.1)
adds None texts old new each same =
    subst (λ ts. DeclareEach ts new) (sym (append-nil texts)) (subst (DeclareEach texts) (sym same) each)

pub one_value : (vs : List Value) (i : ℕ) (d : Value) (old new : List DeclaredEntry) → i < length vs
    → DeclareEach (strings (items_view (take i vs))) old → AddsBy (as_str (view (get_or vs i d))) old new
    → DeclareEach (strings (items_view (take (i + 1) vs))) new
one_value vs i d old new within each more =
    subst (λ ts. DeclareEach ts new) (sym (next_strings vs i d within))
    (adds (as_str (view (get_or vs i d))) (strings (items_view (take i vs))) old new each more)
