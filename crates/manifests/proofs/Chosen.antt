-- One more row, the rows of one more key, and the first key that is not read.
use Rattle.std.proofs.Common.{◌≡◌, ◌∙◌, sym, ap, subst, ℕ, ◌+◌, ◌<◌, List, [], ◌∷◌, ◌++◌, append_assoc, map, take}
use Rattle.std.proofs.Common.{drop, length, get_or, drop-cons, add-one, Some}
use Rattle.std.specs.List.{All}
use Rattle.std.proofs.lemmas.List.{take_more, map-append, append-nil, take-append-drop}
use Rattle.std.proofs.lemmas.List.Elements.{All-nil, All-push}
use Rattle.toml.specs.Data.{Members, as_table}
use Rattle.cargo_platform.specs.Trees.{Condition}
use Rattle.cargo_platform.specs.Platforms.{IsConditionText}
use Rattle.manifests.specs.Entries.{Entry, entry_of}
use Rattle.manifests.specs.Selecting.{Question, ChosenRow, IsDecisionFor, AreChosen, Adds, chosen_of, IsReadKey}
use Rattle.manifests.specs.Selecting.{AreRowsOfKey, AreRowsOfKeys, of_none, of_more, OfFirstUnread}
use Rattle.manifests.specs.Selecting.{IsErrorOn, IsErrorUnder}
use Rattle.manifests.specs.Tables.{DependencyRow, row_of, rows_of}
use Rattle.manifests.specs.declared.selection.Decision.{Decision}
use Rattle.manifests.specs.declared.selection.DependencyDecision.{DependencyDecision}
use Rattle.manifests.specs.declared.selection.SelectError.{SelectError}
use Rattle.manifests.specs.declared.selection.SelectError.TheVariants.{Memory, TargetIsNoTable, KeyIsNoTable, Refused}
use Rattle.manifests.specs.declared.tables.Dependency.{Dependency}
use Rattle.manifests.specs.declared.tables.TargetKey.{TargetKey}

pub one_chosen : (q : Question) (c : Condition) (ds : List Dependency) (i : ℕ) (d : Dependency) (decision : Decision)
    (init old new : List DependencyDecision) → i < length ds → Adds (AreChosen q c (map row_of (take i ds))) init old
    → IsDecisionFor q (get_or ds i d).kind c decision
    → new ≡ old ++ record { dependency = get_or ds i d; decision = decision } ∷ []
    → Adds (AreChosen q c (map row_of (take (i + 1) ds))) init new
one_chosen q c ds i d decision init old new within before is now =
    let x = get_or ds i d in
    let r : ChosenRow = (row_of x, decision) in
    record {
      added = before.added ++ r ∷ [];
      are =
          ap (map chosen_of) now ∙ map-append chosen_of old (record { dependency = x; decision = decision } ∷ [])
          ∙ ap (λ rs. rs ++ r ∷ []) before.are ∙ append_assoc (map chosen_of init) before.added (r ∷ []);
      such = record {
        dependencies =
            map-append (λ (s : ChosenRow). s.0) before.added (r ∷ [])
            ∙ ap (λ rs. rs ++ row_of x ∷ []) before.such.dependencies
            ∙ sym (map-append row_of (take i ds) (x ∷ [])) ∙ ap (map row_of) (sym (take_more ds i d within));
        decisions = All-push (λ (s : ChosenRow). IsDecisionFor q s.0.kind c s.1) before.added r before.such.decisions
            is;
      };
    }

-- the dependencies in a key's table, by its condition, are the rows of the key
pub of_key : (q : Question) (e : Entry) (c : Condition) (t : Members) (ds : List DependencyRow)
    (old new : List DependencyDecision)
    → IsConditionText e.0 c → as_table e.1 ≡ Some t → ds ≡ rows_of (Some e.0) t → Adds (AreChosen q c ds) old new
    → Adds (AreRowsOfKey q e) old new
of_key q e c t ds old new spelled at_table are adds = record {
  added = adds.added;
  are = adds.are;
  such = record {
    read = record { condition = c; spelled = spelled; table = t; at_table = at_table };
    chosen = subst (λ xs. AreChosen q c xs adds.added) are adds.such;
  };
}

pub none_added : (q : Question) (rows : List DependencyDecision) → Adds (AreRowsOfKeys q []) rows rows
none_added q rows = record { added = []; are = sym (append-nil (map chosen_of rows)); such = of_none }

pub one_key : (q : Question) (keys : List TargetKey) (i : ℕ) (key : TargetKey) (init old new : List DependencyDecision)
    → i < length keys → key ≡ get_or keys i key → Adds (AreRowsOfKeys q (map entry_of (take i keys))) init old
    → Adds (AreRowsOfKey q (entry_of key)) old new
    → Adds (AreRowsOfKeys q (map entry_of (take (i + 1) keys))) init new
one_key q keys i key init old new within is before of_this =
    let x = get_or keys i key in
    let more = subst (λ k. Adds (AreRowsOfKey q (entry_of k)) old new) is of_this in
    let rows = before.added ++ more.added in
    record {
      added = rows;
      are =
          more.are ∙ ap (λ rs. rs ++ more.added) before.are
          ∙ append_assoc (map chosen_of init) before.added more.added;
      such =
          subst (λ es. AreRowsOfKeys q es rows)
          (sym (map-append entry_of (take i keys) (x ∷ [])) ∙ ap (map entry_of) (sym (take_more keys i key within)))
          (of_more (map entry_of (take i keys)) (entry_of x) before.added more.added before.such more.such);
    }

-- keys that have rows are read
all_read : (q : Question) (es : List Entry) (rows : List ChosenRow) → AreRowsOfKeys q es rows → All IsReadKey es
all_read q _ _ of_none = All-nil IsReadKey
all_read q _ _ (of_more es e before rows are here) = All-push IsReadKey es e (all_read q es before are) here.read

next : (keys : List TargetKey) (i : ℕ) (d : TargetKey) → i < length keys
    → drop i keys ≡ get_or keys i d ∷ drop (i + 1) keys
next keys i d within = rw add-one (drop-cons keys i d within)

-- the keys before a place, the one at it, and those after
parts : (keys : List TargetKey) (i : ℕ) (d : TargetKey) → i < length keys
    → map entry_of keys ≡ map entry_of (take i keys) ++ entry_of (get_or keys i d) ∷ map entry_of (drop (i + 1) keys)
parts keys i d within =
    ap (map entry_of) (sym (take-append-drop i keys)) ∙ map-append entry_of (take i keys) (drop i keys)
    ∙ ap (λ ks. map entry_of (take i keys) ++ map entry_of ks) (next keys i d within)

first_unread : (q : Question) (keys : List TargetKey) (i : ℕ) (d : TargetKey) (rows : List ChosenRow)
    (P : Entry → Type 0) → i < length keys → AreRowsOfKeys q (map entry_of (take i keys)) rows
    → P (entry_of (get_or keys i d)) → OfFirstUnread (Some (Some (map entry_of keys))) P
first_unread q keys i d rows P within are holds = record {
  before = map entry_of (take i keys);
  key = entry_of (get_or keys i d);
  after = map entry_of (drop (i + 1) keys);
  at_target = ap (λ es. Some (Some es)) (parts keys i d within);
  read = all_read q (map entry_of (take i keys)) rows are;
  holds = holds;
}

-- the first error on a key is that of all the keys
error_at : (q : Question) (keys : List TargetKey) (i : ℕ) (d : TargetKey) (rows : List ChosenRow)
    (error : SelectError) → i < length keys → AreRowsOfKeys q (map entry_of (take i keys)) rows
    → IsErrorOn (entry_of (get_or keys i d)) error → IsErrorUnder (Some (Some (map entry_of keys))) error
error_at q keys i d rows (Memory e) within are on = tt
error_at q keys i d rows TargetIsNoTable within are on = absurd on
error_at q keys i d rows (KeyIsNoTable key) within are on = first_unread q keys i d rows _ within are on
error_at q keys i d rows (Refused key e) within are on = first_unread q keys i d rows _ within are on

pub first_error : (q : Question) (keys : List TargetKey) (i : ℕ) (key : TargetKey) (rows : List ChosenRow)
    (error : SelectError) → i < length keys → key ≡ get_or keys i key
    → AreRowsOfKeys q (map entry_of (take i keys)) rows → IsErrorOn (entry_of key) error
    → IsErrorUnder (Some (Some (map entry_of keys))) error
first_error q keys i key rows error within is are on =
    error_at q keys i key rows error within are (subst (λ k. IsErrorOn (entry_of k) error) is on)
