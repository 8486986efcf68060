-- The input of a hasher: a list of writes, each a list of bytes. Raw marks are not part of it.
use Rattle.std.specs.Prelude.{◌≡◌, ℕ, suc, [], ◌++◌, refl}
use Rattle.std.proofs.Common.{ap, ◌∙◌, sym}
use Rattle.std.specs.Hash as fed
use Rattle.std.specs.declared.cmp.Ordering.TheVariants.{Equal}
use Rattle.cargo_platform.specs.Trees.{Name, CfgValue, Alone, KeyPair, Tree, Not, All, Any, Value, True, False, Trees}
use Rattle.cargo_platform.specs.Trees.{none, tree, Condition, Target, Expression}
use Rattle.cargo_platform.specs.Key.{value_key, key, keys, condition_key, name_cmp, value_cmp, tree_cmp, condition_cmp}
use Rattle.cargo_platform.specs.OrderLaws.{name_tie, value_tie, tree_tie, condition_tie}

abbrev pub name_hash : Name → fed.HashWrites
name_hash n = fed.str n.name

-- the form, and then the texts
abbrev pub value_hash : CfgValue → fed.HashWrites
value_hash (Alone n) = fed.u8 0 ++ name_hash n
value_hash (KeyPair k v) = fed.u8 1 ++ name_hash k ++ fed.str v

abbrev pub count : Trees → ℕ
count none = 0
count (tree e es) = suc (count es)

-- the form, and then the parts; the members of a group come after their number
abbrev mutual
  pub tree_hash : Tree → fed.HashWrites
  tree_hash (Not e) = fed.u8 0 ++ tree_hash e
  tree_hash (All es) = fed.u8 1 ++ fed.usize (count es) ++ trees_hash es
  tree_hash (Any es) = fed.u8 2 ++ fed.usize (count es) ++ trees_hash es
  tree_hash (Value c) = fed.u8 3 ++ value_hash c
  tree_hash True = fed.u8 4
  tree_hash False = fed.u8 5

  pub trees_hash : Trees → fed.HashWrites
  trees_hash none = []
  trees_hash (tree e es) = tree_hash e ++ trees_hash es

-- the number of members, and then each member
abbrev pub group_hash : Trees → fed.HashWrites
group_hash es = fed.usize (count es) ++ trees_hash es

-- the form, and then the name or the expression
abbrev pub condition_hash : Condition → fed.HashWrites
condition_hash (Target name) = fed.u8 0 ++ fed.str name
condition_hash (Expression e) = fed.u8 1 ++ tree_hash e

-- the writes of a key are those of the value, so equal values give a hasher the same input
pub value_key_hash : (c : CfgValue) → value_hash (value_key c) ≡ value_hash c
value_key_hash (Alone n) = refl
value_key_hash (KeyPair k v) = refl

keys_count : (es : Trees) → count (keys es) ≡ count es
keys_count none = refl
keys_count (tree e es) = ap suc (keys_count es)

mutual
  pub key_hash : (e : Tree) → tree_hash (key e) ≡ tree_hash e
  key_hash (Not e) = ap (λ w. fed.u8 0 ++ w) (key_hash e)
  key_hash (All es) = λ i. fed.u8 1 ++ fed.usize (keys_count es i) ++ keys_hash es i
  key_hash (Any es) = λ i. fed.u8 2 ++ fed.usize (keys_count es i) ++ keys_hash es i
  key_hash (Value c) = ap (λ w. fed.u8 3 ++ w) (value_key_hash c)
  key_hash True = refl
  key_hash False = refl

  keys_hash : (es : Trees) → trees_hash (keys es) ≡ trees_hash es
  keys_hash none = refl
  keys_hash (tree e es) = λ i. key_hash e i ++ keys_hash es i

pub name_alike : (m n : Name) → name_cmp m n ≡ Equal → name_hash m ≡ name_hash n
name_alike m n h = ap name_hash (name_tie m n h)

pub value_alike : (c d : CfgValue) → value_cmp c d ≡ Equal → value_hash c ≡ value_hash d
value_alike c d h = sym (value_key_hash c) ∙ ap value_hash (value_tie c d h) ∙ value_key_hash d

pub tree_alike : (d e : Tree) → tree_cmp d e ≡ Equal → tree_hash d ≡ tree_hash e
tree_alike d e h = sym (key_hash d) ∙ ap tree_hash (tree_tie d e h) ∙ key_hash e

pub condition_key_hash : (c : Condition) → condition_hash (condition_key c) ≡ condition_hash c
condition_key_hash (Target name) = refl
condition_key_hash (Expression e) = ap (λ w. fed.u8 1 ++ w) (key_hash e)

pub condition_alike : (c d : Condition) → condition_cmp c d ≡ Equal → condition_hash c ≡ condition_hash d
condition_alike c d h = sym (condition_key_hash c) ∙ ap condition_hash (condition_tie c d h) ∙ condition_key_hash d
