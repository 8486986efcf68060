-- What some sets have that user-defined holders mean.
use Rattle.std.proofs.Common.{◌≡◌, ◌∙◌, true, false, ◌||◌, codes}
use Rattle.std.specs.FinSet.{contains, union}
use Rattle.cargo_platform.specs.Trees.{CfgValue, Alone, KeyPair}
use Rattle.cargo_platform.specs.Facts.{pair_of}
use Rattle.cargo_platform.specs.Holders.{name_fact, pair_fact, no_facts, only, where_set}
use Rattle.cargo_platform.proofs.Holders.{in_none, in_name, in_pair, in_where_set, in_both}
use Rattle.cargo_platform.proofs.Rows.Trees.{name, marked}

abbrev unix : CfgValue
unix = Alone (name (codes "unix"))

abbrev k_1 : CfgValue
k_1 = KeyPair (name (codes "k")) (codes "1")

nothing : contains no_facts (pair_of unix) ≡ false
nothing = in_none (pair_of unix)

-- a name, marked or not, and no pair with that key
one_name : (contains (only (name_fact (codes "unix"))) (pair_of unix) ≡ true)
    × (contains (only (name_fact (codes "unix"))) (pair_of (Alone (marked (codes "unix")))) ≡ true)
    × (contains (only (name_fact (codes "k"))) (pair_of k_1) ≡ false)
one_name =
    (in_name (codes "unix") unix, in_name (codes "unix") (Alone (marked (codes "unix"))), in_name (codes "k") k_1)

-- a key with its value, and with no other, and not the key alone
one_pair : (contains (only (pair_fact (codes "k") (codes "1"))) (pair_of k_1) ≡ true)
    × (contains (only (pair_fact (codes "k") (codes "2"))) (pair_of k_1) ≡ false)
    × (contains (only (pair_fact (codes "k") (codes "1"))) (pair_of (Alone (name (codes "k")))) ≡ false)
one_pair = (
  in_pair (codes "k") (codes "1") k_1,
  in_pair (codes "k") (codes "2") k_1,
  in_pair (codes "k") (codes "1") (Alone (name (codes "k"))),
)

-- a flag that is set changes nothing, and one that is not leaves nothing
under_a_flag : (contains (where_set true (only (name_fact (codes "unix")))) (pair_of unix) ≡ true)
    × (contains (where_set false (only (name_fact (codes "unix")))) (pair_of unix) ≡ false)
under_a_flag = (
  in_where_set true (only (name_fact (codes "unix"))) (pair_of unix) ∙ in_name (codes "unix") unix,
  in_where_set false (only (name_fact (codes "unix"))) (pair_of unix),
)

-- a union has what either part has
either : contains (union (only (name_fact (codes "a"))) (only (pair_fact (codes "k") (codes "1")))) (pair_of k_1) ≡ true
either =
    in_both (only (name_fact (codes "a"))) (only (pair_fact (codes "k") (codes "1"))) (pair_of k_1)
    ∙ (λ i. in_name (codes "a") k_1 i || in_pair (codes "k") (codes "1") k_1 i)
