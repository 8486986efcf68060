use Rattle.cargo_platform.specs.Hashing.{value_key_hash, key_hash, condition_key_hash}
use Rattle.cargo_platform.proofs.laws.hashes_are_of_keys.Goals as goal

pub returns-clause-values : goal.returns-clause-values
returns-clause-values c = value_key_hash

pub returns-clause-trees : goal.returns-clause-trees
returns-clause-trees c = key_hash

pub returns-clause-conditions : goal.returns-clause-conditions
returns-clause-conditions c = condition_key_hash
