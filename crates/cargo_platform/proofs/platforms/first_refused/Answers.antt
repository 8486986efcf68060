use Rattle.std.proofs.Common.{◌≡◌, ℕ, not, chars, find, option_map, rules}
use Rattle.std.proofs.lemmas.Iterator.{YieldsList-from_chars}
use Rattle.std.proofs.lemmas.Iterator.Search.{find_from_yields_List}
use borrow.Author.Tests.{tests}
use Rattle.cargo_platform.specs.Platforms.{is_target_char}
use Rattle.cargo_platform.proofs.TargetNames.{first_refused_found}
use Rattle.cargo_platform.proofs.platforms.first_refused.Goals as goal

pub returns : goal.returns
returns c =
    let found : option_map (λ (x : ℕ). x) c.find.result ≡ find (λ x. not (is_target_char x)) (chars c.args.name.now) =
    find_from_yields_List
    (λ x. not (is_target_char x)) _ _ c.find.result c.find.ensures.ran
    (YieldsList-from_chars c.args.name.now c.utf8.name cc) (λ x b q k. search (rules, tests)) in
    first_refused_found c.args.name.now c.find.result c.utf8.name found
