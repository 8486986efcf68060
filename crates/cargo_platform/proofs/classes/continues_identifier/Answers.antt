use Rattle.std.proofs.Common.{get_or, false, arith, refl}
use Rattle.std.proofs.lemmas.Bool.{agree_below_at}
use Rattle.cargo_platform.specs.declared.classes.TheConstants.{IDENTIFIER_REST}
use Rattle.cargo_platform.specs.Chars.{is_identifier_rest}
use Rattle.cargo_platform.proofs.classes.continues_identifier.Goals as goal

-- the table agrees with the class in each of its 256 rows
pub returns : goal.returns
returns c = agree_below_at (λ b. get_or IDENTIFIER_REST b false) is_identifier_rest 256 c.args.byte refl (omega arith)
