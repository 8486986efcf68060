use Rattle.std.proofs.Common.{refl, Option, Some, None}
use Rattle.std.specs.Prelude.{IfSome, IfNone, MatchOption}
use Rattle.cargo_platform.specs.Tokens.{placed}
use Rattle.cargo_platform.specs.Cut.{Lexical, Nothing}
use Rattle.cargo_platform.proofs.Coming.{no_token}
use Rattle.cargo_platform.proofs.reader.Reader.eat_name_with_r.Goals as goal

none_or : {A : Type 0} (o : Option A) (N P : Type 0) (S : A → Type 0) → MatchOption o N S → (N → P) → IfNone o P
none_or None N P S n f = f n
none_or (Some a) N P S n f = tt

some_or : {A : Type 0} (o : Option A) (N : Type 0) (S P : A → Type 0) → MatchOption o N S → ((a : A) → S a → P a)
    → IfSome o P
some_or None N S P m f = tt
some_or (Some a) N S P m f = f a m

pub returns-in-Ok-clause-taken : goal.returns-in-Ok-clause-taken
returns-in-Ok-clause-taken c =
    let taken = rw c.in-Ok.is at c.in_ok-taken.ensures.taken in
    some_or c.name_of.result _ _ _ c.name_of.ensures (λ r is. (placed c.in-Ok.taken, is, taken))

pub returns-in-Ok-clause-not_taken : goal.returns-in-Ok-clause-not_taken
returns-in-Ok-clause-not_taken c =
    let taken = rw c.in-Ok.is at c.in_ok-taken.ensures.taken in
    none_or c.name_of.result _ _ _ c.name_of.ensures (λ other.
    absurd (other (c.requires (placed c.in-Ok.taken) (record { to = c.in-Ok.taken.end; comes = taken.comes }))))

pub returns-in-Err-clause-not_taken : goal.returns-in-Err-clause-not_taken
returns-in-Err-clause-not_taken c =
    let taken = rw c.in-Err.is at c.in_ok-taken.ensures.taken in
    let l = c.args.self.now.ahead in
    (taken.0, λ t is p. no_token l (Lexical c.in-Err._kind l.place) t refl taken.1 is)

pub returns-in_err-taken-clause-not_taken : goal.returns-in_err-taken-clause-not_taken
returns-in_err-taken-clause-not_taken c =
    let taken = c.in_err-taken.ensures.taken in
    rw c.from_residual.ensures (taken.0, λ t is p. no_token c.args.self.now.ahead Nothing t refl taken.1 is)
