use Rattle.std.proofs.Common.{◌≡◌, Bool, true, false, ◌&&◌, eqb, eqb-true, sym, ap, ◌∙◌, refl, Option, Some, None}
use Rattle.std.proofs.lemmas.Bool.{true≢false, and_parts}
use Rattle.std.proofs.lemmas.Bool.Decides.{Decides-int_eq}
use Rattle.std.specs.Option.{option_eq}
use Rattle.toml_datetime.specs.declared.datetime.Date.{Date}
use Rattle.toml_datetime.specs.declared.datetime.Time.{Time}
use Rattle.toml_datetime.specs.declared.datetime.Offset.{Offset}
use Rattle.toml_datetime.specs.declared.datetime.Offset.TheVariants.{Z, Custom}
use Rattle.toml_datetime.specs.contracts.datetime.OffsetPartialEq
use Rattle.lint_fixes.proofs.equality.is_same_datetime.Goals as goal

exact_option : {T : Type 0} (E : T → T → Bool) → ((x y : T) → E x y ≡ true → x ≡ y) → (a b : Option T)
    → option_eq E a b ≡ true → a ≡ b
exact_option E exact None None h = refl
exact_option E exact None (Some y) h = absurd (true≢false (sym h))
exact_option E exact (Some x) None h = absurd (true≢false (sym h))
exact_option E exact (Some x) (Some y) h = ap Some (exact x y h)

exact_date : (x y : Date) → (eqb x.year y.year && (eqb x.month y.month && eqb x.day y.day)) ≡ true → x ≡ y
exact_date x y h =
    let (year, more) = and_parts (eqb x.year y.year) _ h in
    let (month, day) = and_parts (eqb x.month y.month) _ more in
    ap (λ n. record { year = n; month = x.month; day = x.day }) (eqb-true _ _ year)
    ∙ ap (λ n. record { year = y.year; month = n; day = x.day }) (eqb-true _ _ month)
    ∙ ap (λ n. record { year = y.year; month = y.month; day = n }) (eqb-true _ _ day)

exact_time : (x y : Time) → (eqb x.hour y.hour && (eqb x.minute y.minute &&
    (option_eq eqb x.second y.second && option_eq eqb x.nanosecond y.nanosecond))) ≡ true → x ≡ y
exact_time x y h =
    let (hour, more) = and_parts (eqb x.hour y.hour) _ h in
    let (minute, more-2) = and_parts (eqb x.minute y.minute) _ more in
    let (second, nanosecond) = and_parts (option_eq eqb x.second y.second) _ more-2 in
    ap (λ n. record { hour = n; minute = x.minute; second = x.second; nanosecond = x.nanosecond }) (eqb-true _ _ hour)
    ∙ ap (λ n. record { hour = y.hour; minute = n; second = x.second; nanosecond = x.nanosecond }) (eqb-true _ _ minute)
    ∙ ap (λ n. record { hour = y.hour; minute = y.minute; second = n; nanosecond = x.nanosecond })
    (exact_option eqb eqb-true _ _ second)
    ∙ ap (λ n. record { hour = y.hour; minute = y.minute; second = y.second; nanosecond = n })
    (exact_option eqb eqb-true _ _ nanosecond)

exact_offset : (x y : Offset) → OffsetPartialEq.TheImpl.ghosts.eq x y ≡ true → x ≡ y
exact_offset Z Z h = refl
exact_offset Z (Custom n) h = absurd (true≢false (sym h))
exact_offset (Custom m) Z h = absurd (true≢false (sym h))
exact_offset (Custom m) (Custom n) h = ap Custom ((Decides-int_eq m n).0 h)

pub returns : goal.returns
returns c = λ yes.
    let (date, more) = and_parts (option_eq _ c.args.a.date c.args.b.date) _ (sym c.eq.ensures ∙ yes) in
    let (time, offset) = and_parts (option_eq _ c.args.a.time c.args.b.time) _ more in
    let dates : c.args.a.date ≡ c.args.b.date = exact_option _ exact_date _ _ date in
    let times : c.args.a.time ≡ c.args.b.time = exact_option _ exact_time _ _ time in
    let offsets : c.args.a.offset ≡ c.args.b.offset = exact_option _ exact_offset _ _ offset in
    ap (λ n. record { date = n; time = c.args.a.time; offset = c.args.a.offset }) dates
    ∙ ap (λ n. record { date = c.args.b.date; time = n; offset = c.args.a.offset }) times
    ∙ ap (λ n. record { date = c.args.b.date; time = c.args.b.time; offset = n }) offsets
