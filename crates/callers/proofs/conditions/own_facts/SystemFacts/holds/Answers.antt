use Rattle.std.proofs.Common.{◌≡◌, ◌∙◌, sym, ap, true, false, codes, string_bytes, bytes_eq}
use Rattle.cargo_platform.specs.Trees.{value_of}
use Rattle.cargo_platform.proofs.Holders.{texts_compared, first_known, of_name, of_pair}
use Rattle.callers.proofs.conditions.own_facts.SystemFacts.holds.Goals as goal

pub returns-then-self : goal.returns-then-self
returns-then-self c =
    of_name _ true (codes "unix") (codes "target_os") (string_bytes c.args.self.now.name) _ _ _
    (ap value_of c.in-Name.is)
    (first_known _ _ true _ c.if-self.true (texts_compared _ _ _ c.eq_text.ensures))

pub returns-else-self : goal.returns-else-self
returns-else-self c =
    of_name _ true (codes "unix") (codes "target_os") (string_bytes c.args.self.now.name) _ _ _
    (ap value_of c.in-Name.is)
    (first_known _ _ false _ c.if-self.false c.if-self.false)

pub returns-then-eq_text : goal.returns-then-eq_text
returns-then-eq_text c =
    let key = texts_compared c.eq_text-in-KeyPair.result _ _ c.eq_text-in-KeyPair.ensures in
    let value : c.eq.result ≡ bytes_eq (string_bytes c.in-KeyPair.value) (string_bytes c.args.self.now.name) =
    c.eq.ensures ∙ (λ i. bytes_eq (c.as_str.ensures.value i) (c.as_str-then-eq_text.ensures.value i)) in
    of_pair c.args.self.now.is_unix true (codes "unix") _ _ _ _ _ _ (ap value_of c.in-KeyPair.is)
    (first_known _ _ true _ (sym key ∙ c.if-eq_text.true) value)

pub returns-else-eq_text : goal.returns-else-eq_text
returns-else-eq_text c =
    let key = texts_compared c.eq_text-in-KeyPair.result _ _ c.eq_text-in-KeyPair.ensures in
    of_pair c.args.self.now.is_unix true (codes "unix") _ (string_bytes c.args.self.now.name) _ _ _ _
    (ap value_of c.in-KeyPair.is)
    (first_known _ _ false _ (sym key ∙ c.if-eq_text.false) c.if-eq_text.false)
