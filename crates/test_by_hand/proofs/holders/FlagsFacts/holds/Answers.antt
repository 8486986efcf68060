use Rattle.std.proofs.Common.{◌≡◌, ◌∙◌, sym, ap, true, false, ◌&&◌, codes, string_bytes, bytes_eq}
use Rattle.cargo_platform.specs.Trees.{value_of}
use Rattle.cargo_platform.proofs.Holders.{texts_compared, first_known, and_assoc, of_name, of_pair}
use Rattle.test_by_hand.proofs.holders.FlagsFacts.holds.Goals as goal
use Rattle.test_by_hand.proofs.holders.FlagsFacts.holds.Goals.{then-self-2, else-self-2}

pub returns-then-self : goal.returns-then-self
returns-then-self c =
    of_name _ c.args.self.now.linux (codes "unix") (codes "target_os") (codes "linux") _ _ _ (ap value_of c.in-Name.is)
    (first_known _ _ true _ c.if-self.true (texts_compared _ _ _ c.eq_text.ensures))

pub returns-else-self : goal.returns-else-self
returns-else-self c =
    of_name _ c.args.self.now.linux (codes "unix") (codes "target_os") (codes "linux") _ _ _ (ap value_of c.in-Name.is)
    (first_known _ _ false _ c.if-self.false c.if-self.false)

pub returns-then-eq_text : goal.returns-then-eq_text
returns-then-eq_text c =
    let key : c.if-self-2.value
    ≡ (c.args.self.now.linux && bytes_eq (string_bytes c.in-KeyPair.key.name) (codes "target_os")) =
    elim c.if-self-2.branch [
      | then-self-2 w ↦ first_known _ _ true _ w.if-self-2.true
          (w.value-is ∙ texts_compared _ _ _ w.eq_text-then-self-2.ensures)
      | else-self-2 w ↦ first_known _ _ false _ w.if-self-2.false (w.value-is ∙ w.if-self-2.false)
    ]
    in
    let value : c.eq.result ≡ bytes_eq (string_bytes c.in-KeyPair.value) (codes "linux") =
    c.eq.ensures ∙ ap (λ bs. bytes_eq bs (codes "linux")) c.as_str.ensures.value in
    of_pair c.args.self.now.unix _ (codes "unix") _ _ _ _ _ _ (ap value_of c.in-KeyPair.is)
    (first_known _ _ true _ (sym key ∙ c.if-eq_text.true) value ∙ and_assoc c.args.self.now.linux _ _)

pub returns-else-eq_text : goal.returns-else-eq_text
returns-else-eq_text c =
    let key : c.if-self-2.value
    ≡ (c.args.self.now.linux && bytes_eq (string_bytes c.in-KeyPair.key.name) (codes "target_os")) =
    elim c.if-self-2.branch [
      | then-self-2 w ↦ first_known _ _ true _ w.if-self-2.true
          (w.value-is ∙ texts_compared _ _ _ w.eq_text-then-self-2.ensures)
      | else-self-2 w ↦ first_known _ _ false _ w.if-self-2.false (w.value-is ∙ w.if-self-2.false)
    ]
    in
    of_pair c.args.self.now.unix _ (codes "unix") _ (codes "linux") _ _ _ _ (ap value_of c.in-KeyPair.is)
    (first_known _ _ false _ (sym key ∙ c.if-eq_text.false) c.if-eq_text.false ∙ and_assoc c.args.self.now.linux _ _)
