use Rattle.std.proofs.Common.{refl}
use Rattle.std.proofs.lemmas.Option.{slice_get_read}
use Rattle.declared_features.proofs.requested.activation_root.Goals as goal

pub returns-clause-root : goal.returns-clause-root
returns-clause-root c =
    let found = c.in-Some.ensures.lookup.3 in
    let unit = c.in-Some.unit.now in record {
      unit = unit;
      there = slice_get_read c.args.packages.now _ c.args.index unit refl found.0 (found.1 unit);
      no_root = c.if-unit.false;
      is_root = refl;
      no_macro = refl;
      requests = c.in_ok-activating.ensures.requests;
      unused = c.in_ok-activating.ensures.unused;
      no_features = c.new.ensures.items;
      no_requests = c.new-2.ensures.items;
    }
