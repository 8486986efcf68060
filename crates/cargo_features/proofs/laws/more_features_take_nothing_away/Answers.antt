use Rattle.cargo_features.proofs.Requests.{holds_more}
use Rattle.cargo_features.proofs.laws.more_features_take_nothing_away.Goals as goal

pub returns : goal.returns
returns c build packages others k claim more it = holds_more build packages others more k claim it
