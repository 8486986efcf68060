use Rattle.cargo_platform.proofs.WellFormedness.{well_formed_value, well_formed}
use Rattle.cargo_platform.proofs.laws.well_formed.Goals as goal

pub returns : goal.returns
returns c = λ ts w. (λ c p. well_formed_value c ts w p, λ e p. well_formed e ts w p)
