use Rattle.afr_law_cost.proofs.Nearer.{comes_nearer}
use Rattle.afr_law_cost.proofs.a_heal_comes_nearer.Goals as goal

pub returns-clause-asked : goal.returns-clause-asked
returns-clause-asked c = λ n keeps pick r s g kind some few picks standing rooted short. comes_nearer n keeps pick r s g kind some few picks standing rooted short
