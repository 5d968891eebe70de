use Rattle.afr_law_passes.proofs.Rolling.Named.{names_missers}
use Rattle.afr_law_passes.proofs.Rolling.Rolled.{rolling_never_splits}
use Rattle.afr_law_passes.proofs.rolled.what_all_have_never_splits.Goals as goal

pub returns : goal.returns
returns c = record {
  names = names_missers;
  rolling = rolling_never_splits c.split_copies_missed.ensures.exact c.quiet_rounds_converge.ensures.converge c.a_gfid_is_of_one_kind.ensures.kinds;
}
