use Rattle.afr_session.proofs.EpochLemmas.{epochs_rise}
use Rattle.afr_session.proofs.sessions.epochs_rise.Goals as goal

pub returns : goal.returns
returns c = epochs_rise
