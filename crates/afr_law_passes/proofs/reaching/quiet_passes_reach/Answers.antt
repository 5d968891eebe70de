use Rattle.afr_law_passes.proofs.Reached.Reached.{passes_reach}
use Rattle.afr_law_passes.proofs.reaching.quiet_passes_reach.Goals as goal

pub returns : goal.returns
returns c = record {
  reach = λ p log five clients short follows honest lawful replied low. passes_reach c.no_file_holds_its_own_name.ensures.names c.entries_have_copies.ensures.named c.a_gfid_is_of_one_kind.ensures.kinds c.quiet_rounds_converge.ensures.leave c.quiet_rounds_converge.ensures.converge
      p log five clients short follows honest lawful replied low;
}
