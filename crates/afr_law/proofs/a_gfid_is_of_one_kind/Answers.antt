use Rattle.afr_law.proofs.Model.Kinds.{next_looks, one_kind}
use Rattle.afr_law.proofs.a_gfid_is_of_one_kind.Goals as goal

pub returns : goal.returns
returns c = record {
  kinds = λ p log five short honest lawful. one_kind p log five short honest lawful;
  looks = λ p log a b g what view took five short honest lawful says said. next_looks p log a b g what view took five short honest lawful says said;
}
