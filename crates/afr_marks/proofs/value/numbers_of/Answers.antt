use Rattle.afr_marks.proofs.ValueLemmas.{value_of_read}
use Rattle.afr_marks.proofs.value.numbers_of.Goals as goal

pub returns-clause-back : goal.returns-clause-back
returns-clause-back c = value_of_read c.args.bytes.now _ _ _ c.told-bytes c.fits-bytes c.number_at.ensures c.number_at-2.ensures c.number_at-3.ensures
