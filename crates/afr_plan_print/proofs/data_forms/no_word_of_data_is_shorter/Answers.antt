use Rattle.afr_plan_print.proofs.PrintedDataLemmas.{data_again, data_short}
use Rattle.afr_plan_print.proofs.data_forms.no_word_of_data_is_shorter.Goals as goal

pub returns : goal.returns
returns c = record { spelled = data_again; short = data_short }
