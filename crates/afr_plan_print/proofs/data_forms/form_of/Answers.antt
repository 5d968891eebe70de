use Rattle.std.proofs.Common.{◌∙◌, sym, rules}
use Rattle.afr_plan_print.proofs.DataFormLemmas.{data_text-picked, picked_text}
use Rattle.afr_plan_print.proofs.data_forms.form_of.Goals as goal

pub returns-clause-shortest : goal.returns-clause-shortest
returns-clause-shortest c = rw (c.picked.ensures, c.is_text.ensures, c.only_byte.ensures) (data_text-picked c.args.bytes.now (search rules))

pub returns-clause-text : goal.returns-clause-text
returns-clause-text c = λ e. sym c.is_text.ensures ∙ picked_text _ _ _ (sym c.picked.ensures ∙ e)
