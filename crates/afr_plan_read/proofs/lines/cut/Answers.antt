use Rattle.std.proofs.Common.{sym, ap, ◌∙◌, Option, ℕ}
use Rattle.std.proofs.lemmas.List.{take_rest}
use Rattle.afr_plan_read.proofs.TextLemmas.{cut-position, cut_at}
use Rattle.afr_plan_read.proofs.lines.cut.Goals as goal

pub returns-in_err-at : goal.returns-in_err-at
returns-in_err-at c = rw (c.from_residual.ensures, cut-position c.args.bytes.now) (ap (λ (o : Option ℕ). cut_at o c.args.bytes.now) c.in_err-at.ensures)

pub returns : goal.returns
returns c = rw take_rest (ap (λ (o : Option ℕ). cut_at o c.args.bytes.now) c.in_ok-at.ensures ∙ sym (cut-position c.args.bytes.now))
