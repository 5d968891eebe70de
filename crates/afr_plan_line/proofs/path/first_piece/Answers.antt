use Rattle.std.proofs.Common.{sym, ap, ◌∙◌, Option, ℕ}
use Rattle.std.proofs.lemmas.List.{take_rest}
use Rattle.afr_plan_line.proofs.PathLemmas.{pieces-position, pieces_at}
use Rattle.afr_plan_line.proofs.path.first_piece.Goals as goal

pub returns-in-Some : goal.returns-in-Some
returns-in-Some c = rw take_rest (pieces-position c.args.bytes.now ∙ ap (λ (o : Option ℕ). pieces_at o c.args.bytes.now) (sym c.in-Some.ensures))

pub returns-in-None : goal.returns-in-None
returns-in-None c = pieces-position c.args.bytes.now ∙ ap (λ (o : Option ℕ). pieces_at o c.args.bytes.now) (sym c.in-None.ensures)
