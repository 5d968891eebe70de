-- A line of a healer is of its round, since a healer has no commands.
use Rattle.std.proofs.Common.{◌≡◌, ◌∙◌, ℕ, ◌-◌, ◌≤◌, ◌==◌, true, List, [], Option, Some, sym, ap, arith, length, slice_get}
use Rattle.std.proofs.lemmas.Bool.Decides.{nat_tests}
use Rattle.std.proofs.lemmas.Option.{slice_get_past, unwrap_or-slice_get}
use Rattle.std.specs.Option.{unwrap_or}
use Rattle.afr_base.specs.declared.ids.ActorId.{ActorId}
use Rattle.afr_lines.specs.Work.{ended, work}
use Rattle.afr_lines.specs.declared.line.Line.{Line}
use Rattle.afr_model.specs.Actors.{script_of}
use Rattle.afr_model.specs.HealReplies.{IsHealing}
use Rattle.afr_model.specs.Replied.{IsOfTask}
use Rattle.afr_plan.specs.declared.command.Command.{Command}
use Rattle.afr_plan.specs.declared.plan.Plan.{Plan}

pub self : (n : ℕ) → (n == n) ≡ true
self n = grind (arith, nat_tests)

-- a healer has no commands
no_script : (p : Plan) (a : ℕ) → length p.clients ≤ 16 → 17 ≤ a → script_of p a ≡ []
no_script p a few healer = sym (unwrap_or-slice_get p.clients (a - 1) []) ∙ ap (λ (o : Option (List Command)). unwrap_or o []) (slice_get_past p.clients (a - 1) (omega (arith, few, healer)))

no_command : (k : ℕ) (c : Command) → slice_get [] k ≡ Some c → ⊥
no_command k c e = absurd (cc e)

-- so its line has to do with its round alone
pub of_healer : (p : Plan) (a : ActorId) (line : Line) (log : List Line) → length p.clients ≤ 16 → 17 ≤ a.0 → IsHealing p.shape line (work a.0 log) → IsOfTask p a line log
of_healer p a line log few healer k = record {
  command = λ c is. absurd (no_command (ended a.0 log) c (rw (no_script p a.0 few healer) at is));
  round = λ of. k;
}
