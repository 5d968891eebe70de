use Rattle.std.proofs.Common.{◌∙◌, ◌≡◌, Bool, ap, subst, sym, true}
use Rattle.afr_base.specs.Bricks.{member}
use Rattle.afr_discipline.specs.Stands.{seen_as}
use Rattle.afr_discipline.specs.Turns.{brick_of}
use Rattle.afr_heal.proofs.ComingLemmas.{due_none, due_some, lowest_same}
use Rattle.afr_heal.proofs.engine.end_or_giving.Goals as goal
use Rattle.afr_heal.specs.Coming.{comes}
use Rattle.afr_heal.specs.Engine.{Ask, Ends, lock_next, part_or_end}
use Rattle.afr_lines.specs.declared.request.Area.{Area}
use Rattle.afr_lines.specs.declared.request.Request.TheVariants.{Lock}
use Rattle.afr_model_moves.specs.Keeps.{keeps_in}
use Rattle.afr_lines.specs.declared.lock.Domain.TheVariants.{Work}

pub returns-in-Some : goal.returns-in-Some
returns-in-Some c =
    subst (λ (f : Bool). Ask c.in-Some.b.0 (Lock Work c.next_of.result) ≡ part_or_end c.args.register.now.shape.n (keeps_in c.args.register.now.shape) (seen_as c.args.register.now) c.args.source.0 c.args.gfid c.args.kind f)
    (sym c.if-is_part_left.true ∙ c.is_part_left.ensures)
    (subst (λ (area : Area). Ask c.in-Some.b.0 (Lock Work area) ≡ part_or_end c.args.register.now.shape.n (keeps_in c.args.register.now.shape) (seen_as c.args.register.now) c.args.source.0 c.args.gfid c.args.kind true) (sym c.next_of.ensures)
    (due_some (lock_next (seen_as c.args.register.now) c.args.source.0 c.args.gfid) _ Ends c.in-Some.b
    (ap brick_of (lowest_same c.args.register.now.shape.n (member c.args.register.now.seen.reached)) ∙ sym c.first_of.ensures ∙ c.in-Some.is)))

pub returns-in-None : goal.returns-in-None
returns-in-None c =
    subst (λ (f : Bool). Ends ≡ part_or_end c.args.register.now.shape.n (keeps_in c.args.register.now.shape) (seen_as c.args.register.now) c.args.source.0 c.args.gfid c.args.kind f)
    (sym c.if-is_part_left.true ∙ c.is_part_left.ensures)
    (due_none (lock_next (seen_as c.args.register.now) c.args.source.0 c.args.gfid) _ Ends
    (ap brick_of (lowest_same c.args.register.now.shape.n (member c.args.register.now.seen.reached)) ∙ sym c.first_of.ensures ∙ c.in-None.is))

pub returns-else-is_part_left : goal.returns-else-is_part_left
returns-else-is_part_left c =
    subst (λ (f : Bool). comes c.unlock_or_end.result c.unlock_or_end.new.request ≡ part_or_end c.args.register.now.shape.n (keeps_in c.args.register.now.shape) (seen_as c.args.register.now) c.args.source.0 c.args.gfid c.args.kind f)
    (sym c.if-is_part_left.false ∙ c.is_part_left.ensures) c.unlock_or_end.ensures
