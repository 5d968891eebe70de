use Rattle.std.proofs.Common.{◌∙◌, List, arith, length, refl, reverse, subst, ℕ}
use Rattle.afr_lines.specs.Work.{work}
use Rattle.afr_lines.specs.declared.line.Line.{Line}
use Rattle.afr_model.specs.Commands.{steps_of}
use Rattle.afr_trace_follow.proofs.KeepingLemmas.{as_well, keeps_is, named_is}
use Rattle.afr_trace_follow.proofs.LogLemmas.{of_whole}
use Rattle.afr_trace_follow.specs.Seen.{path_seen}
use Rattle.afr_trace_follow.specs.Stands.{IsAt}
use Rattle.afr_trace_follow.proofs.keeping.keeps_to.Goals as goal

pub returns : goal.returns
returns c =
    let w = work c.args.a.0 (reverse c.args.log.now) in
    let here = of_whole (λ (t : List Line). IsAt c.args.plan.now c.steps_of.result (work c.args.a.0 t) c.stand_of-stand.result) c.args.log.now (length c.args.log.now) (omega arith) c.stand_of-stand.ensures.at in
    let v : IsAt c.args.plan.now (steps_of c.args.command.now) w c.stand_of-stand.result = subst (λ (n : ℕ). IsAt c.args.plan.now n w c.stand_of-stand.result) c.steps_of.ensures here in
    as_well c.keeps_by.result _ _
    (keeps_is c.args.plan.now c.args.command.now c.args.line.now (length c.args.log.now) w (path_seen c.stand_of-stand.result.path) _ c.begins_named-begins.result v.path (c.as_slice.ensures ∙ c.path_of.ensures)
    (λ change e.
    as_well c.begins_named-begins.result _ _
    (named_is c.args.plan.now c.args.command.now w (length c.args.log.now) _ change c.stand_of-stand.result.begun (path_seen c.place_of-place.result) v.begun (c.place_of-place.ensures c.args.plan.now w v) refl)
    (c.begins_named-begins.ensures change e)))
    c.keeps_by.ensures
