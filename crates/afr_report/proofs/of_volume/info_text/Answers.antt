use Rattle.std.proofs.Common.{◌++◌, ◌∙◌, ℕ, List, ap, refl, subst, sym}
use Rattle.afr_plan.specs.declared.plan.Plan.{Plan}
use Rattle.afr_model.specs.Report.{started_bricks}
use Rattle.afr_model.specs.ReportHealers.{info_of}
use Rattle.afr_base.specs.Rising.{IsRising}
use Rattle.afr_model.proofs.StartedLemmas.{rising_started}
use Rattle.afr_report_info.proofs.VolumeLemmas.{handed_out}
use Rattle.afr_report.proofs.of_volume.info_text.Goals as goal

pub print_info-requires-clause-rising : goal.print_info-requires-clause-rising
print_info-requires-clause-rising c =
    subst (λ (s : List ℕ). IsRising 0 s) (sym c.reach.ensures) (rising_started c.args.volume.now.plan.shape.n c.args.volume.now.log)

pub returns : goal.returns
returns c =
    let held =
    handed_out c.args.volume.now.plan c.plan.result.now c.args.volume.now.log c.args.volume.now.log c.reach.result c.servers.result.now
    c.plan.ensures refl c.reach.ensures c.servers.ensures.few c.servers.ensures.tables c.servers.ensures.started in
    let started = c.reach.ensures ∙ ap (λ (p : Plan). started_bricks p.shape.n c.args.volume.now.log) (sym c.plan.ensures) in
    record {
      ok =
          c.in_ok-print_info.ensures.ok c.args.volume.now.log started held
          ∙ ap (λ (t : List ℕ). t ++ info_of c.plan.result.now c.args.volume.now.log) c.new-out.ensures.bytes
          ∙ ap (λ (p : Plan). info_of p c.args.volume.now.log) c.plan.ensures;
    }
