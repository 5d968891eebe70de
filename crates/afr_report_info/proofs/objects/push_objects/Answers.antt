use Rattle.std.proofs.Common.{◌≡◌, ◌++◌, ◌∙◌, List, ap, string_bytes}
use Rattle.afr_base.specs.declared.ids.Gfid.{Gfid}
use Rattle.afr_base.specs.declared.ids.What.{What}
use Rattle.afr_report_info.specs.Shown.{counted_shown, marked_in}
use Rattle.afr_report_info.proofs.objects.push_objects.Goals as goal

pub returns : goal.returns
returns c =
    let listed : c.as_slice.result.now ≡ marked_in c.args.servers.now c.args.among = c.as_slice.ensures ∙ c.in_ok-objects.ensures.ok ∙ c.in_ok-index.ensures.ok in
    record {
      ok =
          c.in_ok-push_counted.ensures.ok
          ∙ ap (λ (objects : List (Gfid × What)). string_bytes c.args.out.now ++ counted_shown c.args.plan.now c.args.servers.now c.args.among objects) listed;
    }
