use Rattle.std.proofs.Common.{◌++◌, ◌∙◌, List, ℕ, ap, length, string_bytes}
use Rattle.std.specs.Prelude.{codes, decimal}
use Rattle.afr_report_info.specs.Shown.{lines_shown}
use Rattle.afr_report_info.proofs.EachLemmas.{pieces}
use Rattle.afr_report_info.proofs.objects.push_counted.Goals as goal

pub returns : goal.returns
returns c =
    let lines : List ℕ = lines_shown c.args.plan.now c.args.servers.now c.args.among c.args.objects.now in
    let first : List ℕ = codes "objects " ++ decimal (length c.args.objects.now) ++ codes "\n" in
    record {
      ok =
          c.in_ok-write-2.ensures.bytes
          ∙ ap (λ (t : List ℕ). t ++ ((codes "split-brain " ++ decimal c.in_ok-splits.splits) ++ codes "\n"))
          (c.in_ok-splits.ensures.ok ∙ ap (λ (t : List ℕ). t ++ lines) c.in_ok-write.ensures.bytes)
          ∙ ap (λ (n : ℕ). ((string_bytes c.args.out.now ++ first) ++ lines) ++ ((codes "split-brain " ++ decimal n) ++ codes "\n")) c.in_ok-splits.ensures.splits
          ∙ pieces (string_bytes c.args.out.now) first lines (codes "split-brain ") _ (codes "\n");
    }
