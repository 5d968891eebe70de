use Rattle.std.proofs.Common.{◌≡◌, ◌++◌, List, ℕ, OnOk, string_bytes, subst}
use Rattle.afr_report_info.proofs.ShownLemmas.{info_is}
use Rattle.afr_report_info.proofs.info.print_info.Goals as goal

pub returns : goal.returns
returns c = record {
  ok = λ log e hold.
      subst (λ (t : List ℕ). OnOk c.push_shown.result (string_bytes c.push_shown.new.out ≡ string_bytes c.args.out.now ++ t))
      (info_is c.args.plan.now log c.args.servers.now c.args.started e hold) c.push_shown.ensures.ok;
}
