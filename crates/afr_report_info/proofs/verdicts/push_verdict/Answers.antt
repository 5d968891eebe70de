use Rattle.afr_report_info.proofs.VerdictLemmas.{rising_verdict}
use Rattle.afr_report_info.proofs.verdicts.push_verdict.Goals as goal

pub push_verdict_word-requires : goal.push_verdict_word-requires
push_verdict_word-requires c = record { rising = rw c.judge-verdict.ensures (rising_verdict c.args.plan.now.shape c.args.looked.now c.args.kind) }
