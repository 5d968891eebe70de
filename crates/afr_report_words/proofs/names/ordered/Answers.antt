use Rattle.std.proofs.Common.{◌∙◌, ap, Bor, List, ℕ}
use Rattle.afr_model.specs.ReportReplies.{in_order}
use Rattle.afr_report_words.proofs.OrderLemmas.{sorted_in_order}
use Rattle.afr_report_words.proofs.names.ordered.Goals as goal

pub returns : goal.returns
returns c = record { ok = sorted_in_order (λ (text : Bor (List ℕ)). text.now) c.in_ok-texts.texts.items _ c.in_ok-sort.ensures.permutation c.in_ok-sort.ensures.sorted ∙ ap in_order c.in_ok-texts.ensures.ok }
