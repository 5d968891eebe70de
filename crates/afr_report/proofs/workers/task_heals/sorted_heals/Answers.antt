-- A stable sort by gfid.
use Rattle.std.proofs.Common.{◌∙◌, ap, map, rules}
use Rattle.std.proofs.lemmas.List.Sorted.{answers_always, IsNonDecreasingBy-from_sort_by_key}
use Rattle.afr_log.specs.Log.{told_line}
use Rattle.afr_log.specs.declared.shown.ToldLine.{ToldLine}
use Rattle.afr_report.specs.Workers.{in_order_by, object_of}
use Rattle.afr_report.proofs.SortLemmas.{map-order, sorted_is_order}
use Rattle.afr_report.proofs.workers.task_heals.sorted_heals.Goals as goal

pub returns : goal.returns
returns c =
    let key = λ (x : ToldLine). object_of (told_line x) in
    let keys = answers_always _ _ _ (λ f a r next called. search rules) in
    let stable = c.in_ok-sort_by_key.ensures.stable key keys in
    let sorted = IsNonDecreasingBy-from_sort_by_key key _ c.in_ok-sort_by_key.ensures.sorted (λ a r q k. search rules) in
    record {
      ok =
          ap (λ heals. map told_line heals) (sorted_is_order key _ _ sorted stable)
          ∙ map-order told_line object_of c.in_ok-heals.heals.items
          ∙ ap (in_order_by object_of) c.in_ok-heals.ensures.ok;
    }
