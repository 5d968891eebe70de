use Rattle.afr_plan_print.proofs.PrintedPartsLemmas.{parts_text-plan}
use Rattle.afr_plan_print.proofs.print.print_plan.Goals as goal

pub returns : goal.returns
returns c = record {
  ok = rw (c.in_ok-push_str.ensures.bytes, c.in_ok-push_orders.ensures.ok, c.as_slice-5.ensures, c.in_ok-push_events.ensures.ok, c.as_slice-4.ensures, c.in_ok-push_faults.ensures.ok, c.as_slice-3.ensures, c.in_ok-push_healers.ensures.ok, c.as_slice-2.ensures, c.in_ok-push_clients.ensures.ok, c.as_slice.ensures, c.in_ok-push_head.ensures.ok, c.new-out.ensures.bytes)
      (parts_text-plan c.args.plan.now);
}
