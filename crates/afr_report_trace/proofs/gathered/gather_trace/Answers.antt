use Rattle.std.proofs.Common.{List, ℕ, ◌∙◌, ◌++◌, ◌∷◌, [], ap, arith, length, length-append, refl}
use Rattle.std.specs.Prelude.{decimal}
use Rattle.afr_report_trace.proofs.RowLemmas.{askers_stay, next_rows, next_to, no_rows}
use Rattle.afr_report_trace.proofs.TraceLemmas.{next_row}
use Rattle.afr_report_trace.proofs.gathered.gather_trace.Goals as goal

pub loop-position-init : goal.loop-position-init
loop-position-init c = record {
  askers = askers_stay c.in_ok-page.ensures.grown c.in_ok-add_askers.ensures;
  places = c.in_ok-page.ensures.places;
  rows = no_rows _ _ _ c.in_ok-askers.ensures.items c.in_ok-rests.ensures.items;
  long = ap length c.in_ok-rests.ensures.items;
  text = refl;
}

pub loop-position-preserved : goal.loop-position-preserved
loop-position-preserved c =
    let row = next_row c.args.plan.now c.args.log.now.items c.loop-position.position c.row_at.new.texts c.in_ok-row.row.asker c.in_ok-row.row.rest (rw c.len-position-end.ensures at c.loop-position-test.true) c.in_ok-row.ensures.row in
    let grown = c.in_ok-row.ensures.grown in
    let rows = c.loop-position.invariant.rows in
    record {
      askers = askers_stay grown c.loop-position.invariant.askers;
      places = c.in_ok-row.ensures.places;
      rows = rw (c.in_ok-push.ensures.items, c.in_ok-push-2.ensures.items) (next_rows _ _ c.loop-position.askers.items c.loop-position.rests.items _ _ grown rows row.asks.within row.says.within);
      long = rw c.in_ok-push-2.ensures.items (omega (arith, length-append c.loop-position.rests.items (c.in_ok-row.row.rest ∷ []), c.loop-position.invariant.long));
      text = rw (c.in_ok-push.ensures.items, c.in_ok-push-2.ensures.items) (next_to _ _ c.loop-position.askers.items c.loop-position.rests.items _ _ grown rows c.loop-position.position row.first row.last c.loop-position.invariant.long row.asks row.says)
          ∙ ap (λ (t : List ℕ). t ++ (decimal c.loop-position.position ++ (row.first ++ row.last))) c.loop-position.invariant.text
          ∙ row.text;
    }
