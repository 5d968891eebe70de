use Rattle.std.proofs.Common.{◌∙◌, sym, ap, arith, length, refl}
use Rattle.afr_base.proofs.RisingLemmas.{lowest_first}
use Rattle.afr_report_info.proofs.marked.+marked.Goals as goal

pub marked-requires : goal.marked-requires
marked-requires t c =
    let first = lowest_first c.args.among c.without.result c.lowest-brick.result.0 (sym c.is_empty.ensures ∙ c.if-is_empty.false) c.requires.rising c.lowest-brick.ensures.number c.without.ensures in
    (omega (arith, ap length first.0), first.1)

pub returns : goal.returns
returns t c =
    let first = lowest_first c.args.among c.without.result c.lowest-brick.result.0 (sym c.is_empty.ensures ∙ c.if-is_empty.false) c.requires.rising c.lowest-brick.ensures.number c.without.ensures in
    record { ok = rw (c.in_ok-join.ensures.ok, c.as_slice.ensures, c.in_ok-list.ensures.ok, c.in_ok-index.ensures.ok, first.0) refl }
