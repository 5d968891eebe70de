use Rattle.std.proofs.Common.{◌≡◌, map, sym, subst}
use Rattle.afr_object.specs.State.{IsInOrder}
use Rattle.afr_object.specs.Tables.{key_cmp}
use Rattle.afr_trace_tally.specs.Contents.{contents_seen, kept_at}
use Rattle.afr_trace_tally.proofs.ContentLemmas.{in_order_at, none_in_order}
use Rattle.afr_trace_tally.proofs.contents.attrs_at.Goals as goal

pub attrs_in-requires : goal.attrs_in-requires
attrs_in-requires c =
    let here : contents_seen c.in-Some.kept.now ≡ kept_at c.args.position (map contents_seen c.args.shown.now) = c.in-Some.ensures in
    subst IsInOrder (sym here) (in_order_at (map contents_seen c.args.shown.now) c.args.position c.requires)

pub returns-in-None-clause-order : goal.returns-in-None-clause-order
returns-in-None-clause-order c = rw c.new.ensures (none_in_order key_cmp)
