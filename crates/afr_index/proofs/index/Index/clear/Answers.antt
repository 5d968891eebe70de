-- The object leaves the row and the map.
use Rattle.std.proofs.Common.{◌≡◌, ◌==◌, not, filter, ap, ◌∙◌}
use Rattle.std.specs.BTreeMap.{is_at}
use Rattle.std.specs.Map.{remove_entry}
use Rattle.afr_object.specs.Tables.{gfid_cmp}
use Rattle.afr_index.specs.Listed.{Listed, kind_at, with_all}
use Rattle.afr_index.proofs.RowLemmas.{cleared, kind_removed, rising_all}
use Rattle.afr_index.proofs.index.Index.clear.Goals as goal

is_taken : (c : goal.After-take_out) → with_all c.drop_late.new.late.items c.take_out.new.kinds.entries ≡ remove_entry (is_at (gfid_cmp c.args.g)) (with_all c.self.inside.late.items c.self.inside.kinds.entries)
is_taken c =
    ap (λ (row : Listed). with_all row c.take_out.new.kinds.entries) c.drop_late.ensures
    ∙ ap (λ (kinds : Listed). with_all (filter (λ e. not (e.0.0 == c.args.g.0)) c.self.inside.late.items) kinds) c.take_out.ensures.entries
    ∙ cleared c.args.g c.self.inside.late.items c.self.inside.kinds.entries c.self.invariant

pub returns-clause-same : goal.returns-clause-same
returns-clause-same c = rw (← c.self.view_is) (is_taken c)

pub returns-clause-dropped : goal.returns-clause-dropped
returns-clause-dropped c =
    rw (← c.self.view_is)
    (λ q. ap (kind_at q) (is_taken c) ∙ kind_removed c.args.g q (with_all c.self.inside.late.items c.self.inside.kinds.entries) (rising_all c.self.inside.late.items c.self.inside.kinds.entries c.self.invariant))
