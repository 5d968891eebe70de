-- The object is put in last.
use Rattle.std.proofs.Common.{◌≡◌, ap, ◌∙◌}
use Rattle.std.specs.BTreeMap.{insert_entry}
use Rattle.afr_object.specs.Tables.{gfid_cmp}
use Rattle.afr_index.specs.Listed.{Listed, kind_at, with_all}
use Rattle.afr_index.proofs.RowLemmas.{kind_put, pushed}
use Rattle.afr_index.proofs.index.Index.set.Goals as goal

is_put : (c : goal.In_ok-push) → with_all c.push.new.self.items c.make_place.new.kinds.entries ≡ insert_entry gfid_cmp (with_all c.self.inside.late.items c.self.inside.kinds.entries) c.args.g c.args.what
is_put c =
    ap (λ (row : Listed). with_all row c.make_place.new.kinds.entries) c.in_ok-push.ensures.items
    ∙ pushed c.make_place.new.late.items c.make_place.new.kinds.entries c.args.g c.args.what
    ∙ ap (λ (listed : Listed). insert_entry gfid_cmp listed c.args.g c.args.what) c.in_ok-make_place.ensures.same

pub returns-clause-ok : goal.returns-clause-ok
returns-clause-ok c = rw (← c.self.view_is) (is_put c)

pub returns-clause-listed : goal.returns-clause-listed
returns-clause-listed c =
    rw (← c.self.view_is)
    (λ q. ap (kind_at q) (is_put c) ∙ kind_put c.args.g q c.args.what (with_all c.self.inside.late.items c.self.inside.kinds.entries))
