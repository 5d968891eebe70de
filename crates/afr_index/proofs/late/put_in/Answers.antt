use Rattle.std.proofs.Common.{arith, ap, sym, ◌∙◌}
use Rattle.afr_base.specs.declared.ids.Gfid.{Gfid}
use Rattle.afr_base.specs.declared.ids.What.{What}
use Rattle.afr_base.specs.declared.ids.What.TheVariants.{File}
use Rattle.afr_index.proofs.SpotLemmas.{put_new, put_same, spot_within}
use Rattle.afr_index.proofs.late.put_in.Goals as goal
use Rattle.afr_index.proofs.late.put_in.Goals.{else-at-len-via-then-at-len+else-index-g, else-at-len-via-else-at-len}

pub returns-then-index-g : goal.returns-then-index-g
returns-then-index-g c =
    let is = rw c.as_slice.ensures.value at c.spot_of-at.ensures in
    let same = sym (ap (λ (e : Gfid × What). e.0.0) c.index.ensures) ∙ c.if-index-g.true in
    put_same c.args.g c.args.what c.args.list.now.items c.spot_of-at.result c.index.result.now is (omega arith) same

pub insert-requires : goal.insert-requires
insert-requires c =
    let is = rw c.as_slice.ensures.value at c.spot_of-at.ensures in
    let low = spot_within c.args.g.0 c.args.list.now.items c.spot_of-at.result is in
    omega arith

pub returns : goal.returns
returns c =
    let is = rw c.as_slice.ensures.value at c.spot_of-at.ensures in
    c.in_ok-insert.ensures.items ∙ (elim c.else-at-len.branch [
      | else-at-len-via-then-at-len+else-index-g w ↦ put_new c.args.g c.args.what c.args.list.now.items c.spot_of-at.result w.index.result.now is (λ l h. w.if-index-g.false (ap (λ (e : Gfid × What). e.0.0) w.index.ensures ∙ h))
      | else-at-len-via-else-at-len w ↦ put_new c.args.g c.args.what c.args.list.now.items c.spot_of-at.result (record { 0 = 0 }, File) is (λ l. absurd (omega arith))
    ])
