use Rattle.std.proofs.Common.{◌≡◌, ap, ◌∙◌, ◌++◌, ◌∷◌, [], Bool, false, cond}
use Rattle.std.specs.List.{list_any}
use Rattle.afr_plan_read.specs.FaultPlaces.{is_place, place_at}
use Rattle.afr_plan_read.proofs.order.FaultPlaces.add.Goals as goal

pub returns-clause-ok : goal.returns-clause-ok
returns-clause-ok c =
    let keys = c.self.inside.set.keys in
    let place = place_at c.args.brick c.args.at in
    let new : list_any (is_place c.args.brick c.args.at) keys ≡ false = rw (← c.self.view_is) at c.requires.new in
    rw (← c.self.view_is) (c.in_ok-insert.ensures.keys ∙ ap (λ (b : Bool). cond b keys (keys ++ place ∷ [])) new)
