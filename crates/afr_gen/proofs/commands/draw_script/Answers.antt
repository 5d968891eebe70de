use Rattle.std.proofs.Common.{rules, arith, ◌≡◌, ◌+◌, ◌*◌, ◌∙◌, ap, suc}
use Rattle.afr_gen.specs.Generated.{drawn, next}
use Rattle.afr_gen.proofs.commands.draw_script.Goals as goal
use Rattle.afr_gen.proofs.commands.draw_script.Goals.{then-has_set, else-has_set}

pub loop-k-preserved : goal.loop-k-preserved
loop-k-preserved c =
    let one : suc (c.args.before * c.args.n + c.loop-k.k) ≡ c.args.before * c.args.n + (c.loop-k.k + 1) = omega arith in record {
      script = search rules;
      has_set = elim c.if-has_set.branch [ then-has_set w ↦ search rules | else-has_set w ↦ search rules ];
      last = c.next-last.ensures ∙ ap next c.loop-k.invariant.last ∙ ap (drawn c.args.n) one;
    }
