use Rattle.std.proofs.Common.{◌≡◌, ◌+◌, ◌*◌}
use Rattle.afr_gen.specs.Generated as specs
use Rattle.afr_gen.proofs.commands.draw_script.Given as goal

abbrev pub invariant-loop-k : goal.invariant-loop-k
invariant-loop-k l = record {
  script : l.script ≡ specs.script l.n l.before l.value l.k;
  has_set : l.has_set ≡ specs.has_set l.n l.before l.k;
  last : l.last ≡ specs.drawn l.n (l.before * l.n + l.k);
}
