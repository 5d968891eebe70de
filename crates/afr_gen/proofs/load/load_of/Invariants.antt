use Rattle.std.proofs.Common.{◌≡◌, ◌≤◌, ◌*◌, length}
use Rattle.afr_gen.specs.Generated as specs
use Rattle.afr_gen.proofs.load.load_of.Given as goal

abbrev pub invariant-loop-before : goal.invariant-loop-before
invariant-loop-before l = record {
  scripts : l.scripts ≡ specs.scripts l.n l.before;
  values : l.values ≡ specs.values l.n l.before;
  last : l.last ≡ specs.drawn l.n (l.before * l.n);
  few : length l.values ≤ l.before;
}
