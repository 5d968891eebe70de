use Rattle.afr_law_cost.proofs.Index.Indexes.{indexes_short, lines_short, next_short}
use Rattle.afr_law_cost.proofs.index_lines.indexes_are_short.Goals as goal

pub returns : goal.returns
returns c = record {
  tables = λ p log f t was. indexes_short p log f t was;
  lines = λ p log f. lines_short p log f;
  next = λ p log b heard f said. next_short p log b heard f said;
}
