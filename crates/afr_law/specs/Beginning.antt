-- What every brick of a plan has at the beginning, as numbers.
use Rattle.std.specs.Prelude.{ℕ}
use Rattle.afr_object.specs.Tables.{opening}
use Rattle.afr_plan.specs.declared.plan.Plan.{Plan}
use Rattle.afr_model_moves.specs.Past.{Beginning}
use Rattle.afr_law_tables.specs.Codes.{kind_in, code_in, kept_by}
use Rattle.afr_law_tables.proofs.Opening.{opening_named}

-- the beginning that the law speaks of, with so many names
abbrev pub start_of : Plan → ℕ → Beginning
start_of p n = record {
  kinds = kind_in (opening p.files);
  cells = code_in (opening p.files);
  keeps = kept_by p;
  names = n;
  named = opening_named p.files;
}
