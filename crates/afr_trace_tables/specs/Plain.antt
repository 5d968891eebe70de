-- The tables of a brick without their changelog numbers: what a log makes of bytes, attributes and names alone.
use Rattle.std.specs.Prelude.{ℕ, ◌==◌, Bool, List, [], ◌∷◌, length, map, if◌then◌else◌}
use Rattle.afr_base.specs.Marks.{no_marks}
use Rattle.afr_lines.specs.Log.{change_at}
use Rattle.afr_lines.specs.declared.line.Line.{Line}
use Rattle.afr_lines.specs.declared.line.Line.TheVariants.{Ask}
use Rattle.afr_lines.specs.declared.request.Request.{Request}
use Rattle.afr_lines.specs.declared.request.Request.TheVariants.{Apply, Mend}
use Rattle.afr_model.specs.Tables.{Past, Tables, carried, effect, keeps_bytes}
use Rattle.afr_object.specs.Object.{Object}
use Rattle.afr_object.specs.Repairs.{mended}
use Rattle.afr_object.specs.Tables.{Table, opening}
use Rattle.afr_plan.specs.declared.plan.Plan.{Plan}

-- a copy whose numbers are all 0
abbrev pub bare_object : Object → Object
bare_object o = record o { marks = no_marks }

-- tables whose numbers are all 0
abbrev pub bare : Table → Table
bare t = map (λ e. (e.0, bare_object e.1)) t

-- what a request makes of tables that keep no numbers
abbrev pub plainly_asked : Bool → Request → List Line → Past → Table → Table
plainly_asked keeps (Apply attempt) older past t = effect keeps (change_at attempt older) t
plainly_asked keeps (Mend repair) older past t = mended keeps repair (carried past older repair) t
plainly_asked keeps request older past t = t

-- what a line makes of those of brick b
abbrev pub plain_step : Plan → Line → ℕ → List Line → Past → Table → Table
plain_step p (Ask a y request told took) b older past t = if took then (if y.0 == b then plainly_asked (keeps_bytes p b) request older past t else t) else t
plain_step p line b older past t = t

-- the tables of each brick after a log, and before each of its lines, where no numbers are kept
abbrev pub plain_tables : Plan → List Line → Tables
plain_tables p [] = record { now = λ b. opening p.files; past = λ k b. opening p.files }
plain_tables p (line ∷ older) =
    record {
      now = λ b. plain_step p line b older (plain_tables p older).past ((plain_tables p older).now b);
      past = λ k b. if k == length older then (plain_tables p older).now b else (plain_tables p older).past k b;
    }
