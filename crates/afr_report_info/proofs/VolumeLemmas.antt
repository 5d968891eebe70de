-- The bricks behind the servers of a volume hold the tables that its log has made.
use Rattle.std.proofs.Common.{◌≡◌, Bool, ℕ, zero, suc, ◌<◌, List, [], ◌∷◌, Some, true, refl, ap, ◌∙◌, arith, length, slice_get}
use Rattle.std.specs.Option.{option_map}
use Rattle.afr_base.specs.Bricks.{member}
use Rattle.afr_lines.specs.declared.line.Line.{Line}
use Rattle.afr_object.specs.Tables.{Table}
use Rattle.afr_plan.specs.declared.plan.Plan.{Plan}
use Rattle.afr_model.specs.Report.{started_bricks}
use Rattle.afr_model.specs.Tables.{holds, keeps_bytes}
use Rattle.afr_server.specs.Serving.{Serving}
use Rattle.afr_report_info.specs.Shown.{HoldTables, table_of}

some_at : (servers : List Serving) (b : ℕ) → b < length servers → (s : Serving) × (slice_get servers b ≡ Some s)
some_at [] b l = absurd (omega arith)
some_at (x ∷ xs) zero l = (x, refl)
some_at (x ∷ xs) (suc b) l = some_at xs b (omega arith)

table_is : (s : Serving) (keeps : Bool) (t : Table) → s.copies ≡ record { keeps = keeps; objects = t } → table_of s ≡ t
table_is s keeps t e = rw e refl

all_hold : (p : Plan) (log : List Line) (among : List ℕ) (servers : List Serving) → length servers ≡ p.shape.n
    → ((b : ℕ) (s : Serving) → slice_get servers b ≡ Some s → s.copies ≡ record { keeps = keeps_bytes p b; objects = holds p log b })
    → ((b : ℕ) → member among b ≡ true → b < p.shape.n) → HoldTables p log among servers
all_hold p log among servers few tables within b m =
    let there = some_at servers b (omega (arith, few, within b m)) in
    ap (option_map table_of) there.1 ∙ ap Some (table_is there.0 (keeps_bytes p b) (holds p log b) (tables b there.0 there.1))

-- the same of a plan, a log and started bricks that the volume hands out
pub handed_out : (p q : Plan) (log lines : List Line) (among : List ℕ) (servers : List Serving) → q ≡ p → lines ≡ log → among ≡ started_bricks p.shape.n log → length servers ≡ p.shape.n
    → ((b : ℕ) (s : Serving) → slice_get servers b ≡ Some s → s.copies ≡ record { keeps = keeps_bytes p b; objects = holds p log b })
    → ((b : ℕ) → member (started_bricks p.shape.n log) b ≡ true → b < p.shape.n) → HoldTables q lines among servers
handed_out p q log lines among servers e f g few tables within = rw (e, f, g) (all_hold p log (started_bricks p.shape.n log) servers few tables within)
