-- The law in the words of the model.
use Rattle.afr_law_tables.specs.Ends.{EndsInTime}
use Rattle.std.specs.Prelude.{◌≡◌, ℕ, ◌+◌, ◌<◌, ◌≤◌, ◌⊎◌, Bool, List, length, None, Some}
use Rattle.afr_base.specs.declared.ids.ActorId.{ActorId}
use Rattle.afr_base.specs.declared.ids.BrickId.{BrickId}
use Rattle.afr_base.specs.declared.ids.Gfid.{Gfid}
use Rattle.afr_base.specs.declared.ids.NameId.{NameId}
use Rattle.afr_base.specs.declared.ids.What.{What}
use Rattle.afr_object.specs.Tables.{copy_at, opening}
use Rattle.afr_object.specs.declared.change.Change.{Change}
use Rattle.afr_object.specs.declared.change.Change.TheVariants.{Make}
use Rattle.afr_object.specs.declared.change.Repair.{Repair}
use Rattle.afr_object.specs.declared.change.Repair.TheVariants.{CutTo, Copy, PutAttrs, PutNames}
use Rattle.afr_lines.specs.Log.{EachLine, from_oldest}
use Rattle.afr_lines.specs.declared.answer.Told.TheVariants.{Given}
use Rattle.afr_lines.specs.declared.line.Line.{Line}
use Rattle.afr_lines.specs.declared.line.Line.TheVariants.{Ask, Begin}
use Rattle.afr_lines.specs.declared.request.Request.{Request}
use Rattle.afr_lines.specs.declared.request.Request.TheVariants as request
use Rattle.afr_plan.specs.declared.plan.Plan.{Plan}
use Rattle.afr_model.specs.Honest.{Honest}
use Rattle.afr_model.specs.Safe.{IsAlwaysSafe}
use Rattle.afr_model.specs.Tables.{entry_at, held_before}
use Rattle.afr_law_tables.specs.Codes.{kept_by}
use Rattle.afr_law.specs.Law.{MayNext}
use Rattle.afr_model_moves.specs.Rules.{EachRead}
use Rattle.afr_model_moves.specs.Positions.{by_position}

-- the line at a position is this read, and a copy answered it
pub record IsReadAt (older : List Line) (asked : Request) (read : ℕ) : Type 0 where
  pub actor : ActorId
  pub brick : BrickId
  pub took : Bool
  pub line : from_oldest read older ≡ Some (Ask actor brick asked Given took)

-- the lines that a repair names are reads of what it repairs
abbrev pub NamesReads : Repair → List Line → Type 0
NamesReads (CutTo g len) older = Unit {0}
NamesReads (Copy g at span read) older = IsReadAt older (request.ReadBytes g at span) read
NamesReads (PutAttrs g read) older = IsReadAt older (request.ReadAttrs g) read
NamesReads (PutNames g reads) older = EachRead (IsReadAt older (request.List g)) reads

-- an entry of this gfid and kind stood in a directory of some brick before an earlier line
pub record WasShown (p : Plan) (older : List Line) (g : Gfid) (what : What) : Type 0 where
  pub read : ℕ
  pub brick : ℕ
  pub dir : Gfid
  pub name : NameId
  pub past : read < length older
  pub entry : entry_at dir name (held_before p older read brick) ≡ Some (record { gfid = g; what = what })

-- what is made has a new gfid, or the gfid and kind of an entry that was there
abbrev pub MakesKnown : Plan → Change → List Line → Type 0
MakesKnown p (Make dir name g what) older = ((g.0 ≡ length older + 2) × (copy_at g (opening p.files) ≡ None)) ⊎ WasShown p older g what
MakesKnown p change older = Unit {0}

-- an attempt's write ends in time, and what it makes is known; a repair names its reads
abbrev pub IsKnown : Plan → Line → List Line → Type 0
IsKnown p (Begin a change) older = EndsInTime change × MakesKnown p change older
IsKnown p (Ask a b (request.Mend repair) told took) older = NamesReads repair older
IsKnown p line older = Unit {0}

-- a line keeps the discipline after the lines before it
abbrev pub IsLawfulLine : Plan → Line → List Line → Type 0
IsLawfulLine p line older = MayNext p.shape.n (kept_by p) (by_position older) (length older) line × IsKnown p line older

-- each line of the log keeps the discipline
abbrev pub IsLawful : Plan → List Line → Type 0
IsLawful p log = EachLine (IsLawfulLine p) log

-- an honest and lawful log is safe at every moment
abbrev pub ModelLawfulIsSafe : Type 0
ModelLawfulIsSafe = (p : Plan) (log : List Line) → p.shape.n ≤ 5 → Honest p log → IsLawful p log → IsAlwaysSafe p log
