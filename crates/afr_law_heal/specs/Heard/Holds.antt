-- What a heal has read is what its read lines showed, and goes with its repairs.
use Rattle.std.specs.Prelude.{◌≡◌, ℕ, ◌<◌, Bool, false, true, nat_le, List, [], ◌∷◌, Option, None, Some, length}
use Rattle.afr_base.specs.declared.ids.ActorId.{ActorId}
use Rattle.afr_base.specs.declared.ids.BrickId.{BrickId}
use Rattle.afr_base.specs.declared.ids.Gfid.{Gfid}
use Rattle.afr_base.specs.declared.ids.Kind.{Kind}
use Rattle.afr_base.specs.declared.ids.Kind.TheVariants as kind_of
use Rattle.afr_base.specs.declared.ids.NameId.{NameId}
use Rattle.afr_base.specs.declared.ids.Shape.{Shape}
use Rattle.afr_discipline.specs.Stands.{reads_of, seen_as}
use Rattle.afr_heal.specs.Engine.{Ask, Begins}
use Rattle.afr_law_heal.specs.Heard.Hears.{IsHeardInHeal}
use Rattle.afr_lines.specs.Log.{from_oldest}
use Rattle.afr_lines.specs.Told.{told_by}
use Rattle.afr_lines.specs.declared.answer.Answer.{Answer}
use Rattle.afr_lines.specs.declared.line.Line.{Line}
use Rattle.afr_lines.specs.declared.line.Line.TheVariants.{Ask as AskLine, HealBegin}
use Rattle.afr_lines.specs.declared.request.Request.{Request}
use Rattle.afr_model.specs.Tables.{attrs_shown, bytes_shown, held_before, names_shown}
use Rattle.afr_model_moves.specs.Register.{Exact, Reads, asked_in, is_opening, rank}
use Rattle.afr_object.specs.declared.change.Load.{Load}
use Rattle.afr_object.specs.declared.entry.Entry.{Entry}
use Rattle.afr_plan.specs.declared.plan.Plan.{Plan}
use Rattle.afr_heal_machine.specs.Contents.{load_in, readied}
use Rattle.afr_heal_machine.specs.Healing.{Healing, IsHealing, answered, begun, coming, heal_from, made_ready}
use Rattle.afr_heal_machine.specs.declared.contents.ReadSoFar.{ReadSoFar}
use Rattle.afr_heal_machine.specs.declared.contents.ReadSoFar.TheVariants.{Nothing, Bytes, Attrs, Names}
use Rattle.afr_server.specs.Carried.{Brings}

-- brick by brick, the names that were read are those that the read line at the position showed
abbrev pub AreShown : Plan → List Line → List (Option ℕ) → List (Option (List (NameId × Entry))) → Type 0
AreShown p log [] [] = Unit {0}
AreShown p log (None ∷ reads) (None ∷ lists) = AreShown p log reads lists
AreShown p log (Some t ∷ reads) (Some names ∷ lists) = (t < length log) × (names ≡ names_shown (held_before p log) t (from_oldest t log)) × AreShown p log reads lists
AreShown p log reads lists = ⊥

-- what the reads of a heal's present part showed; of bytes and attributes the source alone is read
abbrev pub HoldsReads : Plan → List Line → Kind → Option ℕ → List (Option ℕ) → ReadSoFar → Type 0
HoldsReads p log kind_of.Names read reads (Names names) = AreShown p log reads names.lists
HoldsReads p log kind_of.Names read reads contents = ⊥
HoldsReads p log kind_of.Bytes (Some t) reads contents = (t < length log) × (contents ≡ Bytes (bytes_shown (held_before p log) t (from_oldest t log)))
HoldsReads p log kind_of.Bytes None reads (Names names) = ⊥
HoldsReads p log kind_of.Bytes None reads (Attrs attrs) = ⊥
HoldsReads p log kind_of.Bytes None reads contents = Unit {0}
HoldsReads p log kind_of.Attrs (Some t) reads contents = (t < length log) × (contents ≡ Attrs (attrs_shown (held_before p log) t (from_oldest t log)))
HoldsReads p log kind_of.Attrs None reads contents = contents ≡ Nothing

-- in the opening of bytes nothing was read; of attributes and names nothing at a brick before its read
abbrev pub NothingRead : Kind → Exact → ReadSoFar → Type 0
NothingRead kind_of.Bytes r contents = is_opening r.part ≡ true → ((x : ℕ) → r.reads x ≡ None) × (contents ≡ Nothing)
NothingRead kind r contents = (x : ℕ) → nat_le (rank r.step) (rank Reads) ≡ true → asked_in r Reads x ≡ false → r.reads x ≡ None

-- what a heal holds is what its reads showed, and it holds nothing before them
pub record HoldsRead (p : Plan) (log : List Line) (m : Healing) : Type 0 where
  pub shown : HoldsReads p log m.kind (reads_of m.register.reads m.source.0) m.register.reads m.contents
  pub unread : NothingRead m.kind (seen_as m.register) m.contents

-- a heal that begins has read nothing
abbrev pub HoldsNone : Type 0
HoldsNone = (p : Plan) (log : List Line) (shape : Shape) (g : Gfid) (kind : Kind) → HoldsRead p log (heal_from shape g kind)

-- after its own request, whatever was told; the source stays but for the end of the first looks, before which nothing was read
abbrev pub HoldsMore : Type 0
HoldsMore =
    (p : Plan) (m : Healing) (log : List Line) (a : ActorId) (b : ℕ) (request : Request) (heard : Answer) (took : Bool) (chosen : BrickId)
    → IsHealing m → coming m ≡ Ask b request → IsHeardInHeal p log a (record { 0 = b }) request heard took → HoldsRead p log m
    → HoldsRead p (AskLine a (record { 0 = b }) request (told_by heard) took ∷ log) (answered m b request heard (length log) chosen)

-- after its HealBegin line the reads of the part before are over
abbrev pub HoldsBegun : Type 0
HoldsBegun = (p : Plan) (m : Healing) (log : List Line) (a : ActorId) → IsHealing m → coming m ≡ Begins → HoldsRead p log m → HoldsRead p (HealBegin a m.gfid m.kind ∷ log) (begun (length log) m)

-- with the merge of its names
abbrev pub HoldsReady : Type 0
HoldsReady = (p : Plan) (m : Healing) (log : List Line) → HoldsRead p log m → HoldsRead p log (made_ready m)

-- any other line leaves it
abbrev pub HoldsOther : Type 0
HoldsOther = (p : Plan) (m : Healing) (log : List Line) (line : Line) → HoldsRead p log m → HoldsRead p (line ∷ log) m

-- what goes with the next request is what the log gives it, once the names are merged
abbrev pub HealBrings : Type 0
HealBrings =
    (p : Plan) (m : Healing) (log : List Line) (b : ℕ) (request : Request) (carried : Load)
    → IsHealing m → HoldsRead p log m → coming m ≡ Ask b request → load_in (readied m.contents) carried → Brings request carried log (held_before p log)
