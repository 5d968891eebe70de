-- What a line makes of where a path stands.
use Rattle.std.proofs.Common.{◌≡◌, ℕ, ◌+◌, Bool, refl, List, Option, Some, None}
use Rattle.afr_base.specs.declared.ids.ActorId.{ActorId}
use Rattle.afr_base.specs.declared.ids.BrickId.{BrickId}
use Rattle.afr_base.specs.declared.ids.Gfid.{Gfid}
use Rattle.afr_base.specs.declared.ids.NameId.{NameId}
use Rattle.afr_lines.specs.declared.answer.Told.TheVariants.{Given}
use Rattle.afr_lines.specs.declared.line.Line.TheVariants.{Ask, Begin, End, Event, HealBegin, HealEnd}
use Rattle.afr_lines.specs.declared.line.Line.{Line}
use Rattle.afr_lines.specs.declared.request.Request.TheVariants.{ReadName}
use Rattle.afr_model.specs.Showing.{At, NoName, Path, Untold, one_name, path_after}
use Rattle.afr_model.specs.Tables.{entry_at, holds}
use Rattle.afr_object.specs.declared.entry.Entry.{Entry}
use Rattle.afr_plan.specs.declared.plan.Plan.{Plan}

-- from an object it stays there, comes to what a name leads to, or stands nowhere
pub data After (p : Plan) (line : Line) (older : List Line) (i : ℕ) (o : Entry) : Path → Type 0 where
  Stays : After p line older i o (At i o)
  Reads : (a : ActorId) (b : BrickId) (g : Gfid) (name : NameId) (took : Bool) (e : Entry) → line ≡ Ask a b (ReadName g name) Given took → entry_at g name (holds p older b.0) ≡ Some e → After p line older i o (At (i + 1) e)
  Nothing : After p line older i o NoName
  Silence : After p line older i o Untold

pub after_is : (p : Plan) (line : Line) (older : List Line) (i : ℕ) (o : Entry) → After p line older i o (path_after p line older (At i o))
after_is p (Ask a b (ReadName g name) Given took) older i o = go (entry_at g name (holds p older b.0)) refl
  where
    go : (found : Option Entry) → entry_at g name (holds p older b.0) ≡ found → After p (Ask a b (ReadName g name) Given took) older i o (one_name found (At i o))
    go None e = Nothing
    go (Some entry) e = Reads a b g name took entry refl e
after_is p (Ask a b (ReadName g name) told took) older i o = Silence
after_is p (Ask a b request told took) older i o = Stays
after_is p (Begin a change) older i o = Stays
after_is p (HealBegin a g kind) older i o = Stays
after_is p (End a said) older i o = Stays
after_is p (HealEnd a g kind said) older i o = Stays
after_is p (Event event) older i o = Stays

-- the path stands at no object
abbrev pub IsOff : Path → Type 0
IsOff path = (j : ℕ) (o : Entry) → path ≡ At j o → ⊥

-- and then it never does
pub after_off : (p : Plan) (line : Line) (older : List Line) (path : Path) → IsOff path → IsOff (path_after p line older path)
after_off p line older (At i o) off = absurd (off i o refl)
after_off p (Ask a b (ReadName g name) Given took) older NoName off = go (entry_at g name (holds p older b.0))
  where
    go : (found : Option Entry) → IsOff (one_name found NoName)
    go None = off
    go (Some e) = off
after_off p (Ask a b (ReadName g name) Given took) older Untold off = go (entry_at g name (holds p older b.0))
  where
    go : (found : Option Entry) → IsOff (one_name found Untold)
    go None = off
    go (Some e) = off
after_off p (Ask a b (ReadName g name) told took) older NoName off = λ j o e. cc e
after_off p (Ask a b (ReadName g name) told took) older Untold off = λ j o e. cc e
after_off p (Ask a b request told took) older NoName off = off
after_off p (Ask a b request told took) older Untold off = off
after_off p (Begin a change) older NoName off = off
after_off p (Begin a change) older Untold off = off
after_off p (HealBegin a g kind) older NoName off = off
after_off p (HealBegin a g kind) older Untold off = off
after_off p (End a said) older NoName off = off
after_off p (End a said) older Untold off = off
after_off p (HealEnd a g kind said) older NoName off = off
after_off p (HealEnd a g kind said) older Untold off = off
after_off p (Event event) older NoName off = off
after_off p (Event event) older Untold off = off
