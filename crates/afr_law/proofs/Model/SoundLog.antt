-- Every copy of a lawful log is sound: its names rise and are below n, and its bytes end where ranges end.
use Rattle.std.proofs.Common.{◌≡◌, ℕ, ◌+◌, ◌<◌, ◌≤◌, ◌^◌, Bool, true, false, refl, sym, subst, arith, List, [], ◌∷◌, length, Option, None, Some, ◌==◌, if◌then◌else◌, take, drop, length-take, length-drop}
use Rattle.std.specs.Prelude.{option_and_then}
use Rattle.afr_base.specs.Marks.{dirtied, closed_op, taken_back}
use Rattle.afr_base.specs.declared.ids.ActorId.{ActorId}
use Rattle.afr_base.specs.declared.ids.BrickId.{BrickId}
use Rattle.afr_base.specs.declared.ids.Gfid.{Gfid}
use Rattle.afr_base.specs.declared.ids.Kind.{Kind}
use Rattle.afr_base.specs.declared.marks.Marks.{Marks}
use Rattle.afr_object.specs.Tables.{Table, changed, copy_at, with_numbers}
use Rattle.afr_object.specs.declared.change.Change.{Change}
use Rattle.afr_object.specs.declared.change.Change.TheVariants.{Write, Cut, SetAttr, Make, Remove}
use Rattle.afr_object.specs.declared.change.Repair.{Repair}
use Rattle.afr_object.specs.declared.change.Repair.TheVariants.{CutTo, Copy, PutAttrs, PutNames}
use Rattle.afr_object.specs.Object.{Object}
use Rattle.afr_lines.specs.Log.{from_oldest, change_of, change_at}
use Rattle.afr_lines.specs.declared.answer.Told.{Told}
use Rattle.afr_lines.specs.declared.line.Line.{Line}
use Rattle.afr_lines.specs.declared.line.Line.TheVariants.{Ask, Begin, HealBegin, End, HealEnd, Event}
use Rattle.afr_lines.specs.declared.request.Request.{Request}
use Rattle.afr_lines.specs.declared.request.Request.TheVariants.{Pre, Apply, Post, Mend, Settle}
use Rattle.afr_lines.specs.declared.request.Request.TheVariants as request
use Rattle.afr_plan.specs.declared.plan.Plan.{Plan}
use Rattle.afr_model.specs.Tables.{Past, holds, held_before, step, asked, effect, keeps_bytes, content_in, names_in, names_shown, bytes_shown, all_names_shown, carried}
use Rattle.afr_law_tables.proofs.Names.{AreRising}
use Rattle.afr_model_moves.specs.Rules.{EachRead}
use Rattle.afr_law_tables.proofs.Merged.{AreBelow, AllBelow, below_merged, rising_merged}
use Rattle.afr_law_tables.proofs.Sound.{EachCopy, IsSound, NameFits, CarriesSound, each_changed, sound_applied, sound_mended, sound_opening}
use Rattle.afr_law_tables.specs.Ends.{EndsInTime}
use Rattle.afr_law.specs.ModelLaw.{IsReadAt, NamesReads, IsKnown, IsLawful, IsLawfulLine}
use Rattle.std.proofs.lemmas.Option.{same_Some}

-- a line that makes a new name makes one below n
abbrev pub NameIsBelow : ℕ → Line → Type 0
NameIsBelow n (Begin a change) = NameFits n change
NameIsBelow n line = Unit {0}

-- a lawful log all of whose names are below n
abbrev pub LawfulBelow : Plan → ℕ → List Line → Type 0
LawfulBelow p n [] = p.files ≤ n
LawfulBelow p n (line ∷ older) = (IsLawfulLine p line older × NameIsBelow n line) × LawfulBelow p n older

-- one above the name that a line makes, or 0
abbrev pub name_in : Line → ℕ
name_in (Begin a (Make dir name g what)) = name.0 + 1
name_in line = 0

-- a number above all names of a log
abbrev pub name_limit : Plan → List Line → ℕ
name_limit p [] = p.files
name_limit p (line ∷ older) = name_in line + name_limit p older

pub lawful_below : (p : Plan) (n : ℕ) (log : List Line) → name_limit p log ≤ n → IsLawful p log → LawfulBelow p n log
lawful_below p n [] low lawful = low
lawful_below p n (line ∷ older) low lawful = ((lawful.0, below line (omega (arith, low))), lawful_below p n older (omega (arith, low)) lawful.1)
  where
    below_change : (a : ActorId) (c : Change) → name_in (Begin a c) ≤ n → NameFits n c
    below_change a (Make dir name g what) h = omega (arith, h)
    below_change a (Write g at bytes) h = tt
    below_change a (Cut g len) h = tt
    below_change a (SetAttr g key value) h = tt
    below_change a (Remove dir name what) h = tt

    below : (line : Line) → name_in line ≤ n → NameIsBelow n line
    below (Begin a c) h = below_change a c h
    below (Ask a b r told took) h = tt
    below (HealBegin a g kind) h = tt
    below (End a reply) h = tt
    below (HealEnd a g kind reply) h = tt
    below (Event e) h = tt

pub files_below : (p : Plan) (n : ℕ) (log : List Line) → LawfulBelow p n log → p.files ≤ n
files_below p n [] lawful = lawful
files_below p n (line ∷ older) lawful = files_below p n older lawful.1

-- every copy is sound, with names below n
abbrev pub AllSound : ℕ → Table → Type 0
AllSound n t = EachCopy (IsSound n) t

-- a change of a lawful log
abbrev pub Fits : ℕ → Change → Type 0
Fits n c = EndsInTime c × NameFits n c

line_ends : (p : Plan) (n : ℕ) (line : Line) (older : List Line) (c : Change) → IsKnown p line older → NameIsBelow n line → change_of line ≡ Some c → Fits n c
line_ends p n (Begin a x) older c known low e = subst (Fits n) (same_Some x c e) (known.0, low)
line_ends p n (Ask a b r told took) older c known low e = absurd (cc e)
line_ends p n (HealBegin a g kind) older c known low e = absurd (cc e)
line_ends p n (End a reply) older c known low e = absurd (cc e)
line_ends p n (HealEnd a g kind reply) older c known low e = absurd (cc e)
line_ends p n (Event x) older c known low e = absurd (cc e)

pub ends_at : (p : Plan) (n : ℕ) (log : List Line) → LawfulBelow p n log → (q : ℕ) (c : Change) → change_at q log ≡ Some c → Fits n c
ends_at p n [] lawful q c e = absurd (cc e)
ends_at p n (line ∷ older) lawful q c e = go (q == length older) e (λ k. ends_at p n older lawful.1 q c k)
  where
    go : (new : Bool) → option_and_then change_of (if new then Some line else from_oldest q older) ≡ Some c → (change_at q older ≡ Some c → Fits n c) → Fits n c
    go true k rest = line_ends p n line older c lawful.0.0.1 lawful.0.1 k
    go false k rest = rest k

module _ (p : Plan) (n : ℕ) (older : List Line) (past : Past) (all : (k b : ℕ) → AllSound n (past k b)) where
  -- what a read showed is sound
  content_short : (g : Gfid) (k b : ℕ) → length (content_in (copy_at g (past k b))) ≤ 2 ^ 63
  content_short g k b = go (copy_at g (past k b)) refl
    where
      go : (o : Option Object) → copy_at g (past k b) ≡ o → length (content_in o) ≤ 2 ^ 63
      go None e = omega arith
      go (Some o) e = (all k b g o e).2

  names_sound : (g : Gfid) (k b : ℕ) → AreRising (names_in (copy_at g (past k b))) × AreBelow n (names_in (copy_at g (past k b)))
  names_sound g k b = go (copy_at g (past k b)) refl
    where
      go : (o : Option Object) → copy_at g (past k b) ≡ o → AreRising (names_in o) × AreBelow n (names_in o)
      go None e = (tt, tt)
      go (Some o) e = (let w = all k b g o e in (w.0, w.1))

  bytes_end : (g : Gfid) (at span k : ℕ) → IsReadAt older (request.ReadBytes g at span) k → 0 < length (bytes_shown past k (from_oldest k older)) → at + length (bytes_shown past k (from_oldest k older)) ≤ 2 ^ 63
  bytes_end g at span k w = subst (λ (line : Option Line). 0 < length (bytes_shown past k line) → at + length (bytes_shown past k line) ≤ 2 ^ 63) (sym w.line) (λ some. within some)
    where
      content : List ℕ
      content = content_in (copy_at g (past k w.brick.0))

      within : 0 < length (take span (drop at content)) → at + length (take span (drop at content)) ≤ 2 ^ 63
      within some = omega (arith, some, length-take span (drop at content), length-drop at content, content_short g k w.brick.0)

  pub shown_sound : (g : Gfid) (k : ℕ) → IsReadAt older (request.List g) k → AreRising (names_shown past k (from_oldest k older)) × AreBelow n (names_shown past k (from_oldest k older))
  shown_sound g k w = subst (λ (line : Option Line). AreRising (names_shown past k line) × AreBelow n (names_shown past k line)) (sym w.line) (names_sound g k w.brick.0)

  all_below : (g : Gfid) (reads : List (Option ℕ)) → EachRead (IsReadAt older (request.List g)) reads → AllBelow n (all_names_shown past older reads)
  all_below g [] h = tt
  all_below g (None ∷ reads) h = all_below g reads h
  all_below g (Some k ∷ reads) h = ((shown_sound g k h.0).1, all_below g reads h.1)

  pub carried_sound : (repair : Repair) → NamesReads repair older → CarriesSound n repair (carried past older repair)
  carried_sound (CutTo g len) h = tt
  carried_sound (Copy g at span read) h = bytes_end g at span read h
  carried_sound (PutAttrs g read) h = tt
  carried_sound (PutNames g reads) h = (rising_merged (all_names_shown past older reads), below_merged n (all_names_shown past older reads) (all_below g reads h))

  numbers_sound : (g : Gfid) (t : Table) (kind : Kind) (f : Marks → Marks) → AllSound n t → AllSound n (changed (with_numbers kind f) g (copy_at g t) t)
  numbers_sound g t kind f h = each_changed (IsSound n) (with_numbers kind f) (λ o k. k) g t h

  sound_asked : (a : ActorId) (b : BrickId) (told : Told) (took keeps : Bool) (r : Request) (t : Table) → ((q : ℕ) (c : Change) → change_at q older ≡ Some c → Fits n c) → IsKnown p (Ask a b r told took) older → AllSound n t → AllSound n (asked keeps r older past t)
  sound_asked a b told took keeps (Apply attempt) t ends known h = go (change_at attempt older) refl
    where
      go : (change : Option Change) → change_at attempt older ≡ change → AllSound n (effect keeps change t)
      go None e = h
      go (Some change) e = (let fit = ends attempt change e in sound_applied n keeps change t fit.0 fit.1 h)
  sound_asked a b told took keeps (Mend repair) t ends known h = sound_mended n keeps repair (carried past older repair) t (carried_sound repair known) h
  sound_asked a b told took keeps (Pre g kind) t ends known h = numbers_sound g t kind dirtied h
  sound_asked a b told took keeps (Post attempt g kind missed) t ends known h = numbers_sound g t kind (closed_op missed) h
  sound_asked a b told took keeps (Settle g kind less) t ends known h = numbers_sound g t kind (taken_back less) h
  sound_asked a b told took keeps r t ends known h = h

  sound_step : (line : Line) (b : ℕ) (t : Table) → ((q : ℕ) (c : Change) → change_at q older ≡ Some c → Fits n c) → IsKnown p line older → AllSound n t → AllSound n (step p line b older past t)
  sound_step (Ask a y r told took) b t ends known h = go took (y.0 == b)
    where
      go : (f here : Bool) → AllSound n (if f then (if here then asked (keeps_bytes p b) r older past t else t) else t)
      go true true = sound_asked a y told took (keeps_bytes p b) r t ends known h
      go true false = h
      go false here = h
  sound_step line b t ends known h = h

-- the tables of every brick, now and before each line
pub all_sound : (p : Plan) (n : ℕ) (log : List Line) → LawfulBelow p n log → ((b : ℕ) → AllSound n (holds p log b)) × ((k b : ℕ) → AllSound n (held_before p log k b))
all_sound p n [] lawful = (λ b. sound_opening n p.files lawful, λ k b. sound_opening n p.files lawful)
all_sound p n (line ∷ older) lawful = (let old = all_sound p n older lawful.1 in (λ b. sound_step p n older (held_before p older) old.1 line b (holds p older b) (ends_at p n older lawful.1) lawful.0.0.1 (old.0 b), λ k b. before old k b))
  where
    before : (((b : ℕ) → AllSound n (holds p older b)) × ((k b : ℕ) → AllSound n (held_before p older k b))) → (k b : ℕ) → AllSound n (if k == length older then holds p older b else held_before p older k b)
    before old k b = go (k == length older)
      where
        go : (here : Bool) → AllSound n (if here then holds p older b else held_before p older k b)
        go true = old.0 b
        go false = old.1 k b
