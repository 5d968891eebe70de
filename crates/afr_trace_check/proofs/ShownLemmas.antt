-- What the last looks of a work show, and the last line of an actor that lists.
use Rattle.std.proofs.Common.{◌≡◌, ◌∙◌, ℕ, ◌<◌, ◌==◌, Bool, true, false, List, [], ◌∷◌, Option, Some, None, length, refl, sym, ap, arith, if◌then◌else◌}
use Rattle.std.proofs.lemmas.Bool.Decides.{nat_tests}
use Rattle.std.proofs.lemmas.Option.{same_Some}
use Rattle.afr_base.specs.declared.ids.Gfid.{Gfid}
use Rattle.afr_base.specs.declared.ids.NameId.{NameId}
use Rattle.afr_choice.specs.Looks.{no_looks}
use Rattle.afr_choice.specs.declared.looked.Looked.{Looked}
use Rattle.afr_lines.specs.Log.{from_oldest}
use Rattle.afr_lines.specs.Work.{Work}
use Rattle.afr_lines.specs.declared.line.Line.{Line}
use Rattle.afr_lines.specs.declared.line.Line.TheVariants.{Ask}
use Rattle.afr_lines.specs.declared.request.Request.TheVariants as request
use Rattle.afr_model.specs.Showing.{looked_by}
use Rattle.afr_model.specs.Tables.{Past, held_before, holds, names_in, names_shown}
use Rattle.afr_object.specs.Tables.{Table, copy_at}
use Rattle.afr_object.specs.declared.entry.Entry.{Entry}
use Rattle.afr_plan.specs.declared.plan.Plan.{Plan}
use Rattle.afr_trace_build.specs.Shown.{last_listed, last_object, last_views, views_at}
use Rattle.afr_trace_check.specs.Works.{last_list, lists}

-- ---- the last looks
pub views_some : (w : Work) (g : Gfid) (l : Looked) → Some g ≡ last_object w → l ≡ looked_by g w → l.views ≡ last_views w
views_some w g l h e = ap (λ (x : Looked). x.views) e ∙ ap (λ (o : Option Gfid). views_at o w) h

pub views_none : (w : Work) (l : Looked) → None ≡ last_object w → l ≡ no_looks → l.views ≡ last_views w
views_none w l h e = ap (λ (x : Looked). x.views) e ∙ ap (λ (o : Option Gfid). views_at o w) h

-- ---- the last list
-- it stands before the next line
list_within : (a : ℕ) (log : List Line) (k : ℕ) → last_list a log ≡ Some k → k < length log
list_within a [] k h = absurd (cc)
list_within a (line ∷ older) k h = by (lists a line) h (λ e. list_within a older k e)
  where
    by : (t : Bool) → (if t then Some (length older) else last_list a older) ≡ Some k → (last_list a older ≡ Some k → k < length older) → k < length (line ∷ older)
    by true e more = let same : length older ≡ k = same_Some (length older) k e in omega (arith, same)
    by false e more = omega (arith, more e)

-- what a line showed of the tables before it
abbrev names_then : (ℕ → Table) → Option Line → List (NameId × Entry)
names_then now (Some (Ask x b (request.List g) told took)) = names_in (copy_at g (now b.0))
names_then now line = []

names_are : (past : Past) (k : ℕ) (line : Option Line) → names_shown past k line ≡ names_then (past k) line
names_are past k (Some (Ask x b (request.List g) told took)) = refl
names_are past k line = refl

-- a line more changes nothing of what an earlier one showed
before : (p : Plan) (line : Line) (older : List Line) (k : ℕ) → k < length older
    → names_then (held_before p (line ∷ older) k) (from_oldest k (line ∷ older)) ≡ names_then (held_before p older k) (from_oldest k older)
before p line older k low =
    let apart : (k == length older) ≡ false = grind (arith, nat_tests) in
    split (k == length older) apart
  where
    split : (t : Bool) → t ≡ false
        → names_then (λ b. if t then holds p older b else held_before p older k b) (if t then Some line else from_oldest k older) ≡ names_then (held_before p older k) (from_oldest k older)
    split false e = refl
    split true e = absurd (cc)

-- what the newest line showed
last : (p : Plan) (line : Line) (older : List Line) (k : ℕ) → length older ≡ k → names_then (held_before p (line ∷ older) k) (from_oldest k (line ∷ older)) ≡ names_then (holds p older) (Some line)
last p line older k same =
    let here : (k == length older) ≡ true = grind (arith, nat_tests) in
    split (k == length older) here
  where
    split : (t : Bool) → t ≡ true → names_then (λ b. if t then holds p older b else held_before p older k b) (if t then Some line else from_oldest k older) ≡ names_then (holds p older) (Some line)
    split true e = refl
    split false e = absurd (cc)

-- a choice that was made
if_true : {A : Type 0} (t : Bool) (x y : A) → t ≡ true → x ≡ (if t then x else y)
if_true true x y e = refl
if_true false x y e = absurd (cc)

if_false : {A : Type 0} (t : Bool) (x y : A) → t ≡ false → y ≡ (if t then x else y)
if_false false x y e = refl
if_false true x y e = absurd (cc)

-- what a line that lists shows was listed last, and one that doesn't changes nothing of that
newest_listed : (p : Plan) (a : ℕ) (line : Line) (older : List Line) → lists a line ≡ true → names_then (holds p older) (Some line) ≡ last_listed p a (line ∷ older)
newest_listed p a (Ask x b (request.List g) told took) older e = if_true (x.0 == a) (names_in (copy_at g (holds p older b.0))) (last_listed p a older) e
newest_listed p a line older e = absurd (cc)

passed : (p : Plan) (a : ℕ) (line : Line) (older : List Line) → lists a line ≡ false → last_listed p a older ≡ last_listed p a (line ∷ older)
passed p a (Ask x b (request.List g) told took) older e = if_false (x.0 == a) (names_in (copy_at g (holds p older b.0))) (last_listed p a older) e
passed p a line older e = refl

-- what it showed is what was listed last
listed_then : (p : Plan) (a : ℕ) (log : List Line) (k : ℕ) → last_list a log ≡ Some k → names_then (held_before p log k) (from_oldest k log) ≡ last_listed p a log
listed_then p a [] k h = absurd (cc)
listed_then p a (line ∷ older) k h = by (lists a line) refl h (λ e. before p line older k (list_within a older k e) ∙ listed_then p a older k e)
  where
    by : (t : Bool) → lists a line ≡ t → (if t then Some (length older) else last_list a older) ≡ Some k
        → (last_list a older ≡ Some k → names_then (held_before p (line ∷ older) k) (from_oldest k (line ∷ older)) ≡ last_listed p a older)
        → names_then (held_before p (line ∷ older) k) (from_oldest k (line ∷ older)) ≡ last_listed p a (line ∷ older)
    by true of e more = last p line older k (same_Some (length older) k e) ∙ newest_listed p a line older of
    by false of e more = more e ∙ passed p a line older of

pub listed_some : (p : Plan) (a : ℕ) (log : List Line) (k : ℕ) → last_list a log ≡ Some k → names_shown (held_before p log) k (from_oldest k log) ≡ last_listed p a log
listed_some p a log k h = names_are (held_before p log) k (from_oldest k log) ∙ listed_then p a log k h

-- without one nothing was listed
pub listed_none : (p : Plan) (a : ℕ) (log : List Line) → last_list a log ≡ None → last_listed p a log ≡ []
listed_none p a [] h = refl
listed_none p a (line ∷ older) h = by (lists a line) refl h (λ e. listed_none p a older e)
  where
    by : (t : Bool) → lists a line ≡ t → (if t then Some (length older) else last_list a older) ≡ None → (last_list a older ≡ None → last_listed p a older ≡ []) → last_listed p a (line ∷ older) ≡ []
    by true of e more = absurd (cc)
    by false of e more = sym (passed p a line older of) ∙ more e
