-- A log with one line more.
use Rattle.std.proofs.Common.{◌≡◌, ◌∙◌, ℕ, ◌<◌, ◌≤◌, ◌==◌, true, false, Bool, List, [], ◌∷◌, ◌++◌, length, refl, sym, ap, subst, arith, Some, get_or, map, reverse, if◌then◌else◌, ◌+◌}
use Rattle.std.proofs.lemmas.List.{map-append, reverse-append}
use Rattle.std.proofs.lemmas.Option.{slice_get-get_or, same_Some}
use Rattle.afr_lines.specs.Log.{from_oldest}
use Rattle.afr_lines.specs.LogLemmas.{from_oldest-reverse}
use Rattle.afr_lines.specs.Work.{events_made, is_event}
use Rattle.afr_lines.specs.declared.line.Line.{Line}
use Rattle.afr_plan.specs.declared.plan.Plan.{Plan}
use Rattle.afr_trace_tally.specs.Contents.{AreKept, IsShort, all_shown, contents_seen, shown_at}
use Rattle.afr_trace_tally.specs.Tally.{AreKnown, AsksKnown}
use Rattle.afr_trace_tally.specs.declared.contents.Kept.{Kept}
use Rattle.afr_trace_tally.proofs.ContentLemmas.{kept_push}
use Rattle.afr_trace_tables.specs.Plain.{plain_tables}
use Rattle.afr_object.specs.State.{IsInOrder}

pub known_more : (line : Line) (older : List Line) → AsksKnown line → AreKnown older → AreKnown (line ∷ older)
known_more line older here all k x h = by_place (k == length older) h
  where
    by_place : (t : Bool) → (if t then Some line else from_oldest k older) ≡ Some x → AsksKnown x
    by_place true e = subst AsksKnown (same_Some line x e) here
    by_place false e = all k x e

-- the line at a position of the code's log
pub known_at : (log : List Line) (i : ℕ) (x : Line) → i < length log → x ≡ get_or log i x → AreKnown (reverse log) → AsksKnown x
known_at log i x low e all = all i x (from_oldest-reverse log i ∙ slice_get-get_or log i x low ∙ ap Some (sym e))

pub events_more : (line : Line) (older : List Line) (n : ℕ) → n ≡ events_made older → (if is_event line then n + 1 else n) ≡ events_made (line ∷ older)
events_more line older n h = ap (λ (m : ℕ). if is_event line then m + 1 else m) h

pub few_more : (line : Line) (older : List Line) (n m : ℕ) → n ≤ length older → m ≡ (if is_event line then n + 1 else n) → m ≤ length (line ∷ older)
few_more line older n m few e = by (is_event line) e
  where
    by : (t : Bool) → m ≡ (if t then n + 1 else n) → m ≤ length (line ∷ older)
    by true h = omega (arith, few, h)
    by false h = omega (arith, few, h)

-- what one more line showed is kept
pub shown_more : (p : Plan) (line : Line) (older : List Line) (kept ys : List Kept) (x : Kept) → ys ≡ kept ++ x ∷ [] → contents_seen x ≡ shown_at (plain_tables p older).now line → reverse (map contents_seen kept) ≡ all_shown p older
    → reverse (map contents_seen ys) ≡ all_shown p (line ∷ older)
shown_more p line older kept ys x e here all = rw (e, map-append contents_seen kept (x ∷ []), reverse-append (map contents_seen kept) (contents_seen x ∷ []), here, all) refl

pub kept_more : (kept ys : List Kept) (x : Kept) → ys ≡ kept ++ x ∷ [] → IsInOrder (contents_seen x) → IsShort (contents_seen x) → AreKept (map contents_seen kept) → AreKept (map contents_seen ys)
kept_more kept ys x e here short all = rw (e, map-append contents_seen kept (x ∷ [])) (kept_push (map contents_seen kept) (contents_seen x) all here short)

-- before the first line nothing was shown
pub none_shown : (p : Plan) (kept : List Kept) → kept ≡ [] → reverse (map contents_seen kept) ≡ all_shown p []
none_shown p kept e = rw e refl

pub none_kept : (kept : List Kept) → kept ≡ [] → AreKept (map contents_seen kept)
none_kept kept e = rw e tt

pub none_known : AreKnown []
none_known k line e = absurd (cc)
