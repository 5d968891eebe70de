-- The list of a healer's present round, one line more.
use Rattle.std.proofs.Common.{◌≡◌, ◌∙◌, ℕ, ◌+◌, ◌-◌, ◌<◌, ◌≤◌, true, false, List, [], ◌∷◌, Some, None, slice_get, refl, sym, ap, subst, arith}
use Rattle.std.proofs.lemmas.Option.{same_Some}
use Rattle.afr_base.specs.declared.ids.BrickId.{BrickId}
use Rattle.afr_base.specs.declared.ids.Gfid.{Gfid}
use Rattle.afr_base.specs.declared.ids.What.{What}
use Rattle.afr_lines.specs.Work.{is_end, is_of, work}
use Rattle.afr_lines.specs.declared.answer.Told.TheVariants.{Given}
use Rattle.afr_lines.specs.declared.line.Line.{Line}
use Rattle.afr_lines.specs.declared.line.Line.TheVariants.{Ask}
use Rattle.afr_lines.specs.declared.request.Request.TheVariants.{Index}
use Rattle.afr_plan.specs.declared.plan.Plan.{Plan}
use Rattle.afr_trace_follow.proofs.PartLemmas.{work_ended, work_moved, work_passed}
use Rattle.afr_trace_follow.specs.Lists.{AreGiven, IsGivenTo, index_given}
use Rattle.afr_trace_follow.specs.Marked.{list_after, list_of, marked_on}
use Rattle.afr_trace_tally.specs.Tally.{AsksKnown}

-- another's line
pub given_passed : (p : Plan) (i : ℕ) (line : Line) (older : List Line) (list : List (Gfid × What)) → is_of (17 + i) line ≡ false → IsGivenTo p older i list → IsGivenTo p (line ∷ older) i list
given_passed p i line older list h v = v ∙ ap (list_of p) (sym (work_passed (17 + i) line older h))

-- its End line
pub given_ended : (p : Plan) (i : ℕ) (line : Line) (older : List Line) (list : List (Gfid × What)) → is_of (17 + i) line ≡ true → is_end line ≡ true → list ≡ [] → IsGivenTo p (line ∷ older) i list
given_ended p i line older list h e none = none ∙ ap (list_of p) (sym (work_ended (17 + i) line older h e))

given_after : (p : Plan) (i : ℕ) (line : Line) (older : List Line) (list : List (Gfid × What)) → is_of (17 + i) line ≡ true → is_end line ≡ false → list ≡ list_after p line older (list_of p (work (17 + i) older)) → IsGivenTo p (line ∷ older) i list
given_after p i line older list h e v = v ∙ ap (list_of p) (sym (work_moved (17 + i) line older h e))

-- the answer to its question for an index
index_after : (p : Plan) (line : Line) (older : List Line) (was : List (Gfid × What)) (b : BrickId) → Some b ≡ index_given line → marked_on p older b.0 ≡ list_after p line older was
index_after p (Ask a y Index Given took) older was b e = ap (λ (x : BrickId). marked_on p older x.0) (same_Some b y e)
index_after p line older was b e = absurd (cc e)

pub given_index : (p : Plan) (i : ℕ) (line : Line) (older : List Line) (list : List (Gfid × What)) (b : BrickId) → is_of (17 + i) line ≡ true → is_end line ≡ false → Some b ≡ index_given line → list ≡ marked_on p older b.0
    → IsGivenTo p (line ∷ older) i list
given_index p i line older list b h e given v = given_after p i line older list h e (v ∙ index_after p line older (list_of p (work (17 + i) older)) b given)

-- any other line
other_after : (p : Plan) (line : Line) (older : List Line) (was : List (Gfid × What)) → None ≡ index_given line → was ≡ list_after p line older was
other_after p (Ask a y Index Given took) older was e = absurd (cc e)
other_after p line older was e = refl

pub given_other : (p : Plan) (i : ℕ) (line : Line) (older : List Line) (list : List (Gfid × What)) → is_of (17 + i) line ≡ true → is_end line ≡ false → None ≡ index_given line → IsGivenTo p older i list → IsGivenTo p (line ∷ older) i list
given_other p i line older list h e given v =
    given_after p i line older list h e (v ∙ other_after p line older (list_of p (work (17 + i) older)) given)

-- the list of a healer, by its own number
pub given_at : (p : Plan) (a : ℕ) (log : List Line) (given : List (List (Gfid × What))) (list : List (Gfid × What)) → 17 ≤ a → AreGiven p log given → slice_get given (a - 17) ≡ Some list → list ≡ list_of p (work a log)
given_at p a log given list low v h =
    let same : 17 + (a - 17) ≡ a = omega (arith, low) in
    v.each (a - 17) list h ∙ ap (λ (n : ℕ). list_of p (work n log)) same

-- the brick that gave an index is one of five
pub known_index : (line : Line) (b : BrickId) → AsksKnown line → Some b ≡ index_given line → b.0 < 5
known_index (Ask a y Index Given took) b known e = subst (λ (x : BrickId). x.0 < 5) (sym (same_Some b y e)) known.1
known_index line b known e = absurd (cc e)
