-- What the first looks of a heal of a quiet round show: the copies as they stood when it began.
use Rattle.std.proofs.Common.{◌≡◌, ℕ, ◌<◌, ◌≤◌, ◌||◌, ◌==◌, Bool, true, false, refl, sym, ◌∙◌, subst, ap, arith, List, [], ◌∷◌, ◌++◌, length, Option, Some, None, true≢false}
use Rattle.std.specs.Prelude.{if◌then◌else◌}
use Rattle.std.specs.Option.{option_map}
use Rattle.std.proofs.lemmas.Bool.{eqb-true}
use Rattle.std.proofs.lemmas.Bool.Decides.{nat_tests}
use Rattle.afr_base.specs.Bricks.{member}
use Rattle.afr_base.specs.SetLemmas.{member_added}
use Rattle.afr_base.specs.declared.ids.ActorId.{ActorId}
use Rattle.afr_base.specs.declared.ids.BrickId.{BrickId}
use Rattle.afr_base.specs.declared.ids.Gfid.{Gfid}
use Rattle.afr_base.specs.declared.ids.Kind.{Kind}
use Rattle.afr_choice.specs.Looks.{no_looks, view_at, with_look}
use Rattle.afr_choice.specs.LooksLemmas.{length_after_look, view_after_look, view_after_other_look}
use Rattle.afr_choice.specs.declared.looked.Looked.{Looked}
use Rattle.afr_object.specs.Tables.{Table, copy_at, view_of}
use Rattle.afr_object.specs.declared.entry.View.{View}
use Rattle.afr_object.specs.Object.{Object}
use Rattle.afr_lines.specs.Told.{told_by}
use Rattle.afr_lines.specs.Work.{Work}
use Rattle.afr_lines.specs.declared.answer.Answer.TheVariants as answer
use Rattle.afr_lines.specs.declared.answer.Told.{Told}
use Rattle.afr_lines.specs.declared.line.Line.{Line}
use Rattle.afr_lines.specs.declared.line.Line.TheVariants.{Ask, Begin, End, Event, HealBegin, HealEnd}
use Rattle.afr_lines.specs.declared.request.Request.TheVariants.{Lock, Look}
use Rattle.afr_plan.specs.declared.plan.Plan.{Plan}
use Rattle.afr_model.specs.Healing.{First, first_after, first_by}
use Rattle.afr_model.specs.Honest.{copy_answer}
use Rattle.afr_model.specs.Showing.{look_shows}
use Rattle.afr_model.specs.Tables.{holds}
use Rattle.afr_law_quiet.specs.Undisturbed.{begun_after, if_begin, or_log}
use Rattle.afr_law_quiet.proofs.Lists.Runs.{works}
use Rattle.afr_law_quiet.proofs.Lists.Steps.{answered}
use Rattle.afr_law_quiet.proofs.Lists.Parts.{Part, Parts}

-- the view of the copy that a brick had after a log
abbrev pub view_then : Plan → List Line → Gfid → ℕ → Option View
view_then p log g b = option_map view_of (copy_at g (holds p log b))

-- these looks show bricks of the volume as they stood after a log
pub record Shown (p : Plan) (begun : List Line) (g : Gfid) (looked : Looked) : Type 0 where
  pub within : (b : ℕ) → member looked.reached b ≡ true → b < p.shape.n
  pub seen : (b : ℕ) → member looked.reached b ≡ true → view_at b looked ≡ view_then p begun g b
  pub five : length looked.views ≡ 5

shown_none : (p : Plan) (begun : List Line) (g : Gfid) → Shown p begun g no_looks
shown_none p begun g = record { within = λ b m. absurd (cc m); seen = λ b m. absurd (cc m); five = refl }

shown_more : (p : Plan) (begun : List Line) (g : Gfid) (looked : Looked) (y : ℕ) → p.shape.n ≤ 5 → y < p.shape.n → Shown p begun g looked → Shown p begun g (with_look y (view_then p begun g y) looked)
shown_more p begun g looked y small low h = record {
  within = λ b m. within b (y == b) refl (sym (member_added y looked.reached b) ∙ m);
  seen = λ b m. seen b (y == b) refl (sym (member_added y looked.reached b) ∙ m);
  five = length_after_look y (view_then p begun g y) looked ∙ h.five;
}
  where
    within : (b : ℕ) (same : Bool) → (y == b) ≡ same → (same || member looked.reached b) ≡ true → b < p.shape.n
    within b true e m = subst (λ (x : ℕ). x < p.shape.n) (eqb-true y b e) low
    within b false e m = h.within b m

    seen : (b : ℕ) (same : Bool) → (y == b) ≡ same → (same || member looked.reached b) ≡ true → view_at b (with_look y (view_then p begun g y) looked) ≡ view_then p begun g b
    seen b true e m = subst (λ (x : ℕ). view_at x (with_look y (view_then p begun g y) looked) ≡ view_then p begun g x) (eqb-true y b e) (view_after_look y (view_then p begun g y) looked (let five = h.five in omega (arith, five, low, small)))
    seen b false e m = view_after_other_look y b (view_then p begun g y) looked (λ same. true≢false (sym (let k : (y == b) ≡ true = grind (arith, nat_tests, same) in k) ∙ e)) ∙ h.seen b m

-- a look changes no table
same_look : (p : Plan) (a : ActorId) (y : BrickId) (g : Gfid) (told : Told) (took : Bool) (older : List Line) (b : ℕ) → holds p (Ask a y (Look g) told took ∷ older) b ≡ holds p older b
same_look p a y g told took older b = go took (y.0 == b)
  where
    t : Table
    t = holds p older b

    go : (f here : Bool) → (if f then (if here then t else t) else t) ≡ t
    go true true = refl
    go true false = refl
    go false here = refl

-- what the answer to a look shows
shows_copy : (c : Option Object) (told : Told) (b : ℕ) (looked : Looked) → told ≡ told_by (copy_answer (λ o. answer.Seen (view_of o)) c) → look_shows b told looked ≡ with_look b (option_map view_of c) looked
shows_copy None told b looked e = ap (λ (t : Told). look_shows b t looked) e
shows_copy (Some o) told b looked e = ap (λ (t : Told). look_shows b t looked) e

-- a heal that has begun: since when, and what the first looks show
pub record Begun (p : Plan) (g : Gfid) (still : Bool) (looked : Looked) (w : Work) (now rest : List Line) : Type 0 where
  pub begun : List Line
  pub is : begun_after w ≡ Some begun
  pub shown : Shown p begun g looked
  pub same : still ≡ true → (b : ℕ) → holds p now b ≡ holds p begun b
  pub above : List Line
  pub is_above : begun ≡ above ++ rest
  pub newer : List Line
  pub is_newer : now ≡ newer ++ begun

-- it hasn't begun, or it has
abbrev pub Firsts : Plan → Gfid → Bool → Bool → Looked → Work → List Line → List Line → Type 0
Firsts p g false still looked w now rest = (still ≡ false) × (looked ≡ no_looks) × (begun_after w ≡ None)
Firsts p g true still looked w now rest = Begun p g still looked w now rest

-- what a line adds to the first looks
abbrev Next : Plan → Gfid → List Line → Bool → Bool → List ℕ → Looked → Work → Line → List Line → Type 0
Next p g rest begun still missing looked w line older =
    let s : First = first_after line (record { begun = begun; still = still; missing = missing; looked = looked }) in
    Firsts p g s.begun s.still s.looked ((line, older) ∷ w) (line ∷ older) rest

module _ (p : Plan) (g : Gfid) (kind : Kind) (small : p.shape.n ≤ 5) (rest : List Line) where
  -- the tables stay where the heal goes on to look
  onward : (line : Line) (still after : Bool) (looked : Looked) (w : Work) (older : List Line) → (after ≡ true → (still ≡ true) × ((b : ℕ) → holds p (line ∷ older) b ≡ holds p older b))
      → Begun p g still looked w older rest → Begun p g after looked ((line, older) ∷ w) (line ∷ older) rest
  onward line still after looked w older goes h = record {
    begun = h.begun;
    is = ap (λ (x : Option (List Line)). or_log x (if_begin line older)) h.is;
    shown = h.shown;
    same = λ e b. (goes e).1 b ∙ h.same (goes e).0 b;
    above = h.above;
    is_above = h.is_above;
    newer = line ∷ h.newer;
    is_newer = ap (λ (l : List Line). line ∷ l) h.is_newer;
  }

  stops : (line : Line) (still : Bool) (looked : Looked) (w : Work) (older : List Line) → Begun p g still looked w older rest → Begun p g false looked ((line, older) ∷ w) (line ∷ older) rest
  stops line still looked w older h = onward line still false looked w older (λ e. absurd (true≢false (sym e))) h

  idle : (line : Line) (still : Bool) (looked : Looked) (w : Work) (older : List Line) → if_begin line older ≡ None → Firsts p g false still looked w older rest → Firsts p g false false looked ((line, older) ∷ w) (line ∷ older) rest
  idle line still looked w older none h = (refl, h.1, ap (λ (x : Option (List Line)). or_log x (if_begin line older)) h.2 ∙ none)

  begins : (a : ActorId) (h : Gfid) (k : Kind) (still : Bool) (looked : Looked) (w : Work) (older above : List Line) → older ≡ above ++ rest → Firsts p g false still looked w older rest
      → Begun p g true looked ((HealBegin a h k, older) ∷ w) (HealBegin a h k ∷ older) rest
  begins a h k still looked w older above is f = record {
    begun = older;
    is = ap (λ (x : Option (List Line)). or_log x (Some older)) f.2;
    shown = subst (Shown p older g) (sym f.1) (shown_none p older g);
    same = λ e b. refl;
    above = above;
    is_above = is;
    newer = HealBegin a h k ∷ [];
    is_newer = refl;
  }

  looks : (a : ActorId) (y : BrickId) (h : Gfid) (told : Told) (took : Bool) (looked : Looked) (w : Work) (older : List Line) → Part p g kind (Ask a y (Look h) told took) older → Begun p g true looked w older rest
      → Begun p g true (look_shows y.0 told looked) ((Ask a y (Look h) told took, older) ∷ w) (Ask a y (Look h) told took ∷ older) rest
  looks a y h told took looked w older part f = record {
    begun = f.begun;
    is = ap (λ (x : Option (List Line)). or_log x None) f.is;
    shown = subst (Shown p f.begun g) (sym shows) (shown_more p f.begun g looked y.0 small part.within f.shown);
    same = λ e b. same_look p a y h told took older b ∙ f.same refl b;
    above = f.above;
    is_above = f.is_above;
    newer = Ask a y (Look h) told took ∷ f.newer;
    is_newer = ap (λ (l : List Line). Ask a y (Look h) told took ∷ l) f.is_newer;
  }
    where
      on : h ≡ g
      on = (let e : Some h ≡ Some g = part.on in cc)

      shows : look_shows y.0 told looked ≡ with_look y.0 (view_then p f.begun g y.0) looked
      shows = shows_copy (copy_at h (holds p older y.0)) told y.0 looked (answered p a y (Look h) told took older part.honest part.unfailed).0
          ∙ (λ i. with_look y.0 (option_map view_of (copy_at (on i) (f.same refl y.0 i))) looked)

  first_step : (line : Line) (begun still : Bool) (missing : List ℕ) (looked : Looked) (w : Work) (older above : List Line) → older ≡ above ++ rest → Part p g kind line older → Firsts p g begun still looked w older rest → Next p g rest begun still missing looked w line older
  first_step (HealBegin a h k) false still missing looked w older above is part f = begins a h k still looked w older above is f
  first_step (HealBegin a h k) true still missing looked w older above is part f = stops (HealBegin a h k) still looked w older f
  first_step (Ask a y (Look h) told took) false true missing looked w older above is part f = absurd (true≢false f.0)
  first_step (Ask a y (Look h) told took) false false missing looked w older above is part f = idle (Ask a y (Look h) told took) false looked w older refl f
  first_step (Ask a y (Look h) told took) true true missing looked w older above is part f = looks a y h told took looked w older part f
  first_step (Ask a y (Look h) told took) true false missing looked w older above is part f = stops (Ask a y (Look h) told took) false looked w older f
  first_step (Ask a y (Lock d area) told took) false true missing looked w older above is part f = absurd (true≢false f.0)
  first_step (Ask a y (Lock d area) told took) false false missing looked w older above is part f = idle (Ask a y (Lock d area) told took) false looked w older refl f
  first_step (Ask a y (Lock d area) told took) true still missing looked w older above is part f = stops (Ask a y (Lock d area) told took) still looked w older f
  first_step (Ask a y r told took) false still missing looked w older above is part f = idle (Ask a y r told took) still looked w older refl f
  first_step (Ask a y r told took) true still missing looked w older above is part f = stops (Ask a y r told took) still looked w older f
  first_step (Begin a change) begun still missing looked w older above is part f = absurd part.on
  first_step (End a said) begun still missing looked w older above is part f = absurd part.on
  first_step (HealEnd a h k said) begun still missing looked w older above is part f = absurd part.on
  first_step (Event event) begun still missing looked w older above is part f = absurd part.on

  pub firsts : (ls : List Line) → Parts p g kind ls rest → Firsts p g (first_by (works ls rest)).begun (first_by (works ls rest)).still (first_by (works ls rest)).looked (works ls rest) (ls ++ rest) rest
  firsts [] parts = (refl, refl, refl)
  firsts (line ∷ ls) parts =
      let s : First = first_by (works ls rest) in
      first_step line s.begun s.still s.missing s.looked (works ls rest) (ls ++ rest) ls refl parts.0 (firsts ls parts.1)
