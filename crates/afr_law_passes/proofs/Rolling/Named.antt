-- A post-op names no brick that had the object when its work began and told that work no fault.
use Rattle.std.proofs.Common.{◌≡◌, ◌≢◌, ◌⊎◌, ℕ, ◌==◌, ◌&&◌, ◌||◌, Bool, true, false, inl, inr, refl, sym, ap, ◌∙◌, subst, List, [], ◌∷◌, if◌then◌else◌, true≢false}
use Rattle.std.proofs.lemmas.Bool.{eqb-true}
use Rattle.std.proofs.lemmas.Bool.Decides.{eqb_tells}
use Rattle.afr_base.specs.Bricks.{member}
use Rattle.afr_base.specs.SetLemmas.{member_added_if}
use Rattle.afr_base.specs.declared.ids.ActorId.{ActorId}
use Rattle.afr_base.specs.declared.ids.BrickId.{BrickId}
use Rattle.afr_base.specs.declared.ids.Gfid.{Gfid}
use Rattle.afr_base.specs.declared.ids.Kind.{Kind}
use Rattle.afr_lines.specs.Work.{Work, is_end, is_of, work}
use Rattle.afr_lines.specs.declared.answer.Told.{Told}
use Rattle.afr_lines.specs.declared.answer.Told.TheVariants.{NoObject}
use Rattle.afr_lines.specs.declared.line.Line.{Line}
use Rattle.afr_lines.specs.declared.line.Line.TheVariants.{Ask}
use Rattle.afr_lines.specs.declared.request.Request.{Request}
use Rattle.afr_lines.specs.declared.request.Request.TheVariants.{Look, Post}
use Rattle.afr_plan.specs.declared.plan.Plan.{Plan}
use Rattle.afr_model.specs.Blamed.{Blames, IsBlaming, misses, missing}
use Rattle.afr_model.specs.Honest.{Honest, IsHonest}
use Rattle.afr_model.specs.Safe.{log_before}
use Rattle.afr_model.specs.Showing.{among, has, is_fault}
use Rattle.afr_model.specs.Standing.{locks_any, since}
use Rattle.afr_model.specs.Sums.{has_object}
use Rattle.afr_law_tables.specs.TableLaws.{copy_stays}
use Rattle.afr_law_quiet.proofs.Copies.Told.{hears}
use Rattle.afr_law_passes.specs.Rolling.Rolling.{FailsNowhere, IsUnfailedAt, ModelNamesMissers, NamesMissers}

-- ---- what a brick missed
-- at this line brick d missed nothing that an operation on the object needs
abbrev IsFine : Gfid → ℕ → Line → Type 0
IsFine g d (Ask a b asked told took) = b.0 ≡ d → misses g asked told ≡ false
IsFine g d line = Unit {0}

-- at none of these
abbrev AreFine : Gfid → ℕ → Work → Type 0
AreFine g d [] = Unit {0}
AreFine g d (x ∷ w) = IsFine g d x.0 × AreFine g d w

fine_line : (g : Gfid) (d : ℕ) (line : Line) (s : List ℕ) → IsFine g d line → member s d ≡ false → member (missing g line s) d ≡ false
fine_line g d (Ask a b asked told took) s fine out = member_added_if (misses g asked told) b.0 s d ∙ go (eqb_tells b.0 d)
  where
    no : (x : Bool) → ((x && false) || false) ≡ false
    no true = refl
    no false = refl

    go : ((b.0 == d) ≡ true) × (b.0 ≡ d) ⊎ ((b.0 == d) ≡ false) × (b.0 ≢ d) → ((misses g asked told && (b.0 == d)) || member s d) ≡ false
    go (inl same) = rw (fine same.1, out) refl
    go (inr other) = rw (other.0, out) (no (misses g asked told))
fine_line g d line s fine out = out

-- so it isn't among those that did, from the first lock on
fine_since : (g : Gfid) (d : ℕ) (w : Work) → AreFine g d w → member (among (missing g) (since locks_any w)) d ≡ false
fine_since g d [] fine = refl
fine_since g d (x ∷ w) fine = go (has locks_any w) (locks_any x.0) (fine_since g d w fine.1)
  where
    go : (before here : Bool) → member (among (missing g) (since locks_any w)) d ≡ false → member (among (missing g) (if before then x ∷ since locks_any w else (if here then x ∷ [] else []))) d ≡ false
    go true here rest = fine_line g d x.0 (among (missing g) (since locks_any w)) fine.0 rest
    go false true rest = fine_line g d x.0 [] fine.0 refl
    go false false rest = refl

-- ---- what a brick tells that has the object
honest_ask : (p : Plan) (g : Gfid) (d : ℕ) (older : List Line) → has_object p older g d ≡ true → (a : ActorId) (b : BrickId) (asked : Request) (told : Told) (took : Bool) → b.0 ≡ d → IsHonest p (Ask a b asked told took) older → is_fault told ≡ false
    → misses g asked told ≡ false
honest_ask p g d older there a b (Look h) NoObject took at honest fine = go (h.0 == g.0) refl
  where
    lacks : has_object p older h d ≡ false
    lacks = subst (λ (x : ℕ). has_object p older h x ≡ false) at (hears p a b (Look h) NoObject took older honest fine).0

    go : (same : Bool) → (h.0 == g.0) ≡ same → same ≡ false
    go true e = (let same : h ≡ g = ap (λ (n : ℕ). record { 0 = n }) (eqb-true h.0 g.0 e) in absurd (true≢false (sym there ∙ subst (λ (x : Gfid). has_object p older x d ≡ false) same lacks)))
    go false e = refl
honest_ask p g d older there a b asked told took at honest fine = fine

honest_fine : (p : Plan) (g : Gfid) (d : ℕ) (line : Line) (older : List Line) → IsHonest p line older → has_object p older g d ≡ true → IsUnfailedAt d line → IsFine g d line
honest_fine p g d (Ask a b asked told took) older honest there free = λ at. honest_ask p g d older there a b asked told took at honest (free at)
honest_fine p g d line older honest there free = tt

-- ---- the lines of a work
-- what a brick had when a work began it has afterwards
begun_has : (p : Plan) (g : Gfid) (d a : ℕ) (log cur : List Line) → (has_object p log g d ≡ true → has_object p cur g d ≡ true) → has_object p (log_before (work a log) cur) g d ≡ true → has_object p cur g d ≡ true
begun_has p g d a [] cur on h = h
begun_has p g d a (line ∷ older) cur on h = go (is_of a line) (is_end line) (begun_has p g d a older older (λ k. k)) (begun_has p g d a older cur (λ k. on (copy_stays p line older d g k))) h
  where
    go : (mine ends : Bool) → (has_object p (log_before (work a older) older) g d ≡ true → has_object p older g d ≡ true) → (has_object p (log_before (work a older) cur) g d ≡ true → has_object p cur g d ≡ true)
        → has_object p (log_before (if mine then (if ends then [] else (line, older) ∷ work a older) else work a older) cur) g d ≡ true → has_object p cur g d ≡ true
    go true true own other h = h
    go true false own other h = on (copy_stays p line older d g (own h))
    go false ends own other h = other h

-- so a work that it told no fault was told by it of no miss
work_fine : (p : Plan) (g : Gfid) (d a : ℕ) (log cur : List Line) → Honest p log → FailsNowhere d (work a log) → has_object p (log_before (work a log) cur) g d ≡ true → AreFine g d (work a log)
work_fine p g d a [] cur honest free h = tt
work_fine p g d a (line ∷ older) cur honest free h = go (is_of a line) (is_end line) (work_fine p g d a older older honest.1) (work_fine p g d a older cur honest.1) free h
  where
    go : (mine ends : Bool) → (FailsNowhere d (work a older) → has_object p (log_before (work a older) older) g d ≡ true → AreFine g d (work a older))
        → (FailsNowhere d (work a older) → has_object p (log_before (work a older) cur) g d ≡ true → AreFine g d (work a older))
        → FailsNowhere d (if mine then (if ends then [] else (line, older) ∷ work a older) else work a older)
        → has_object p (log_before (if mine then (if ends then [] else (line, older) ∷ work a older) else work a older) cur) g d ≡ true
        → AreFine g d (if mine then (if ends then [] else (line, older) ∷ work a older) else work a older)
    go true true own other free h = tt
    go true false own other free h = (honest_fine p g d line older honest.0 (begun_has p g d a older older (λ k. k) h) free.0, own free.1 h)
    go false ends own other free h = other free h

-- ---- who is named
unnamed : (p : Plan) (attempt : ℕ) (g : Gfid) (kind : Kind) (missed : List ℕ) (b : ℕ) (w : Work) → IsBlaming p attempt g kind missed b w → (d : ℕ) → AreFine g d w → member missed d ≡ false
unnamed p attempt g kind missed b w k d fine = go (member missed d) refl
  where
    go : (named : Bool) → member missed d ≡ named → named ≡ false
    go true e = absurd (true≢false (sym (k.why d e) ∙ fine_since g d w fine))
    go false e = refl

line_names : (p : Plan) (line : Line) (older : List Line) → Honest p older → Blames p line older → NamesMissers p line older
line_names p (Ask a b (Post attempt g kind missed) told took) older honest blames =
    λ d low there free. unnamed p attempt g kind missed b.0 (work a.0 older) blames d (work_fine p g d a.0 older older honest free there)
line_names p line older honest blames = tt

pub names_missers : ModelNamesMissers
names_missers p [] honest blamed = tt
names_missers p (line ∷ older) honest blamed = (line_names p line older honest.1 blamed.0, names_missers p older honest.1 blamed.1)
