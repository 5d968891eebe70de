-- Folds that begin anew at some line don't see what is before it.
use Rattle.std.proofs.Common.{◌≡◌, ℕ, ◌||◌, Bool, true, false, List, [], ◌∷◌, ◌++◌, refl, sym, ◌∙◌, ap, Option, true≢false}
use Rattle.afr_base.specs.declared.ids.Gfid.{Gfid}
use Rattle.afr_base.proofs.TestLemmas.{or_second, neither_second, neither_first}
use Rattle.afr_choice.specs.declared.looked.Looked.{Looked}
use Rattle.afr_object.specs.declared.change.Change.{Change}
use Rattle.afr_lines.specs.Log.{change_of}
use Rattle.afr_lines.specs.Work.{Work}
use Rattle.afr_lines.specs.declared.line.Line.{Line}
use Rattle.afr_lines.specs.declared.line.Line.TheVariants.{Ask, Begin}
use Rattle.afr_lines.specs.declared.request.Request.TheVariants as request
use Rattle.afr_lines.specs.declared.lock.Domain.TheVariants.{Work as WorkDomain}
use Rattle.afr_model.specs.Showing.{among, applied_at, applying, begins_attempt, begun_after, begun_by, has, locks, looked_after, looked_by, posted, posting, prepared}
use Rattle.afr_model.specs.Standing.{change_after, change_by}

-- ---- tests of a whole work
-- a line of two lists is in one of them
pub has_first : (test : Line → Bool) (s t : Work) → has test t ≡ false → has test (s ++ t) ≡ true → has test s ≡ true
has_first test [] t none h = absurd (true≢false (sym h ∙ none))
has_first test (x ∷ s) t none h = go (test x.0) h (λ k. has_first test s t none k)
  where
    go : (now : Bool) → (now || has test (s ++ t)) ≡ true → (has test (s ++ t) ≡ true → has test s ≡ true) → (now || has test s) ≡ true
    go true k rest = refl
    go false k rest = rest k

-- ---- folds
-- a fold that is one value at each line which passes
pub same_fold : {A : Type 0} (test : Line → Bool) (step : Line → List Line → A → A) (fold : Work → A)
    → ((x : Line × List Line) (w : Work) → fold (x ∷ w) ≡ step x.0 x.1 (fold w)) → ((line : Line) (older : List Line) (s t : A) → test line ≡ true → step line older s ≡ step line older t)
    → (s u t : Work) → has test s ≡ true → fold (s ++ u) ≡ fold (s ++ t)
same_fold test step fold unfolds anew [] u t h = absurd (cc h)
same_fold test step fold unfolds anew (x ∷ s) u t h = unfolds x (s ++ u) ∙ go (test x.0) refl (λ k. same_fold test step fold unfolds anew s u t k) ∙ sym (unfolds x (s ++ t))
  where
    go : (passes : Bool) → test x.0 ≡ passes → (has test s ≡ true → fold (s ++ u) ≡ fold (s ++ t)) → step x.0 x.1 (fold (s ++ u)) ≡ step x.0 x.1 (fold (s ++ t))
    go true e rest = anew x.0 x.1 (fold (s ++ u)) (fold (s ++ t)) e
    go false e rest = ap (step x.0 x.1) (rest (or_second (test x.0) (has test s) e h))

-- ---- the attempt
begun_anew : (line : Line) (older : List Line) (s t : Option ℕ) → begins_attempt line ≡ true → begun_after line older s ≡ begun_after line older t
begun_anew (Begin a change) older s t e = refl
begun_anew line older s t e = absurd (cc e)

change_anew : (line : Line) (older : List Line) (s t : Option Change) → begins_attempt line ≡ true → change_after (change_of line) s ≡ change_after (change_of line) t
change_anew (Begin a change) older s t e = refl
change_anew line older s t e = absurd (cc e)

prepared_anew : (line : Line) (older : List Line) (s t : List ℕ) → begins_attempt line ≡ true → prepared line s ≡ prepared line t
prepared_anew (Begin a change) older s t e = refl
prepared_anew line older s t e = absurd (cc e)

applying_anew : (line : Line) (older : List Line) (s t : List ℕ) → begins_attempt line ≡ true → applying line s ≡ applying line t
applying_anew (Begin a change) older s t e = refl
applying_anew line older s t e = absurd (cc e)

applied_anew : (line : Line) (older : List Line) (s t : List ℕ) → begins_attempt line ≡ true → applied_at line s ≡ applied_at line t
applied_anew (Begin a change) older s t e = refl
applied_anew line older s t e = absurd (cc e)

posting_anew : (line : Line) (older : List Line) (s t : List ℕ) → begins_attempt line ≡ true → posting line s ≡ posting line t
posting_anew (Begin a change) older s t e = refl
posting_anew line older s t e = absurd (cc e)

posted_anew : (line : Line) (older : List Line) (s t : List ℕ) → begins_attempt line ≡ true → posted line s ≡ posted line t
posted_anew (Begin a change) older s t e = refl
posted_anew line older s t e = absurd (cc e)

module _ (s u t : Work) (begins : has begins_attempt s ≡ true) where
  pub same_begun : begun_by (s ++ u) ≡ begun_by (s ++ t)
  same_begun = same_fold begins_attempt begun_after begun_by (λ x w. refl) begun_anew s u t begins

  pub same_change : change_by (s ++ u) ≡ change_by (s ++ t)
  same_change = same_fold begins_attempt (λ line older was. change_after (change_of line) was) change_by (λ x w. refl) change_anew s u t begins

  pub same_prepared : among prepared (s ++ u) ≡ among prepared (s ++ t)
  same_prepared = same_fold begins_attempt (λ line older was. prepared line was) (among prepared) (λ x w. refl) prepared_anew s u t begins

  pub same_applying : among applying (s ++ u) ≡ among applying (s ++ t)
  same_applying = same_fold begins_attempt (λ line older was. applying line was) (among applying) (λ x w. refl) applying_anew s u t begins

  pub same_applied : among applied_at (s ++ u) ≡ among applied_at (s ++ t)
  same_applied = same_fold begins_attempt (λ line older was. applied_at line was) (among applied_at) (λ x w. refl) applied_anew s u t begins

  pub same_posting : among posting (s ++ u) ≡ among posting (s ++ t)
  same_posting = same_fold begins_attempt (λ line older was. posting line was) (among posting) (λ x w. refl) posting_anew s u t begins

  pub same_posted : among posted (s ++ u) ≡ among posted (s ++ t)
  same_posted = same_fold begins_attempt (λ line older was. posted line was) (among posted) (λ x w. refl) posted_anew s u t begins

-- ---- the looks
locked_anew : (g : Gfid) (line : Line) (older : List Line) (s t : Looked) → locks g line ≡ true → looked_after g line s ≡ looked_after g line t
locked_anew g (Ask a b (request.Lock WorkDomain area) told took) older s t e = rw e refl
locked_anew g line older s t e = absurd (cc e)

pub same_looks : (g : Gfid) (s u t : Work) → has (locks g) s ≡ true → looked_by g (s ++ u) ≡ looked_by g (s ++ t)
same_looks g s u t locked = same_fold (locks g) (λ line older was. looked_after g line was) (looked_by g) (λ x w. refl) (locked_anew g) s u t locked

-- ---- without an attempt
-- lines that begin none leave the change as it was
no_change : (line : Line) (was : Option Change) → begins_attempt line ≡ false → change_after (change_of line) was ≡ was
no_change (Begin a change) was e = absurd (true≢false e)
no_change line was e = refl

pub unbegun_change : (s u : Work) → has begins_attempt s ≡ false → change_by (s ++ u) ≡ change_by u
unbegun_change [] u e = refl
unbegun_change (x ∷ s) u e = no_change x.0 (change_by (s ++ u)) (neither_first (begins_attempt x.0) (has begins_attempt s) e) ∙ unbegun_change s u (neither_second (begins_attempt x.0) (has begins_attempt s) e)
