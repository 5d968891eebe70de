-- From the looks one by one to the whole log, and the law of copies at every prefix.
use Rattle.std.proofs.Common.{◌≡◌, ℕ, ◌≤◌, ◌-◌, refl, sym, ◌∙◌, subst, arith, List, length, take, length-take}
use Rattle.std.specs.Prelude.{Option, None, Some, slice_get}
use Rattle.afr_lines.specs.declared.fault.Fault.{Fault}
use Rattle.afr_lines.specs.declared.answer.Told.TheVariants.{Seen}
use Rattle.afr_lines.specs.declared.line.Line.{Line}
use Rattle.afr_lines.specs.declared.line.Line.TheVariants.{Ask}
use Rattle.afr_lines.specs.declared.request.Request.TheVariants.{Look}
use Rattle.afr_model_moves.specs.Past.{Beginning, Log, before}
use Rattle.afr_law.specs.Dirty.{ShowsDirty, DirtyShown, TracksDirty, DirtyTracked}
use Rattle.afr_law.proofs.Alike.Raises.{none_below}
use Rattle.afr_law.specs.Alike.{Alike}
use Rattle.afr_law.specs.Law.{HonestLog, LawfulLog, DirtyShownLog, AlikeLog}
use Rattle.afr_law.proofs.Safety.Locks.{before_is}
use Rattle.afr_law.proofs.Safety.Agree.{raised_same, lowered_same, alike_same}
use Rattle.afr_law.proofs.Safety.Steps.{front, honest_whole, lawful_whole}
use Rattle.afr_law.proofs.Alike.Divergence.{undiverged}

-- the dirty numbers at a position are those of the lines before it
shows_here : (files : Beginning) (log : Log) (t : ℕ) (line : Option Line) → ShowsDirty files (before log t) t line → ShowsDirty files log t line
shows_here files log t (Some (Ask a b (Look g) (Seen view) took)) h = λ kind. h kind ∙ (λ i. raised_same (before log t) log t (λ u low. before_is log t u low) files b.0 g.0 kind t (omega arith) i - lowered_same (before log t) log t (λ u low. before_is log t u low) files b.0 g.0 kind t (omega arith) i)
shows_here files log t _ h = tt

pub shown_whole : (files : Beginning) (lines : List Line) → DirtyShownLog files lines → DirtyShown files (slice_get lines)
shown_whole files lines shown t = go (slice_get lines t) refl
  where
    go : (line : Option Line) → slice_get lines t ≡ line → ShowsDirty files (slice_get lines) t (slice_get lines t)
    go None is = rw is tt
    go (Some line) is = rw is (shows_here files (slice_get lines) t (Some line) (shown t line is))

-- looks that show the dirty numbers do so as long as none is below 0
tracks : (files : Beginning) (log : Log) (t : ℕ) (line : Option Line) → ShowsDirty files log t line → TracksDirty files log t line
tracks files log t (Some (Ask a b (Look g) (Seen view) took)) h = λ kind none_below. h kind
tracks files log t _ h = tt

pub tracked : (files : Beginning) (log : Log) → DirtyShown files log → DirtyTracked files log
tracked files log shown t = tracks files log t (log t) (shown t)

pub alike_prefixes : (n : ℕ) (files : Beginning) (faults : ℕ → ℕ → Option Fault) (lines : List Line)
    → HonestLog files faults lines → DirtyShownLog files lines → LawfulLog n files.keeps lines → (i : ℕ) → i ≤ length lines → AlikeLog n files (take i lines)
alike_prefixes n files faults lines honest shown lawful i low =
    let same : length (take i lines) ≡ i = omega (arith, length-take i lines) in
    subst (λ k. Alike n files (slice_get (take i lines)) k) (sym same)
    (alike_same (slice_get lines) (slice_get (take i lines)) i (front lines i) n files (undiverged n files faults (slice_get lines) (honest_whole files faults lines honest) (lawful_whole n files.keeps lines lawful) (tracked files (slice_get lines) (shown_whole files lines shown)) i))
