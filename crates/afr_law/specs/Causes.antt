-- An accusation has its cause: a post-op of an attempt that the accused brick missed.
use Rattle.std.specs.Prelude.{◌≡◌, ◌⊎◌, ℕ, ◌<◌, true, List, slice_get, Option, Some}
use Rattle.afr_base.specs.Bricks.{member}
use Rattle.afr_base.specs.declared.ids.Kind.{Kind}
use Rattle.afr_lines.specs.declared.fault.Fault.{Fault}
use Rattle.afr_object.specs.declared.change.Change.{Change}
use Rattle.afr_lines.specs.declared.answer.Told.{Told}
use Rattle.afr_lines.specs.declared.answer.Told.TheVariants.{Done, NotConnected}
use Rattle.afr_lines.specs.declared.line.Line.{Line}
use Rattle.afr_lines.specs.declared.request.Request.TheVariants.{Apply}
use Rattle.afr_model_moves.specs.Honest.{plane_kind}
use Rattle.afr_law.specs.Law.{HonestLog, LawfulLog}
use Rattle.afr_model_moves.specs.Lines.{ask_by, begin_by, post_on}
use Rattle.afr_model_moves.specs.Past.{Beginning, Log, object, pending}

-- before position t brick x carried out a post-op of an attempt on the object and kind, which names brick c as having missed it
pub record Cause (log : Log) (t x c g : ℕ) (kind : Kind) : Type 0 where
  pub p : ℕ
  pub a : ℕ
  pub q : ℕ
  pub missed : List ℕ
  pub told : Told
  pub past : p < t
  pub posted : log p ≡ Some (ask_by a x (post_on q g kind missed) told true)
  -- that it was done may not have been heard
  pub heard : (told ≡ Done) ⊎ (told ≡ NotConnected)
  pub named : member missed c ≡ true
  pub change : Change
  pub earlier : q < p
  pub begun : log q ≡ Some (begin_by a change)
  pub object_same : object change ≡ g
  pub kind_same : plane_kind change ≡ kind
  -- brick c had not told anybody that it did the operation
  pub not_done : (m y : ℕ) → m < p → log m ≡ Some (ask_by y c (Apply q) Done true) → ⊥

-- at each position of an honest and lawful log, what a brick holds against another has a cause
abbrev pub AccusationsHaveCauses : Type 0
AccusationsHaveCauses =
    (n : ℕ) (files : Beginning) (faults : ℕ → ℕ → Option Fault) (lines : List Line)
    → HonestLog files faults lines → LawfulLog n files.keeps lines
    → (t x c g : ℕ) (kind : Kind) → 0 < pending files (slice_get lines) t x c g kind → Cause (slice_get lines) t x c g kind
