-- Acknowledged attempts are kept, of lines by their positions.
use Rattle.std.proofs.Common.{◌≡◌, ℕ, ◌<◌, Bool, true, false, not, ◌⊎◌, inl, inr, refl, sym, ap, ◌∙◌, arith, true≢false}
use Rattle.std.specs.Prelude.{Option, Some, slice_get}
use Rattle.afr_base.specs.Bricks.{member}
use Rattle.afr_lines.specs.declared.fault.Fault.{Fault}
use Rattle.afr_lines.specs.declared.answer.Told.TheVariants.{Done}
use Rattle.afr_lines.specs.declared.line.Line.{Line}
use Rattle.afr_lines.specs.declared.line.Line.TheVariants.{Begin}
use Rattle.afr_model_moves.specs.Cells.{Cell, fits, is_cell, kind_of, object_of}
use Rattle.afr_model_moves.specs.Honest.{Honest}
use Rattle.afr_model_moves.specs.Lines.{post_on}
use Rattle.afr_model_moves.specs.Past.{Beginning, Log, born, changes, object_of_line}
use Rattle.afr_model_moves.specs.Rules.{Lawful, MayPost, present}
use Rattle.afr_law.specs.Safe.{Acknowledged}
use Rattle.afr_law.proofs.Safety.Acks.{Fixed, acknowledged_fixed}
use Rattle.afr_law.proofs.Safety.Acts.{may_ask, post_exact}
use Rattle.afr_law.proofs.Safety.CellHistory.{applied_touch, counts_at, no_change, unfit_acked}
use Rattle.afr_law.proofs.Safety.CellLemmas.{change_plane}
use Rattle.afr_law.proofs.Safety.Numbers.{Applied, Recorded}
use Rattle.afr_law.proofs.Safety.Steps.{honest_whole, lawful_whole}
use Rattle.afr_law_promises.specs.ByPosition.{AcknowledgedIsDurable, DoneAt, KeptAt, SinceAt}
use Rattle.afr_law_promises.proofs.Cell.{stays}

-- the object of an attempt that touches the cell
touched_object : (line : Option Line) (cell : Cell) → changes line cell ≡ true → object_of_line line ≡ object_of cell
touched_object (Some (Begin a change)) cell hit = (change_plane change cell hit).0
touched_object _ cell hit = absurd (true≢false (sym hit))

module _ (n : ℕ) (files : Beginning) (faults : ℕ → ℕ → Option Fault) (log : Log) (honest : Honest files faults log) (lawful : Lawful n files.keeps log) where
  -- a post-op comes after its operation, on its own brick
  recorded_done : (t a x q : ℕ) → x < n → Recorded log t a x q → DoneAt log t x q
  recorded_done t a x q low w = go (post_exact n files.keeps files faults log honest lawful w.p a x q w.g w.kind w.missed Done w.is x low)
    where
      may : MayPost n log w.p a (present n log w.p a) x q w.g w.kind (member w.missed)
      may = may_ask n files.keeps files faults log honest lawful w.p a x (post_on q w.g w.kind w.missed) Done true w.is

      unnamed : member w.missed x ≡ false
      unnamed = may.exact x low ∙ ap not may.ready

      go : (member w.missed x ≡ true) ⊎ Applied log w.p a x q → DoneAt log t x q
      go (inl named) = absurd (true≢false (sym named ∙ unnamed))
      go (inr applied) = record { m = applied.m; a = a; is = applied.is; past = omega (arith, applied.past, w.past) }

  pub kept : (t q : ℕ) → Acknowledged log t q → KeptAt n files log t q
  kept t q acked = record {
    among = fixed.among;
    majority = fixed.majority;
    done = λ b low inside. recorded_done t acked.a b q low (fixed.recorded b inside);
    since = λ b cell did copy hit. by_cell b cell did copy hit (is_cell cell) refl (fits (born files log (object_of cell)) cell) refl;
  }
    where
      fixed : Fixed n log t acked.a q
      fixed = acknowledged_fixed n files.keeps files faults log honest lawful t q acked

      by_cell : (b : ℕ) (cell : Cell) → DoneAt log t b q → files.keeps b (kind_of cell) ≡ true → changes (log q) cell ≡ true → (real : Bool) → is_cell cell ≡ real → (fit : Bool) → fits (born files log (object_of cell)) cell ≡ fit → SinceAt files log t b cell q
      by_cell b cell did copy hit true real true fit = (
          let counts = counts_at n files faults log honest lawful cell real fit t acked.a q fixed hit in
          let put = applied_touch n files faults log honest lawful cell real fit did.a b q did.m did.is hit (touched_object (log q) cell hit) in
          let w = stays n files faults log honest lawful cell real fit t b q did.m copy counts did.past put in
          record { from = w.0; past = w.2; touch = w.3; left = w.4; late = w.1 }
          )
      by_cell b cell did copy hit true real false unfit = absurd (unfit_acked n files faults log honest lawful cell t q unfit acked hit)
      by_cell b cell did copy hit false unreal fit e = absurd (true≢false (sym hit ∙ no_change (log q) cell unreal))

-- the law, of lists of lines
pub durable : AcknowledgedIsDurable
durable n files faults lines honest lawful t q acked = kept n files faults (slice_get lines) (honest_whole files faults lines honest) (lawful_whole n files.keeps lines lawful) t q acked
