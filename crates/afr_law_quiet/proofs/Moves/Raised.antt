-- What each request of a heal leaves of the bricks where its Pre was done.
use Rattle.std.proofs.Common.{◌≡◌, ℕ, Bool, true, false, ◌||◌, refl, ◌∙◌, List}
use Rattle.std.specs.Prelude.{if◌then◌else◌, ◌==◌}
use Rattle.afr_base.specs.Bricks.{added_if, member}
use Rattle.afr_base.specs.SetLemmas.{member_added}
use Rattle.afr_base.specs.declared.ids.Gfid.{Gfid}
use Rattle.afr_base.specs.declared.ids.Kind.{Kind}
use Rattle.afr_lines.specs.declared.answer.Told.{Told}
use Rattle.afr_lines.specs.declared.answer.Told.TheVariants.{Done, NotConnected, Seen}
use Rattle.afr_lines.specs.declared.request.Request.{Request}
use Rattle.afr_lines.specs.declared.request.Request.TheVariants.{Apply, Index, List as ListNames, Lock, Look, Mend, Post, Pre, ReadAttr, ReadAttrs, ReadBytes, ReadName, Settle, Unlock}
use Rattle.afr_lines.specs.declared.lock.Domain.TheVariants.{Heal, Work as WorkDomain}
use Rattle.afr_model.specs.Showing.{is_done as done_by}
use Rattle.afr_model_moves.proofs.Tests.{turned}
use Rattle.afr_model_moves.specs.Past.{is_gone}
use Rattle.afr_model_moves.specs.Rules as weak
use Rattle.afr_model_moves.specs.Rules.{Register}
use Rattle.afr_law.proofs.Discipline.AskFields.{frees_heal, frees_work, heal_locked, sees, work_locked}

-- ---- what a request leaves of the bricks that were raised
abbrev pub IsNoPre : Request → Type 0
IsNoPre (Pre g kind) = ⊥
IsNoPre request = Unit {0}

dropped_raised : (w s : Register) (gone : Bool) (b : ℕ) → s.raised ≡ w.raised → (weak.dropping gone b s).raised ≡ w.raised
dropped_raised w s true b k = k
dropped_raised w s false b k = k

pub raised_after : (n : ℕ) (w : Register) (b : ℕ) (request : Request) (told : Told) → IsNoPre request → (weak.dropping (is_gone told) b (weak.note_ask n w b request told)).raised ≡ w.raised
raised_after n w b (Lock Heal area) told h = (heal_locked n w b area told).rest.raised
raised_after n w b (Lock WorkDomain area) told h = (work_locked n w b area told).rest.raised
raised_after n w b (Unlock WorkDomain area) told h = dropped_raised w (weak.note_ask n w b (Unlock WorkDomain area) told) (is_gone told) b (frees_work n w b area told).0.rest.raised
raised_after n w b (Unlock Heal area) told h = dropped_raised w (weak.note_ask n w b (Unlock Heal area) told) (is_gone told) b (frees_heal n w b area told).rest.raised
raised_after n w b (Look g) told h = dropped_raised w (weak.note_ask n w b (Look g) told) (is_gone told) b (seen told)
  where
    seen : (d : Told) → (weak.note_ask n w b (Look g) d).raised ≡ w.raised
    seen (Seen view) = (sees w b g.0 view).raised
    seen _ = refl
raised_after n w b (Pre g kind) told h = absurd h
raised_after n w b (Mend repair) told h = dropped_raised w (weak.note_ask n w b (Mend repair) told) (is_gone told) b (done told)
  where
    done : (d : Told) → (weak.note_ask n w b (Mend repair) d).raised ≡ w.raised
    done Done = refl
    done _ = refl
raised_after n w b (Settle g kind down) told h = dropped_raised w (weak.note_ask n w b (Settle g kind down) told) (is_gone told) b (done told)
  where
    done : (d : Told) → (weak.note_ask n w b (Settle g kind down) d).raised ≡ w.raised
    done Done = refl
    done _ = refl
raised_after n w b (Apply q) told h = dropped_raised w (weak.note_ask n w b (Apply q) told) (is_gone told) b (done told)
  where
    done : (d : Told) → (weak.note_ask n w b (Apply q) d).raised ≡ w.raised
    done Done = refl
    done _ = refl
raised_after n w b (Post q g kind missed) told h = dropped_raised w (weak.note_ask n w b (Post q g kind missed) told) (is_gone told) b (done told)
  where
    done : (d : Told) → (weak.note_ask n w b (Post q g kind missed) d).raised ≡ w.raised
    done Done = refl
    done _ = refl
raised_after n w b (ReadBytes g at len) told h = dropped_raised w w (is_gone told) b refl
raised_after n w b (ReadName g name) told h = dropped_raised w w (is_gone told) b refl
raised_after n w b (ListNames g) told h = dropped_raised w w (is_gone told) b refl
raised_after n w b (ReadAttr g key) told h = dropped_raised w w (is_gone told) b refl
raised_after n w b (ReadAttrs g) told h = dropped_raised w w (is_gone told) b refl
raised_after n w b Index told h = dropped_raised w w (is_gone told) b refl

-- a Pre that was done raises its brick
pub pre_raises : (n : ℕ) (w : Register) (b : ℕ) (g : Gfid) (kind : Kind) (told : Told) (prepares : List ℕ) → ((x : ℕ) → member prepares x ≡ w.raised x) → (x : ℕ) → member (added_if (done_by told) b prepares) x ≡ (weak.dropping (is_gone told) b (weak.note_ask n w b (Pre g kind) told)).raised x
pre_raises n w b g kind Done prepares k x = member_added b prepares x ∙ go (x == b) refl
  where
    go : (hit : Bool) → (x == b) ≡ hit → ((b == x) || member prepares x) ≡ (if hit then true else w.raised x)
    go true h = rw (turned b x, h) refl
    go false h = rw (turned b x, h) (k x)
pre_raises n w b g kind NotConnected prepares k x = k x
pre_raises n w b g kind _ prepares k x = k x
