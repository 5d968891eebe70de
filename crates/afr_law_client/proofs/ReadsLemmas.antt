-- A read before the Begin line leaves a transaction as it was, but for a lock that its session has lost.
use Rattle.std.proofs.Common.{◌≡◌, ℕ, ◌<◌, Bool, List, ◌∷◌, length, refl, sym, ◌∙◌, subst}
use Rattle.afr_base.specs.declared.ids.ActorId.{ActorId}
use Rattle.afr_base.specs.declared.ids.BrickId.{BrickId}
use Rattle.afr_object.specs.declared.change.Change.{Change}
use Rattle.afr_lines.specs.Work.{Work}
use Rattle.afr_lines.specs.declared.answer.Told.{Told}
use Rattle.afr_lines.specs.declared.answer.Told.TheVariants as as_told
use Rattle.afr_lines.specs.declared.line.Line.{Line}
use Rattle.afr_lines.specs.declared.line.Line.TheVariants.{Ask}
use Rattle.afr_lines.specs.declared.request.Request.{Request}
use Rattle.afr_lines.specs.declared.request.Request.TheVariants as request
use Rattle.afr_discipline.specs.Notes.{noted_ask, stayed}
use Rattle.afr_discipline.specs.declared.register.Register.{Register}
use Rattle.afr_plan.specs.declared.plan.Plan.{Plan}
use Rattle.afr_client_transaction.specs.Progress.{TransactionProgress, may_start}
use Rattle.afr_client_transaction.specs.Sound as sound
use Rattle.afr_client_transaction.specs.Sound.{IsBase, Posted, Sound}
use Rattle.afr_client_transaction.specs.declared.stage.Stage.{Stage}
use Rattle.afr_client_transaction.specs.declared.stage.Stage.TheVariants.{Beginning}
use Rattle.afr_client_transaction.proofs.Parts.{base_gone}
use Rattle.afr_client_transaction.proofs.Requests.{after_by, after_outside, noted_is}
use Rattle.afr_law_client.specs.Fits.{ComesLocked, Fits, FitsPhase}
use Rattle.afr_law_client.specs.Reads.{HoldsStill, IsRead, ReadsKept, noted_in}
use Rattle.afr_law_client.specs.Tells.{During, Tells}
use Rattle.afr_law_client.proofs.Calm.{ComesBegun, calm_ask}
use Rattle.afr_law_client.proofs.Excused.{ask_excused}
use Rattle.afr_law_client.proofs.Leaves.{LeavesAll}

-- what a read leaves of the register
record Stays (change : Change) (r q : Register) : Type 0 where
  leaves : LeavesAll q r
  base : IsBase change q
  area_is : q.area ≡ r.area
  starts : may_start q change ≡ may_start r change

abbrev read_outside : Register → ℕ → Told → Register
read_outside r b told = after_by (stayed r) r b told

stays : (change : Change) (r : Register) (b : ℕ) (told : Told) → IsBase change r → Stays change r (read_outside r b told)
stays change r b as_told.NotConnected base = record {
  leaves = record { shape_is = refl; looked_is = refl; begun_is = refl; pre_is = refl; done_is = refl; post_is = refl };
  base = base_gone _ _ _ _ _ _ _ _ _ _ _ _ base b;
  area_is = refl;
  starts = refl;
}
stays change r b told base = record {
  leaves = record { shape_is = refl; looked_is = refl; begun_is = refl; pre_is = refl; done_is = refl; post_is = refl };
  base = base;
  area_is = refl;
  starts = refl;
}

read_same : (r : Register) (b : ℕ) (asked : Request) (told : Told) → IsRead asked → after_outside r b asked told ≡ read_outside r b told
read_same r b (request.ReadName g name) told is = refl
read_same r b (request.List g) told is = refl
read_same r b (request.ReadBytes g from len) told is = refl
read_same r b (request.ReadAttr g key) told is = refl
read_same r b asked told is = absurd is

module _ (p : Plan) (w : Work) (m : TransactionProgress) (a : ActorId) (b : BrickId) (told : Told) (took : Bool) (older : List Line) (small : b.0 < 5) (at_begin : m.stage ≡ Beginning) (s : Sound m) (t : Tells p w m) where
  -- the register's part of a read
  stays_at : (asked : Request) → IsRead asked → Stays m.change m.register (noted_ask m.register (length older) b.0 asked told)
  stays_at asked is =
      subst (λ (q : Register). Stays m.change m.register q) (sym (noted_is m.register (length older) b.0 asked told s.base.outside ∙ read_same m.register b.0 asked told is))
      (stays m.change m.register b.0 told s.base)

  sound_at : (asked : Request) → Stays m.change m.register (noted_ask m.register (length older) b.0 asked told) → Sound (noted_in (length older) b asked told m)
  sound_at asked k = record {
    suits = s.suits;
    base = k.base;
    during = subst (λ (stage : Stage). sound.During stage x) (sym at_begin) (k.area_is ∙ d.0, k.starts ∙ d.1);
    posted = subst (λ (stage : Stage). Posted stage x) (sym at_begin) (k.leaves.post_is ∙ q);
    ready = subst (λ (stage : Stage). sound.Ready stage x) (sym at_begin) tt;
  }
    where
      x : TransactionProgress
      x = noted_in (length older) b asked told m

      d : sound.During Beginning m
      d = subst (λ (stage : Stage). sound.During stage m) at_begin s.during

      q : Posted Beginning m
      q = subst (λ (stage : Stage). Posted stage m) at_begin s.posted

  d : During Beginning p.shape m w
  d = subst (λ (stage : Stage). During stage p.shape m w) at_begin t.during

  tells_at : (asked : Request) → IsRead asked → Stays m.change m.register (noted_ask m.register (length older) b.0 asked told) → Tells p ((Ask a b asked told took, older) ∷ w) (noted_in (length older) b asked told m)
  tells_at (request.ReadName g name) is k = record {
    shape_is = k.leaves.shape_is ∙ t.shape_is;
    sets = record {
      asked = t.sets.asked;
      granted = t.sets.granted;
      prepared = k.leaves.pre_is ∙ t.sets.prepared;
      applied = k.leaves.done_is ∙ t.sets.applied;
      posted = k.leaves.post_is ∙ t.sets.posted;
      number = k.leaves.begun_is ∙ t.sets.number;
    };
    alone = record { unlocked = t.alone.unlocked; looked = t.alone.looked };
    during = subst (λ (stage : Stage). During stage p.shape (noted_in (length older) b (request.ReadName g name) told m) ((Ask a b (request.ReadName g name) told took, older) ∷ w)) (sym at_begin)
        (record { idle = d.idle; allows = d.allows; looks = record { shows = k.leaves.looked_is ∙ d.looks.shows; at = d.looks.at } });
  }
  tells_at (request.List g) is k = record {
    shape_is = k.leaves.shape_is ∙ t.shape_is;
    sets = record {
      asked = t.sets.asked;
      granted = t.sets.granted;
      prepared = k.leaves.pre_is ∙ t.sets.prepared;
      applied = k.leaves.done_is ∙ t.sets.applied;
      posted = k.leaves.post_is ∙ t.sets.posted;
      number = k.leaves.begun_is ∙ t.sets.number;
    };
    alone = record { unlocked = t.alone.unlocked; looked = t.alone.looked };
    during = subst (λ (stage : Stage). During stage p.shape (noted_in (length older) b (request.List g) told m) ((Ask a b (request.List g) told took, older) ∷ w)) (sym at_begin)
        (record { idle = d.idle; allows = d.allows; looks = record { shows = k.leaves.looked_is ∙ d.looks.shows; at = d.looks.at } });
  }
  tells_at (request.ReadBytes g from len) is k = record {
    shape_is = k.leaves.shape_is ∙ t.shape_is;
    sets = record {
      asked = t.sets.asked;
      granted = t.sets.granted;
      prepared = k.leaves.pre_is ∙ t.sets.prepared;
      applied = k.leaves.done_is ∙ t.sets.applied;
      posted = k.leaves.post_is ∙ t.sets.posted;
      number = k.leaves.begun_is ∙ t.sets.number;
    };
    alone = record { unlocked = t.alone.unlocked; looked = t.alone.looked };
    during = subst (λ (stage : Stage). During stage p.shape (noted_in (length older) b (request.ReadBytes g from len) told m) ((Ask a b (request.ReadBytes g from len) told took, older) ∷ w)) (sym at_begin)
        (record { idle = d.idle; allows = d.allows; looks = record { shows = k.leaves.looked_is ∙ d.looks.shows; at = d.looks.at } });
  }
  tells_at (request.ReadAttr g key) is k = record {
    shape_is = k.leaves.shape_is ∙ t.shape_is;
    sets = record {
      asked = t.sets.asked;
      granted = t.sets.granted;
      prepared = k.leaves.pre_is ∙ t.sets.prepared;
      applied = k.leaves.done_is ∙ t.sets.applied;
      posted = k.leaves.post_is ∙ t.sets.posted;
      number = k.leaves.begun_is ∙ t.sets.number;
    };
    alone = record { unlocked = t.alone.unlocked; looked = t.alone.looked };
    during = subst (λ (stage : Stage). During stage p.shape (noted_in (length older) b (request.ReadAttr g key) told m) ((Ask a b (request.ReadAttr g key) told took, older) ∷ w)) (sym at_begin)
        (record { idle = d.idle; allows = d.allows; looks = record { shows = k.leaves.looked_is ∙ d.looks.shows; at = d.looks.at } });
  }
  tells_at asked is k = absurd is

  -- a read comes neither after the locks nor after the Begin line, and any answer fits it
  record IsFree (asked : Request) : Type 0 where
    fits : Fits asked told
    locked : ComesLocked asked w
    phase : FitsPhase asked told
    begun : ComesBegun asked w

  free : (asked : Request) → IsRead asked → IsFree asked
  free (request.ReadName g name) is = record { fits = tt; locked = tt; phase = tt; begun = tt }
  free (request.List g) is = record { fits = tt; locked = tt; phase = tt; begun = tt }
  free (request.ReadBytes g from len) is = record { fits = tt; locked = tt; phase = tt; begun = tt }
  free (request.ReadAttr g key) is = record { fits = tt; locked = tt; phase = tt; begun = tt }
  free asked is = absurd is

  pub holds : (asked : Request) → IsRead asked → HoldsStill p w ((Ask a b asked told took, older) ∷ w) (noted_in (length older) b asked told m)
  holds asked is =
      let k = stays_at asked is in
      let f = free asked is in
      record {
        sound = sound_at asked k;
        tells = tells_at asked is k;
        excused = ask_excused a b asked told took older w f.fits f.phase f.locked small;
        calm = calm_ask a b asked told took older w f.begun f.phase;
      }

pub reads_kept : ReadsKept
reads_kept p w m a b asked told took older small is at_begin s t = holds p w m a b told took older small at_begin s t asked is
