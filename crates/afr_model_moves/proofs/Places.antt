-- Where an actor stands in its works: by positions, and by the list of lines.
use Rattle.std.proofs.Common.{◌≡◌, ℕ, zero, suc, ◌<◌, ◌≤◌, Bool, true, false, refl, arith, List, [], ◌∷◌, length}
use Rattle.std.specs.Prelude.{Some, if◌then◌else◌}
use Rattle.afr_lines.specs.Places as session
use Rattle.afr_lines.specs.Places.{Place, Fresh, Indexed, Between, Within, next_place, place_of}
use Rattle.afr_lines.specs.Work as work
use Rattle.afr_lines.specs.declared.line.Line.{Line}
use Rattle.afr_lines.specs.declared.line.Line.TheVariants.{Ask, Begin, HealBegin, End, HealEnd}
use Rattle.afr_lines.specs.declared.line.Line.TheVariants as line_of
use Rattle.afr_lines.specs.declared.request.Request.TheVariants.{Lock}
use Rattle.afr_lines.specs.declared.lock.Domain.TheVariants.{Work, Heal}
use Rattle.afr_model_moves.specs.Past.{Log, is_of, place, place_after, opens}
use Rattle.afr_model_moves.proofs.ByPosition.{IsPast}

-- whose line it is
pub of_same : (a : ℕ) (line : Line) → is_of a (Some line) ≡ work.is_of a line
of_same a (Ask x b request told took) = refl
of_same a (Begin x change) = refl
of_same a (HealBegin x g kind) = refl
of_same a (End x reply) = refl
of_same a (HealEnd x g kind reply) = refl
of_same a (line_of.Event e) = refl

heal_lock_same : (line : Line) → Rattle.afr_model_moves.specs.Past.is_heal_lock (Some line) ≡ session.is_heal_lock line
heal_lock_same (Ask x b (Lock Heal area) told took) = refl
heal_lock_same (Ask x b (Lock Work area) told took) = refl
heal_lock_same (Ask x b _ told took) = refl
heal_lock_same (Begin x change) = refl
heal_lock_same (HealBegin x g kind) = refl
heal_lock_same (End x reply) = refl
heal_lock_same (HealEnd x g kind reply) = refl
heal_lock_same (line_of.Event e) = refl

-- whether a line opens a work or a heal
pub opens_same : (p : Place) (line : Line) → opens p (Some line) ≡ session.opens p line
unfolding opens
opens_same Fresh line = refl
opens_same Indexed line = heal_lock_same line
opens_same Between line = heal_lock_same line
opens_same Within line = refl

-- the place of an actor after the lines of a list
pub place_is : (L : Log) (a : ℕ) (older : List Line) → IsPast L older → place L (length older) a ≡ place_of a older
unfolding place
place_is L a [] h = refl
place_is L a (line ∷ older) h = rw (h.0, of_same a line, place_is L a older h.1) (go (work.is_of a line))
  where
    go : (mine : Bool) → place_after mine (place_of a older) (Some line) ≡ (if mine then next_place (place_of a older) line else place_of a older)
    go true = refl
    go false = refl

-- it rests on the lines before alone
pub place_same : (log other : Log) (m : ℕ) → ((u : ℕ) → u < m → log u ≡ other u) → (a t : ℕ) → t ≤ m → place log t a ≡ place other t a
unfolding place
place_same log other m agree a zero h = refl
place_same log other m agree a (suc t) h = λ i. place_after (is_of a (agree t h i)) (place_same log other m agree a t (omega (arith, h)) i) (agree t h i)
