-- Heals that run: what the engine asks, and where it ends.
use Rattle.std.specs.Prelude.{ℕ, Bool, None, Option, Some, suc, zero}
use Rattle.afr_base.specs.declared.ids.Gfid.{Gfid}
use Rattle.afr_base.specs.declared.ids.Kind.{Kind}
use Rattle.afr_discipline.specs.Turns.{find}
use Rattle.afr_heal.specs.Answers.{asked_for, begun_at, source_after}
use Rattle.afr_heal.specs.Engine.{Ask, Begins, Ends, NextOfHeal, next_of}
use Rattle.afr_lines.specs.declared.answer.Told.{Told}
use Rattle.afr_lines.specs.declared.request.Request.{Request}
use Rattle.afr_model_moves.specs.Register.{Exact}

-- the number that is there, or 0
abbrev pub lowest : Option ℕ → ℕ
lowest None = 0
lowest (Some b) = b

-- the lowest that passes
abbrev pub pick_of : ℕ → (ℕ → Bool) → ℕ
pick_of n p = lowest (find n p)

-- a heal at a moment: its register, its source and the position of its next line
pub record Play : Type 0 where
  pub register : Exact
  pub source : ℕ
  pub at : ℕ

-- after the next line; None where it is the end
abbrev pub advance : ℕ → (ℕ → Kind → Bool) → (ℕ → ℕ → Request → Told) → Gfid → Kind → Play → NextOfHeal → Option Play
advance n keeps answer g kind p (Ask b request) = (let r = asked_for n keeps p.register p.at b request (answer p.at b request) in Some (record { register = r; source = source_after n keeps (pick_of n) r p.source; at = suc p.at }))
advance n keeps answer g kind p Begins = Some (record { register = begun_at n keeps p.register p.at g kind; source = p.source; at = suc p.at })
advance n keeps answer g kind p Ends = None

-- the end, or what comes of the rest
abbrev pub ended_or : Option Play → Option (ℕ × Bool) → (Play → Option (ℕ × Bool)) → Option (ℕ × Bool)
ended_or None ended more = ended
ended_or (Some q) ended more = more q

-- how many lines the heal has, and whether it was broken; None where the fuel is out
abbrev pub run : ℕ → ℕ → (ℕ → Kind → Bool) → (ℕ → ℕ → Request → Told) → Gfid → Kind → Play → Option (ℕ × Bool)
run zero n keeps answer g kind p = None
run (suc fuel) n keeps answer g kind p = ended_or (advance n keeps answer g kind p (next_of n keeps p.register p.source g kind)) (Some (suc p.at, p.register.broken)) (run fuel n keeps answer g kind)
