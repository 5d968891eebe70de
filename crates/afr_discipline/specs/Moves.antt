-- What the discipline says of one move of one actor, and what the move leaves in its register.
use Rattle.std.specs.Prelude.{◌≡◌, ℕ, ◌<◌, Bool, true, ◌⊎◌, if◌then◌else◌, Some}
use Rattle.afr_base.specs.declared.ids.Kind.{Kind}
use Rattle.afr_lines.specs.declared.answer.Told.{Told}
use Rattle.afr_model_moves.specs.Lines.{ask_by, begin_by, heal_begin_by}
use Rattle.afr_model_moves.specs.Discipline.{MayAskExactly, note}
use Rattle.afr_model_moves.specs.Register.{Exact, untouched}
use Rattle.afr_model_moves.specs.Transaction.{MayBegin, MayEnd}
use Rattle.afr_model_moves.specs.Heal.{MayHealBegin, MayHealEnd}
use Rattle.afr_discipline.specs.declared.register.Move.{Move}
use Rattle.afr_discipline.specs.declared.register.Move.TheVariants.{Ask, Begin, HealBegin, End}

-- a test is true exactly where the fact holds
pub record IffTrue (test : Bool) (Fact : Type 0) : Type 0 where
  pub yes : test ≡ true → Fact
  pub complete : Fact → test ≡ true

-- the discipline allows the move; an end in a heal is the heal's
abbrev pub MayMove : ℕ → (ℕ → Kind → Bool) → Exact → Move → Type 0
MayMove n keeps r (Ask b request) = (b.0 < n) × MayAskExactly n keeps r b.0 request.now
MayMove n keeps r (Begin change) = MayBegin n keeps r change.now
MayMove n keeps r (HealBegin g kind) = MayHealBegin n r g.0 kind
MayMove n keeps r (End ok) = MayEnd n r ok ⊎ MayHealEnd n r

-- what the move leaves, answered with this, at position t
abbrev pub note_move : ℕ → (ℕ → Kind → Bool) → Exact → Move → Told → ℕ → Exact
note_move n keeps r (Ask b request) told t = note n keeps r t (Some (ask_by 0 b.0 request.now told true))
note_move n keeps r (Begin change) told t = note n keeps r t (Some (begin_by 0 change.now))
note_move n keeps r (HealBegin g kind) told t = note n keeps r t (Some (heal_begin_by 0 g.0 kind))
note_move n keeps r (End ok) told t = if r.law.heal then untouched else r
