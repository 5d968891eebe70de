-- A heal's lines keep the shape of its register, and its round says them.
use Rattle.std.proofs.Common.{◌≡◌, ◌∙◌, ℕ, Bool, true, refl, ap, is_some, sym}
use Rattle.afr_base.specs.declared.ids.BrickId.{BrickId}
use Rattle.afr_base.specs.declared.ids.Gfid.{Gfid}
use Rattle.afr_base.specs.declared.ids.Kind.{Kind}
use Rattle.afr_base.specs.declared.ids.Shape.{Shape}
use Rattle.afr_discipline.specs.Laws.{ShapesKept}
use Rattle.afr_discipline.specs.declared.register.Move.TheVariants as move
use Rattle.afr_heal.specs.Engine.{Ask, Begins, Ends, NextOfHeal}
use Rattle.afr_heal_round.specs.List.Round.{RoundProgress}
use Rattle.afr_heal_round.specs.Rounding.{Rounding, heal_at, is_beginning, is_ending, next_at, reply_of}
use Rattle.afr_heal_round.specs.Rounding as round
use Rattle.afr_heal_round.specs.declared.stage.RoundStage.{RoundStage}
use Rattle.afr_heal_round.specs.declared.stage.RoundStage.TheVariants as stage_of
use Rattle.afr_lines.specs.Told.{told_by}
use Rattle.afr_lines.specs.declared.line.Next.TheVariants as next
use Rattle.afr_lines.specs.declared.reply.HealReply.{HealReply}
use Rattle.afr_lines.specs.declared.reply.Reply.{Reply}
use Rattle.afr_lines.specs.declared.request.Request.{Request}
use Rattle.afr_lines.specs.declared.answer.Answer.{Answer}
use Rattle.afr_lines.specs.declared.answer.Told.TheVariants.{Done}
use Rattle.afr_rule.specs.Choosing.{Calls}
use Rattle.afr_heal_machine.specs.Outcome as outcome
use Rattle.afr_heal_machine.specs.Healing.{Healing, IsFed, begun, coming, line_of, next_of}

pub shape_heard : ShapesKept → {F : Type 0} (calls : Calls F) (choose : F) (answer : Answer) (at : ℕ) (old new : Healing) → IsFed calls choose answer at old new → new.register.shape ≡ old.register.shape
shape_heard shapes calls choose answer at old new k =
    ap (λ (m : Healing). m.register.shape) k.value ∙ shapes old.register (move.Ask (record { 0 = k.brick }) (record { ref_ptr = (0, 0); now = k.request })) (told_by answer) at

pub shape_begun : ShapesKept → (at : ℕ) (m : Healing) → (begun at m).register.shape ≡ m.register.shape
shape_begun shapes at m = shapes m.register (move.HealBegin m.gfid m.kind) Done at

-- the request of the next line is the engine's
pub line_asks : (m : Healing) (b : BrickId) (request : Request) → next_of m ≡ next.Ask b request → coming m ≡ Ask b.0 request
line_asks m b request e = by (coming m) refl e
  where
    by : (n : NextOfHeal) → coming m ≡ n → line_of m n ≡ next.Ask b request → coming m ≡ Ask b.0 request
    by (Ask x other) is e =
        let first : record { 0 = x } ≡ b = cc e in
        let second : other ≡ request = cc e in
        is ∙ (λ i. Ask (first i).0 (second i))
    by Begins is e = absurd (cc e)
    by Ends is e = absurd (cc e)

-- the line that begins a part is the engine's
pub begins_part : (m : Healing) → is_beginning (next_of m) ≡ true → coming m ≡ Begins
begins_part m k = by (coming m) refl k
  where
    by : (n : NextOfHeal) → coming m ≡ n → is_beginning (line_of m n) ≡ true → coming m ≡ Begins
    by (Ask b request) e k = absurd (cc k)
    by Begins e k = e
    by Ends e k = absurd (cc k)

-- the line that ends a heal is a heal's
pub ends_heal : (b : BrickId) (stage : RoundStage) → is_ending (next_at b stage) ≡ true → is_some (heal_at stage) ≡ true
ends_heal b (stage_of.Asking heals) k = absurd (cc k)
ends_heal b (stage_of.Healing m) k = refl
ends_heal b (stage_of.Over refused) k = absurd (cc k)

-- the reply of that line is the heal's
pub ends_so : (m : Healing) (g : Gfid) (kind : Kind) (said : HealReply) → next_of m ≡ next.HealEnd g kind said → outcome.reply_of m.outcome m.register.seen ≡ said
ends_so m g kind said e = by (coming m) e
  where
    by : (n : NextOfHeal) → line_of m n ≡ next.HealEnd g kind said → outcome.reply_of m.outcome m.register.seen ≡ said
    by (Ask b request) e = absurd (cc e)
    by Begins e = absurd (cc e)
    by Ends e = cc e

-- a heal doesn't end its round
never_ends : (m : Healing) (said : Reply) (n : NextOfHeal) → line_of m n ≡ next.End said → ⊥
never_ends m said (Ask b request) e = absurd (cc e)
never_ends m said Begins e = absurd (cc e)
never_ends m said Ends e = absurd (cc e)

-- a round that ends is over, and says so
pub ends_over : (b : BrickId) (stage : RoundStage) (said : Reply) → next_at b stage ≡ next.End said → (refused : Bool) × (stage ≡ stage_of.Over refused) × (reply_of refused ≡ said)
ends_over b (stage_of.Asking heals) said e = absurd (cc e)
ends_over b (stage_of.Healing m) said e = absurd (never_ends m said (coming m) e)
ends_over b (stage_of.Over refused) said e = (refused, refl, cc e)

-- a HealBegin line is noted by the heal that the round is at
pub begun_on : (at : ℕ) (shape : Shape) (r : RoundProgress) (stage : RoundStage) (h after : Healing) → stage ≡ stage_of.Healing h → after ≡ begun at h
    → ◌≡◌ {A = Rounding} (record { shape = shape; round = r; stage = stage_of.Healing after }) (round.begun at (record { shape = shape; round = r; stage = stage }))
begun_on at shape r stage h after is by = ap there (ap stage_of.Healing by ∙ ap (round.begun_at at) (sym is))
  where
    there : RoundStage → Rounding
    there stage = record { shape = shape; round = r; stage = stage }

-- a HealBegin line leaves a round as it was where it is at no heal
pub begun_still : (at : ℕ) (m : Rounding) → ((h : Healing) → m.stage ≡ stage_of.Healing h → ⊥) → m ≡ round.begun at m
begun_still at m never = ap (λ (stage : RoundStage). record m { stage = stage }) (by m.stage never)
  where
    by : (stage : RoundStage) → ((h : Healing) → stage ≡ stage_of.Healing h → ⊥) → stage ≡ round.begun_at at stage
    by (stage_of.Asking heals) never = refl
    by (stage_of.Healing h) never = absurd (never h refl)
    by (stage_of.Over refused) never = refl

-- a round that is at a heal is not at none
pub at_heal : (stage : RoundStage) → is_some (heal_at stage) ≡ true → ((h : Healing) → stage ≡ stage_of.Healing h → ⊥) → ⊥
at_heal (stage_of.Asking heals) k never = absurd (cc k)
at_heal (stage_of.Healing h) k never = never h refl
at_heal (stage_of.Over refused) k never = absurd (cc k)
