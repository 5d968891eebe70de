-- A heal of attributes that runs to its end is allowed line by line, and lines out of turn are refused.
use Rattle.afr_base.specs.declared.ids.Gfid.{Gfid}
use Rattle.afr_base.specs.declared.ids.Kind.TheVariants.{Attrs}
use Rattle.afr_base.specs.declared.ids.What.TheVariants.{File}
use Rattle.afr_base.specs.declared.marks.Marks.{Marks}
use Rattle.afr_model_moves.specs.Discipline.{exact, present}
use Rattle.afr_model_moves.specs.Heal.{MayHeal, MayHealBegin, MayHealEnd}
use Rattle.afr_model_moves.specs.Register.{Exact}
use Rattle.afr_model_moves.specs.Steps.{may_heal}
use Rattle.afr_model_moves.specs.Transaction.{MayOpen}
use Rattle.afr_model_moves.specs.Lines.{ask_by, heal_begin_by, heal_end_by, look_at, pre_on, range_of, settle_on}
use Rattle.afr_model_moves.specs.Past.{opens, place}
use Rattle.afr_lines.specs.declared.answer.Told.TheVariants.{Done, Given, Granted, Seen}
use Rattle.afr_lines.specs.declared.line.Line.{Line}
use Rattle.afr_lines.specs.declared.request.Area.{Area}
use Rattle.afr_lines.specs.declared.request.Request.{Request}
use Rattle.afr_lines.specs.declared.request.Request.TheVariants.{Lock, Mend, ReadAttrs, Unlock}
use Rattle.afr_object.specs.declared.change.Repair.TheVariants.{PutAttrs}
use Rattle.afr_object.specs.declared.entry.View.{View}
use Rattle.afr_lines.specs.declared.lock.Domain.TheVariants.{Heal, Work}
use Rattle.std.proofs.Common.{Bool, [], arith, false, inr, refl, true, ℕ, ◌+◌, ◌∷◌, ◌≡◌}
use Rattle.std.specs.Prelude.{slice_get, ◌^◌, List as Seq}
use Rattle.afr_lines.specs.declared.reply.HealReply.TheVariants.{Settled}
use Rattle.afr_model_moves.specs.Rules.{heal_area}

-- no number
abbrev pub zeros : Marks
zeros = record { dirty = 0; pending = 0 ∷ 0 ∷ 0 ∷ 0 ∷ 0 ∷ [] }

-- numbers that are taken back, and held against brick 2
abbrev pub less : ℕ → ℕ → Marks
less dirty two = record { dirty = dirty; pending = 0 ∷ 0 ∷ two ∷ 0 ∷ 0 ∷ [] }

-- bricks 0 and 1 hold one missed change against brick 2
abbrev pub blames : View
blames = record { what = File; len = 0; marks = record { bytes = zeros; attrs = less 0 1; names = zeros } }

-- a copy that accuses nobody
abbrev pub clean_view : View
clean_view = record { what = File; len = 0; marks = record { bytes = zeros; attrs = zeros; names = zeros } }

-- the file
abbrev pub file : Gfid
file = record { 0 = 50 }

-- the attributes of the file
abbrev pub area : Area
area = range_of 50 (2 ^ 63) (2 ^ 63 + 1)

-- the heal
abbrev pub lines : Seq Line
lines =
    ask_by 20 0 (Lock Heal (heal_area 50)) Granted true
    ∷ ask_by 20 1 (Lock Heal (heal_area 50)) Granted true
    ∷ ask_by 20 2 (Lock Heal (heal_area 50)) Granted true
    ∷ ask_by 20 0 (Lock Work area) Granted true
    ∷ ask_by 20 1 (Lock Work area) Granted true
    ∷ ask_by 20 2 (Lock Work area) Granted true
    ∷ heal_begin_by 20 50 Attrs
    ∷ ask_by 20 0 (look_at 50) (Seen blames) true
    ∷ ask_by 20 1 (look_at 50) (Seen blames) true
    ∷ ask_by 20 2 (look_at 50) (Seen clean_view) true
    ∷ ask_by 20 0 (ReadAttrs file) Given true
    ∷ ask_by 20 1 (pre_on 50 Attrs) Done true
    ∷ ask_by 20 2 (pre_on 50 Attrs) Done true
    ∷ ask_by 20 1 (Mend (PutAttrs file 10)) Done true
    ∷ ask_by 20 2 (Mend (PutAttrs file 10)) Done true
    ∷ ask_by 20 0 (settle_on 50 Attrs (less 0 1)) Done true
    ∷ ask_by 20 1 (settle_on 50 Attrs (less 1 1)) Done true
    ∷ ask_by 20 2 (settle_on 50 Attrs (less 1 0)) Done true
    ∷ ask_by 20 0 (Unlock Work area) Done true
    ∷ ask_by 20 1 (Unlock Work area) Done true
    ∷ ask_by 20 2 (Unlock Work area) Done true
    ∷ ask_by 20 0 (Unlock Heal (heal_area 50)) Done true
    ∷ ask_by 20 1 (Unlock Heal (heal_area 50)) Done true
    ∷ ask_by 20 2 (Unlock Heal (heal_area 50)) Done true
    ∷ heal_end_by 20 50 Attrs Settled
    ∷ []

-- the register of the actor
abbrev pub at : ℕ → Exact
at t = present 3 (λ b kind. true) (slice_get lines) t 20

may_0 : MayOpen (at 0) 0 (heal_area 50)
unfolding exact place opens
may_0 = record { first = refl; lowest = refl; g = 50; range = refl }

may_1 : MayHeal 3 (λ b kind. true) (at 1) 1 (Lock Heal (heal_area 50))
unfolding exact place opens
may_1 = record { inside = refl; whole = refl; source = 0; below = omega arith; possible = refl; allowed = refl }

may_2 : MayHeal 3 (λ b kind. true) (at 2) 2 (Lock Heal (heal_area 50))
unfolding exact place opens
may_2 = record { inside = refl; whole = refl; source = 0; below = omega arith; possible = refl; allowed = refl }

may_3 : MayHeal 3 (λ b kind. true) (at 3) 0 (Lock Work area)
unfolding exact place opens
may_3 = record { inside = refl; whole = refl; source = 0; below = omega arith; possible = refl; allowed = refl }

may_4 : MayHeal 3 (λ b kind. true) (at 4) 1 (Lock Work area)
unfolding exact place opens
may_4 = record { inside = refl; whole = refl; source = 0; below = omega arith; possible = refl; allowed = refl }

may_5 : MayHeal 3 (λ b kind. true) (at 5) 2 (Lock Work area)
unfolding exact place opens
may_5 = record { inside = refl; whole = refl; source = 0; below = omega arith; possible = refl; allowed = refl }

may_6 : MayHealBegin 3 (at 6) 50 Attrs
unfolding exact place opens
may_6 = record { inside = refl; whole = refl; object = refl; step = refl; over = refl; enough = λ e. omega arith; opening = λ e. refl; later = λ e. absurd (e refl) }

may_7 : MayHeal 3 (λ b kind. true) (at 7) 0 (look_at 50)
unfolding exact place opens
may_7 = record { inside = refl; whole = refl; source = 0; below = omega arith; possible = refl; allowed = refl }

may_8 : MayHeal 3 (λ b kind. true) (at 8) 1 (look_at 50)
unfolding exact place opens
may_8 = record { inside = refl; whole = refl; source = 0; below = omega arith; possible = refl; allowed = refl }

may_9 : MayHeal 3 (λ b kind. true) (at 9) 2 (look_at 50)
unfolding exact place opens
may_9 = record { inside = refl; whole = refl; source = 0; below = omega arith; possible = refl; allowed = refl }

may_10 : MayHeal 3 (λ b kind. true) (at 10) 0 (ReadAttrs file)
unfolding exact place opens
may_10 = record { inside = refl; whole = refl; source = 0; below = omega arith; possible = refl; allowed = refl }

may_11 : MayHeal 3 (λ b kind. true) (at 11) 1 (pre_on 50 Attrs)
unfolding exact place opens
may_11 = record { inside = refl; whole = refl; source = 0; below = omega arith; possible = refl; allowed = refl }

may_12 : MayHeal 3 (λ b kind. true) (at 12) 2 (pre_on 50 Attrs)
unfolding exact place opens
may_12 = record { inside = refl; whole = refl; source = 0; below = omega arith; possible = refl; allowed = refl }

may_13 : MayHeal 3 (λ b kind. true) (at 13) 1 (Mend (PutAttrs file 10))
unfolding exact place opens
may_13 = record { inside = refl; whole = refl; source = 0; below = omega arith; possible = refl; allowed = refl }

may_14 : MayHeal 3 (λ b kind. true) (at 14) 2 (Mend (PutAttrs file 10))
unfolding exact place opens
may_14 = record { inside = refl; whole = refl; source = 0; below = omega arith; possible = refl; allowed = refl }

may_15 : MayHeal 3 (λ b kind. true) (at 15) 0 (settle_on 50 Attrs (less 0 1))
unfolding exact place opens
may_15 = record { inside = refl; whole = refl; source = 0; below = omega arith; possible = refl; allowed = refl }

may_16 : MayHeal 3 (λ b kind. true) (at 16) 1 (settle_on 50 Attrs (less 1 1))
unfolding exact place opens
may_16 = record { inside = refl; whole = refl; source = 0; below = omega arith; possible = refl; allowed = refl }

may_17 : MayHeal 3 (λ b kind. true) (at 17) 2 (settle_on 50 Attrs (less 1 0))
unfolding exact place opens
may_17 = record { inside = refl; whole = refl; source = 0; below = omega arith; possible = refl; allowed = refl }

may_18 : MayHeal 3 (λ b kind. true) (at 18) 0 (Unlock Work area)
unfolding exact place opens
may_18 = record { inside = refl; whole = refl; source = 0; below = omega arith; possible = refl; allowed = refl }

may_19 : MayHeal 3 (λ b kind. true) (at 19) 1 (Unlock Work area)
unfolding exact place opens
may_19 = record { inside = refl; whole = refl; source = 0; below = omega arith; possible = refl; allowed = refl }

may_20 : MayHeal 3 (λ b kind. true) (at 20) 2 (Unlock Work area)
unfolding exact place opens
may_20 = record { inside = refl; whole = refl; source = 0; below = omega arith; possible = refl; allowed = refl }

may_21 : MayHeal 3 (λ b kind. true) (at 21) 0 (Unlock Heal (heal_area 50))
unfolding exact place opens
may_21 = record { inside = refl; whole = refl; source = 0; below = omega arith; possible = refl; allowed = refl }

may_22 : MayHeal 3 (λ b kind. true) (at 22) 1 (Unlock Heal (heal_area 50))
unfolding exact place opens
may_22 = record { inside = refl; whole = refl; source = 0; below = omega arith; possible = refl; allowed = refl }

may_23 : MayHeal 3 (λ b kind. true) (at 23) 2 (Unlock Heal (heal_area 50))
unfolding exact place opens
may_23 = record { inside = refl; whole = refl; source = 0; below = omega arith; possible = refl; allowed = refl }

may_24 : MayHealEnd 3 (at 24)
unfolding exact place opens
may_24 = record { inside = refl; free = refl; healed = refl; last = inr refl }

-- what is refused there: an unlock before the settling, a Settle before the Mends, the source as a sink, a read at another copy than the source's, a Mend of another read
abbrev pub may : ℕ → ℕ → ℕ → Request → Bool
may t source b request = may_heal 3 (λ b kind. true) (at t) source b request

early_unlock : may 15 0 0 (Unlock Work area) ≡ false
unfolding exact place opens
early_unlock = refl

early_settle : may 13 0 0 (settle_on 50 Attrs (less 0 1)) ≡ false
unfolding exact place opens
early_settle = refl

own_sink : may 11 0 0 (pre_on 50 Attrs) ≡ false
unfolding exact place opens
own_sink = refl

other_read : may 10 0 1 (ReadAttrs file) ≡ false
unfolding exact place opens
other_read = refl

other_mend : may 13 0 1 (Mend (PutAttrs file 9)) ≡ false
unfolding exact place opens
other_mend = refl

-- the dirty number that another look saw isn't taken back
other_number : may 15 0 0 (settle_on 50 Attrs (less 1 1)) ≡ false
unfolding exact place opens
other_number = refl

-- the source is open until the line that tells it
open_source : may 10 1 1 (ReadAttrs file) ≡ true
unfolding exact place opens
open_source = refl

told_source : (at 11).possible 1 ≡ false
unfolding exact place opens
told_source = refl
