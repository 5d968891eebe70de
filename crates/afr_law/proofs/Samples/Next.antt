-- One client has set an attribute on the only brick: the laws on the next line hold of this log, and give that its Post is covered and can be carried out.
use Rattle.afr_base.specs.Bricks.{below}
use Rattle.afr_base.specs.Marks.{no_marks}
use Rattle.afr_base.specs.declared.ids.ActorId.{ActorId}
use Rattle.afr_base.specs.declared.ids.BrickId.{BrickId}
use Rattle.afr_base.specs.declared.ids.Gfid.{Gfid}
use Rattle.afr_base.specs.declared.ids.Kind.TheVariants.{Attrs}
use Rattle.afr_base.specs.declared.ids.What.TheVariants.{File}
use Rattle.afr_lines.specs.declared.answer.Told.TheVariants.{Done, Granted, Seen}
use Rattle.afr_lines.specs.declared.line.Line.{Line}
use Rattle.afr_lines.specs.declared.line.Line.TheVariants.{Ask, Begin}
use Rattle.afr_lines.specs.declared.request.Area.{Area}
use Rattle.afr_lines.specs.declared.request.Area.TheVariants.{Range}
use Rattle.afr_lines.specs.declared.request.Request.TheVariants.{Apply, Lock, Look, Post, Pre}
use Rattle.afr_model.specs.Honest.{Honest}
use Rattle.afr_object.specs.Tables.{opening_gfid}
use Rattle.afr_object.specs.declared.change.Change.{Change}
use Rattle.afr_object.specs.declared.change.Change.TheVariants.{SetAttr}
use Rattle.afr_object.specs.declared.entry.View.{View}
use Rattle.afr_plan.specs.declared.plan.Plan.{Plan}
use Rattle.afr_lines.specs.declared.lock.Domain.TheVariants.{Work}
use Rattle.std.proofs.Common.{Bool, List, [], arith, false, inl, inr, not, refl, subst, sym, true, true≢false, ℕ, ◌&&◌, ◌+◌, ◌<◌, ◌∷◌, ◌≡◌}
use Rattle.std.proofs.lemmas.Bool.Decides.{nat_tests}
use Rattle.std.specs.Prelude.{None, Some, if◌then◌else◌, nat_lt, ◌==◌, ◌^◌}
use Rattle.afr_law.proofs.Model.Answered.{next_answered}
use Rattle.afr_law.proofs.Model.Covered.{carried_covered}
use Rattle.afr_law.proofs.Model.Found.{next_carries, next_found}
use Rattle.afr_model.specs.Locks.{locks_held}
use Rattle.afr_model_moves.specs.Covering.{IsCovered}
use Rattle.afr_model_moves.specs.Cells.{what_code}
use Rattle.afr_law_tables.specs.Codes.{kept_by}
use Rattle.afr_model_moves.specs.Discipline.{MayAskExactly, exact, present}
use Rattle.afr_model_moves.specs.Heal.{Gives, Goes}
use Rattle.afr_model_moves.specs.Ranges.{Each, IsWord}
use Rattle.afr_law.specs.Exactly.{IsLawfulExactly}
use Rattle.afr_model_moves.specs.Rules.{fits_change}
use Rattle.afr_law.specs.ModelFits.{HasCopy}
use Rattle.afr_law.specs.ModelNext.{IsNext, MayAskNext, answered, is_carried_out}
use Rattle.afr_model_moves.specs.Past.{opens, place}
use Rattle.afr_model_moves.specs.Positions.{by_position}
use Rattle.afr_law_tables.specs.Carrying.{CanCarry}

-- one brick, and one opening file
abbrev plan : Plan
plan = record { shape = record { n = 1; arbiter = false }; files = 1; turns = 100; clients = []; healers = []; faults = []; events = []; go = []; words = record { names = []; keys = []; values = [] } }

abbrev client : ActorId
client = record { 0 = 1 }

abbrev brick : BrickId
brick = record { 0 = 0 }

abbrev file : Gfid
file = opening_gfid 1

-- its attributes
abbrev area : Area
area = Range file (2 ^ 63) (2 ^ 63 + 1)

abbrev change : Change
change = SetAttr file (record { 0 = 7 }) (record { 0 = 9 })

abbrev view : View
view = record { what = File; len = 0; marks = no_marks }

-- the lines, each with those before it
abbrev log_1 : List Line
log_1 = Ask client brick (Lock Work area) Granted true ∷ []

abbrev log_2 : List Line
log_2 = Ask client brick (Look file) (Seen view) true ∷ log_1

abbrev log_3 : List Line
log_3 = Begin client change ∷ log_2

abbrev log_4 : List Line
log_4 = Ask client brick (Pre file Attrs) Done true ∷ log_3

abbrev log_5 : List Line
log_5 = Ask client brick (Apply 2) Done true ∷ log_4

told_all : Honest plan log_5
unfolding below
told_all = (refl, (refl, (tt, (refl, (refl, tt)))))

next_0 : IsNext plan (Ask client brick (Lock Work area) Granted true) []
unfolding exact place opens
next_0 = (
  (omega arith, omega arith, (omega arith, omega arith, omega arith), tt),
  (omega arith, inl (refl, record { outside = refl; valid = (omega arith, inr (refl, refl)); next = λ e. inl refl; within = λ e. absurd (true≢false (sym e)) })),
  tt,
)

next_1 : IsNext plan (Ask client brick (Look file) (Seen view) true) log_1
unfolding exact place opens
next_1 = (
  (omega arith, omega arith, omega arith, (omega arith, (omega arith, refl, marks), (omega arith, refl, marks), (omega arith, refl, marks))),
  (omega arith, inl (refl, tt)),
  tt,
)
  where
    marks : Each IsWord (0 ∷ 0 ∷ 0 ∷ 0 ∷ 0 ∷ [])
    marks = (omega arith, (omega arith, (omega arith, (omega arith, (omega arith, tt)))))

next_2 : IsNext plan (Begin client change) log_2
unfolding exact place opens
next_2 = (
  (omega arith, (omega arith, omega arith, omega arith)),
  record {
    outside = refl;
    first = refl;
    open_still = refl;
    lies = (refl, refl, refl);
    low = tt;
    fits = λ x v low e. fits x v low e;
    reached = omega arith;
    holders = record { majority = omega arith; source = 0; below = omega arith; member = refl; unblamed = refl };
  },
  tt,
)
  where
    fits : (x : ℕ) (v : View) → x < 1 → (if x == 0 then Some view else None) ≡ Some v → fits_change (what_code v.what) change ≡ true
    fits x v low e = go (x == 0) e
      where
        seen : (v : View) → Some view ≡ Some v → view ≡ v
        seen v e = cc e

        go : (hit : Bool) → (if hit then Some view else None) ≡ Some v → fits_change (what_code v.what) change ≡ true
        go true k = subst (λ (w : View). fits_change (what_code w.what) change ≡ true) (seen v k) refl
        go false k = absurd (cc k)

next_3 : IsNext plan (Ask client brick (Pre file Attrs) Done true) log_3
unfolding exact place opens
next_3 = (
  (omega arith, omega arith, omega arith, tt),
  (omega arith, inl (refl, record { outside = refl; begun_already = λ e. cc e; plane = (refl, refl); holds = refl; turn = record { order = omega arith; once = refl; open_still = refl } })),
  tt,
)

next_4 : IsNext plan (Ask client brick (Apply 2) Done true) log_4
unfolding exact place opens
next_4 = (
  (omega arith, omega arith, omega arith, tt),
  (omega arith, inl (refl, record { outside = refl; own = refl; ready = refl; enough = record { majority = omega arith; source = 0; below = omega arith; member = refl; unblamed = refl }; turn = record { order = omega arith; once = refl; open_still = refl } })),
  tt,
)

lawful : IsLawfulExactly plan log_5
lawful = (next_4, (next_3, (next_2, (next_1, (next_0, tt)))))

-- the Post may be asked next
next_5 : MayAskNext plan client brick (Post 2 file Attrs []) log_5
unfolding exact place opens
next_5 = (
  (omega arith, omega arith, (omega arith, omega arith, tt), tt),
  (
    omega arith,
    inl (
      refl,
      record {
        outside = refl;
        own = refl;
        plane = (refl, refl);
        ready = refl;
        enough = record { majority = omega arith; source = 0; below = omega arith; member = refl; unblamed = refl };
        exact = λ c. none c;
        turn = record { order = omega arith; once = refl; open_still = refl };
      },
    ),
  ),
)
  where
    none : (c : ℕ) → false ≡ (nat_lt c 1 && not (if c == 0 then true else false))
    none c = grind (arith, nat_tests)

reaches : is_carried_out plan client brick (Post 2 file Attrs []) log_5 ≡ true
unfolding below
reaches = refl

pub can_post_5 : CanCarry plan log_5 0 (Post 2 file Attrs [])
can_post_5 = next_carries plan log_5 client brick (Post 2 file Attrs []) (omega arith) (omega arith) told_all lawful next_5 reaches

pub found_5 : HasCopy plan log_5 0 (Post 2 file Attrs [])
found_5 = next_found plan log_5 client brick (Post 2 file Attrs []) (omega arith) (omega arith) told_all lawful next_5

pub covered_5 : IsCovered (locks_held 0 log_5) client (Post 2 file Attrs []) None
covered_5 = carried_covered plan log_5 client brick (Post 2 file Attrs []) (omega arith) (omega arith) told_all lawful next_5 reaches tt

pub answered_5 : IsNext plan (answered plan client brick (Post 2 file Attrs []) log_5) log_5
answered_5 = (next_answered plan log_5 client brick (Post 2 file Attrs []) (omega arith) (omega arith) told_all lawful next_5).1

-- a second Pre may not be
no_second : MayAskNext plan client brick (Pre file Attrs) log_4 → ⊥
unfolding exact place opens
no_second m = go (m.1).1
  where
    go : MayAskExactly 1 (kept_by plan) (present 1 (kept_by plan) (by_position log_4) 4 1) 0 (Pre file Attrs) → ⊥
    go (inl k) = cc ((k.1).turn.once)
    go (inr (Goes w)) = absurd (true≢false (sym w.inside))
    go (inr (Gives inside broken k)) = absurd k
