-- A transaction that sets an attribute is allowed line by line, and lines out of turn are refused.
use Rattle.afr_base.specs.Bricks.{member}
use Rattle.afr_base.specs.declared.ids.Kind.{Kind}
use Rattle.afr_base.specs.declared.ids.Kind.TheVariants.{Attrs}
use Rattle.afr_base.specs.declared.ids.What.TheVariants.{File}
use Rattle.afr_base.specs.declared.marks.Marks.{Marks}
use Rattle.afr_model_moves.specs.Cells.{what_code}
use Rattle.afr_model_moves.specs.Discipline.{exact, present}
use Rattle.afr_model_moves.specs.Register.{Exact}
use Rattle.afr_model_moves.specs.Transaction.{MayApply, MayBegin, MayEnd, MayPost, MayPre, MayWork}
use Rattle.afr_model_moves.specs.Rules.{fits_change}
use Rattle.afr_model_moves.specs.Lines.{ask_by, begin_by, end_by, look_at, post_on, pre_on, range_of}
use Rattle.afr_model_moves.specs.Past.{opens, place}
use Rattle.afr_lines.specs.declared.answer.Told.TheVariants.{Done, Granted, Seen}
use Rattle.afr_lines.specs.declared.line.Line.{Line}
use Rattle.afr_lines.specs.declared.request.Area.{Area}
use Rattle.afr_lines.specs.declared.request.Request.TheVariants.{Apply, Lock, Unlock}
use Rattle.afr_object.specs.declared.change.Change.{Change}
use Rattle.afr_object.specs.declared.change.Change.TheVariants.{SetAttr}
use Rattle.afr_object.specs.declared.entry.View.{View}
use Rattle.afr_lines.specs.declared.lock.Domain.TheVariants.{Work}
use Rattle.std.proofs.Common.{Bool, [], arith, false, inl, inr, not, refl, subst, sym, true, true≢false, ℕ, ◌&&◌, ◌+◌, ◌<◌, ◌∷◌, ◌≡◌}
use Rattle.std.proofs.lemmas.Bool.Decides.{nat_tests}
use Rattle.std.specs.Prelude.{None, Some, if◌then◌else◌, nat_lt, slice_get, ◌==◌, ◌^◌, List as Seq}
use Rattle.afr_lines.specs.declared.reply.Reply.TheVariants.{Ok}
use Rattle.afr_lines.specs.declared.reply.Good.TheVariants.{Done as GoodDone}

-- no number
abbrev pub zeros : Marks
zeros = record { dirty = 0; pending = 0 ∷ 0 ∷ 0 ∷ 0 ∷ 0 ∷ [] }

-- a file that nobody accuses
abbrev pub view : View
view = record { what = File; len = 0; marks = record { bytes = zeros; attrs = zeros; names = zeros } }

-- its attributes
abbrev pub area : Area
area = range_of 50 (2 ^ 63) (2 ^ 63 + 1)

-- the change
abbrev pub change : Change
change = SetAttr (record { 0 = 50 }) (record { 0 = 7 }) (record { 0 = 9 })

-- one brick has the file
abbrev pub lines : Seq Line
lines =
    ask_by 1 0 (Lock Work area) Granted true
    ∷ ask_by 1 0 (look_at 50) (Seen view) true
    ∷ begin_by 1 change
    ∷ ask_by 1 0 (pre_on 50 Attrs) Done true
    ∷ ask_by 1 0 (Apply 2) Done true
    ∷ ask_by 1 0 (post_on 2 50 Attrs []) Done true
    ∷ ask_by 1 0 (Unlock Work area) Done true
    ∷ end_by 1 (Ok GoodDone)
    ∷ []

-- each brick keeps each kind
abbrev pub every_kind : ℕ → Kind → Bool
every_kind b kind = true

-- the register of the actor
abbrev pub at : ℕ → Exact
at t = present 1 every_kind (slice_get lines) t 1

lock_0 : MayWork 1 (at 0) area
unfolding exact place opens
lock_0 = record { outside = refl; valid = (omega arith, inr (refl, refl)); next = λ e. inl refl; within = λ e. absurd (true≢false (sym e)) }

begin_2 : MayBegin 1 every_kind (at 2) change
unfolding exact place opens
begin_2 = record {
  outside = refl;
  first = refl;
  open_still = refl;
  lies = (refl, refl, refl);
  low = tt;
  fits = λ x v low e. fits x v low e;
  reached = omega arith;
  holders = record { majority = omega arith; source = 0; below = omega arith; member = refl; unblamed = refl };
}
  where
    fits : (x : ℕ) (v : View) → x < 1 → (if x == 0 then Some view else None) ≡ Some v → fits_change (what_code v.what) change ≡ true
    fits x v low e = go (x == 0) e
      where
        seen : (v : View) → Some view ≡ Some v → view ≡ v
        seen v e = cc e

        go : (hit : Bool) → (if hit then Some view else None) ≡ Some v → fits_change (what_code v.what) change ≡ true
        go true k = subst (λ (w : View). fits_change (what_code w.what) change ≡ true) (seen v k) refl
        go false k = absurd (cc k)

pre_3 : MayPre 1 (at 3) 0 50 Attrs
unfolding exact place opens
pre_3 = record { outside = refl; begun_already = λ e. cc e; plane = (refl, refl); holds = refl; turn = record { order = omega arith; once = refl; open_still = refl } }

apply_4 : MayApply 1 every_kind (at 4) 0 2
unfolding exact place opens
apply_4 = record { outside = refl; own = refl; ready = refl; enough = record { majority = omega arith; source = 0; below = omega arith; member = refl; unblamed = refl }; turn = record { order = omega arith; once = refl; open_still = refl } }

post_5 : MayPost 1 every_kind (at 5) 0 2 50 Attrs (member [])
unfolding exact place opens
post_5 = record {
  outside = refl;
  own = refl;
  plane = (refl, refl);
  ready = refl;
  enough = record { majority = omega arith; source = 0; below = omega arith; member = refl; unblamed = refl };
  exact = λ c. none c;
  turn = record { order = omega arith; once = refl; open_still = refl };
}
  where
    none : (c : ℕ) → false ≡ (nat_lt c 1 && not (if c == 0 then true else false))
    none c = grind (arith, nat_tests)

end_7 : MayEnd 1 (at 7) true
unfolding exact place opens
end_7 = record { outside = refl; free = refl; healed = refl; posted = λ e. inr (omega arith) }

-- no Apply before its Pre, no Post before its Apply, no second Pre, no Pre after the unlock, no Ok before the Posts
no_apply : MayApply 1 every_kind (at 3) 0 2 → ⊥
unfolding exact place opens
no_apply m = cc (m.ready)

no_post : MayPost 1 every_kind (at 4) 0 2 50 Attrs (member []) → ⊥
unfolding exact place opens
no_post m = cc (m.ready)

no_second : MayPre 1 (at 4) 0 50 Attrs → ⊥
unfolding exact place opens
no_second m = cc (m.turn.once)

no_late : MayPre 1 (at 7) 0 50 Attrs → ⊥
unfolding exact place opens
no_late m = cc (m.turn.open_still)

no_end : MayEnd 1 (at 5) true → ⊥
unfolding exact place opens
no_end m = cc (m.free)
