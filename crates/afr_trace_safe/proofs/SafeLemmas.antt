-- A log that was safe before its last line is safe where each object that the line touches is.
use Rattle.std.proofs.Common.{◌≡◌, ◌∙◌, ◌↔◌, ℕ, ◌+◌, ◌-◌, ◌<◌, ◌==◌, ◌&&◌, ◌||◌, not, nat_lt, Bool, true, false, List, [], ◌∷◌, ◌++◌, Option, Some, None, length, refl, sym, ap, subst, arith, if◌then◌else◌}
use Rattle.std.specs.Prelude.{is_some, option_and_then, slice_index}
use Rattle.std.proofs.lemmas.Bool.{eqb-true, not-true, lt-ltb}
use Rattle.std.proofs.lemmas.Bool.Decides.{nat_tests}
use Rattle.std.proofs.lemmas.Option.{same_Some}
use Rattle.afr_base.specs.Keeping.{keeps}
use Rattle.afr_base.specs.Kinds.{same_kind}
use Rattle.afr_base.specs.Majority.{is_most}
use Rattle.afr_base.specs.declared.ids.ActorId.{ActorId}
use Rattle.afr_base.specs.declared.ids.Gfid.{Gfid}
use Rattle.afr_base.specs.declared.ids.Kind.{Kind}
use Rattle.afr_base.specs.declared.ids.Kind.TheVariants.{Bytes, Attrs, Names}
use Rattle.afr_object.specs.Object.{Object}
use Rattle.afr_object.specs.Tables.{object_of}
use Rattle.afr_object.specs.declared.change.Change.{Change}
use Rattle.afr_lines.specs.Log.{change_at, change_of, from_oldest}
use Rattle.afr_lines.specs.Work.{is_end, is_of, reply_by}
use Rattle.afr_lines.specs.declared.line.Line.{Line}
use Rattle.afr_lines.specs.declared.line.Line.TheVariants as line
use Rattle.afr_lines.specs.declared.reply.Good.{Good}
use Rattle.afr_lines.specs.declared.reply.Reply.{Reply}
use Rattle.afr_lines.specs.declared.reply.Reply.TheVariants.{Ok}
use Rattle.afr_lines.specs.declared.request.Request.TheVariants.{Settle}
use Rattle.afr_plan.specs.declared.plan.Plan.{Plan}
use Rattle.afr_model.specs.Attempts.{IsAcknowledged, IsCurrent, Left, Opening, earlier, first_reply, touches_if}
use Rattle.afr_model.specs.Cells.{Attr, Byte, Cell, Name, object_of_cell, touches, value_if, value_of}
use Rattle.afr_model.specs.Safe.{IsSafe, accuses}
use Rattle.afr_model.specs.Sums.{blames, has_object, settles_pending, sum_over}
use Rattle.afr_trace_safe.specs.Judged.{AllCurrent, IsObjectSafe, is_judged}
use Rattle.afr_trace_safe.specs.Touched.{AreObjectsSafe, WasSafe, begun_more, begun_object, begun_objects, touched}
use Rattle.afr_trace_safe.proofs.CopyLemmas.{value_plain}
use Rattle.afr_trace_safe.proofs.QuorumLemmas.{all_four, each_safe, four_pass, more_most, safe_each}
use Rattle.afr_trace_safe.proofs.StandsLemmas.{inside, touches_own}
use Rattle.afr_trace_safe.proofs.StaysLemmas.{copy_stays, gfid_is, has_plain, in_neither, listed_at, lists}

-- ---- who accuses whom
none_counted : (a b c d e : Bool) (n : ℕ) → c ≡ false → (if a && b && c && d && e then n else 0) ≡ 0
none_counted true true c d e n h = rw h refl
none_counted true false c d e n h = refl
none_counted false b c d e n h = refl

not_first : (f : Bool) → (f || false) ≡ false → f ≡ false
not_first true h = absurd (cc h)
not_first false h = refl

-- nothing is settled of an object that isn't touched
none_settled : (p : Plan) (x c : ℕ) (g : Gfid) (kind : Kind) (l : Line) (older : List Line) → lists (touched p l older) g.0 ≡ false → settles_pending p x c g kind l older ≡ 0
none_settled p x c g kind (line.Ask a y (Settle h k less) told took) older out =
    none_counted took (y.0 == x) (h.0 == g.0) (same_kind k kind) (has_object p older g x) (slice_index less.pending c) (not_first (h.0 == g.0) out)
none_settled p x c g kind l older out = refl

more_pending : (blamed all settled back : ℕ) → settled ≡ 0 → nat_lt 0 (all - back) ≡ true → nat_lt 0 ((blamed + all) - (settled + back)) ≡ true
more_pending blamed all settled back e h = grind (arith, nat_tests, e, h)

-- who accused a copy of it still does
accuses_still : (p : Plan) (l : Line) (older : List Line) (g : Gfid) (kind : Kind) (x c : ℕ) → lists (touched p l older) g.0 ≡ false → accuses p older g kind x c ≡ true → accuses p (l ∷ older) g kind x c ≡ true
accuses_still p l older g kind x c out h =
    more_pending (blames p x c g kind l older) (sum_over (blames p x c g kind) older) (settles_pending p x c g kind l older) (sum_over (settles_pending p x c g kind) older) (none_settled p x c g kind l older out) h

quiet_before : (p : Plan) (l : Line) (older : List Line) (g : Gfid) (kind : Kind) (x c : ℕ) → lists (touched p l older) g.0 ≡ false → not (accuses p (l ∷ older) g kind x c) ≡ true → not (accuses p older g kind x c) ≡ true
quiet_before p l older g kind x c out h = by (accuses p older g kind x c) refl
  where
    by : (f : Bool) → accuses p older g kind x c ≡ f → not f ≡ true
    by false e = refl
    by true e =
        let now : accuses p (l ∷ older) g kind x c ≡ true = accuses_still p l older g kind x c out e in
        let no : accuses p (l ∷ older) g kind x c ≡ false = not-true (accuses p (l ∷ older) g kind x c) h in
        absurd (cc)

-- a copy of it that is judged was judged before
pub judged_before : (p : Plan) (l : Line) (older : List Line) (g : Gfid) (kind : Kind) (b : ℕ) → lists (touched p l older) g.0 ≡ false → is_judged p (l ∷ older) g kind b ≡ true → is_judged p older g kind b ≡ true
judged_before p l older g kind b out h =
    let t = all_four (has_object p (l ∷ older) g b) (keeps p.shape kind b) (not (accuses p (l ∷ older) g kind b b)) (is_most p.shape.n (λ x. not (accuses p (l ∷ older) g kind x b))) h in
    let there : has_object p older g b ≡ true = sym (has_plain p older g b) ∙ sym (ap (λ (o : Option Object). is_some o) (copy_stays p l older b g out)) ∙ has_plain p (l ∷ older) g b ∙ t.0 in
    four_pass (has_object p older g b) (keeps p.shape kind b) (not (accuses p older g kind b b)) (is_most p.shape.n (λ x. not (accuses p older g kind x b))) there t.1 (quiet_before p l older g kind b b out t.2)
    (more_most p.shape.n (λ x. not (accuses p (l ∷ older) g kind x b)) (λ x. not (accuses p older g kind x b)) (λ x m. quiet_before p l older g kind x b out m) t.3)

-- ---- acknowledged attempts
no_at : (q n : ℕ) → nat_lt q n ≡ true → (q == n) ≡ false
no_at q n h = grind (arith, nat_tests, h)

eq_yes : (n m : ℕ) → n ≡ m → (n == m) ≡ true
eq_yes n m e = grind (arith, nat_tests, e)

listed_last : (xs : List Gfid) (g : Gfid) → lists (xs ++ g ∷ []) g.0 ≡ true
listed_last [] g = by (eq_yes g.0 g.0 refl)
  where
    by : (g.0 == g.0) ≡ true → ((g.0 == g.0) || false) ≡ true
    by e = rw e refl
listed_last (x ∷ xs) g = or_later (x.0 == g.0) (listed_last xs g)
  where
    or_later : (f : Bool) → lists (xs ++ g ∷ []) g.0 ≡ true → (f || lists (xs ++ g ∷ []) g.0) ≡ true
    or_later true h = refl
    or_later false h = h

listed_left : (xs ys : List Gfid) (n : ℕ) → lists xs n ≡ true → lists (xs ++ ys) n ≡ true
listed_left xs ys n h = by (lists (xs ++ ys) n) refl
  where
    by : (f : Bool) → lists (xs ++ ys) n ≡ f → f ≡ true
    by true e = refl
    by false e = let s = in_neither xs ys n e in absurd (cc (s.0, h))

-- what stays listed after a line that gives its actor no reply
begun_stays : (a : ℕ) (l : Line) (was : List Gfid) (n : ℕ) → reply_by a l ≡ None → lists was n ≡ true → lists (begun_more a l was) n ≡ true
begun_stays a (line.End x reply) was n none h = by (x.0 == a) none
  where
    by : (f : Bool) → (if f then Some reply else None) ≡ None → lists (if f then [] else was) n ≡ true
    by true e = absurd (cc e)
    by false e = h
begun_stays a l was n none h = by (is_of a l) (is_end l) refl
  where
    by : (of end : Bool) → is_end l ≡ end → lists (if of then (if end then [] else was ++ begun_object l) else was) n ≡ true
    by true false e = listed_left was (begun_object l) n h
    by true true e = absurd (cc e)
    by false end e = h

-- the object of an attempt is listed until its actor's next reply
begun_listed : (a : ℕ) (log : List Line) (q : ℕ) (actor : ActorId) (change : Change) → from_oldest q log ≡ Some (line.Begin actor change) → actor.0 ≡ a → first_reply a q log ≡ None → lists (begun_objects a log) (object_of change).0 ≡ true
begun_listed a [] q actor change e same none = absurd (cc e)
begun_listed a (l ∷ older) q actor change e same none = by (q == length older) refl e (λ f g. begun_listed a older q actor change f same g)
  where
    after : (o : Option Reply) → earlier o (reply_by a l) ≡ None → (o ≡ None) × (reply_by a l ≡ None)
    after None h = (refl, h)
    after (Some r) h = absurd (cc h)

    here : l ≡ line.Begin actor change → lists (begun_more a l (begun_objects a older)) (object_of change).0 ≡ true
    here is = rw (is, eq_yes actor.0 a same) (listed_last (begun_objects a older) (object_of change))

    by : (f : Bool) → (q == length older) ≡ f → (if f then Some l else from_oldest q older) ≡ Some (line.Begin actor change)
        → (from_oldest q older ≡ Some (line.Begin actor change) → first_reply a q older ≡ None → lists (begun_objects a older) (object_of change).0 ≡ true)
        → lists (begun_more a l (begun_objects a older)) (object_of change).0 ≡ true
    by true k m more = here (same_Some l (line.Begin actor change) m)
    by false k m more =
        let low : nat_lt q (length older) ≡ true = lt-ltb q (length older) (inside q older (line.Begin actor change) m) in
        let replies : earlier (first_reply a q older) (reply_by a l) ≡ None = rw low at none in
        let s = after (first_reply a q older) replies in
        begun_stays a l (begun_objects a older) (object_of change).0 s.1 (more m s.0)

-- the reply that a line gives
replied_listed : (p : Plan) (a : ℕ) (l : Line) (older : List Line) (good : Good) (n : ℕ) → reply_by a l ≡ Some (Ok good) → lists (begun_objects a older) n ≡ true → lists (touched p l older) n ≡ true
replied_listed p a (line.End x (Ok other)) older good n e h = by (x.0 == a) refl e
  where
    by : (f : Bool) → (x.0 == a) ≡ f → (if f then Some (Ok other) else None) ≡ Some (Ok good) → lists (begun_objects x.0 older) n ≡ true
    by true k m = subst (λ (i : ℕ). lists (begun_objects i older) n ≡ true) (sym (eqb-true x.0 a k)) h
    by false k m = absurd (cc m)
replied_listed p a (line.End x reply) older good n e h = by (x.0 == a) e
  where
    by : (f : Bool) → (if f then Some reply else None) ≡ Some (Ok good) → lists (touched p (line.End x reply) older) n ≡ true
    by true m = let same : reply ≡ Ok good = same_Some reply (Ok good) m in absurd (cc)
    by false m = absurd (cc m)
replied_listed p a l older good n e h = absurd (cc e)

-- an attempt on an object that a line doesn't touch was acknowledged before it
acknowledged_before : (p : Plan) (l : Line) (older : List Line) (g : Gfid) (k : ℕ) (cell : Cell) → object_of_cell cell ≡ g → lists (touched p l older) g.0 ≡ false → IsAcknowledged (l ∷ older) k → touches_if (change_at k (l ∷ older)) cell ≡ true
    → IsAcknowledged older k × (touches_if (change_at k older) cell ≡ true)
acknowledged_before p l older g k cell of out a t = by (nat_lt k (length older)) refl a.replied
  where
    begun : nat_lt k (length older) ≡ true → from_oldest k older ≡ Some (line.Begin a.actor a.change)
    begun low = rw (no_at k (length older) low) at a.begun

    touching : nat_lt k (length older) ≡ true → touches a.change cell ≡ true
    touching low =
        let b : option_and_then change_of (from_oldest k (l ∷ older)) ≡ Some a.change = ap (option_and_then change_of) a.begun in
        sym (ap (λ (o : Option Change). touches_if o cell) b) ∙ t

    in_older : nat_lt k (length older) ≡ true → touches_if (change_at k older) cell ≡ true
    in_older low = ap (λ (o : Option Change). touches_if o cell) (ap (option_and_then change_of) (begun low)) ∙ touching low

    by_reply : nat_lt k (length older) ≡ true → (o : Option Reply) → first_reply a.actor.0 k older ≡ o → earlier o (reply_by a.actor.0 l) ≡ Some (Ok a.good) → IsAcknowledged older k × (touches_if (change_at k older) cell ≡ true)
    by_reply low (Some r) e h = (record { actor = a.actor; change = a.change; begun = begun low; good = a.good; replied = e ∙ h }, in_older low)
    by_reply low None e h =
        let listed : lists (begun_objects a.actor.0 older) (object_of a.change).0 ≡ true = begun_listed a.actor.0 older k a.actor a.change (begun low) refl e in
        let same : (object_of a.change).0 ≡ g.0 = touches_own a.change cell (touching low) ∙ ap (λ (q : Gfid). q.0) of in
        let now : lists (touched p l older) g.0 ≡ true = replied_listed p a.actor.0 l older a.good g.0 h (ap (lists (begun_objects a.actor.0 older)) (sym same) ∙ listed) in
        absurd (cc (out, now))

    by : (low : Bool) → nat_lt k (length older) ≡ low → (if low then earlier (first_reply a.actor.0 k older) (reply_by a.actor.0 l) else None) ≡ Some (Ok a.good) → IsAcknowledged older k × (touches_if (change_at k older) cell ≡ true)
    by true e h = by_reply e (first_reply a.actor.0 k older) refl h
    by false e h = absurd (cc h)

-- ---- current cells
stays_at : (l : Line) (older : List Line) (q : ℕ) (change : Change) → change_at q older ≡ Some change → change_at q (l ∷ older) ≡ Some change
stays_at l older q change e = by (from_oldest q older) refl e
  where
    by : (o : Option Line) → from_oldest q older ≡ o → option_and_then change_of o ≡ Some change → option_and_then change_of (if q == length older then Some l else from_oldest q older) ≡ Some change
    by None f h = absurd (cc h)
    by (Some x) f h = rw (no_at q (length older) (lt-ltb q (length older) (inside q older x f)), f) h

current_later : (p : Plan) (l : Line) (older : List Line) (b : ℕ) (cell : Cell) → lists (touched p l older) (object_of_cell cell).0 ≡ false → IsCurrent p older b cell → IsCurrent p (l ∷ older) b cell
current_later p l older b cell out current = by current
  where
    same : value_of p (l ∷ older) b cell ≡ value_of p older b cell
    same = sym (value_plain p (l ∷ older) b cell) ∙ ap (value_if cell) (copy_stays p l older b (object_of_cell cell) out) ∙ value_plain p older b cell

    by : IsCurrent p older b cell → IsCurrent p (l ∷ older) b cell
    by (Opening e none) = Opening (same ∙ e) (λ k a t. let w = acknowledged_before p l older (object_of_cell cell) k cell refl out a t in none k w.0 w.1)
    by (Left q change e t h none) = Left q change (stays_at l older q change e) t (same ∙ h) (λ k a u. let w = acknowledged_before p l older (object_of_cell cell) k cell refl out a u in none k w.0 w.1)

all_later : (p : Plan) (l : Line) (older : List Line) (b : ℕ) (g : Gfid) (kind : Kind) → lists (touched p l older) g.0 ≡ false → AllCurrent p older b g kind → AllCurrent p (l ∷ older) b g kind
all_later p l older b g Bytes out all = λ i. current_later p l older b (Byte g i) out (all i)
all_later p l older b g Attrs out all = λ key. current_later p l older b (Attr g key) out (all key)
all_later p l older b g Names out all = λ name. current_later p l older b (Name g name) out (all name)

-- ---- safe logs
-- no attempt comes before the first line, so all is as at the start
pub safe_first : (p : Plan) → IsSafe p []
safe_first p among within most b cell good = Opening refl (λ k a t. none k a.actor a.change a.begun)
  where
    none : (k : ℕ) (actor : ActorId) (change : Change) → from_oldest k [] ≡ Some (line.Begin actor change) → ⊥
    none k actor change e = absurd (cc e)

object_by : (g h : Gfid) → h.0 ≡ g.0 → h ≡ g
object_by g h e = gfid_is h g (eq_yes h.0 g.0 e)

safe_next : (p : Plan) (l : Line) (older : List Line) → IsSafe p older → AreObjectsSafe p (l ∷ older) (touched p l older) → IsSafe p (l ∷ older)
safe_next p l older safe each = each_safe p (l ∷ older) (λ g. by g (lists (touched p l older) g.0) refl)
  where
    by : (g : Gfid) (f : Bool) → lists (touched p l older) g.0 ≡ f → IsObjectSafe p (l ∷ older) g
    by g true e = let r = listed_at (touched p l older) g.0 e in subst (λ (h : Gfid). IsObjectSafe p (l ∷ older) h) (object_by g r.1 r.3) (each r.0 r.1 r.2)
    by g false e = λ b low kind judged. all_later p l older b g kind e (safe_each p older safe g b low kind (judged_before p l older g kind b e judged))

-- a log is safe exactly where each object is that its last line touches
pub safe_is : (p : Plan) (log : List Line) (objects : List Gfid) (flag : Bool) → WasSafe p log objects → (flag ≡ true) ↔ AreObjectsSafe p log objects → (flag ≡ true) ↔ IsSafe p log
safe_is p [] objects flag was told = (λ e. safe_first p, λ safe. told.1 (λ j g e. safe_each p [] safe g))
safe_is p (l ∷ older) objects flag was told = (
  λ e. safe_next p l older was.0 (subst (λ (xs : List Gfid). AreObjectsSafe p (l ∷ older) xs) was.1 (told.0 e)),
  λ safe. told.1 (λ j g e. safe_each p (l ∷ older) safe g),
)
