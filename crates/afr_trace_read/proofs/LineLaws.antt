-- A whole line of a trace, both ways.
use Rattle.std.proofs.Common.{◌≡◌, ℕ, ◌-◌, ◌^◌, ◌<◌, ◌==◌, List, ◌++◌, Some, None, refl, sym, ap, subst, ◌∙◌, codes, Bool, true, false, nat_lt, cond, ◌&&◌}
use Rattle.std.specs.Prelude.{decimal}
use Rattle.std.proofs.lemmas.Bool.{eqb-true, eq-eqb}
use Rattle.afr_base.specs.Bricks.{and_left, and_right}
use Rattle.afr_base.specs.declared.ids.ActorId.{ActorId}
use Rattle.afr_plan.specs.declared.plan.Plan.{Plan}
use Rattle.afr_plan.specs.Bytes.{digit, name_byte}
use Rattle.afr_plan.specs.Reading.{word_then, as_a}
use Rattle.afr_model.specs.ReportReplies.{actor_text}
use Rattle.afr_plan_read.proofs.Laws.{Any, first_of, bind_some, checked_some, Stops}
use Rattle.afr_trace_read.specs.Parts.{event_at}
use Rattle.afr_trace_read.specs.Reading.{of_actor, content_at, gives, line_at, at_position, line_told, may_stand}
use Rattle.afr_trace_read.specs.Texts.{doing_text, content_text, spelled_text, trace_line_text}
use Rattle.afr_trace_read.specs.declared.kinds.TraceLine.{TraceLine}
use Rattle.afr_trace_read.specs.declared.kinds.TraceLine.TheVariants as trace_line
use Rattle.afr_trace_read.specs.Fit.{IsSpelled, IsTraceLine, MayStand}
use Rattle.afr_trace_read.proofs.Laws.{Takes, Again, word_then-takes, word_then-again, both-takes, both-again, then_word-takes, then_word-again, as-takes, as-again, second_of, either-takes}
use Rattle.afr_trace_read.proofs.NumberLaws.{small-takes, small-again}
use Rattle.afr_trace_read.proofs.PartLaws.{actor-takes, actor-again, event-takes, event-again}
use Rattle.afr_trace_read.proofs.DoingLaws.{doing-takes, doing-again, doing_stops}
use Rattle.afr_trace_read.proofs.GivenLaws.{may_be, stands, stands_apart}
use Rattle.afr_trace_read.proofs.WordLaws.{name_then_digit}

content-takes : (p : Plan) → Takes (content_at p) (content_text p) (IsTraceLine p)
unfolding content_at
content-takes p = either-takes _ _ _ _ (as-takes trace_line.Event _ _ _ _ _ (word_then-takes (codes "event ") _ _ _ event-takes) (λ x ok. (ok, refl))) (as-takes of_actor _ _ _ _ _ (both-takes _ _ _ _ _ _ actor-takes (doing-takes p)) (λ x ok. (ok, refl)))

no_event : (a : ActorId) (d rest : List ℕ) → as_a trace_line.Event (word_then (codes "event ") event_at) ((actor_text a ++ d) ++ rest) ≡ None
no_event a d rest = step (nat_lt 16 a.0)
  where
    step : (b : Bool) → as_a trace_line.Event (word_then (codes "event ") event_at) ((cond b (codes "h" ++ decimal (a.0 - 16)) (codes "c" ++ decimal a.0) ++ d) ++ rest) ≡ None
    step true = refl
    step false = refl

read_content : (p : Plan) → p.files < 2 ^ 32 → (x : TraceLine) (rest : List ℕ) → IsTraceLine p x → Stops name_byte rest → content_at p (content_text p x ++ rest) ≡ Some (x, rest)
unfolding content_at
read_content p few (trace_line.Event event) rest ok n = first_of _ _ _ (as-again trace_line.Event _ _ _ _ (word_then-again (codes "event ") _ _ _ _ event-again) event rest ok (name_then_digit rest n))
read_content p few (trace_line.Of actor d) rest ok n = second_of _ _ _ (no_event actor (doing_text p d) rest) (as-again of_actor _ _ _ _ (both-again _ _ _ _ _ _ (Stops digit) (Stops name_byte) actor-again (doing-again p few) (λ y rest ok n. doing_stops p y rest)) (actor, d) rest ok n)

content-again : (p : Plan) → p.files < 2 ^ 32 → Again (content_at p) (content_text p) (IsTraceLine p) (Stops name_byte)
content-again p few = record { read = read_content p few }

abbrev pub line_of_text : Plan → ℕ × TraceLine → List ℕ
line_of_text p x = trace_line_text p x.0 x.1

abbrev pub IsLine : Plan → ℕ × TraceLine → Type 0
IsLine p x = (x.0 < 2 ^ 32) × IsTraceLine p x.1

line-takes : (p : Plan) → Takes (line_at p) (line_of_text p) (IsLine p)
unfolding line_at
line-takes p = both-takes _ _ _ _ _ _ (then_word-takes _ (codes " ") _ _ small-takes) (content-takes p)

line-again : (p : Plan) → p.files < 2 ^ 32 → Again (line_at p) (line_of_text p) (IsLine p) (Stops name_byte)
unfolding line_at
line-again p few = both-again _ _ _ _ _ _ Any (Stops name_byte) (then_word-again _ (codes " ") _ _ (Stops digit) small-again (λ rest. refl)) (content-again p few) (λ y rest ok n. tt)

-- ---- a line at its position
pub told_spelled : (p : Plan) (k : ℕ) (bytes : List ℕ) (x : TraceLine × List ℕ) → line_told p k bytes ≡ Some x → IsSpelled p x × (bytes ≡ spelled_text p k x)
told_spelled p k bytes x e =
    let b = bind_some (line_at p bytes) (at_position p k) x e in
    let n : ℕ = b.0.0.0 in
    let s : TraceLine = b.0.0.1 in
    let rest : List ℕ = b.0.1 in
    let c = checked_some ((n == k) && may_stand p (gives s) rest) (s, rest) x b.2 in
    let same : n ≡ k = eqb-true n k (and_left (n == k) (may_stand p (gives s) rest) c.0) in
    let behind : MayStand p (gives s) rest = stands p (gives s) rest (and_right (n == k) (may_stand p (gives s) rest) c.0) in
    let u = (line-takes p).read bytes b.0.0 rest b.1 in
    let P : TraceLine × List ℕ → Type 0 = λ z. IsSpelled p z × (bytes ≡ spelled_text p k z) in
    subst P c.1 ((u.0.1, behind), u.1 ∙ ap (λ (m : ℕ). trace_line_text p m s ++ rest) same)

pub spelled_told : (p : Plan) (k : ℕ) (x : TraceLine × List ℕ) → p.files < 2 ^ 32 → k < 2 ^ 32 → IsSpelled p x → line_told p k (spelled_text p k x) ≡ Some x
spelled_told p k x few l ok =
    let t : (k == k) ≡ true = eq-eqb k k refl in
    rw ((line-again p few).read (k, x.0) x.1 (l, ok.0) (stands_apart p (gives x.0) x.1 ok.1), t, may_be p (gives x.0) x.1 ok.1) refl

pub none_told : (p : Plan) (k : ℕ) (bytes : List ℕ) (x : TraceLine × List ℕ) → p.files < 2 ^ 32 → k < 2 ^ 32 → IsSpelled p x → line_told p k bytes ≡ None → bytes ≡ spelled_text p k x → ⊥
none_told p k bytes x few l ok e f = let g : None ≡ Some x = sym e ∙ ap (line_told p k) f ∙ spelled_told p k x few l ok in (cc)

pub one_told : (p : Plan) (k : ℕ) (x y : TraceLine × List ℕ) → p.files < 2 ^ 32 → k < 2 ^ 32 → IsSpelled p x → IsSpelled p y → spelled_text p k x ≡ spelled_text p k y → x ≡ y
one_told p k x y few l okx oky e = let g : Some x ≡ Some y = sym (spelled_told p k x few l okx) ∙ ap (line_told p k) e ∙ spelled_told p k y few l oky in (cc)
