-- A line that was filled has the text that it was filled from.
use Rattle.std.proofs.Common.{◌≡◌, ℕ, ◌<◌, ◌^◌, ◌==◌, ◌&&◌, ◌∷◌, [], List, length, Option, Some, None, refl, ap, subst, ◌∙◌, arith, Bool, true, false, inl, inr}
use Rattle.std.specs.Prelude.{option_map, if◌then◌else◌}
use Rattle.std.proofs.lemmas.Bool.{eqb-true}
use Rattle.std.proofs.lemmas.Bool.Decides.{nat_tests}
use Rattle.afr_base.specs.declared.ids.ActorId.{ActorId}
use Rattle.afr_base.specs.declared.ids.BrickId.{BrickId}
use Rattle.afr_base.specs.declared.ids.Gfid.{Gfid}
use Rattle.afr_base.specs.declared.marks.Marks.{Marks}
use Rattle.afr_lines.specs.Log.{change_at}
use Rattle.afr_lines.specs.declared.line.Line.{Line}
use Rattle.afr_lines.specs.declared.line.Line.TheVariants as line
use Rattle.afr_lines.specs.declared.lock.Domain.{Domain}
use Rattle.afr_lines.specs.declared.request.Request.{Request}
use Rattle.afr_lines.specs.declared.request.Request.TheVariants as request
use Rattle.afr_object.specs.declared.change.Change.{Change}
use Rattle.afr_object.specs.declared.change.Change.TheVariants as change
use Rattle.afr_object.specs.declared.change.Repair.TheVariants as repair
use Rattle.afr_plan.specs.Reading.{checked}
use Rattle.afr_plan.specs.declared.command.Command.{Command}
use Rattle.afr_plan.specs.declared.command.Command.TheVariants as command
use Rattle.afr_plan.specs.declared.plan.Plan.{Plan}
use Rattle.afr_plan_read.proofs.Laws.{checked_some}
use Rattle.afr_trace_build.specs.Filling.{asked_line, begun, begun_write, done_by, fill_with, has_work, heal_reply_from, is_event_of, is_heal_end, present, reply_from, where_named}
use Rattle.afr_trace_build.specs.Requests.{area_from, flagged_bricks, is_answer, is_brick, may_all_miss, post_from, request_from, told_from, took_from}
use Rattle.afr_trace_build.specs.declared.filling.Filled.{Filled}
use Rattle.afr_trace_build.specs.declared.filling.Filled.TheVariants as filled
use Rattle.afr_trace_build.specs.declared.showing.Shown.{Shown}
use Rattle.afr_trace_build.proofs.MergedLaws.{merged_so}
use Rattle.afr_trace_read.specs.Fit.{AreMarks, ArePending, IsAsked, IsDoing, IsSpan, IsTraceLine}
use Rattle.afr_trace_read.specs.Stands.{answered_of, asked_of, asks, blanked, by, healed_of, marks_from, missed_from, replied_of, span_from, trace_line_of}
use Rattle.afr_trace_read.specs.declared.kinds.Answered.{Answered}
use Rattle.afr_trace_read.specs.declared.kinds.Answered.TheVariants as answered
use Rattle.afr_trace_read.specs.declared.kinds.Doing.{Doing}
use Rattle.afr_trace_read.specs.declared.kinds.Doing.TheVariants as doing
use Rattle.afr_trace_read.specs.declared.kinds.Healed.{Healed}
use Rattle.afr_trace_read.specs.declared.kinds.Healed.TheVariants as healed
use Rattle.afr_trace_read.specs.declared.kinds.Span.{Span}
use Rattle.afr_trace_read.specs.declared.kinds.Span.TheVariants as span
use Rattle.afr_trace_read.specs.declared.kinds.SpelledChange.{SpelledChange}
use Rattle.afr_trace_read.specs.declared.kinds.SpelledChange.TheVariants as changing
use Rattle.afr_trace_read.specs.declared.kinds.SpelledReply.{SpelledReply}
use Rattle.afr_trace_read.specs.declared.kinds.SpelledReply.TheVariants as replied
use Rattle.afr_trace_read.specs.declared.kinds.SpelledRequest.{SpelledRequest}
use Rattle.afr_trace_read.specs.declared.kinds.SpelledRequest.TheVariants as asked
use Rattle.afr_trace_read.specs.declared.kinds.TraceLine.{TraceLine}
use Rattle.afr_trace_read.specs.declared.kinds.TraceLine.TheVariants as trace_line

-- ---- answers
told_so : (known : Shown) (t : Answered) → answered_of (told_from known t) (took_from t) ≡ t
told_so known answered.Granted = refl
told_so known (answered.Held owner) = refl
told_so known answered.Seen = refl
told_so known answered.Done = refl
told_so known answered.Given = refl
told_so known answered.NoObject = refl
told_so known answered.Lost = refl
told_so known answered.Gone = refl
told_so known answered.Failed = refl

-- ---- locks
spans : (p : Plan) (from to : ℕ) → from < 2 ^ 63 → to < 2 ^ 63 → span_from from to ≡ span.Range from (Some to)
spans p from to l m =
    let e : (from == 2 ^ 63) ≡ false = grind (arith, nat_tests, l) in
    let f : (to == 2 ^ 63) ≡ false = grind (arith, nat_tests, m) in
    rw (e, f) refl

open_spans : (p : Plan) (from : ℕ) → from < 2 ^ 63 → span_from from (2 ^ 63) ≡ span.Range from None
open_spans p from l = let e : (from == 2 ^ 63) ≡ false = grind (arith, nat_tests, l) in rw e refl

lock_so : (p : Plan) (d : Domain) (g : Gfid) (s : Span) → IsSpan p s → asked_of p (request.Lock d (area_from g s)) ≡ Some (asked.Lock d g s)
lock_so p d g span.Meta ok = refl
lock_so p d g (span.Range from None) ok = ap (λ (s : Span). Some (asked.Lock d g s)) (open_spans p from ok.0)
lock_so p d g (span.Range from (Some to)) ok = ap (λ (s : Span). Some (asked.Lock d g s)) (spans p from to ok.0 ok.1)
lock_so p d g span.AllNames ok = refl
lock_so p d g (span.OfName name) ok = refl

unlock_so : (p : Plan) (d : Domain) (g : Gfid) (s : Span) → IsSpan p s → asked_of p (request.Unlock d (area_from g s)) ≡ Some (asked.Unlock d g s)
unlock_so p d g span.Meta ok = refl
unlock_so p d g (span.Range from None) ok = ap (λ (s : Span). Some (asked.Unlock d g s)) (open_spans p from ok.0)
unlock_so p d g (span.Range from (Some to)) ok = ap (λ (s : Span). Some (asked.Unlock d g s)) (spans p from to ok.0 ok.1)
unlock_so p d g span.AllNames ok = refl
unlock_so p d g (span.OfName name) ok = refl

-- ---- posts
five_flags : (a b c d e : Bool) → missed_from (flagged_bricks (a ∷ b ∷ c ∷ d ∷ e ∷ [])) ≡ Some (a ∷ b ∷ c ∷ d ∷ e ∷ [])
five_flags true true true true true = refl
five_flags true true true true false = refl
five_flags true true true false true = refl
five_flags true true true false false = refl
five_flags true true false true true = refl
five_flags true true false true false = refl
five_flags true true false false true = refl
five_flags true true false false false = refl
five_flags true false true true true = refl
five_flags true false true true false = refl
five_flags true false true false true = refl
five_flags true false true false false = refl
five_flags true false false true true = refl
five_flags true false false true false = refl
five_flags true false false false true = refl
five_flags true false false false false = refl
five_flags false true true true true = refl
five_flags false true true true false = refl
five_flags false true true false true = refl
five_flags false true true false false = refl
five_flags false true false true true = refl
five_flags false true false true false = refl
five_flags false true false false true = refl
five_flags false true false false false = refl
five_flags false false true true true = refl
five_flags false false true true false = refl
five_flags false false true false true = refl
five_flags false false true false false = refl
five_flags false false false true true = refl
five_flags false false false true false = refl
five_flags false false false false true = refl
five_flags false false false false false = refl

flags_so : (flags : List Bool) → length flags ≡ 5 → missed_from (flagged_bricks flags) ≡ Some flags
flags_so (a ∷ b ∷ c ∷ d ∷ e ∷ []) n = five_flags a b c d e
flags_so [] n = absurd (omega (arith, n))
flags_so (a ∷ []) n = absurd (omega (arith, n))
flags_so (a ∷ b ∷ []) n = absurd (omega (arith, n))
flags_so (a ∷ b ∷ c ∷ []) n = absurd (omega (arith, n))
flags_so (a ∷ b ∷ c ∷ d ∷ []) n = absurd (omega (arith, n))
flags_so (a ∷ b ∷ c ∷ d ∷ e ∷ f ∷ more) n = absurd (omega (arith, n))

so : (p : Plan) (s : SpelledRequest) (q r : Request) → asked_of p q ≡ Some s → Some q ≡ Some r → asked_of p r ≡ Some s
so p s q r h e = let f : q ≡ r = cc in subst (λ (z : Request). asked_of p z ≡ Some s) f h

so_checked : (p : Plan) (s : SpelledRequest) (ok : Bool) (q r : Request) → asked_of p q ≡ Some s → checked ok q ≡ Some r → asked_of p r ≡ Some s
so_checked p s ok q r h e = let c = checked_some ok q r e in subst (λ (z : Request). asked_of p z ≡ Some s) c.1 h

post_so : (p : Plan) (attempt : ℕ) (missed : List Bool) (o : Option Change) (r : Request) → length missed ≡ 5 → post_from p attempt missed o ≡ Some r → asked_of p r ≡ Some (asked.Post attempt missed)
post_so p attempt missed None r n e = absurd (cc e)
post_so p attempt missed (Some change) r n e = so_checked p (asked.Post attempt missed) (may_all_miss p missed) _ r (ap (option_map (asked.Post attempt)) (flags_so missed n)) e

apply_so : (p : Plan) (attempt : ℕ) (o : Option Change) (r : Request) → option_map (λ (change : Change). request.Apply attempt) o ≡ Some r → asked_of p r ≡ Some (asked.Apply attempt)
apply_so p attempt None r e = absurd (cc e)
apply_so p attempt (Some change) r e = so p (asked.Apply attempt) (request.Apply attempt) r refl e

-- ---- settlings
pending_so : (n : ℕ) (xs : List ℕ) → ArePending n xs → blanked n xs ≡ xs
pending_so n (a ∷ b ∷ c ∷ d ∷ e ∷ []) ok = elim ok.1 [
  | inl five ↦ rw five.0 refl
  | inr three ↦ rw (three.0, three.1, three.2) refl
]
pending_so n other ok = absurd ok

marks_so : (n : ℕ) (less : Marks) → AreMarks n less → marks_from n less ≡ less
marks_so n less ok = ap (λ (xs : List ℕ). record less { pending = xs }) (pending_so n less.pending ok.1)

-- ---- requests
request_so : (p : Plan) (older : List Line) (known : Shown) (s : SpelledRequest) (r : Request) → IsAsked p s → request_from p older known s ≡ Some r → asked_of p r ≡ Some s
request_so p older known (asked.Lock d g s) r ok e = so p (asked.Lock d g s) (request.Lock d (area_from g s)) r (lock_so p d g s ok.1) e
request_so p older known (asked.Unlock d g s) r ok e = so p (asked.Unlock d g s) (request.Unlock d (area_from g s)) r (unlock_so p d g s ok.1) e
request_so p older known (asked.Look g) r ok e = so p (asked.Look g) (request.Look g) r refl e
request_so p older known (asked.ReadBytes g at len) r ok e = so p (asked.ReadBytes g at len) (request.ReadBytes g at len) r refl e
request_so p older known (asked.ReadName dir name) r ok e = so p (asked.ReadName dir name) (request.ReadName dir name) r refl e
request_so p older known (asked.List g) r ok e = so p (asked.List g) (request.List g) r refl e
request_so p older known (asked.ReadAttr g key) r ok e = so p (asked.ReadAttr g key) (request.ReadAttr g key) r refl e
request_so p older known (asked.ReadAttrs g) r ok e = so p (asked.ReadAttrs g) (request.ReadAttrs g) r refl e
request_so p older known asked.Index r ok e = so p asked.Index request.Index r refl e
request_so p older known (asked.Pre g kind) r ok e = so p (asked.Pre g kind) (request.Pre g kind) r refl e
request_so p older known (asked.Apply attempt) r ok e = apply_so p attempt (change_at attempt older) r e
request_so p older known (asked.Post attempt missed) r ok e = post_so p attempt missed (change_at attempt older) r ok.1 e
request_so p older known (asked.CutTo g len) r ok e = so p (asked.CutTo g len) (request.Mend (repair.CutTo g len)) r refl e
request_so p older known (asked.Copy g at long read) r ok e = so_checked p (asked.Copy g at long read) _ (request.Mend (repair.Copy g at long read)) r refl e
request_so p older known (asked.PutAttrs g read) r ok e = so_checked p (asked.PutAttrs g read) _ (request.Mend (repair.PutAttrs g read)) r refl e
request_so p older known (asked.PutNames g reads) r ok e = merged_so p older g reads r ok.1 e
request_so p older known (asked.Settle g kind less) r ok e = so p (asked.Settle g kind less) (request.Settle g kind less) r (ap (λ (m : Marks). Some (asked.Settle g kind m)) (marks_so p.shape.n less ok.1)) e

-- ---- lines
is_line : (p : Plan) (s : TraceLine) (m l : Line) → trace_line_of p m ≡ Some s → filled.Stands m ≡ filled.Stands l → trace_line_of p l ≡ Some s
is_line p s m l h e = let f : m ≡ l = cc in subst (λ (z : Line). trace_line_of p z ≡ Some s) f h

pub named_is : (ok : Bool) (x : Filled) (l : Line) → where_named ok x ≡ filled.Stands l → x ≡ filled.Stands l
named_is true x l e = e
named_is false x l e = absurd (cc e)

ask_so : (p : Plan) (older : List Line) (known : Shown) (a : ActorId) (b : BrickId) (s : SpelledRequest) (t : Answered) (o : Option Request) (l : Line)
    → ((r : Request) → o ≡ Some r → asked_of p r ≡ Some s) → asked_line a b known t o ≡ filled.Stands l → trace_line_of p l ≡ Some (trace_line.Of a (doing.Ask b s t))
ask_so p older known a b s t None l h e = absurd (cc e)
ask_so p older known a b s t (Some r) l h e =
    let here : trace_line_of p (line.Ask a b r (told_from known t) (took_from t)) ≡ Some (trace_line.Of a (doing.Ask b s t)) =
    ap (λ (o : Option SpelledRequest). option_map (by a) (option_map (asks b (answered_of (told_from known t) (took_from t))) o)) (h r refl) ∙ ap (λ (u : Answered). Some (trace_line.Of a (doing.Ask b s u))) (told_so known t) in
    is_line p (trace_line.Of a (doing.Ask b s t)) (line.Ask a b r (told_from known t) (took_from t)) l here e

write_so : (p : Plan) (a : ActorId) (g : Gfid) (at len : ℕ) (o : Option Command) (l : Line) → begun_write a g at len o ≡ filled.Stands l → trace_line_of p l ≡ Some (trace_line.Of a (doing.Begin (changing.Write g at len)))
write_so p a g at len (Some (command.Write path off bytes)) l e = step (length bytes == len) refl e
  where
    step : (same : Bool) → (length bytes == len) ≡ same → (if same then filled.Stands (line.Begin a (change.Write g at bytes)) else filled.OtherWords) ≡ filled.Stands l → trace_line_of p l ≡ Some (trace_line.Of a (doing.Begin (changing.Write g at len)))
    step true s h = is_line p _ (line.Begin a (change.Write g at bytes)) l (ap (λ (n : ℕ). Some (trace_line.Of a (doing.Begin (changing.Write g at n)))) (eqb-true (length bytes) len s)) h
    step false s h = absurd (cc h)
write_so p a g at len other l e = absurd (cc e)

begun_so : (p : Plan) (older : List Line) (a : ActorId) (c : SpelledChange) (l : Line) → begun p older a c ≡ filled.Stands l → trace_line_of p l ≡ Some (trace_line.Of a (doing.Begin c))
begun_so p older a (changing.Write g at len) l e = write_so p a g at len (present p a older) l e
begun_so p older a (changing.Cut g len) l e = is_line p _ (line.Begin a (change.Cut g len)) l refl e
begun_so p older a (changing.SetAttr g key value) l e = is_line p _ (line.Begin a (change.SetAttr g key value)) l refl e
begun_so p older a (changing.Make what dir name g) l e = is_line p _ (line.Begin a (change.Make dir name g what)) l refl e
begun_so p older a (changing.Remove what dir name) l e = is_line p _ (line.Begin a (change.Remove dir name what)) l refl e

healed_so : (known : Shown) (h : Healed) → healed_of (heal_reply_from known h) ≡ h
healed_so known healed.Nothing = refl
healed_so known healed.Settled = refl
healed_so known healed.Split = refl
healed_so known (healed.Busy owner) = refl
healed_so known healed.Short = refl
healed_so known (healed.Moved b) = refl
healed_so known healed.Failed = refl

replied_so : (p : Plan) (older : List Line) (known : Shown) (a : ActorId) (r : SpelledReply) (text : List ℕ) → replied_of (reply_from p older known a r text) ≡ r
replied_so p older known a replied.Ok text = refl
replied_so p older known a replied.NoEntry text = refl
replied_so p older known a replied.Exists text = refl
replied_so p older known a replied.NotDir text = refl
replied_so p older known a replied.IsDir text = refl
replied_so p older known a replied.NotEmpty text = refl
replied_so p older known a replied.NoQuorum text = refl
replied_so p older known a replied.FewCopies text = refl
replied_so p older known a replied.SplitBrain text = refl
replied_so p older known a replied.Failed text = refl
replied_so p older known a replied.TooLarge text = refl
replied_so p older known a replied.Half text = refl

done_so : (p : Plan) (older : List Line) (known : Shown) (a : ActorId) (d : Doing) (text : List ℕ) (l : Line) → IsDoing p d → done_by p older known a d text ≡ filled.Stands l → trace_line_of p l ≡ Some (trace_line.Of a d)
done_so p older known a (doing.Ask b s t) text l ok e = ask_so p older known a b s t (request_from p older known s) l (λ r f. request_so p older known s r ok.0.1 f) (named_is (is_brick p b.0 && is_answer p t) _ l e)
done_so p older known a (doing.HealBegin kind g) text l ok e = is_line p _ (line.HealBegin a g kind) l refl e
done_so p older known a (doing.Begin c) text l ok e = begun_so p older a c l e
done_so p older known a (doing.HealEnd kind g h) text l ok e = is_line p _ (line.HealEnd a g kind (heal_reply_from known h)) l (ap (λ (x : Healed). Some (trace_line.Of a (doing.HealEnd kind g x))) (healed_so known h)) (named_is (is_heal_end p h) _ l e)
done_so p older known a (doing.End r) text l ok e = is_line p _ (line.End a (reply_from p older known a r text)) l (ap (λ (x : SpelledReply). Some (trace_line.Of a (doing.End x))) (replied_so p older known a r text)) e

-- what a line was filled from is what its text says
pub filled_so : (p : Plan) (older : List Line) (known : Shown) (s : TraceLine) (text : List ℕ) (l : Line) → IsTraceLine p s → fill_with p older known (s, text) ≡ filled.Stands l → trace_line_of p l ≡ Some s
filled_so p older known (trace_line.Event event) text l ok e = is_line p _ (line.Event event) l refl (named_is (is_event_of p event) _ l e)
filled_so p older known (trace_line.Of a d) text l ok e = done_so p older known a d text l ok.1 (named_is (has_work p older a) _ l e)
