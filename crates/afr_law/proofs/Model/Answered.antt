-- What a brick answers next lies in the ranges of its types, so the line with the answer may come next.
use Rattle.std.proofs.Common.{◌≡◌, ℕ, suc, ◌<◌, ◌≤◌, ◌^◌, Bool, true, false, refl, arith, List, [], ◌∷◌, ◌++◌, length, filter, Option, None, Some}
use Rattle.std.specs.Prelude.{if◌then◌else◌, slice_index, ◌==◌}
use Rattle.afr_base.specs.Marks.{marks_of}
use Rattle.afr_base.specs.declared.ids.ActorId.{ActorId}
use Rattle.afr_base.specs.declared.ids.Gfid.{Gfid}
use Rattle.afr_base.specs.declared.ids.Kind.{Kind}
use Rattle.afr_base.specs.declared.ids.Kind.TheVariants.{Attrs, Bytes, Names}
use Rattle.afr_lines.specs.declared.fault.Fault.{Fault}
use Rattle.afr_lines.specs.declared.fault.Fault.TheVariants.{Fail, Lost}
use Rattle.afr_lines.specs.Overlap.{overlap}
use Rattle.afr_lines.specs.Told.{told_by}
use Rattle.afr_lines.specs.declared.answer.Answer.{Answer}
use Rattle.afr_lines.specs.declared.answer.Answer.TheVariants as answer
use Rattle.afr_lines.specs.declared.answer.Told.{Told}
use Rattle.afr_lines.specs.declared.answer.Told.TheVariants.{Granted}
use Rattle.afr_lines.specs.declared.line.Line.{Line}
use Rattle.afr_lines.specs.declared.line.Line.TheVariants.{Ask}
use Rattle.afr_lines.specs.declared.request.Area.{Area}
use Rattle.afr_lines.specs.declared.request.Request.{Request}
use Rattle.afr_lines.specs.declared.request.Request.TheVariants as request
use Rattle.afr_model.specs.Honest.{copy_answer, fault_in, is_live, lock_answer, outcome_of, over_session, requests_to, tells}
use Rattle.afr_model.specs.Locks.{granted_by_line, locks_held, outlives}
use Rattle.afr_model.specs.Tables.{holds}
use Rattle.afr_object.specs.Tables.{Table, copy_at, view_of}
use Rattle.afr_object.specs.Object.{Object}
use Rattle.afr_plan.specs.declared.plan.Plan.{Plan}
use Rattle.afr_lines.specs.Locks.{conflicts, first_conflict}
use Rattle.afr_lines.specs.declared.lock.HeldLock.{HeldLock}
use Rattle.afr_law_tables.specs.TableLaws.{five_pending, numbers_below}
use Rattle.afr_model_moves.specs.ByList.{IsExactlyLawful}
use Rattle.afr_model_moves.specs.Past.{Beginning}
use Rattle.afr_model_moves.specs.Ranges.{Each, IfSome, InRange, IsTwoBytes, IsWord, MarksInRange, ToldInRange, ViewInRange}
use Rattle.afr_law.proofs.Model.Discipline.{weakly_lawful}
use Rattle.afr_law.proofs.Model.Next.{next_by, said_by}
use Rattle.afr_law.proofs.Model.Repairs.{ends_each}
use Rattle.afr_law.proofs.Model.Short.{all_short}
use Rattle.afr_law.specs.Beginning.{start_of}
use Rattle.afr_law.specs.Exactly.{name_bound}
use Rattle.afr_law.specs.ModelNext.{ModelNextAnswered, asking}

-- ---- locks
-- the owner of each lock has a number of two bytes
abbrev AreShort : List (HeldLock Area) → Type 0
AreShort locks = Each (λ (lock : HeldLock Area). IsTwoBytes lock.owner.0) locks

short_filter : (test : HeldLock Area → Bool) (locks : List (HeldLock Area)) → AreShort locks → AreShort (filter test locks)
short_filter test [] h = tt
short_filter test (lock ∷ locks) h = go (test lock) (short_filter test locks h.1)
  where
    go : (kept : Bool) → AreShort (filter test locks) → AreShort (if kept then lock ∷ filter test locks else filter test locks)
    go true rest = (h.0, rest)
    go false rest = rest

short_append : (first second : List (HeldLock Area)) → AreShort first → AreShort second → AreShort (first ++ second)
short_append [] second h k = k
short_append (lock ∷ first) second h k = (h.0, short_append first second h.1 k)

granted_short : (b : ℕ) (line : Line) → InRange line → AreShort (granted_by_line b line)
granted_short b (Ask a y (request.Lock domain area) Granted took) range = go (y.0 == b)
  where
    go : (here : Bool) → AreShort (if here then record { owner = a; domain = domain; area = area } ∷ [] else [])
    go true = (range.0, tt)
    go false = tt
granted_short b line range = tt

locks_short : (n : ℕ) (files : Beginning) (b : ℕ) (log : List Line) → IsExactlyLawful n files log → AreShort (locks_held b log)
locks_short n files b [] lawful = tt
locks_short n files b (line ∷ older) lawful =
    short_append (filter (outlives line b) (locks_held b older)) (granted_by_line b line) (short_filter (outlives line b) (locks_held b older) (locks_short n files b older lawful.1)) (granted_short b line (lawful.0).0)

way_short : (wanted : HeldLock Area) (locks : List (HeldLock Area)) → AreShort locks → IfSome (λ (owner : ActorId). IsTwoBytes owner.0) (first_conflict overlap wanted locks)
way_short wanted [] h = tt
way_short wanted (lock ∷ locks) h = go (conflicts overlap wanted lock) (way_short wanted locks h.1)
  where
    go : (hit : Bool) → IfSome (λ (owner : ActorId). IsTwoBytes owner.0) (first_conflict overlap wanted locks) → IfSome (λ (owner : ActorId). IsTwoBytes owner.0) (if hit then Some lock.owner else first_conflict overlap wanted locks)
    go true rest = h.0
    go false rest = rest

-- ---- copies
each_word : (numbers : List ℕ) (most : ℕ) → most < 2 ^ 32 → ((c : ℕ) → slice_index numbers c ≤ most) → Each IsWord numbers
each_word [] most low h = tt
each_word (x ∷ numbers) most low h = ((let first = h 0 in omega (arith, first, low)), each_word numbers most low (λ c. h (suc c)))

module _ (p : Plan) (log : List Line) (short : length log < 4000000) where
  pub marks_range : (b : ℕ) (g : Gfid) (o : Object) → copy_at g (holds p log b) ≡ Some o → (kind : Kind) → MarksInRange (marks_of kind o.marks)
  marks_range b g o e kind =
      let low = numbers_below p log b g kind o e in
      let dirty = low.0 in
      (omega (arith, dirty, short), five_pending p log b g kind o e, each_word (marks_of kind o.marks).pending (length log) (omega (arith, short)) low.1)

  view_range : (b : ℕ) (g : Gfid) (o : Object) → copy_at g (holds p log b) ≡ Some o → length o.content ≤ 1048576 → ViewInRange (view_of o)
  view_range b g o e low = (omega (arith, low), marks_range b g o e Bytes, marks_range b g o e Attrs, marks_range b g o e Names)

-- ---- answers
way_range : (way : Option ActorId) → IfSome (λ (owner : ActorId). IsTwoBytes owner.0) way → ToldInRange (told_by (lock_answer way))
way_range None h = tt
way_range (Some owner) h = h

copy_range : (f : Object → Answer) (copy : Option Object) → ((o : Object) → copy ≡ Some o → ToldInRange (told_by (f o))) → ToldInRange (told_by (copy_answer f copy))
copy_range f None all = tt
copy_range f (Some o) all = all o refl

tells_range : (a : ActorId) (r : Request) (b : ℕ) (t : Table) (log : List Line) → AreShort (locks_held b log) → ((g : Gfid) (o : Object) → copy_at g t ≡ Some o → ViewInRange (view_of o)) → ToldInRange (tells a r b t log)
tells_range a (request.Lock domain area) b t log locks views = way_range _ (way_short (record { owner = a; domain = domain; area = area }) (locks_held b log) locks)
tells_range a (request.Unlock domain area) b t log locks views = tt
tells_range a (request.Look g) b t log locks views = copy_range (λ o. answer.Seen (view_of o)) (copy_at g t) (λ o e. views g o e)
tells_range a (request.ReadBytes g at len) b t log locks views = copy_range _ (copy_at g t) (λ o e. tt)
tells_range a (request.ReadName g name) b t log locks views = copy_range _ (copy_at g t) (λ o e. tt)
tells_range a (request.List g) b t log locks views = copy_range _ (copy_at g t) (λ o e. tt)
tells_range a (request.ReadAttr g key) b t log locks views = copy_range _ (copy_at g t) (λ o e. tt)
tells_range a (request.ReadAttrs g) b t log locks views = copy_range _ (copy_at g t) (λ o e. tt)
tells_range a request.Index b t log locks views = tt
tells_range a (request.Pre g kind) b t log locks views = copy_range _ (copy_at g t) (λ o e. tt)
tells_range a (request.Apply attempt) b t log locks views = copy_range (λ o. answer.Done) _ (λ o e. tt)
tells_range a (request.Post attempt g kind missed) b t log locks views = copy_range _ (copy_at g t) (λ o e. tt)
tells_range a (request.Mend repair) b t log locks views = copy_range (λ o. answer.Done) _ (λ o e. tt)
tells_range a (request.Settle g kind less) b t log locks views = copy_range _ (copy_at g t) (λ o e. tt)

session_range : (live : Bool) (fault : Option Fault) (said : Told) → ToldInRange said → ToldInRange (over_session live fault said).told
session_range false fault said h = tt
session_range true (Some Fail) said h = tt
session_range true (Some Lost) said h = tt
session_range true None said h = h

-- ---- in the words of the model
pub next_answered : ModelNextAnswered
next_answered p log a b r five short honest lawful may =
    let weak = weakly_lawful p log five (omega (arith, short)) honest lawful in
    let copies = (all_short p log (ends_each p.shape.n p log lawful) weak).0 in
    let locks = locks_short p.shape.n (start_of p (name_bound p)) b.0 log lawful in
    let range : ToldInRange (outcome_of p a b.0 r (asking a b r) log).told =
    session_range (is_live p a b.0 (asking a b r) log) (fault_in p.faults b.0 (suc (requests_to b.0 log))) _
    (tells_range a r b.0 (holds p log b.0) log locks (λ g o e. view_range p log short b.0 g o e (copies b.0 g o e).0)) in
    (said_by p log a b r may, next_by p log a b r may range)
