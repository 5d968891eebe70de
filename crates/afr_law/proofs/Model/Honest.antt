-- Honest answers in the words of the model are honest answers by positions.
use Rattle.std.proofs.Common.{◌≡◌, ℕ, suc, zero, ◌+◌, ◌<◌, ◌≤◌, ◌^◌, Bool, true, false, ◌&&◌, ◌||◌, refl, sym, ◌∙◌, ap, subst, arith, List, [], ◌∷◌, length, Option, None, Some, ◌==◌, if◌then◌else◌, true≢false}
use Rattle.std.specs.Prelude.{is_some, nat_lt, option_and_then}
use Rattle.std.proofs.lemmas.Bool.Decides.{nat_tests}
use Rattle.std.proofs.lemmas.List.{get_or_past}
use Rattle.afr_base.specs.Bricks.{member, below}
use Rattle.afr_base.specs.declared.ids.ActorId.{ActorId}
use Rattle.afr_base.specs.declared.ids.BrickId.{BrickId}
use Rattle.afr_base.specs.declared.ids.Gfid.{Gfid}
use Rattle.afr_base.specs.declared.ids.Kind.{Kind}
use Rattle.afr_base.specs.declared.ids.Kind.TheVariants.{Bytes}
use Rattle.afr_object.specs.Bytes.{byte_at}
use Rattle.afr_lines.specs.declared.fault.Fault.{Fault}
use Rattle.afr_lines.specs.declared.fault.Fault.TheVariants.{Fail, Lost as LostAnswer}
use Rattle.afr_object.specs.Repairs as repairs
use Rattle.afr_object.specs.Tables.{copy_at, view_of, object_of, opening}
use Rattle.afr_object.specs.declared.change.Change.{Change}
use Rattle.afr_object.specs.declared.change.Change.TheVariants.{Write, Cut, SetAttr, Make, Remove}
use Rattle.afr_object.specs.declared.change.Repair.{Repair}
use Rattle.afr_object.specs.declared.change.Repair.TheVariants.{CutTo, Copy, PutAttrs, PutNames}
use Rattle.afr_object.specs.Object.{Object}
use Rattle.afr_lines.specs.Log.{from_oldest, change_of, change_at}
use Rattle.afr_lines.specs.Told.{told_by}
use Rattle.afr_lines.specs.declared.answer.Answer.{Answer}
use Rattle.afr_lines.specs.declared.answer.Answer.TheVariants as answer
use Rattle.afr_lines.specs.declared.answer.Told.{Told}
use Rattle.afr_lines.specs.declared.line.Line.{Line}
use Rattle.afr_lines.specs.declared.line.Line.TheVariants.{Ask, Begin, HealBegin, End, HealEnd, Event}
use Rattle.afr_lines.specs.declared.request.Request.{Request}
use Rattle.afr_lines.specs.declared.request.Request.TheVariants as request
use Rattle.afr_plan.specs.declared.plan.Plan.{Plan}
use Rattle.afr_model.specs.Honest.{requests_to, fault_in, copy_answer, copy_for, lock_answer, tells, RequestOutcome, over_session, is_live, IsHonest}
use Rattle.afr_model.specs.Honest as model
use Rattle.afr_lines.specs.Locks.{first_conflict}
use Rattle.afr_model.specs.Locks.{locks_held}
use Rattle.afr_lines.specs.Overlap.{overlap}
use Rattle.afr_model.specs.Sums.{has_object}
use Rattle.afr_model.specs.Tables.{holds}
use Rattle.afr_model_moves.specs.Cells.{Byte}
use Rattle.afr_law_tables.specs.Codes.{kind_code, code_in, kept_by}
use Rattle.afr_model_moves.specs.Past.{Log, joined, opening as opens_session, object, object_of_line, repaired, value}
use Rattle.afr_model_moves.specs.Past as past
use Rattle.afr_model_moves.specs.Honest.{asks, asked, Shows, finds, begins_attempt, Answers, Tells, HonestAsk, HonestLine}
use Rattle.afr_model_moves.proofs.ByPosition.{IsPast, before_past}
use Rattle.afr_law.proofs.Safety.CellHistory.{untouched_value}
use Rattle.afr_law.proofs.Model.Sessions.{joined_is, opening_is}
use Rattle.afr_law.proofs.Model.Locks.{free_way, taken_way}
use Rattle.afr_law.proofs.Model.Tables.{kind_is, code_is_value}
use Rattle.afr_law.proofs.Model.SoundLog.{LawfulBelow}
use Rattle.afr_law_tables.proofs.Values.{linked_left, content_names, code_of, none_past}
use Rattle.afr_law.proofs.Model.Sums.{TakeWithin, holds_is, pending_is, copy_pending}
use Rattle.afr_law.specs.Beginning.{start_of}

-- how many requests came to a brick
asked_is : (L : Log) (b : ℕ) (older : List Line) → IsPast L older → asked L (length older) b ≡ requests_to b older
unfolding asked
asked_is L b [] h = refl
asked_is L b (line ∷ older) h = (λ i. (if asks b (h.0 i) then 1 else 0) + asked_is L b older h.1 i) ∙ one line
  where
    pick : (hit : Bool) (n : ℕ) → (if hit then 1 else 0) + n ≡ (if hit then n + 1 else n)
    pick true n = omega arith
    pick false n = omega arith

    one : (line : Line) → (if asks b (Some line) then 1 else 0) + requests_to b older ≡ model.one_more b line (requests_to b older)
    one (Ask a y r told took) = pick (y.0 == b) (requests_to b older)
    one (Begin a c) = omega arith
    one (HealBegin a g kind) = omega arith
    one (End a reply) = omega arith
    one (HealEnd a g kind reply) = omega arith
    one (Event e) = omega arith

-- opening files are empty
pub no_bytes : (files g i : ℕ) → code_in (opening files) (Byte g i) ≡ 0
no_bytes zero g i = of_test _
  where
    of_test : (is : Bool) → code_of (Byte g i) (if is then Some (Rattle.afr_object.specs.Tables.new_object Rattle.afr_base.specs.declared.ids.What.TheVariants.Dir) else None) ≡ 0
    of_test true = none_past i
    of_test false = refl
no_bytes (suc k) g i = linked_left _ _ _ _ (opening k) (Byte g i) (λ f o. ap (λ (c : List ℕ). Rattle.afr_model.specs.Cells.IsByte (byte_at i c)) (content_names f o).0) ∙ no_bytes k g i

pub small_of : (p : Plan) (c : ℕ) (kind : Kind) → kept_by p c kind ≡ true → c < 5
small_of p c kind e = go (nat_lt c 5) refl e
  where
    go : (low : Bool) → nat_lt c 5 ≡ low → (low && Rattle.afr_choice.specs.Verdict.keeps p.shape kind c) ≡ true → c < 5
    go true f e = grind (arith, nat_tests)
    go false f e = absurd (true≢false (sym e))

module _ (p : Plan) (n : ℕ) (L : Log) (b : ℕ) (older : List Line) (h : IsPast L older) (lawful : LawfulBelow p n older) (within : TakeWithin p older) where
  value_past : (g : Gfid) (o : Object) → copy_at g (holds p older b) ≡ Some o → kept_by p b Bytes ≡ true → (i : ℕ) → length o.content ≤ i → value (start_of p n) L (length older) b (Byte g.0 i) ≡ 0
  value_past g o e kept i low = go (nat_lt i (2 ^ 63)) refl
    where
      go : (real : Bool) → nat_lt i (2 ^ 63) ≡ real → value (start_of p n) L (length older) b (Byte g.0 i) ≡ 0
      go true real = code_is_value p n L b (Byte g.0 i) real kept older h lawful ∙ ap (code_of (Byte g.0 i)) e ∙ get_or_past o.content i 0 low
      go false real = untouched_value (start_of p n) L b (Byte g.0 i) real (length older) ∙ no_bytes p.files g.0 i

  look_shows : (g : Gfid) (o : Object) → copy_at g (holds p older b) ≡ Some o → Shows (start_of p n) L (length older) b g.0 (view_of o)
  look_shows g o e = record {
    marks = λ kind c kept. copy_pending p b c g kind (small_of p c kind kept) kept older within o e ∙ sym (pending_is p n L b c g kind older h lawful);
    what = sym (kind_is p n L b older h lawful g.0 ∙ ap kind_code e);
    length = λ kept i low. value_past g o e kept i low;
  }

  -- a request that a copy answers
  copy_tells : (a : ℕ) (g : Gfid) (r : Request) (f : Object → Answer) → finds (start_of p n) L (length older) b r ≡ has_object p older g b
      → ((o : Object) → copy_at g (holds p older b) ≡ Some o → Answers (start_of p n) L (length older) a b r (told_by (f o)))
      → Tells (start_of p n) L (length older) a b r (told_by (copy_answer f (copy_at g (holds p older b)))) (finds (start_of p n) L (length older) b r)
  copy_tells a g r f found each = subst (Tells (start_of p n) L (length older) a b r (told_by (copy_answer f (copy_at g (holds p older b))))) (sym found) (go (copy_at g (holds p older b)) refl)
    where
      go : (o : Option Object) → copy_at g (holds p older b) ≡ o → Tells (start_of p n) L (length older) a b r (told_by (copy_answer f o)) (is_some o)
      go None e = refl
      go (Some o) e = each o e

  found : (g : Gfid) → past.holds (start_of p n) L (length older) b g.0 ≡ has_object p older g b
  found g = holds_is p n L b older h lawful g.0

  apply_found : (c : Change) → past.holds (start_of p n) L (length older) b (object c) ≡ has_object p older (object_of c) b
  apply_found (Write g at bytes) = found g
  apply_found (Cut g len) = found g
  apply_found (SetAttr g key value) = found g
  apply_found (Make dir name g what) = found dir
  apply_found (Remove dir name what) = found dir

  mend_found : (r : Repair) → past.holds (start_of p n) L (length older) b (repaired r) ≡ has_object p older (repairs.repaired r) b
  mend_found (CutTo g len) = found g
  mend_found (Copy g at span read) = found g
  mend_found (PutAttrs g read) = found g
  mend_found (PutNames g reads) = found g

  lock_tells : (a : ActorId) (domain : Rattle.afr_lines.specs.declared.lock.Domain.Domain) (area : Rattle.afr_lines.specs.declared.request.Area.Area)
      → Answers (start_of p n) L (length older) a.0 b (request.Lock domain area) (told_by (lock_answer (first_conflict overlap (record { owner = a; domain = domain; area = area }) (locks_held b older))))
  lock_tells a domain area = go (first_conflict overlap (record { owner = a; domain = domain; area = area }) (locks_held b older)) refl
    where
      go : (way : Option ActorId) → first_conflict overlap (record { owner = a; domain = domain; area = area }) (locks_held b older) ≡ way → Answers (start_of p n) L (length older) a.0 b (request.Lock domain area) (told_by (lock_answer way))
      go None e = free_way L a.0 b domain area older h e
      go (Some owner) e = taken_way L a.0 b domain area older h owner e

  apply_tells : (a q : ℕ) → Tells (start_of p n) L (length older) a b (request.Apply q) (told_by (copy_answer (λ o. answer.Done) (copy_for (change_at q older) (holds p older b)))) (finds (start_of p n) L (length older) b (request.Apply q))
  apply_tells a q = subst (λ (x : Option Line). Tells (start_of p n) L (length older) a b (request.Apply q) (told_by (copy_answer (λ o. answer.Done) (copy_for (change_at q older) (holds p older b)))) (begins_attempt x && past.holds (start_of p n) L (length older) b (object_of_line x))) (sym (before_past L older h q)) (go (from_oldest q older))
    where
      some : (c : Change) (there : Bool) → there ≡ has_object p older (object_of c) b → Tells (start_of p n) L (length older) a b (request.Apply q) (told_by (copy_answer (λ o. answer.Done) (copy_at (object_of c) (holds p older b)))) (true && there)
      some c there e = subst (λ (x : Bool). Tells (start_of p n) L (length older) a b (request.Apply q) (told_by (copy_answer (λ o. answer.Done) (copy_at (object_of c) (holds p older b)))) (true && x)) (sym e) (by_copy (copy_at (object_of c) (holds p older b)))
        where
          by_copy : (o : Option Object) → Tells (start_of p n) L (length older) a b (request.Apply q) (told_by (copy_answer (λ o. answer.Done) o)) (true && is_some o)
          by_copy None = refl
          by_copy (Some o) = tt

      go : (x : Option Line) → Tells (start_of p n) L (length older) a b (request.Apply q) (told_by (copy_answer (λ o. answer.Done) (copy_for (option_and_then change_of x) (holds p older b)))) (begins_attempt x && past.holds (start_of p n) L (length older) b (object_of_line x))
      go (Some (Begin z c)) = some c _ (apply_found c)
      go None = refl
      go (Some (Ask z y r told took)) = refl
      go (Some (HealBegin z g kind)) = refl
      go (Some (End z reply)) = refl
      go (Some (HealEnd z g kind reply)) = refl
      go (Some (Event e)) = refl

  -- what a brick tells
  tells_so : (a : ActorId) (r : Request) → Tells (start_of p n) L (length older) a.0 b r (tells a r b (holds p older b) older) (finds (start_of p n) L (length older) b r)
  tells_so a (request.Lock domain area) = lock_tells a domain area
  tells_so a (request.Unlock domain area) = tt
  tells_so a (request.Look g) = copy_tells a.0 g (request.Look g) _ (found g) (λ o e. look_shows g o e)
  tells_so a (request.ReadBytes g at len) = copy_tells a.0 g (request.ReadBytes g at len) _ (found g) (λ o e. tt)
  tells_so a (request.ReadName g name) = copy_tells a.0 g (request.ReadName g name) _ (found g) (λ o e. tt)
  tells_so a (request.List g) = copy_tells a.0 g (request.List g) _ (found g) (λ o e. tt)
  tells_so a (request.ReadAttr g key) = copy_tells a.0 g (request.ReadAttr g key) _ (found g) (λ o e. tt)
  tells_so a (request.ReadAttrs g) = copy_tells a.0 g (request.ReadAttrs g) _ (found g) (λ o e. tt)
  tells_so a request.Index = tt
  tells_so a (request.Pre g kind) = copy_tells a.0 g (request.Pre g kind) _ (found g) (λ o e. tt)
  tells_so a (request.Apply q) = apply_tells a.0 q
  tells_so a (request.Post q g kind missed) = copy_tells a.0 g (request.Post q g kind missed) _ (found g) (λ o e. tt)
  tells_so a (request.Mend repair) = copy_tells a.0 (repairs.repaired repair) (request.Mend repair) _ (mend_found repair) (λ o e. tt)
  tells_so a (request.Settle g kind less) = copy_tells a.0 g (request.Settle g kind less) _ (found g) (λ o e. tt)

  -- and what is told over a session
  asked_so : (a : ActorId) (r : Request) (told : Told) (took live : Bool) (fault : Option Fault) → (record { told = told; took = took }) ≡ over_session live fault (tells a r b (holds p older b) older) → HonestAsk (start_of p n) L (length older) a.0 b r told took live fault
  asked_so a r told took false fault e = (ap (λ (o : RequestOutcome). o.told) e, ap (λ (o : RequestOutcome). o.took) e)
  asked_so a r told took true (Some Fail) e = (ap (λ (o : RequestOutcome). o.told) e, ap (λ (o : RequestOutcome). o.took) e)
  asked_so a r told took true (Some LostAnswer) e = (ap (λ (o : RequestOutcome). o.told) e, ap (λ (o : RequestOutcome). o.took) e)
  asked_so a r told took true None e =
      (subst (λ (said : Told). Tells (start_of p n) L (length older) a.0 b r said (finds (start_of p n) L (length older) b r)) (sym (ap (λ (o : RequestOutcome). o.told) e)) (tells_so a r), ap (λ (o : RequestOutcome). o.took) e)

-- an honest Ask line of the model is honest by positions
pub honest_ask : (p : Plan) (n : ℕ) (L : Log) (a : ActorId) (b : BrickId) (r : Request) (told : Told) (took : Bool) (older : List Line) → member (below p.shape.n) b.0 ≡ true → L (length older) ≡ Some (Ask a b r told took) → IsPast L older → LawfulBelow p n older
    → TakeWithin p older → IsHonest p (Ask a b r told took) older → HonestLine (start_of p n) (fault_in p.faults) L (length older) (Some (Ask a b r told took))
honest_ask p n L a b r told took older low is h lawful within honest =
    let live : is_live p a b.0 (Ask a b r told took) older ≡ (joined L (length older) a.0 b.0 || opens_session L (length older) a.0 b.0) =
    (λ i. sym (joined_is L p a.0 b.0 low older h) i || sym (opening_is L p a.0 b.0 low (Ask a b r told took) older is h) i) in
    let fault : fault_in p.faults b.0 (suc (requests_to b.0 older)) ≡ fault_in p.faults b.0 (suc (asked L (length older) b.0)) = (λ i. fault_in p.faults b.0 (suc (sym (asked_is L b.0 older h) i))) in
    asked_so p n L b.0 older h lawful within a r told took _ _ (honest ∙ (λ i. over_session (live i) (fault i) (tells a r b.0 (holds p older b.0) older)))
