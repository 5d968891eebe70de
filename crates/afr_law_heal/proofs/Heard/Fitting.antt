-- What an honest brick tells a heal fits what was asked, and an index is what the log has.
use Rattle.std.proofs.Common.{◌≡◌, ℕ, suc, ◌<◌, ◌≤◌, ◌⊎◌, arith, nat_le, Bool, true, false, List, [], Option, None, Some, is_some, length, refl, sym, ap, ◌∙◌, subst, inl, inr, take, drop}
use Rattle.afr_base.specs.Bricks.{member}
use Rattle.afr_base.specs.Marks.{marks_of}
use Rattle.afr_base.specs.declared.ids.ActorId.{ActorId}
use Rattle.afr_base.specs.declared.ids.Gfid.{Gfid}
use Rattle.afr_base.specs.declared.ids.Kind.{Kind}
use Rattle.afr_base.specs.declared.ids.Kind.TheVariants as kind_of
use Rattle.afr_base.specs.declared.ids.Shape.{Shape}
use Rattle.afr_choice.specs.declared.looked.Looked.{Looked}
use Rattle.afr_discipline.specs.Stands.{seen_as}
use Rattle.afr_lines.specs.declared.fault.Fault.{Fault}
use Rattle.afr_lines.specs.declared.fault.Fault.TheVariants.{Fail, Lost}
use Rattle.afr_heal.proofs.Parts.{both}
use Rattle.afr_heal.specs.Answers.{fits}
use Rattle.afr_heal.specs.Engine.{NextOfHeal}
use Rattle.afr_heal.specs.Requests.{read_in, repair_in}
use Rattle.afr_heal.specs.Standing.{AfterLooks}
use Rattle.afr_law_heal.proofs.Heard.Asks.{HealAsked, OfFirst, OfLock, OfLook, OfMend, OfPre, OfRead, OfSettle, OfUnlock, asked_of}
use Rattle.afr_law_heal.proofs.Heard.Inside.{IsInside, is_inside}
use Rattle.afr_law_heal.proofs.Heard.There.{attrs_there, bytes_there, names_there}
use Rattle.afr_law_heal.specs.Heard.Hears.{HealHears, IndexIsListed, IsHeardInHeal, Listed, Refused}
use Rattle.afr_law_heal.specs.HealLaws.{IsWholeTold}
use Rattle.afr_law_heal.specs.HealTelling.{TellsAt}
use Rattle.afr_law.proofs.Model.Dirty.{seen_copy}
use Rattle.afr_law.proofs.Model.Discipline.{weakly_lawful}
use Rattle.afr_law.proofs.Model.Found.{next_found}
use Rattle.afr_law.proofs.Model.Repairs.{ends_each}
use Rattle.afr_law.proofs.Model.Short.{all_short}
use Rattle.afr_law.specs.Exactly.{IsLawfulExactly}
use Rattle.afr_law.specs.ModelFits.{HasCopy}
use Rattle.afr_law.specs.ModelNext.{MayAskNext}
use Rattle.afr_law.proofs.Model.Answered.{marks_range}
use Rattle.afr_lines.specs.Told.{told_by}
use Rattle.afr_lines.specs.Work.{Work, work}
use Rattle.afr_lines.specs.declared.answer.Answer.{Answer}
use Rattle.afr_lines.specs.declared.answer.Answer.TheVariants as answer
use Rattle.afr_lines.specs.declared.answer.Told.{Told}
use Rattle.afr_lines.specs.declared.answer.Told.TheVariants as as_told
use Rattle.afr_lines.specs.declared.line.Line.{Line}
use Rattle.afr_lines.specs.declared.line.Line.TheVariants.{Ask}
use Rattle.afr_lines.specs.declared.request.Request.{Request}
use Rattle.afr_lines.specs.declared.request.Request.TheVariants as request_of
use Rattle.afr_model.specs.Healing.{heal_asking, heal_by}
use Rattle.afr_model.specs.Honest.{Honest, IsHonest, RequestOutcome, answer_by, copy_answer, fault_in, in_the_way, is_live, over_session, requests_to, tells}
use Rattle.afr_model.specs.Rounds.{listed_after}
use Rattle.afr_model.specs.Showing.{among, is_fault}
use Rattle.afr_model.specs.Sums.{has_object}
use Rattle.afr_model.specs.Tables.{holds}
use Rattle.afr_model_moves.specs.Keeps.{keeps_in}
use Rattle.afr_model_moves.specs.Register.{Exact, Finish, HealLocks, HealPres, HealUnlocks, Looks, Mends, Opening, HealPart, Piece, Reads, Settles, Step, Unlocks, Untouched, WorkLocks, Open, Pres, Applies, Posts, rank}
use Rattle.afr_object.specs.Indexed.{index_of}
use Rattle.afr_object.specs.Repairs.{repaired}
use Rattle.afr_object.specs.Tables.{copy_at, view_of}
use Rattle.afr_object.specs.declared.entry.View.{View}
use Rattle.afr_object.specs.Object.{Object}
use Rattle.afr_plan.specs.declared.plan.Plan.{Plan}
use Rattle.afr_heal_machine.specs.Healing.{CanHear, IsShowable, IsTellable}
use Rattle.afr_heal_machine.specs.declared.outcome.HealOutcome.{HealOutcome as HealOutcome}
use Rattle.afr_law_tables.specs.Codes.{kept_by}
use Rattle.afr_law_tables.specs.TableLaws.{numbers_below}

-- ---- what fits a request
-- a request of a heal, at a brick that has what it is about; a look may ask for it
abbrev pub Ready : Plan → List Line → ℕ → Request → Type 0
Ready p log b (request_of.Lock domain area) = Unit {0}
Ready p log b (request_of.Unlock domain area) = Unit {0}
Ready p log b (request_of.Look g) = Unit {0}
Ready p log b (request_of.ReadBytes g at len) = has_object p log g b ≡ true
Ready p log b (request_of.ReadAttrs g) = has_object p log g b ≡ true
Ready p log b (request_of.List g) = has_object p log g b ≡ true
Ready p log b (request_of.Pre g kind) = has_object p log g b ≡ true
Ready p log b (request_of.Mend repair) = has_object p log (repaired repair) b ≡ true
Ready p log b (request_of.Settle g kind less) = has_object p log g b ≡ true
Ready p log b other = ⊥

-- where the copy is there, what it answers is told
copy_fits : (request : Request) (f : Object → Answer) (c : Option Object) → is_some c ≡ true → ((o : Object) → fits request (told_by (f o)) ≡ true) → fits request (told_by (copy_answer f c)) ≡ true
copy_fits request f None h all = absurd (cc h)
copy_fits request f (Some o) h all = all o

-- what a brick answers that carries the request out
said_fits : (p : Plan) (log : List Line) (b : ℕ) (way : Option ActorId) (request : Request) → Ready p log b request → fits request (told_by (answer_by way request (holds p log b) log)) ≡ true
said_fits p log b None (request_of.Lock domain area) ready = refl
said_fits p log b (Some owner) (request_of.Lock domain area) ready = refl
said_fits p log b way (request_of.Unlock domain area) ready = refl
said_fits p log b way (request_of.Look g) ready = go (copy_at g (holds p log b))
  where
    go : (c : Option Object) → fits (request_of.Look g) (told_by (copy_answer (λ o. answer.Seen (view_of o)) c)) ≡ true
    go None = refl
    go (Some o) = refl
said_fits p log b way (request_of.ReadBytes g at len) ready = copy_fits (request_of.ReadBytes g at len) (λ o. answer.Bytes (take len (drop at o.content))) (copy_at g (holds p log b)) ready (λ o. refl)
said_fits p log b way (request_of.ReadAttrs g) ready = copy_fits (request_of.ReadAttrs g) (λ o. answer.Attrs o.attrs) (copy_at g (holds p log b)) ready (λ o. refl)
said_fits p log b way (request_of.List g) ready = copy_fits (request_of.List g) (λ o. answer.Names o.names) (copy_at g (holds p log b)) ready (λ o. refl)
said_fits p log b way (request_of.Pre g kind) ready = copy_fits (request_of.Pre g kind) (λ o. answer.Done) (copy_at g (holds p log b)) ready (λ o. refl)
said_fits p log b way (request_of.Mend repair) ready = copy_fits (request_of.Mend repair) (λ o. answer.Done) (copy_at (repaired repair) (holds p log b)) ready (λ o. refl)
said_fits p log b way (request_of.Settle g kind less) ready = copy_fits (request_of.Settle g kind less) (λ o. answer.Done) (copy_at g (holds p log b)) ready (λ o. refl)
said_fits p log b way (request_of.ReadName g name) ready = absurd ready
said_fits p log b way (request_of.ReadAttr g key) ready = absurd ready
said_fits p log b way request_of.Index ready = absurd ready
said_fits p log b way (request_of.Apply attempt) ready = absurd ready
said_fits p log b way (request_of.Post attempt g kind missed) ready = absurd ready

-- a fault fits any request
gone_fits : (request : Request) → fits request as_told.NotConnected ≡ true
gone_fits (request_of.Lock domain area) = refl
gone_fits request = refl

failed_fits : (request : Request) → fits request as_told.Failed ≡ true
failed_fits (request_of.Lock domain area) = refl
failed_fits request = refl

session_fits : (request : Request) (live : Bool) (fault : Option Fault) (said : Told) → fits request said ≡ true → fits request (over_session live fault said).told ≡ true
session_fits request false fault said h = gone_fits request
session_fits request true (Some Fail) said h = failed_fits request
session_fits request true (Some Lost) said h = gone_fits request
session_fits request true None said h = h

-- so does an honest answer
told_fits : (p : Plan) (log : List Line) (a : ActorId) (b : ℕ) (request : Request) (told : Told) (took : Bool) → IsHonest p (Ask a (record { 0 = b }) request told took) log → Ready p log b request → fits request told ≡ true
told_fits p log a b request told took said ready =
    subst (λ (x : Told). fits request x ≡ true) (sym (ap (λ (o : RequestOutcome). o.told) said))
    (session_fits request (is_live p a b (Ask a (record { 0 = b }) request told took) log) (fault_in p.faults b (suc (requests_to b log))) (tells a request b (holds p log b) log) (said_fits p log b (in_the_way a request b log) request ready))

-- ---- what a look shows
-- only a look is told a view
look_is : (request : Request) (view : View) → fits request (as_told.Seen view) ≡ true → (g : Gfid) × (request ≡ request_of.Look g)
look_is (request_of.Look g) view h = (g, refl)
look_is (request_of.Lock domain area) view h = absurd (cc h)
look_is (request_of.Unlock domain area) view h = absurd (cc h)
look_is request view h = absurd (cc h)

module _ (p : Plan) (log : List Line) (few : p.shape.n ≤ 5) (short : length log < 4000000) (honest : Honest p log) (lawful : IsLawfulExactly p log) where
  copy_short : (b : ℕ) (g : Gfid) (o : Object) → copy_at g (holds p log b) ≡ Some o → length o.content ≤ 1048576
  copy_short b g o e = ((all_short p log (ends_each p.shape.n p log lawful) (weakly_lawful p log few (omega (arith, short)) honest lawful)).0 b g o e).0

  dirty_low : (b : ℕ) (g : Gfid) (o : Object) → copy_at g (holds p log b) ≡ Some o → (kind : Kind) → (marks_of kind o.marks).dirty < 4294967295
  dirty_low b g o e kind = (let dirty = (numbers_below p log b g kind o e).0 in omega (arith, dirty, short))

  -- a view is short, and each of its numbers leaves room
  view_told : (b : ℕ) (g : Gfid) (o : Object) → copy_at g (holds p log b) ≡ Some o → IsShowable (view_of o) × IsWholeTold (as_told.Seen (view_of o))
  view_told b g o e = (
    record { len = copy_short b g o e; bytes = dirty_low b g o e kind_of.Bytes; attrs = dirty_low b g o e kind_of.Attrs; names = dirty_low b g o e kind_of.Names },
    (marks_range p log short b g o e kind_of.Bytes, marks_range p log short b g o e kind_of.Attrs, marks_range p log short b g o e kind_of.Names),
  )

  told_shown : (a : ActorId) (b : ℕ) (request : Request) (told : Told) (took : Bool) → IsHonest p (Ask a (record { 0 = b }) request told took) log → fits request told ≡ true → IsTellable told × IsWholeTold told
  told_shown a b request (as_told.Seen view) took said fit =
      let look = look_is request view fit in
      let at_look : IsHonest p (Ask a (record { 0 = b }) (request_of.Look look.0) (as_told.Seen view) took) log = subst (λ (q : Request). IsHonest p (Ask a (record { 0 = b }) q (as_told.Seen view) took) log) look.1 said in
      let w = seen_copy _ _ (copy_at look.0 (holds p log b)) view took at_look in
      subst (λ (v : View). IsShowable v × IsWholeTold (as_told.Seen v)) (sym w.2) (view_told b look.0 w.0 w.1)
  told_shown a b request as_told.Granted took said fit = (tt, tt)
  told_shown a b request told took said fit = (tt, tt)

-- ---- a heal
-- after its first looks each brick was asked for its Heal lock
heal_asked : (shape : Shape) (r : Exact) (seen looked : Looked) (s : ℕ) (g : Gfid) (kind : Kind) (o : HealOutcome) (w : Work) (broken : Bool) (step : Step) (part : HealPart)
    → TellsAt broken step part shape r seen looked s g kind o w → broken ≡ false → nat_le 7 (rank step) ≡ true → (x : ℕ) → x < shape.n → member (among heal_asking w) x ≡ true
heal_asked shape r seen looked s g kind o w true step part t e far = absurd (cc e)
heal_asked shape r seen looked s g kind o w false Untouched part t e far = absurd (cc far)
heal_asked shape r seen looked s g kind o w false Open part t e far = absurd (cc far)
heal_asked shape r seen looked s g kind o w false Pres part t e far = absurd (cc far)
heal_asked shape r seen looked s g kind o w false Applies part t e far = absurd (cc far)
heal_asked shape r seen looked s g kind o w false Posts part t e far = absurd (cc far)
heal_asked shape r seen looked s g kind o w false HealLocks part t e far = absurd (cc far)
heal_asked shape r seen looked s g kind o w false WorkLocks part t e far = absurd (cc far)
heal_asked shape r seen looked s g kind o w false Looks Opening t e far = t.asked
heal_asked shape r seen looked s g kind o w false Looks Piece t e far = t.asked
heal_asked shape r seen looked s g kind o w false Looks Finish t e far = t.asked
heal_asked shape r seen looked s g kind o w false Reads part t e far = t.asked
heal_asked shape r seen looked s g kind o w false HealPres part t e far = t.asked
heal_asked shape r seen looked s g kind o w false Mends part t e far = t.asked
heal_asked shape r seen looked s g kind o w false Settles part t e far = t.asked
heal_asked shape r seen looked s g kind o w false Unlocks part t e far = t.asked
heal_asked shape r seen looked s g kind o w false HealUnlocks part t e far = t.asked

module _ (p : Plan) (log : List Line) (a : ActorId) (b : ℕ) (request : Request) (heard : Answer) (took : Bool) (h : IsHeardInHeal p log a (record { 0 = b }) request heard took) where
  found : HasCopy p log b request
  found = next_found p log a (record { 0 = b }) request h.few h.short h.honest h.lawful h.may

  found_for : (q : Request) → request ≡ q → HasCopy p log b q
  found_for q e = subst (HasCopy p log b) e found

  may_for : (q : Request) → request ≡ q → MayAskNext p a (record { 0 = b }) q log
  may_for q e = subst (λ (x : Request). MayAskNext p a (record { 0 = b }) x log) e h.may

  read_ready : (r : Exact) (g : Gfid) (kind : Kind) → IsInside p.shape.n (kept_by p) a.0 log → request ≡ read_in r g kind → Ready p log b request
  read_ready r g kind_of.Bytes inside e = subst (Ready p log b) (sym e) (bytes_there p log a b h.few h.short h.honest h.lawful inside g r.upto _ (may_for _ e))
  read_ready r g kind_of.Attrs inside e = subst (Ready p log b) (sym e) (attrs_there p log a b h.few h.short h.honest h.lawful inside g (may_for _ e))
  read_ready r g kind_of.Names inside e = subst (Ready p log b) (sym e) (names_there p log a b h.few h.short h.honest h.lawful inside g (may_for _ e))

  -- what a heal asks, its brick has
  asked_ready : (n : ℕ) (keeps : ℕ → Kind → Bool) (r : Exact) (s : ℕ) (g : Gfid) (kind : Kind) → (AfterLooks n keeps r s g kind → IsInside p.shape.n (kept_by p) a.0 log) → HealAsked n keeps r s g kind b request → Ready p log b request
  asked_ready n keeps r s g kind inside (OfFirst area out e low) = subst (Ready p log b) (sym e) tt
  asked_ready n keeps r s g kind inside (OfLock domain area on e low) = subst (Ready p log b) (sym e) tt
  asked_ready n keeps r s g kind inside (OfUnlock domain area on e) = subst (Ready p log b) (sym e) tt
  asked_ready n keeps r s g kind inside (OfLook on e low) = subst (Ready p log b) (sym e) tt
  asked_ready n keeps r s g kind inside (OfRead k e turns) = read_ready r g kind (inside k) e
  asked_ready n keeps r s g kind inside (OfPre on e) = subst (Ready p log b) (sym e) (found_for (request_of.Pre g kind) e)
  asked_ready n keeps r s g kind inside (OfMend k e passed turns) = subst (Ready p log b) (sym e) (found_for (request_of.Mend (repair_in r s g kind r.part)) e)
  asked_ready n keeps r s g kind inside (OfSettle less on e) = subst (Ready p log b) (sym e) (found_for (request_of.Settle g kind less) e)

pub heal_hears : HealHears
heal_hears p m log a b request heard took k same tells e h =
    (subst (λ (next : NextOfHeal). CanHear next heard) (sym e) (fit, shown.0), shown.1)
  where
    n : ℕ
    n = m.register.shape.n

    r : Exact
    r = seen_as m.register

    inside : AfterLooks n (keeps_in m.register.shape) r m.source.0 m.gfid m.kind → IsInside p.shape.n (kept_by p) a.0 log
    inside going = is_inside p.shape.n (kept_by p) a.0 0 log (heal_asked m.register.shape r m.register.seen m.register.looked m.source.0 m.gfid m.kind m.outcome (heal_by (work a.0 log)) r.broken r.step r.part tells.at going.whole (both _ _ going.looked).0 0 k.heals.some)

    ready : Ready p log b request
    ready = asked_ready p log a b request heard took h n (keeps_in m.register.shape) r m.source.0 m.gfid m.kind inside (asked_of n (keeps_in m.register.shape) r m.source.0 m.gfid m.kind b request k.heals.standing e)

    fit : fits request (told_by heard) ≡ true
    fit = told_fits p log a b request (told_by heard) took h.said ready

    shown : IsTellable (told_by heard) × IsWholeTold (told_by heard)
    shown = told_shown p log h.few h.short h.honest h.lawful a b request (told_by heard) took h.said fit

-- ---- an index
index_told : (live : Bool) (fault : Option Fault) → ((over_session live fault as_told.Given).told ≡ as_told.Given) ⊎ (is_fault (over_session live fault as_told.Given).told ≡ true)
index_told false fault = inr refl
index_told true (Some Fail) = inr refl
index_told true (Some Lost) = inr refl
index_told true None = inl refl

pub index_listed : IndexIsListed
index_listed p log a b heard took h = elim (index_told (is_live p a b.0 (Ask a b request_of.Index (told_by heard) took) log) (fault_in p.faults b.0 (suc (requests_to b.0 log)))) [
  | inl given ↦ (
      let is : told_by heard ≡ as_told.Given = said ∙ given in
      Listed (index_of (holds p log b.0)) (h.full is) (ap (λ (x : Told). listed_after p (Ask a b request_of.Index x took) log []) is)
      )
  | inr fault ↦ Refused (ap is_fault said ∙ fault)
]
  where
    said : told_by heard ≡ (over_session (is_live p a b.0 (Ask a b request_of.Index (told_by heard) took) log) (fault_in p.faults b.0 (suc (requests_to b.0 log))) as_told.Given).told
    said = ap (λ (o : RequestOutcome). o.told) h.said
