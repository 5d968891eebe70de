-- What an honest brick tells of an object that it has.
use Rattle.std.proofs.Common.{◌≡◌, ℕ, suc, ◌≤◌, take, Bool, true, false, List, Option, Some, None, is_some, length, sym, ap, ◌∙◌, subst, arith}
use Rattle.std.specs.Prelude.{drop}
use Rattle.std.specs.BTreeMap.{is_at}
use Rattle.std.specs.Map.{lookup}
use Rattle.afr_base.specs.declared.ids.ActorId.{ActorId}
use Rattle.afr_base.specs.declared.ids.BrickId.{BrickId}
use Rattle.afr_base.specs.declared.ids.Gfid.{Gfid}
use Rattle.afr_lines.specs.declared.fault.Fault.{Fault}
use Rattle.afr_lines.specs.declared.fault.Fault.TheVariants.{Fail, Lost}
use Rattle.afr_law_client.proofs.Read.HonestReads.{honest_reads}
use Rattle.afr_law_client.specs.Read.Lines.{CanAnswer, is_look}
use Rattle.afr_law.proofs.Model.Found.{next_found}
use Rattle.afr_law.proofs.Model.Kinds.{next_looks}
use Rattle.afr_law.specs.ModelFits.{HasCopy}
use Rattle.afr_law.specs.ModelKinds.{SaysKind}
use Rattle.afr_lines.specs.Log.{change_at}
use Rattle.afr_lines.specs.Told.{told_by}
use Rattle.afr_lines.specs.declared.answer.Answer.{Answer}
use Rattle.afr_lines.specs.declared.answer.Answer.TheVariants as answer
use Rattle.afr_lines.specs.declared.answer.Told.{Told}
use Rattle.afr_lines.specs.declared.answer.Told.TheVariants.{NoObject, Seen}
use Rattle.afr_lines.specs.declared.line.Line.{Line}
use Rattle.afr_lines.specs.declared.line.Line.TheVariants.{Ask}
use Rattle.afr_lines.specs.declared.request.Request.{Request}
use Rattle.afr_lines.specs.declared.request.Request.TheVariants.{Apply, Look, Post, Pre, ReadAttr, ReadBytes, ReadName, List as ListNames}
use Rattle.afr_model.specs.Honest.{IsHonest, RequestOutcome, copy_answer, copy_for, fault_in, is_live, over_session, requests_to, tells}
use Rattle.afr_model.specs.Sums.{has_object}
use Rattle.afr_model.specs.Tables.{holds}
use Rattle.afr_object.specs.Tables.{copy_at, key_cmp, name_cmp}
use Rattle.afr_object.specs.declared.change.Change.{Change}
use Rattle.afr_object.specs.declared.entry.Entry.{Entry}
use Rattle.afr_object.specs.declared.entry.View.{View}
use Rattle.afr_object.specs.Object.{Object}
use Rattle.afr_plan.specs.declared.plan.Plan.{Plan}
use Rattle.afr_law_client.proofs.HonestFits.{honest_fits, honest_phases}
use Rattle.afr_law_client.specs.Fits.{FitsPhase}
use Rattle.afr_discipline.specs.Free.{is_free}
use Rattle.afr_law_client.specs.Write.WriteTelling.{CanTell}
use Rattle.afr_law_heard.specs.Hears.{IsHeard}

-- ---- who lacks the object
-- where it is told that there is none, the brick's tables say so
lacks : (live : Bool) (fault : Option Fault) (said told : Told) → told ≡ (over_session live fault said).told → told ≡ NoObject → said ≡ NoObject
lacks false fault said told e h = absurd (cc (sym e ∙ h))
lacks true (Some Fail) said told e h = absurd (cc (sym e ∙ h))
lacks true (Some Lost) said told e h = absurd (cc (sym e ∙ h))
lacks true None said told e h = sym e ∙ h

told_none : (p : Plan) (a : ActorId) (b : BrickId) (request : Request) (told : Told) (took : Bool) (older : List Line) → IsHonest p (Ask a b request told took) older → told ≡ NoObject
    → tells a request b.0 (holds p older b.0) older ≡ NoObject
told_none p a b request told took older said e =
    lacks (is_live p a b.0 (Ask a b request told took) older) (fault_in p.faults b.0 (suc (requests_to b.0 older))) (tells a request b.0 (holds p older b.0) older) told (ap (λ (x : RequestOutcome). x.told) said) e

-- a copy answers
copy_there : (f : Object → Answer) → ((o : Object) → told_by (f o) ≡ NoObject → ⊥) → (c : Option Object) → is_some c ≡ true → told_by (copy_answer f c) ≡ NoObject → ⊥
copy_there f never None h e = absurd (cc h)
copy_there f never (Some o) h e = never o e

-- ---- reads
-- the brick has the object of a read; a look may ask for it
abbrev pub HasRead : Plan → List Line → ℕ → Request → Type 0
HasRead p log b (ReadName g name) = has_object p log g b ≡ true
HasRead p log b (ReadBytes g at len) = has_object p log g b ≡ true
HasRead p log b (ReadAttr g key) = has_object p log g b ≡ true
HasRead p log b (ListNames g) = has_object p log g b ≡ true
HasRead p log b request = Unit {0}

-- a free request whose object is there
pub record IsThere (p : Plan) (log : List Line) (b : ℕ) (request : Request) : Type 0 where
  pub free : is_free request ≡ true
  pub has : HasRead p log b request

read_there : (p : Plan) (a : ActorId) (request : Request) (b : ℕ) (log : List Line) → is_free request ≡ true → is_look request ≡ false → HasRead p log b request → tells a request b (holds p log b) log ≡ NoObject → ⊥
read_there p a (ReadName g name) b log free look has e = copy_there (λ o. answer.Entry (lookup (is_at (name_cmp name)) o.names)) (λ o k. cc k) (copy_at g (holds p log b)) has e
read_there p a (ReadBytes g at len) b log free look has e = copy_there (λ o. answer.Bytes (take len (drop at o.content))) (λ o k. cc k) (copy_at g (holds p log b)) has e
read_there p a (ReadAttr g key) b log free look has e = copy_there (λ o. answer.Value (lookup (is_at (key_cmp key)) o.attrs)) (λ o k. cc k) (copy_at g (holds p log b)) has e
read_there p a (ListNames g) b log free look has e = copy_there (λ o. answer.Names o.names) (λ o k. cc k) (copy_at g (holds p log b)) has e
read_there p a (Look g) b log free look has e = cc look
read_there p a request b log free look has e = cc free

-- so an honest brick answers as it may
pub can_answer : (p : Plan) (log : List Line) (a : ActorId) (b : BrickId) (request : Request) (heard : Answer) (took : Bool) → IsHeard p log a b request heard took → IsThere p log b.0 request → CanAnswer p b.0 request log heard
can_answer p log a b request heard took h k = record {
  given = λ e. h.full e k.free;
  told = λ look. honest_reads p a b request (told_by heard) took log h.said k.free look (λ e. read_there p a request b.0 log k.free look k.has (told_none p a b request (told_by heard) took log h.said e));
}

-- ---- phases
done_there : (c : Option Object) → is_some c ≡ true → told_by (copy_answer (λ o. answer.Done) c) ≡ NoObject → ⊥
done_there c h e = copy_there (λ o. answer.Done) (λ o k. cc k) c h e

-- a brick that has the copy does a phase, or fails
phase_fits : (p : Plan) (log : List Line) (a : ActorId) (b : BrickId) (request : Request) (told : Told) (took : Bool) → HasCopy p log b.0 request → IsHonest p (Ask a b request told took) log → FitsPhase request told
phase_fits p log a b (Pre g kind) told took has said =
    honest_phases p a b (Pre g kind) told took log said (λ e. done_there (copy_at g (holds p log b.0)) has (told_none p a b (Pre g kind) told took log said e))
phase_fits p log a b (Apply attempt) told took has said =
    let there : is_some (copy_for (change_at attempt log) (holds p log b.0)) ≡ true = subst (λ (x : Option Change). is_some (copy_for x (holds p log b.0)) ≡ true) (sym has.1) has.2 in
    honest_phases p a b (Apply attempt) told took log said (λ e. done_there (copy_for (change_at attempt log) (holds p log b.0)) there (told_none p a b (Apply attempt) told took log said e))
phase_fits p log a b (Post attempt g kind missed) told took has said =
    honest_phases p a b (Post attempt g kind missed) told took log said (λ e. done_there (copy_at g (holds p log b.0)) has (told_none p a b (Post attempt g kind missed) told took log said e))
phase_fits p log a b request told took has said = tt

-- ---- looks
-- a look is at this object
abbrev pub IsAtObject : Entry → Request → Type 0
IsAtObject object (Look g) = g ≡ object.gfid
IsAtObject object request = Unit {0}

module _ (p : Plan) (log : List Line) (a : ActorId) (b : BrickId) (heard : Answer) (took : Bool) (object : Entry) (says : SaysKind p log object.gfid object.what) where
  -- it shows the kind that the entry says
  look_shows : (request : Request) → IsHeard p log a b request heard took → IsAtObject object request → (view : View) → told_by heard ≡ Seen view → is_look request ≡ true → view.what ≡ object.what
  look_shows (Look g) h own view e look =
      let named : SaysKind p log g object.what = subst (λ (x : Gfid). SaysKind p log x object.what) (sym own) says in
      let said : IsHonest p (Ask a b (Look g) (Seen view) took) log = subst (λ (x : Told). IsHonest p (Ask a b (Look g) x took) log) e h.said in
      let short : length log ≤ 4000000 = omega (arith, h.short) in
      next_looks p log a b g object.what view took h.few short h.honest h.lawful named said
  look_shows request h own view e look = absurd (cc look)

  -- so an honest brick tells what it may
  pub can_tell : (request : Request) → IsHeard p log a b request heard took → IsAtObject object request → CanTell object request (told_by heard)
  can_tell request h own = record {
    fits = honest_fits p (Ask a b request (told_by heard) took) log h.said;
    phase = phase_fits p log a b request (told_by heard) took (next_found p log a b request h.few h.short h.honest h.lawful h.may) h.said;
    shows = λ view e look. look_shows request h own view e look;
  }
