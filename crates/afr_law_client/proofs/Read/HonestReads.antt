-- What is honestly told of a read: something was given, the copy isn't there, or the brick failed.
use Rattle.std.proofs.Common.{◌≡◌, ℕ, suc, take, Bool, true, false, List, Option, Some, None, refl, ap, ◌∙◌}
use Rattle.std.specs.Prelude.{drop}
use Rattle.std.specs.BTreeMap.{is_at}
use Rattle.std.specs.Map.{lookup}
use Rattle.afr_base.specs.declared.ids.ActorId.{ActorId}
use Rattle.afr_lines.specs.declared.fault.Fault.{Fault}
use Rattle.afr_lines.specs.declared.fault.Fault.TheVariants.{Fail, Lost}
use Rattle.afr_lines.specs.Told.{told_by}
use Rattle.afr_lines.specs.declared.answer.Answer.{Answer}
use Rattle.afr_lines.specs.declared.answer.Answer.TheVariants as answer
use Rattle.afr_lines.specs.declared.answer.Told.{Told}
use Rattle.afr_lines.specs.declared.answer.Told.TheVariants.{NoObject}
use Rattle.afr_lines.specs.declared.line.Line.{Line}
use Rattle.afr_lines.specs.declared.line.Line.TheVariants.{Ask}
use Rattle.afr_lines.specs.declared.request.Request.{Request}
use Rattle.afr_lines.specs.declared.request.Request.TheVariants.{Look, ReadName, ReadBytes, ReadAttr, List as ListNames}
use Rattle.afr_object.specs.Tables.{Table, copy_at, key_cmp, name_cmp}
use Rattle.afr_object.specs.Object.{Object}
use Rattle.afr_model.specs.Honest.{RequestOutcome, copy_answer, fault_in, is_live, over_session, requests_to, tells}
use Rattle.afr_model.specs.Tables.{holds}
use Rattle.afr_discipline.specs.Free.{is_free}
use Rattle.afr_law_client.specs.Read.Lines.{HonestReads, gives_or_fails, is_look}

copy_told : (f : Object → Answer) → ((o : Object) → gives_or_fails (told_by (f o)) ≡ true) → (o : Option Object) → (told_by (copy_answer f o) ≡ NoObject → ⊥) → gives_or_fails (told_by (copy_answer f o)) ≡ true
copy_told f gives None there = absurd (there refl)
copy_told f gives (Some o) there = gives o

-- what a brick that has carried a read out tells
by_tables : (a : ActorId) (request : Request) (b : ℕ) (t : Table) (older : List Line) → is_free request ≡ true → is_look request ≡ false → (tells a request b t older ≡ NoObject → ⊥) → gives_or_fails (tells a request b t older) ≡ true
by_tables a (Look g) b t older free look there = absurd (cc look)
by_tables a (ReadName g name) b t older free look there = copy_told (λ o. answer.Entry (lookup (is_at (name_cmp name)) o.names)) (λ o. refl) (copy_at g t) there
by_tables a (ReadBytes g at len) b t older free look there = copy_told (λ o. answer.Bytes (take len (drop at o.content))) (λ o. refl) (copy_at g t) there
by_tables a (ReadAttr g key) b t older free look there = copy_told (λ o. answer.Value (lookup (is_at (key_cmp key)) o.attrs)) (λ o. refl) (copy_at g t) there
by_tables a (ListNames g) b t older free look there = copy_told (λ o. answer.Names o.names) (λ o. refl) (copy_at g t) there
by_tables a request b t older free look there = absurd (cc free)

by_fault : (live : Bool) (fault : Option Fault) (said told : Told) → told ≡ (over_session live fault said).told → (told ≡ NoObject → ⊥) → ((said ≡ NoObject → ⊥) → gives_or_fails said ≡ true) → gives_or_fails told ≡ true
by_fault false fault said told e there carried = ap gives_or_fails e
by_fault true (Some Fail) said told e there carried = ap gives_or_fails e
by_fault true (Some Lost) said told e there carried = ap gives_or_fails e
by_fault true None said told e there carried = ap gives_or_fails e ∙ carried (λ h. there (e ∙ h))

pub honest_reads : HonestReads
honest_reads p a b request told took older honest free look there =
    by_fault (is_live p a b.0 (Ask a b request told took) older) (fault_in p.faults b.0 (suc (requests_to b.0 older))) (tells a request b.0 (holds p older b.0) older) told (ap (λ (x : RequestOutcome). x.told) honest) there
    (λ h. by_tables a request b.0 (holds p older b.0) older free look h)
