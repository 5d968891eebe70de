-- What a work's path has led to, one of its lines was given.
use Rattle.std.proofs.Common.{◌≡◌, ◌⊎◌, ℕ, suc, ◌+◌, ◌≤◌, ◌==◌, nat_le, Bool, true, false, List, [], ◌∷◌, length, refl, ap, subst, arith, inl, inr, Option, Some, None, if◌then◌else◌}
use Rattle.std.proofs.lemmas.Bool.{eqb-true}
use Rattle.afr_base.specs.declared.ids.ActorId.{ActorId}
use Rattle.afr_base.specs.declared.ids.BrickId.{BrickId}
use Rattle.afr_base.specs.declared.ids.Gfid.{Gfid}
use Rattle.afr_base.specs.declared.ids.NameId.{NameId}
use Rattle.afr_base.specs.declared.ids.What.TheVariants.{File}
use Rattle.afr_lines.specs.declared.fault.Fault.{Fault}
use Rattle.afr_lines.specs.declared.fault.Fault.TheVariants as fault
use Rattle.afr_object.specs.Tables.{copy_at}
use Rattle.afr_object.specs.declared.entry.Entry.{Entry}
use Rattle.afr_object.specs.Object.{Object}
use Rattle.afr_lines.specs.Work.{Work, ends_work, is_end, is_of, work}
use Rattle.afr_lines.specs.declared.answer.Told.{Told}
use Rattle.afr_lines.specs.declared.answer.Told.TheVariants as as_told
use Rattle.afr_lines.specs.declared.line.Line.{Line}
use Rattle.afr_lines.specs.declared.line.Line.TheVariants.{Ask}
use Rattle.afr_lines.specs.declared.request.Request.TheVariants.{ReadName}
use Rattle.afr_model.specs.Cells.{IsEntry, Name, value_if}
use Rattle.afr_model.specs.Honest.{Honest, IsHonest, RequestOutcome, fault_in, is_live, over_session, requests_to, tells}
use Rattle.afr_model.specs.Showing.{At, NoName, Path, Untold, one_name, path_after, path_by, root_entry}
use Rattle.afr_model.specs.Tables.{entry_at, entry_in, holds}
use Rattle.afr_plan.specs.declared.plan.Plan.{Plan}
use Rattle.afr_law.proofs.Model.Discipline.{exactly_below}
use Rattle.afr_law.proofs.Model.SoundLog.{LawfulBelow}
use Rattle.afr_law.specs.Exactly.{IsLawfulExactly, name_bound}
use Rattle.afr_law.proofs.Model.Tasks.{other_ends}
use Rattle.afr_law_names.proofs.ReadLemmas.{HasReadBy, read_before, read_now}
use Rattle.afr_model.specs.Parts.{names_asked, upto_names}
use Rattle.afr_model.specs.Renamed.{HasFound}
use Rattle.afr_model.proofs.Cut.Cut.{upto_all}
use Rattle.afr_law_names.specs.Links.Links.{FoundIsKnown}
use Rattle.afr_law_names.proofs.Descent.Steps.{not_ended}

-- an answer that gave something was carried out
took_given : (live : Bool) (f : Option Fault) (said : Told) (took : Bool) → (record { told = as_told.Given; took = took }) ≡ over_session live f said → took ≡ true
took_given false f said took e = absurd (cc (ap (λ (o : RequestOutcome). o.told) e))
took_given true (Some fault.Fail) said took e = absurd (cc (ap (λ (o : RequestOutcome). o.told) e))
took_given true (Some fault.Lost) said took e = absurd (cc (ap (λ (o : RequestOutcome). o.told) e))
took_given true None said took e = ap (λ (o : RequestOutcome). o.took) e

-- the root, or an entry that a line of the work was given
abbrev IsLed : Plan → ℕ → List Line → Path → Type 0
IsLed p a log (At read entry) = (entry ≡ root_entry) ⊎ HasReadBy p (name_bound p) a entry.gfid entry.what log
IsLed p a log other = Unit {0}

-- so it is still, where the work goes on
still_led : (p : Plan) (a : ℕ) (line : Line) (older : List Line) (path : Path) → ends_work a line ≡ false → IsLed p a older path → IsLed p a (line ∷ older) path
still_led p a line older (At read entry) on (inl e) = inl e
still_led p a line older (At read entry) on (inr k) = inr (read_before p (name_bound p) a entry.gfid entry.what line older on k)
still_led p a line older NoName on k = tt
still_led p a line older Untold on k = tt

-- the entry of a name stands in its cell
in_cell : (dir : Gfid) (name : NameId) (o : Option Object) (e : Entry) → entry_in name o ≡ Some e → value_if (Name dir name) o ≡ IsEntry (Some (record { gfid = e.gfid; what = e.what }))
in_cell dir name None e k = absurd (cc k)
in_cell dir name (Some o) e k = ap IsEntry k

-- a read that gave an entry is one of the work
given_now : (p : Plan) (a : ℕ) (x : ActorId) (b : BrickId) (dir : Gfid) (name : NameId) (took : Bool) (older : List Line) (e : Entry) → LawfulBelow p (name_bound p) older → (x.0 == a) ≡ true → took ≡ true → entry_at dir name (holds p older b.0) ≡ Some e
    → HasReadBy p (name_bound p) a e.gfid e.what (Ask x b (ReadName dir name) as_told.Given took ∷ older)
given_now p a x b dir name took older e lawful own is k =
    read_now p (name_bound p) a e.gfid e.what (Ask x b (ReadName dir name) as_told.Given took) older lawful b.0 dir name (λ i. Ask (record { 0 = eqb-true x.0 a own i }) b (ReadName dir name) as_told.Given (is i))
    (in_cell dir name (copy_at dir (holds p older b.0)) e k)

led_named : (p : Plan) (a : ℕ) (line : Line) (older : List Line) (path : Path) (entry : Option Entry) → ((e : Entry) → entry ≡ Some e → HasReadBy p (name_bound p) a e.gfid e.what (line ∷ older)) → ends_work a line ≡ false → IsLed p a older path
    → IsLed p a (line ∷ older) (one_name entry path)
led_named p a line older (At read object) (Some e) given on k = inr (given e refl)
led_named p a line older (At read object) None given on k = tt
led_named p a line older NoName (Some e) given on k = tt
led_named p a line older NoName None given on k = tt
led_named p a line older Untold (Some e) given on k = tt
led_named p a line older Untold None given on k = tt

led_after : (p : Plan) (a : ℕ) (line : Line) (older : List Line) (path : Path) → LawfulBelow p (name_bound p) older → is_of a line ≡ true → is_end line ≡ false → IsHonest p line older → ends_work a line ≡ false → IsLed p a older path → IsLed p a (line ∷ older) (path_after p line older path)
led_after p a (Ask x b (ReadName dir name) as_told.Given took) older path lawful own more honest on k =
    led_named p a (Ask x b (ReadName dir name) as_told.Given took) older path (entry_at dir name (holds p older b.0)) (λ e is. given_now p a x b dir name took older e lawful own (took_given (is_live p x b.0 (Ask x b (ReadName dir name) as_told.Given took) older) (fault_in p.faults b.0 (suc (requests_to b.0 older))) (tells x (ReadName dir name) b.0 (holds p older b.0) older) took honest) is) on k
led_after p a (Ask x b (ReadName dir name) told took) older path lawful own more honest on k = tt
led_after p a line older path lawful own more honest on k = still_led p a line older path on k

-- ---- a work up to a name is a work
-- after each line of the work
led_upto : (p : Plan) (a : ℕ) (log : List Line) → LawfulBelow p (name_bound p) log → Honest p log → (k : ℕ) → IsLed p a log (path_by p (upto_names k (work a log)))
led_upto p a [] lawful honest k = inl refl
led_upto p a (line ∷ older) lawful honest k = go (led_upto p a older lawful.1 honest.1) (is_of a line) refl (is_end line) refl
  where
    cut : ((k : ℕ) → IsLed p a older (path_by p (upto_names k (work a older)))) → (early : Bool) → nat_le k (names_asked (work a older)) ≡ early → is_of a line ≡ true → is_end line ≡ false
        → IsLed p a (line ∷ older) (path_by p (if early then upto_names k (work a older) else (line, older) ∷ work a older))
    cut before true e own more = still_led p a line older (path_by p (upto_names k (work a older))) (not_ended a line more) (before k)
    cut before false e own more =
        led_after p a line older (path_by p (work a older)) lawful.1 own more honest.0 (not_ended a line more)
        (subst (λ (w : Work). IsLed p a older (path_by p w)) (upto_all k (work a older) e) (before k))

    go : ((k : ℕ) → IsLed p a older (path_by p (upto_names k (work a older)))) → (own : Bool) → is_of a line ≡ own → (last : Bool) → is_end line ≡ last
        → IsLed p a (line ∷ older) (path_by p (upto_names k (if own then (if last then [] else (line, older) ∷ work a older) else work a older)))
    go before true e true f = inl refl
    go before true e false f = cut before (nat_le k (names_asked (work a older))) refl e f
    go before false e last f = still_led p a line older (path_by p (upto_names k (work a older))) (other_ends a line e) (before k)

-- ---- the law
no_root : (g : Gfid) → (record { gfid = g; what = File }) ≡ root_entry → ⊥
no_root g e = cc (ap (λ (x : Entry). x.what) e)

-- the file was read by the work
pub found_read : (p : Plan) (a : ActorId) (log : List Line) (from : List NameId) (g : Gfid) → p.shape.n ≤ 5 → length log ≤ 4000000 → Honest p log → IsLawfulExactly p log → HasFound p from g (work a.0 log) → HasReadBy p (name_bound p) a.0 g File log
found_read p a log from g few short honest lawful found = read (subst (IsLed p a.0 log) found (led_upto p a.0 log (exactly_below p log few short honest lawful) honest (length from)))
  where
    read : ((record { gfid = g; what = File }) ≡ root_entry) ⊎ HasReadBy p (name_bound p) a.0 g File log → HasReadBy p (name_bound p) a.0 g File log
    read (inl e) = absurd (no_root g e)
    read (inr k) = k

pub found_is_known : FoundIsKnown
found_is_known p a log from g dir name few short honest lawful found = inr (found_read p a log from g few short honest lawful found)
