-- Where the lines of a work have led its path, with its last name and without.
use Rattle.std.proofs.Common.{◌≡◌, ℕ, ◌==◌, Bool, true, false, List, ◌∷◌, Option, Some, None, refl, sym, ap, ◌∙◌, arith, if◌then◌else◌}
use Rattle.std.specs.BTreeMap.{is_at}
use Rattle.std.specs.Map.{lookup}
use Rattle.std.proofs.lemmas.Bool.Decides.{nat_tests}
use Rattle.afr_base.specs.declared.ids.Gfid.{Gfid}
use Rattle.afr_base.specs.declared.ids.NameId.{NameId}
use Rattle.afr_lines.specs.Told.{told_by}
use Rattle.afr_lines.specs.Work.{Work}
use Rattle.afr_lines.specs.declared.answer.Answer.{Answer}
use Rattle.afr_lines.specs.declared.answer.Answer.TheVariants as answer
use Rattle.afr_lines.specs.declared.answer.Told.TheVariants as as_told
use Rattle.afr_lines.specs.declared.line.Line.{Line}
use Rattle.afr_lines.specs.declared.line.Line.TheVariants.{Ask, Begin}
use Rattle.afr_lines.specs.declared.request.Request.TheVariants.{Lock, Unlock, Look, Pre, Apply, Post, ReadName}
use Rattle.afr_object.specs.Tables.{copy_at, name_cmp}
use Rattle.afr_object.specs.declared.entry.Entry.{Entry}
use Rattle.afr_object.specs.Object.{Object}
use Rattle.afr_plan.specs.declared.plan.Plan.{Plan}
use Rattle.afr_lines.specs.declared.lock.Domain.TheVariants.{Work as WorkDomain}
use Rattle.afr_model.specs.Honest.{copy_answer}
use Rattle.afr_model.specs.Showing.{Path, At, has, path_after, path_by, reading_by, refuses_read}
use Rattle.afr_model.specs.Standing.{kept_at, path_upto}
use Rattle.afr_model.specs.Tables.{entry_at, entry_in, holds}
use Rattle.afr_law_client.specs.Read.ChangeLaws.{is_of_change}
use Rattle.afr_law_client.specs.Read.Lines.{CanAnswer}

-- ---- the path without its last name
same : (n : ℕ) → (n == n) ≡ true
same n = grind (arith, nat_tests)

on_the_way : (t : Bool) (x y : Path) → t ≡ false → (if t then x else y) ≡ y
on_the_way true x y e = absurd (cc e)
on_the_way false x y e = refl

-- it goes on with the whole path, where it hasn't led to the directory
pub upto_more : (k : ℕ) (p : Plan) (w : Work) (line : Line) (older : List Line) (read : ℕ) (object : Entry) → path_upto k p w ≡ path_by p w → path_by p w ≡ At read object → (read == k) ≡ false
    → path_upto k p ((line, older) ∷ w) ≡ path_by p ((line, older) ∷ w)
upto_more k p w line older read object e at apart =
    ap (λ (u : Path). kept_at k u (path_after p line older u)) (e ∙ at)
    ∙ on_the_way (read == k) (At read object) (path_after p line older (At read object)) apart
    ∙ sym (ap (λ (u : Path). path_after p line older u) at)

-- there it stays
pub upto_stays : (k : ℕ) (p : Plan) (w : Work) (line : Line) (older : List Line) (object : Entry) → path_upto k p w ≡ At k object → path_upto k p ((line, older) ∷ w) ≡ At k object
upto_stays k p w line older object e = ap (λ (u : Path). kept_at k u (path_after p line older u)) e ∙ stays
  where
    stays : kept_at k (At k object) (path_after p line older (At k object)) ≡ At k object
    stays = rw (same k) refl

-- ---- a line of the transaction
-- what such a line leaves
pub record Quiet (p : Plan) (line : Line) (older : List Line) (w : Work) : Type 0 where
  pub path : path_by p ((line, older) ∷ w) ≡ path_by p w
  pub refused : has refuses_read ((line, older) ∷ w) ≡ has refuses_read w
  pub reading : reading_by p ((line, older) ∷ w) ≡ reading_by p w

pub quiet : (p : Plan) (line : Line) (older : List Line) (w : Work) → is_of_change line ≡ true → Quiet p line older w
quiet p (Ask a b (Lock WorkDomain area) told took) older w h = record { path = refl; refused = refl; reading = refl }
quiet p (Ask a b (Unlock WorkDomain area) told took) older w h = record { path = refl; refused = refl; reading = refl }
quiet p (Ask a b (Look g) told took) older w h = record { path = refl; refused = refl; reading = refl }
quiet p (Ask a b (Pre g kind) told took) older w h = record { path = refl; refused = refl; reading = refl }
quiet p (Ask a b (Apply attempt) told took) older w h = record { path = refl; refused = refl; reading = refl }
quiet p (Ask a b (Post attempt g kind missed) told took) older w h = record { path = refl; refused = refl; reading = refl }
quiet p (Begin a change) older w h = record { path = refl; refused = refl; reading = refl }
quiet p line older w h = absurd (cc h)

-- ---- the read of a name
-- it is given what the brick's table shows, or it fails
pub data NameTold (p : Plan) (b : ℕ) (g : Gfid) (name : NameId) (log : List Line) (heard : Answer) : Type 0 where
  Found : (entry : Option Entry) → heard ≡ answer.Entry entry → entry_at g name (holds p log b) ≡ entry → NameTold p b g name log heard
  Lost : heard ≡ answer.NotConnected → NameTold p b g name log heard
  Fails : heard ≡ answer.Failed → NameTold p b g name log heard

module _ (p : Plan) (b : ℕ) (g : Gfid) (name : NameId) (log : List Line) where
  abbrev entry_of : Object → Answer
  entry_of o = answer.Entry (lookup (is_at (name_cmp name)) o.names)

  abbrev is_entry : Answer → Bool
  is_entry (answer.Entry entry) = true
  is_entry other = false

  entry_is : (entry : Option Entry) (o : Option Object) → answer.Entry entry ≡ copy_answer entry_of o → entry_in name o ≡ entry
  entry_is entry None e = absurd (cc e)
  entry_is entry (Some o) e = cc e

  given_entry : (heard : Answer) (o : Option Object) → heard ≡ copy_answer entry_of o → told_by heard ≡ as_told.Given → is_entry heard ≡ true
  given_entry heard None e t = absurd (clash (sym (ap told_by e) ∙ t))
    where
      clash : as_told.NoObject ≡ as_told.Given → ⊥
      clash h = cc h
  given_entry heard (Some o) e t = ap is_entry e

  not_given : (heard : Answer) → CanAnswer p b (ReadName g name) log heard → told_by heard ≡ as_told.Given → is_entry heard ≡ false → ⊥
  not_given heard can t e = let f : is_entry heard ≡ true = given_entry heard (copy_at g (holds p log b)) (can.given t) t in cc (e, f)

  pub name_told : (heard : Answer) → CanAnswer p b (ReadName g name) log heard → NameTold p b g name log heard
  name_told (answer.Entry entry) can = Found entry refl (entry_is entry (copy_at g (holds p log b)) (can.given refl))
  name_told answer.NotConnected can = Lost refl
  name_told answer.Failed can = Fails refl
  name_told (answer.Bytes bytes) can = absurd (not_given (answer.Bytes bytes) can refl refl)
  name_told (answer.Names found) can = absurd (not_given (answer.Names found) can refl refl)
  name_told (answer.Value value) can = absurd (not_given (answer.Value value) can refl refl)
  name_told (answer.Attrs attrs) can = absurd (not_given (answer.Attrs attrs) can refl refl)
  name_told (answer.Index index) can = absurd (not_given (answer.Index index) can refl refl)
  name_told answer.Granted can = absurd (cc (can.told refl))
  name_told (answer.Held owner) can = absurd (cc (can.told refl))
  name_told (answer.Seen view) can = absurd (cc (can.told refl))
  name_told answer.Done can = absurd (cc (can.told refl))
  name_told answer.NoObject can = absurd (cc (can.told refl))
