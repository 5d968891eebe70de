-- With each name of a directory that a client has read its path stands at a greater number.
use Rattle.std.proofs.Common.{◌≡◌, ℕ, suc, ◌+◌, ◌<◌, ◌≤◌, ◌==◌, Bool, true, false, refl, sym, ◌∙◌, subst, ap, arith, List, [], ◌∷◌, Some}
use Rattle.std.specs.Prelude.{if◌then◌else◌, slice_get}
use Rattle.std.proofs.lemmas.Bool.{eqb-true}
use Rattle.std.proofs.lemmas.Bool.Decides.{nat_tests}
use Rattle.std.proofs.lemmas.Option.{same_Some}
use Rattle.afr_base.specs.declared.ids.ActorId.{ActorId}
use Rattle.afr_base.specs.declared.ids.BrickId.{BrickId}
use Rattle.afr_base.specs.declared.ids.Gfid.{Gfid}
use Rattle.afr_base.specs.declared.ids.NameId.{NameId}
use Rattle.afr_base.specs.declared.ids.What.TheVariants.{Dir}
use Rattle.afr_law_names.proofs.Descent.Entries.{leads_down}
use Rattle.afr_law_names.proofs.Descent.Makes.{plan_before}
use Rattle.afr_law_names.proofs.Descent.Paths.{After, IsOff, Nothing, Reads, Silence, Stays, after_is, after_off}
use Rattle.afr_law_names.specs.Descent.Descent.{IsOfPlan, PathsLeadDown, has_one_path}
use Rattle.afr_law.proofs.Model.Tasks.{other_ends}
use Rattle.afr_law.specs.ModelKinds.{Now}
use Rattle.afr_lines.specs.Work.{Work, ended, ends_work, is_end, is_of, work}
use Rattle.afr_lines.specs.declared.answer.Told.TheVariants.{Given}
use Rattle.afr_lines.specs.declared.line.Line.TheVariants.{Ask, End}
use Rattle.afr_lines.specs.declared.line.Line.{Line}
use Rattle.afr_lines.specs.declared.request.Request.TheVariants.{ReadName}
use Rattle.afr_model.specs.Actors.{script_of}
use Rattle.afr_model.specs.Following.{IsFollowing, KeepsToCommand, KeepsToTask, ToCommand, ToCrawl, ToItem, ToRound}
use Rattle.afr_model.specs.Keeping.{KeepsTo}
use Rattle.afr_model.specs.Showing.{At, NoName, Path, Untold, path_after, path_by, root_entry}
use Rattle.afr_model.specs.Standing.{kept_at, path_upto}
use Rattle.afr_model.specs.Tables.{entry_at, holds}
use Rattle.afr_model_moves.proofs.Tests.{same_no, same_self}
use Rattle.afr_object.specs.declared.entry.Entry.{Entry}
use Rattle.afr_plan.specs.declared.command.Command.{Command}
use Rattle.afr_plan.specs.declared.command.Command.TheVariants as command
use Rattle.afr_plan.specs.declared.plan.Plan.{Plan}

-- a line of a command with one path keeps to it
keeps_to_one : (p : Plan) (c : Command) (line : Line) (at : ℕ) (w : Work) → has_one_path c ≡ true → KeepsToCommand p c line at w → KeepsTo p c line at w
keeps_to_one p (command.Rename from to) line at w one k = absurd (cc one)
keeps_to_one p c line at w one k = k

-- the present command is that of the line before
pub not_ended : (a : ℕ) (line : Line) → is_end line ≡ false → ends_work a line ≡ false
not_ended a (End x reply) e = absurd (cc e)
not_ended a line e = refl

present_before : (p : Plan) (a : ℕ) (line : Line) (older : List Line) (c : Command) → ends_work a line ≡ false → slice_get (script_of p a) (ended a (line ∷ older)) ≡ Some c → slice_get (script_of p a) (ended a older) ≡ Some c
present_before p a line older c e h = subst (λ (b : Bool). slice_get (script_of p a) (if b then ended a older + 1 else ended a older) ≡ Some c) e h

-- where k names have led, and where one more: neither is past them yet, and then the whole path stands there; or each has its object, and the second is greater where it is a directory; or the second has none
pub data Steps (k : ℕ) (u v whole : Path) : Type 0 where
  Still : (j : ℕ) (o : Entry) → j ≤ k → u ≡ At j o → v ≡ At j o → whole ≡ At j o → Steps k u v whole
  Passed : (d o : Entry) → u ≡ At k d → v ≡ At (suc k) o → (o.what ≡ Dir → d.gfid.0 < o.gfid.0) → Steps k u v whole
  Lost : IsOff v → Steps k u v whole

-- a directory that is read at a name is greater than where the path stood
read_down : (crawl : Bool) (p : Plan) (older : List Line) → IsOfPlan p older → (a j : ℕ) (c : Command) (o e : Entry) (b : ActorId) (y : BrickId) (g : Gfid) (name : NameId) (took : Bool) → a ≤ 16 → slice_get (script_of p a) (ended a older) ≡ Some c → has_one_path c ≡ true
    → is_of a (Ask b y (ReadName g name) Given took) ≡ true → IsFollowing crawl p (Ask b y (ReadName g name) Given took) older → path_by p (work a older) ≡ At j o → entry_at g name (holds p older y.0) ≡ Some e → e.what ≡ Dir → o.gfid.0 < e.gfid.0
read_down crawl p older f a j c o e b y g name took client present one mine follows stands there directory = go follows.1.0.keeps
  where
    who : b.0 ≡ a
    who = eqb-true b.0 a mine

    go : KeepsToTask crawl p b.0 (Ask b y (ReadName g name) Given took) older → o.gfid.0 < e.gfid.0
    go (ToRound plain high x h k) = absurd (omega (arith, client, who, high))
    go (ToCrawl crawls first x h k) = absurd (omega (arith, client, who, first))
    go (ToItem crawls high item h k) = absurd (omega (arith, client, who, high))
    go (ToCommand other h kept) =
        let its : slice_get (script_of p a) (ended a older) ≡ Some other = subst (λ (x : ℕ). slice_get (script_of p x) (ended x older) ≡ Some other) who h in
        let command : other ≡ c = same_Some other c (sym its ∙ present) in
        let k = keeps_to_one p other (Ask b y (ReadName g name) Given took) _ (work b.0 older) (ap has_one_path command ∙ one) kept in
        let here : path_by p (work a older) ≡ At k.read k.object = subst (λ (x : ℕ). path_by p (work x older) ≡ At k.read k.object) who k.stands in
        let same : o ≡ k.object = (let both : At j o ≡ At k.read k.object = sym stands ∙ here in cc both) in
        let down : g.0 < e.gfid.0 = leads_down p older f (holds p older y.0) (Now y.0 refl) g name e there directory in
        let at : o.gfid.0 ≡ g.0 = ap (λ (x : Entry). x.gfid.0) same ∙ ap (λ (x : Gfid). x.0) k.asked in
        omega (arith, down, at)

-- one more line
module _ (p : Plan) (line : Line) (older : List Line) (f : IsOfPlan p (line ∷ older)) (a k : ℕ) (c : Command) (client : a ≤ 16) (one : has_one_path c ≡ true) where
  abbrev u : Path
  u = path_upto k p (work a older)

  abbrev v : Path
  v = path_upto (suc k) p (work a older)

  abbrev whole : Path
  whole = path_by p (work a older)

  more : is_of a line ≡ true → slice_get (script_of p a) (ended a older) ≡ Some c → (j : ℕ) (o : Entry) (path : Path) → whole ≡ At j o → After p line older j o path → (kept : Bool) → (j == k) ≡ kept → j ≤ k → Steps k (if kept then At j o else path) path path
  more mine present j o path stands Stays true h low = Still j o low refl refl refl
  more mine present j o path stands Stays false h low = Still j o low refl refl refl
  more mine present j o path stands (Reads b y g name took e is there) true h low = (
      let at : j ≡ k = eqb-true j k h in
      let down = read_down f.crawl p older (plan_before p line older f) a j c o e b y g name took client present one (subst (λ (l : Line). is_of a l ≡ true) is mine) (subst (λ (l : Line). IsFollowing f.crawl p l older) is f.follows.0) stands there in
      Passed o e (ap (λ (i : ℕ). At i o) at) (let one : j + 1 ≡ suc k = omega (arith, at) in ap (λ (i : ℕ). At i e) one) down
      )
  more mine present j o path stands (Reads b y g name took e is there) false h low = Still (j + 1) e (let less : j < k = grind (arith, nat_tests, h, low) in omega (arith, less)) refl refl refl
  more mine present j o path stands Nothing kept h low = Lost (λ i x e. cc e)
  more mine present j o path stands Silence kept h low = Lost (λ i x e. cc e)

  next : is_of a line ≡ true → slice_get (script_of p a) (ended a older) ≡ Some c → Steps k u v whole → Steps k (kept_at k u (path_after p line older u)) (kept_at (suc k) v (path_after p line older v)) (path_after p line older whole)
  next mine present (Still j o low is same stands) = rw (is, same, stands, same_no j (suc k) (omega (arith, low))) (more mine present j o (path_after p line older (At j o)) stands (after_is p line older j o) (j == k) refl low)
  next mine present (Passed d o is same down) = rw (is, same, same_self k, same_self (suc k)) (Passed d o refl refl down)
  next mine present (Lost off) = Lost (lost v off)
    where
      lost : (x : Path) → IsOff x → IsOff (kept_at (suc k) x (path_after p line older x))
      lost (At i o) h = absurd (h i o refl)
      lost NoName h = after_off p line older NoName h
      lost Untold h = after_off p line older Untold h

  steps_next : (mine : Bool) → is_of a line ≡ mine → (end : Bool) → is_end line ≡ end → slice_get (script_of p a) (ended a (line ∷ older)) ≡ Some c → (slice_get (script_of p a) (ended a older) ≡ Some c → Steps k u v whole)
      → Steps k (path_upto k p (if mine then (if end then [] else (line, older) ∷ work a older) else work a older)) (path_upto (suc k) p (if mine then (if end then [] else (line, older) ∷ work a older) else work a older)) (path_by p (if mine then (if end then [] else (line, older) ∷ work a older) else work a older))
  steps_next false m end e present before = before (present_before p a line older c (other_ends a line m) present)
  steps_next true m true e present before = Still 0 root_entry (omega arith) refl refl refl
  steps_next true m false e present before = (let was = present_before p a line older c (not_ended a line e) present in next m was (before was))

pub steps : (p : Plan) (log : List Line) → IsOfPlan p log → (a k : ℕ) (c : Command) → a ≤ 16 → has_one_path c ≡ true → slice_get (script_of p a) (ended a log) ≡ Some c → Steps k (path_upto k p (work a log)) (path_upto (suc k) p (work a log)) (path_by p (work a log))
steps p [] f a k c client one present = Still 0 root_entry (omega arith) refl refl refl
steps p (line ∷ older) f a k c client one present = steps_next p line older f a k c client one (is_of a line) refl (is_end line) refl present (steps p older (plan_before p line older f) a k c client one)

pub paths_down : PathsLeadDown
paths_down p log f a k c d o client present one is same directory = go (steps p log f a k c client one present)
  where
    go : Steps k (path_upto k p (work a log)) (path_upto (suc k) p (work a log)) (path_by p (work a log)) → d.gfid.0 < o.gfid.0
    go (Still j x low u v w) = absurd (let both : At j x ≡ At (suc k) o = sym v ∙ same in let at : j ≡ suc k = cc both in omega (arith, low, at))
    go (Passed x y u v down) = (
        let first : x ≡ d = (let both : At k x ≡ At k d = sym u ∙ is in cc both) in
        let second : y ≡ o = (let both : At (suc k) y ≡ At (suc k) o = sym v ∙ same in cc both) in
        let less = down (ap (λ (z : Entry). z.what) second ∙ directory) in
        let one : x.gfid.0 ≡ d.gfid.0 = ap (λ (z : Entry). z.gfid.0) first in
        let two : y.gfid.0 ≡ o.gfid.0 = ap (λ (z : Entry). z.gfid.0) second in
        omega (arith, less, one, two)
        )
    go (Lost off) = absurd (off (suc k) o same)
