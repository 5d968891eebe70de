-- Directories that every brick has: of what sort they are, and what their names lead to.
use Rattle.std.proofs.Common.{Bool, ap, false, not, refl, subst, sym, true, ℕ, zero, suc, ◌&&◌, ◌<◌, ◌∙◌, ◌≡◌, ◌==◌, List, [], ◌∷◌, None, Option, Some}
use Rattle.std.specs.Prelude.{is_some}
use Rattle.std.specs.BTreeMap.{is_at}
use Rattle.std.specs.Map.{lookup}
use Rattle.afr_base.specs.Keeping.{keeps}
use Rattle.afr_base.specs.declared.ids.BrickId.{BrickId}
use Rattle.afr_base.specs.declared.ids.Gfid.{Gfid}
use Rattle.afr_base.specs.declared.ids.Kind.TheVariants.{Names}
use Rattle.afr_base.specs.declared.ids.NameId.{NameId}
use Rattle.afr_base.specs.declared.ids.What.{What}
use Rattle.afr_base.specs.declared.ids.What.TheVariants.{Dir, File}
use Rattle.afr_object.specs.Repairs.{Contents}
use Rattle.afr_object.specs.Repairs as contents
use Rattle.afr_object.specs.Tables.{copy_at, is_dir, name_cmp, opening, opening_gfid, root}
use Rattle.afr_object.specs.declared.change.Change.TheVariants.{Make}
use Rattle.afr_object.specs.declared.entry.Entry.{Entry}
use Rattle.afr_object.specs.Object.{Object}
use Rattle.afr_lines.specs.declared.line.Line.{Line}
use Rattle.afr_plan.specs.declared.plan.Plan.{Plan}
use Rattle.afr_model.specs.Cells.{IsEntry, Name, value_if}
use Rattle.afr_model.specs.Sums.{has_object}
use Rattle.afr_model.specs.Tables.{entry_at, entry_in, holds}
use Rattle.afr_law_tables.specs.TableLaws.{copy_stays, stays_applied}
use Rattle.afr_law_names.specs.Apart.{OnlyDirectoriesHaveNames}
use Rattle.afr_law.specs.ModelKinds.{IsOneKind, Now}
use Rattle.afr_law_quiet.specs.Undisturbed.{IsEverywhere}
use Rattle.afr_law_passes.specs.Converged.{AreRounds, HasPart, IsClearAlike, IsEverywhereAs, IsUnchanged, contents_in}
use Rattle.afr_law_passes.proofs.Spared.{has_some}
use Rattle.afr_law_passes.specs.Reached.Reached.{IsNamed}
use Rattle.afr_law_passes.proofs.Reached.Passes.{was_then}

-- ---- the root
opening_root : (files : ℕ) → is_some (copy_at root (opening files)) ≡ true
opening_root zero = refl
opening_root (suc i) = stays_applied true (Make root (record { 0 = i }) (opening_gfid (suc i)) File) (opening i) root (opening_root i)

-- every brick has it, always
pub root_there : (p : Plan) (log : List Line) (b : ℕ) → has_object p log root b ≡ true
root_there p [] b = opening_root p.files
root_there p (line ∷ older) b = copy_stays p line older b root (root_there p older b)

-- ---- sorts
pub everywhere_as : (p : Plan) (log : List Line) (g : Gfid) (what : What) → IsEverywhereAs p log g what → IsEverywhere p log g
everywhere_as p log g what h b low = ap (λ (o : Option Object). is_some o) (h b low).1

-- an object that one brick has as of a sort the others have so
pub as_one : (p : Plan) (log : List Line) → IsOneKind p log → (g : Gfid) → IsEverywhere p log g → (b : ℕ) (q : Object) → copy_at g (holds p log b) ≡ Some q → IsEverywhereAs p log g q.what
as_one p log one g every b q here c low = (let o = has_some p log c g (every c low) in (o.0, o.1, one.copies (holds p log c) (holds p log b) (Now c refl) (Now b refl) g o.0 q o.1 here))

pub sort_of : (p : Plan) (log : List Line) → IsOneKind p log → 0 < p.shape.n → (g : Gfid) → IsEverywhere p log g → (what : What) × IsEverywhereAs p log g what
sort_of p log one some g every = (let q = has_some p log 0 g (every 0 some) in (q.0.what, as_one p log one g every 0 q.0 q.1))

-- and it was of that sort when the rounds began
pub as_then : (p : Plan) (start : List Line) (bricks : List BrickId) (log : List Line) → AreRounds p start bricks log → IsOneKind p log → (g : Gfid) (what : What) → IsEverywhere p start g → IsEverywhereAs p log g what → IsEverywhereAs p start g what
as_then p start bricks log rounds one g what every now b low = (
    let o = has_some p start b g (every b low) in
    let q = now b low in
    (o.0, o.1, one.copies (holds p start b) (holds p log b) (was_then p start bricks log rounds b) (Now b refl) g o.0 q.0 o.1 q.1 ∙ q.2)
    )

-- what has a name is a directory
pub named_dir : OnlyDirectoriesHaveNames → (p : Plan) (log : List Line) (b : ℕ) (dir : Gfid) (name : NameId) (g : Gfid) → IsNamed p log b dir name g → (o : Object) → copy_at dir (holds p log b) ≡ Some o → o.what ≡ Dir
named_dir only p log b dir name g (what, is) o there = go (is_dir o.what) refl
  where
    dir_is : (w : What) → is_dir w ≡ true → w ≡ Dir
    dir_is File e = absurd (cc e)
    dir_is Dir e = refl

    named : lookup (is_at (name_cmp name)) o.names ≡ Some (record { gfid = g; what = what })
    named = subst (λ (q : Option Object). entry_in name q ≡ Some (record { gfid = g; what = what })) there is

    go : (d : Bool) → is_dir o.what ≡ d → o.what ≡ Dir
    go true e = dir_is o.what e
    go false e = absurd (let none : lookup (is_at (name_cmp name)) [] ≡ Some (record { gfid = g; what = what }) = subst (λ (names : List (NameId × Entry)). lookup (is_at (name_cmp name)) names ≡ Some (record { gfid = g; what = what })) (only p log b dir o there e) named in cc none)

-- ---- names
-- every brick keeps names
keeps_names : (p : Plan) (b : ℕ) → keeps p.shape Names b ≡ true
keeps_names p b = go p.shape.arbiter
  where
    go : (x : Bool) → not (x && false && (b == 2)) ≡ true
    go true = refl
    go false = refl

entry_value : (dir : Gfid) (name : NameId) (o : Option Object) → value_if (Name dir name) o ≡ IsEntry (entry_in name o)
entry_value dir name None = refl
entry_value dir name (Some o) = refl

-- where the names of a directory are alike, each brick has what one has
pub named_alike : (p : Plan) (log : List Line) (dir : Gfid) → IsClearAlike p log dir Names → (b c : ℕ) → b < p.shape.n → c < p.shape.n → (name : NameId) (g : Gfid) → IsNamed p log b dir name g → IsNamed p log c dir name g
named_alike p log dir clear b c low near name g (what, is) = (what, entry ∙ is)
  where
    same : IsEntry (entry_at dir name (holds p log c)) ≡ IsEntry (entry_at dir name (holds p log b))
    same = sym (entry_value dir name (copy_at dir (holds p log c))) ∙ clear.alike c b near low (keeps_names p c) (keeps_names p b) (Name dir name) refl refl ∙ entry_value dir name (copy_at dir (holds p log b))

    entry : entry_at dir name (holds p log c) ≡ entry_at dir name (holds p log b)
    entry = cc same

names_same : (w v : What) (s t : List (NameId × Entry)) → ◌≡◌ {A = What × Contents} (w, contents.Names s) (v, contents.Names t) → s ≡ t
names_same w v s t e = (let same : contents.Names s ≡ contents.Names t = ap (λ (x : What × Contents). x.1) e in cc same)

-- where they are unchanged, a brick had what it has
pub named_was : (p : Plan) (start log : List Line) (dir : Gfid) → IsEverywhere p start dir → IsUnchanged p start log dir Names → (b : ℕ) → b < p.shape.n → (name : NameId) (g : Gfid) → IsNamed p log b dir name g → IsNamed p start b dir name g
named_was p start log dir every u b low name g (what, is) = (what, entry ∙ is)
  where
    was : (o : Object) × (copy_at dir (holds p start b) ≡ Some o)
    was = has_some p start b dir (every b low)

    now : HasPart p log b dir Names (was.0.what, contents_in Names was.0)
    now = u.parts b low (was.0.what, contents_in Names was.0) (was.0, was.1, refl)

    names : was.0.names ≡ now.0.names
    names = sym (names_same now.0.what was.0.what now.0.names was.0.names now.2)

    entry : entry_at dir name (holds p start b) ≡ entry_at dir name (holds p log b)
    entry = ap (entry_in name) was.1 ∙ ap (λ (t : List (NameId × Entry)). lookup (is_at (name_cmp name)) t) names ∙ sym (ap (entry_in name) now.1)
