-- Small facts of removals: the change, the sets, and who is asked.
use Rattle.std.proofs.Common.{◌≡◌, ℕ, zero, suc, ◌<◌, ◌&&◌, ◌||◌, not, ◌==◌, Bool, true, false, List, refl, sym, ◌∙◌, ap, subst, arith, Option, None, Some}
use Rattle.std.proofs.lemmas.Bool.{or_left}
use Rattle.std.proofs.Math.Bool.{and-false}
use Rattle.afr_base.specs.Bricks.{common, lowest, member, minus, is_nothing}
use Rattle.afr_base.specs.SetLemmas.{lowest_left, member_minus}
use Rattle.afr_base.specs.declared.ids.Gfid.{Gfid}
use Rattle.afr_base.specs.declared.ids.Kind.TheVariants.{Names}
use Rattle.afr_base.proofs.TestLemmas.{unless_then}
use Rattle.afr_object.specs.declared.change.Change.{Change}
use Rattle.afr_object.specs.declared.change.Change.TheVariants.{Write, Cut, SetAttr, Make, Remove}
use Rattle.afr_choice.specs.VerdictLemmas.{good_are_holders, holders_are_reached}
use Rattle.afr_lines.specs.Areas.{area_for, kind_for}
use Rattle.afr_lines.specs.declared.request.Area.{Area}
use Rattle.afr_lines.specs.declared.request.Area.TheVariants.{Name}
use Rattle.afr_model_moves.specs.Rules.{busy, is_area}
use Rattle.afr_model_moves.specs.Sets.{any}
use Rattle.afr_model_moves.proofs.Tests.{some_no}
use Rattle.afr_discipline.specs.Stands.{seen_as}
use Rattle.afr_discipline.specs.declared.register.Register.{Register}
use Rattle.afr_client_transaction.specs.Sound.{Shown, Suits}
use Rattle.afr_client_transaction.proofs.Parts.{some_of_most}
use Rattle.afr_client_transaction.proofs.Kept.{most_of}
use Rattle.afr_client_entry.specs.Removals.Removal.{Removing, both_held, has_takers, left, sources, takers_of}
use Rattle.afr_client_entry.specs.Removals.Sound.{IsRemoval}
use Rattle.afr_client_entry.specs.declared.removing.stage.RemovalStage.TheVariants.{Locking, Looking}

-- ---- the change
pub suits : (change : Change) → IsRemoval change → Suits change
suits (Remove dir name what) k = record { valid = refl; kind = refl }
suits (Write g at bytes) k = absurd k
suits (Cut g len) k = absurd k
suits (SetAttr g key value) k = absurd k
suits (Make dir name g what) k = absurd k

pub of_names : (change : Change) → IsRemoval change → kind_for change ≡ Names
of_names (Remove dir name what) k = refl
of_names (Write g at bytes) k = absurd k
of_names (Cut g len) k = absurd k
of_names (SetAttr g key value) k = absurd k
of_names (Make dir name g what) k = absurd k

-- the name's area isn't the whole of any directory
pub apart : (change : Change) → IsRemoval change → (area : Option Area) (g : Gfid) → area ≡ Some (area_for change) → is_area area (Name g None) ≡ false
apart (Remove dir name what) k area g e = subst (λ (o : Option Area). is_area o (Name g None) ≡ false) (sym e) (and-false (dir.0 == g.0))
apart (Write g at bytes) k area h e = absurd k
apart (Cut g len) k area h e = absurd k
apart (SetAttr g key value) k area h e = absurd k
apart (Make dir name g what) k area h e = absurd k

-- ---- sets
pub common_left : (s t : List ℕ) (b : ℕ) → member (common s t) b ≡ true → member s b ≡ true
common_left s t b m = unless_then (member (minus s t) b) (member s b) (sym (member_minus s (minus s t) b) ∙ m)

pub common_right : (s t : List ℕ) (b : ℕ) → member (common s t) b ≡ true → member t b ≡ true
common_right s t b m = go (member t b) (member s b) (ap (λ (x : Bool). not x && member s b) (sym (member_minus s t b)) ∙ sym (member_minus s (minus s t) b) ∙ m)
  where
    go : (x y : Bool) → (not (not x && y) && y) ≡ true → x ≡ true
    go true y h = refl
    go false true h = absurd (cc h)
    go false false h = absurd (cc h)

pub some_takers : (r : Register) → has_takers r ≡ true → (b : ℕ) × (member (takers_of r) b ≡ true)
some_takers r h = let one = some_of_most r.shape.n (member (takers_of r)) (most_of r Names (takers_of r) h) in (one.0, one.2)

-- ---- who is asked
pub lock_asked : (m : Removing) → is_nothing (left Locking m) ≡ false → member m.register.held (lowest (left Locking m)) ≡ true
lock_asked m e = (lowest_left m.register.held m.child.lock_asked e).1

pub look_asked : (m : Removing) → is_nothing (left Looking m) ≡ false → member m.register.held (lowest (left Looking m)) ≡ true
look_asked m e = common_left m.register.held m.register.second_held _ (lowest_left (both_held m.register) m.child.look_asked e).1

pub list_asked : (m : Removing) → Shown m.register.shape.n m.child.looked → member (sources m) m.child.reader.0 ≡ true → m.child.reader.0 < m.register.shape.n
list_asked m k e = k.reached _ (holders_are_reached m.child.looked _ (good_are_holders m.register.shape m.child.looked Names _ e))

pub is_busy : (r : Register) (b : ℕ) → b < r.shape.n → member r.held b ≡ true → busy r.shape.n (seen_as r).law ≡ true
is_busy r b small m = or_left (any r.shape.n (member r.held)) (any r.shape.n (member r.second_held)) (some_no r.shape.n (member r.held) b small m)
