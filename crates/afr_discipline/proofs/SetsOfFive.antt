-- Sets, views and reads of the five bricks as the tests and functions of the law.
use Rattle.std.proofs.Common.{◌≡◌, ℕ, ◌<◌, ◌==◌, ◌&&◌, not, nat_lt, Bool, true, false, if◌then◌else◌, List, length, slice_index_or, slice_set, Option, None, refl, sym, subst, ap, ◌∙◌, arith}
use Rattle.std.proofs.Math.Path.{fun_ext}
use Rattle.std.proofs.lemmas.Bool.{eqb-true}
use Rattle.std.proofs.lemmas.Bool.Decides.{nat_tests}
use Rattle.std.proofs.lemmas.List.{get_or-set_same, get_or-set_other}
use Rattle.std.proofs.Math.Bool.{and-true}
use Rattle.afr_base.specs.Bricks.{added, added_if, member, removed}
use Rattle.afr_base.specs.SetLemmas.{member_added, member_removed}
use Rattle.afr_base.specs.declared.ids.Kind.TheVariants.{Bytes}
use Rattle.afr_base.specs.declared.ids.Shape.{Shape}
use Rattle.afr_object.specs.declared.entry.View.{View}
use Rattle.afr_choice.specs.Looks.{with_look, without_look}
use Rattle.afr_choice.specs.declared.looked.Looked.{Looked}
use Rattle.afr_model_moves.specs.Sets.{with, without}
use Rattle.afr_model_moves.specs.Keeps.{keeps_in}
use Rattle.afr_model_moves.specs.Note.{put}
use Rattle.afr_discipline.proofs.LeftLemmas.{turned_round}
use Rattle.afr_discipline.specs.Stands.{reads_of, views_of}
use Rattle.afr_model_moves.proofs.Tests.{turned, or_choice, and_choice}

-- ---- one brick more or less
-- the test of a set and one more brick is that of the set with it
pub with_added : (b : ℕ) (s : List ℕ) → with (member s) b ≡ member (added b s)
with_added b s = fun_ext (λ x. at x)
  where
    at : (x : ℕ) → (if x == b then true else member s x) ≡ member (added b s) x
    at x = ap (λ (e : Bool). if e then true else member s x) (turned x b) ∙ or_choice (b == x) (member s x) ∙ sym (member_added b s x)

-- the test of a set and one brick less is that of the set without it
pub without_removed : (b : ℕ) (s : List ℕ) → without (member s) b ≡ member (removed b s)
without_removed b s = fun_ext (λ x. at x)
  where
    at : (x : ℕ) → (if x == b then false else member s x) ≡ member (removed b s) x
    at x = ap (λ (e : Bool). if e then false else member s x) (turned x b) ∙ and_choice (b == x) (member s x) ∙ sym (member_removed b s x)

-- the same unless the brick is to be asked again
pub with_not : (again : Bool) (b : ℕ) (s : List ℕ) → (if again then member s else with (member s) b) ≡ member (added_if (not again) b s)
with_not true b s = refl
with_not false b s = with_added b s

-- a yes that is noted of a brick is the brick in the set
pub put_marked_yes : (b : ℕ) (s : List ℕ) → put (member s) b true ≡ member (added b s)
put_marked_yes b s = with_added b s

-- a no that is noted of a brick is the brick out of the set
pub put_marked_no : (b : ℕ) (s : List ℕ) → put (member s) b false ≡ member (removed b s)
put_marked_no b s = without_removed b s

-- ---- views and reads
-- what is noted of brick b stands at its place in the list
put_at : (A : Type 0) (xs : List (Option A)) (b : ℕ) (new : Option A) → b < length xs → (x : ℕ)
    → put (λ y. slice_index_or xs y None) b new x ≡ slice_index_or (slice_set xs b new) x None
put_at A xs b new within x = go (x == b) refl
  where
    go : (e : Bool) → (x == b) ≡ e → (if e then new else slice_index_or xs x None) ≡ slice_index_or (slice_set xs b new) x None
    go true h = sym (subst (λ (y : ℕ). slice_index_or (slice_set xs b new) y None ≡ new) (sym (eqb-true x b h)) (get_or-set_same xs b new None within))
    go false h = sym (get_or-set_other xs b x new None (λ e. grind (arith, nat_tests, e, h)))

-- the view that a brick showed
pub put_view : (b : ℕ) → b < 5 → (looked : Looked) (v : Option View) → length looked.views ≡ 5 → put (views_of looked) b v ≡ views_of (with_look b v looked)
put_view b few looked v five = fun_ext (λ x. put_at View looked.views b v (omega arith) x)

-- a brick that didn't answer shows nothing
pub put_no_view : (b : ℕ) → b < 5 → (looked : Looked) → length looked.views ≡ 5 → put (views_of looked) b None ≡ views_of (without_look b looked)
put_no_view b few looked five = fun_ext (λ x. put_at View looked.views b None (omega arith) x)

-- the read at a brick
pub put_read : (b : ℕ) → b < 5 → (reads : List (Option ℕ)) (v : Option ℕ) → length reads ≡ 5 → put (reads_of reads) b v ≡ reads_of (slice_set reads b v)
put_read b few reads v five = fun_ext (λ x. put_at ℕ reads b v (omega arith) x)

-- ---- the copies of bytes
five_here : (x : ℕ) → x < 5 → nat_lt x 5 ≡ true
five_here x few = grind (arith, nat_tests, few)

-- without an arbiter each of the five bricks keeps bytes
pub keeping_all : (shape : Shape) (m there : Bool) (x : ℕ) → x < 5 → shape.arbiter ≡ false → m ≡ there → m ≡ (there && keeps_in shape x Bytes)
keeping_all shape m there x few none is = is ∙ sym (ap (λ (k : Bool). there && k) kept ∙ and-true there)
  where
    kept : keeps_in shape x Bytes ≡ true
    kept = (λ i. five_here x few i && not (none i && true && (x == 2)))

-- with one, each but brick 2
pub keeping_no_arbiter : (shape : Shape) (m there : Bool) (x : ℕ) → x < 5 → shape.arbiter ≡ true → m ≡ there → (not (2 == x) && m) ≡ (there && keeps_in shape x Bytes)
keeping_no_arbiter shape m there x few some is = (λ i. not (turned 2 x i) && is i) ∙ turned_round (x == 2) there ∙ sym (ap (λ (k : Bool). there && k) kept)
  where
    kept : keeps_in shape x Bytes ≡ not (x == 2)
    kept = (λ i. five_here x few i && not (some i && true && (x == 2)))
