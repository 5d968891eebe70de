-- What a look changes, brick by brick.
use Rattle.std.proofs.Common.{◌≡◌, ◌≢◌, ℕ, ◌<◌, ◌==◌, true, false, Option, None, is_some, length, refl, ◌∙◌, arith}
use Rattle.std.proofs.lemmas.Bool.Decides.{nat_tests}
use Rattle.afr_base.specs.Bricks.{member, added, removed}
use Rattle.afr_base.specs.SetLemmas.{member_added, member_removed}
use Rattle.std.proofs.lemmas.List.{get_or-set_same, get_or-set_other, length-set}
use Rattle.afr_object.specs.declared.entry.View.{View}
use Rattle.afr_choice.specs.declared.looked.Looked.{Looked}
use Rattle.afr_choice.specs.Looks.{with_look, without_look, view_at}
use Rattle.afr_choice.specs.Verdict.{is_holder}

apart : (b c : ℕ) → c ≢ b → (b == c) ≡ false
apart b c other = grind (arith, nat_tests, other)

itself : (b : ℕ) → (b == b) ≡ true
itself b = grind (arith, nat_tests)

-- the last look decides
pub view_after_look : (b : ℕ) (view : Option View) (looked : Looked) → b < length looked.views → view_at b (with_look b view looked) ≡ view
view_after_look b view looked l = get_or-set_same looked.views b view None l

pub view_after_loss : (b : ℕ) (looked : Looked) → b < length looked.views → view_at b (without_look b looked) ≡ None
view_after_loss b looked l = get_or-set_same looked.views b None None l

-- the other bricks show what they showed
pub view_after_other_look : (b c : ℕ) (view : Option View) (looked : Looked) → c ≢ b → view_at c (with_look b view looked) ≡ view_at c looked
view_after_other_look b c view looked other = get_or-set_other looked.views b c view None other

pub view_after_other_loss : (b c : ℕ) (looked : Looked) → c ≢ b → view_at c (without_look b looked) ≡ view_at c looked
view_after_other_loss b c looked other = get_or-set_other looked.views b c None None other

-- there are as many places for views as before
pub length_after_look : (b : ℕ) (view : Option View) (looked : Looked) → length (with_look b view looked).views ≡ length looked.views
length_after_look b view looked = length-set looked.views b view

pub length_after_loss : (b : ℕ) (looked : Looked) → length (without_look b looked).views ≡ length looked.views
length_after_loss b looked = length-set looked.views b None

-- after a look the brick is a holder where it showed a view, after a loss it is none, and of the others nothing changes
pub holder_after_look : (b : ℕ) (view : Option View) (looked : Looked) → b < length looked.views → is_holder (with_look b view looked) b ≡ is_some view
holder_after_look b view looked l =
    let within : member (added b looked.reached) b ≡ true = member_added b looked.reached b ∙ rw (itself b) refl in
    rw (within, view_after_look b view looked l) refl

pub holder_after_other_look : (b c : ℕ) (view : Option View) (looked : Looked) → c ≢ b → is_holder (with_look b view looked) c ≡ is_holder looked c
holder_after_other_look b c view looked other =
    let same_set : member (added b looked.reached) c ≡ member looked.reached c = member_added b looked.reached c ∙ rw (apart b c other) refl in
    rw (same_set, view_after_other_look b c view looked other) refl

pub holder_after_loss : (b : ℕ) (looked : Looked) → is_holder (without_look b looked) b ≡ false
holder_after_loss b looked =
    let away : member (removed b looked.reached) b ≡ false = member_removed b looked.reached b ∙ rw (itself b) refl in
    rw away refl

pub holder_after_other_loss : (b c : ℕ) (looked : Looked) → c ≢ b → is_holder (without_look b looked) c ≡ is_holder looked c
holder_after_other_loss b c looked other =
    let same_set : member (removed b looked.reached) c ≡ member looked.reached c = member_removed b looked.reached c ∙ rw (apart b c other) refl in
    rw (same_set, view_after_other_loss b c looked other) refl
