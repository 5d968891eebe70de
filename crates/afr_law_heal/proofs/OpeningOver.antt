-- A heal that ends in its opening has its reply by what its lines show.
use Rattle.std.proofs.Common.{◌≡◌, ℕ, ◌<◌, ◌≤◌, ◌&&◌, ◌||◌, not, Bool, true, false, [], Option, Some, None, refl, sym, ◌∙◌, subst}
use Rattle.afr_base.specs.Bricks.{below, member, minus}
use Rattle.afr_base.specs.Majority.{is_majority, is_most}
use Rattle.afr_base.specs.declared.ids.ActorId.{ActorId}
use Rattle.afr_base.specs.declared.ids.Gfid.{Gfid}
use Rattle.afr_base.specs.declared.ids.Kind.{Kind}
use Rattle.afr_base.specs.declared.ids.Shape.{Shape}
use Rattle.afr_heal.proofs.Finding.{over_asked}
use Rattle.afr_heal.proofs.Parts.{not_both}
use Rattle.afr_law_heal.proofs.OpeningParts.{left_most, most_more, no_most}
use Rattle.afr_law_heal.specs.Stages.{TellsLocks, TellsWork}
use Rattle.afr_lines.specs.Work.{Work}
use Rattle.afr_lines.specs.declared.reply.HealReply.{HealReply}
use Rattle.afr_lines.specs.declared.reply.HealReply.TheVariants as healed
use Rattle.afr_model.specs.Healing.{busy_by, first_by, heal_getting, whole_of, First}
use Rattle.afr_model.specs.HealReplies.{IsHealAnswered, by_first, by_owner, heal_reply, or_else}
use Rattle.afr_model.specs.Showing.{among}
use Rattle.afr_model.specs.Standing.{getting}
use Rattle.afr_model_moves.specs.Register.{Exact, HealLocks, asked_in, everywhere, over}

-- who holds the lock says so
pub busy_answered : (shape : Shape) (g : Gfid) (kind : Kind) (w : Work) (owner : ActorId) → busy_by w ≡ Some owner → IsHealAnswered shape g kind w (healed.Busy owner)
busy_answered shape g kind w owner e = record { caused = rw e refl; failed = λ h. absurd (cc h); asked = λ h. absurd (cc (sym e ∙ h)) }

-- too few bricks are left
short_first : (shape : Shape) (kind : Kind) (s : First) → is_majority shape.n (minus (below shape.n) s.missing) ≡ false → by_first shape kind s ≡ Some healed.Short
short_first shape kind s few = rw few refl

pub short_caused : (shape : Shape) (g : Gfid) (kind : Kind) (w : Work) → busy_by w ≡ None → is_majority shape.n (minus (below shape.n) (first_by w).missing) ≡ false → heal_reply shape g kind w ≡ Some healed.Short
short_caused shape g kind w free few = go (busy_by w) (by_first shape kind (first_by w)) _ free (short_first shape kind (first_by w) few)
  where
    go : (busy : Option ActorId) (first rest : Option HealReply) → busy ≡ None → first ≡ Some healed.Short → or_else (by_owner busy) (or_else first rest) ≡ Some healed.Short
    go None (Some r) rest e f = f
    go None None rest e f = absurd (cc f)
    go (Some x) first rest e f = absurd (cc e)

-- too few Heal locks
pub short_of_heal : (shape : Shape) (q : Exact) (g : Gfid) (kind : Kind) (w : Work) → shape.n ≤ 5 → asked_in q HealLocks ≡ q.asked → TellsLocks shape q g kind w
    → over shape.n everywhere q.asked ≡ true → is_most shape.n q.law.healing ≡ false → IsHealAnswered shape g kind w healed.Short
short_of_heal shape q g kind w few same t all few_left = record {
  caused = short_caused shape g kind w t.free (left_most shape.n (first_by w).missing q.law.healing few (λ x l. t.missing x l ∙ rw (here x l) refl) ∙ few_left);
  failed = λ h. absurd (cc h);
  asked = λ free. record {
    locked = λ x l. t.asked x l ∙ here x l;
    worked = λ most. absurd (not_both (is_most shape.n q.law.healing) (most_more shape.n (member (among heal_getting w)) q.law.healing (λ x l m. sym (t.granted x) ∙ m) most) few_left);
    looked = λ most. absurd (none most);
  };
}
  where
    here : (x : ℕ) → x < shape.n → asked_in q HealLocks x ≡ true
    here x l = subst (λ (f : ℕ → Bool). f x ≡ true) (sym same) (over_asked shape.n everywhere q.asked all x l refl)

    none : is_majority shape.n (among (getting (whole_of g kind)) w) ≡ true → ⊥
    none most = not_both (is_majority shape.n []) (subst (λ s. is_majority shape.n s ≡ true) t.unlocked most) (no_most shape.n)

-- too few Work locks
pub short_of_work : (shape : Shape) (q : Exact) (g : Gfid) (kind : Kind) (w : Work) → shape.n ≤ 5 → TellsWork shape q g kind w
    → over shape.n q.law.healing q.asked ≡ true → is_most shape.n q.law.held ≡ false → IsHealAnswered shape g kind w healed.Short
short_of_work shape q g kind w few t all few_left = record {
  caused = short_caused shape g kind w t.free (left_most shape.n (first_by w).missing q.law.held few (λ x l. t.missing x l ∙ gone x l (q.law.healing x) (q.asked x) (q.law.held x) (here x l)) ∙ few_left);
  failed = λ h. absurd (cc h);
  asked = λ free. record {
    locked = t.asked;
    worked = λ most x m. t.worked x (asked_of x (t.low x m) (q.asked x) (q.law.healing x) refl refl (t.granted x m));
    looked = λ most. absurd (not_both (is_most shape.n q.law.held) (most_more shape.n (member (among (getting (whole_of g kind)) w)) q.law.held (λ x l m. t.locked x m) most) few_left);
  };
}
  where
    here : (x : ℕ) → x < shape.n → q.law.healing x ≡ true → q.asked x ≡ true
    here x l h = over_asked shape.n q.law.healing q.asked all x l h

    gone : (x : ℕ) → x < shape.n → (h a held : Bool) → (h ≡ true → a ≡ true) → not (held || (h && not a)) ≡ not held
    gone x l true true true e = refl
    gone x l true true false e = refl
    gone x l true false held e = absurd (cc (e refl))
    gone x l false a true e = refl
    gone x l false a false e = refl

    asked_of : (x : ℕ) → x < shape.n → (a h : Bool) → q.asked x ≡ a → q.law.healing x ≡ h → (a || h) ≡ true → q.asked x ≡ true
    asked_of x l true h ea eh e = ea
    asked_of x l false true ea eh e = here x l eh
    asked_of x l false false ea eh e = absurd (cc e)
