-- A change is acknowledged exactly where a majority has done post-op.
use Rattle.std.proofs.Common.{◌≡◌, ℕ, not, Bool, true, false, List, [], refl, subst, inl, inr, Option, if◌then◌else◌}
use Rattle.afr_base.specs.Bricks.{is_nothing, member}
use Rattle.afr_base.specs.Majority.{is_majority}
use Rattle.afr_object.specs.declared.change.Change.{Change}
use Rattle.afr_object.specs.declared.entry.View.{View}
use Rattle.afr_choice.specs.Verdict.{good_copies, holders_of}
use Rattle.afr_lines.specs.Areas.{kind_for}
use Rattle.afr_discipline.specs.declared.register.Register.{Register}
use Rattle.afr_client_transaction.specs.Laws.{AcknowledgedExactly}
use Rattle.afr_client_transaction.specs.Outcome.{outcome_of}
use Rattle.afr_client_transaction.specs.Progress.{TransactionProgress}
use Rattle.afr_client_transaction.specs.Sound.{HasQuorum, Posted}
use Rattle.afr_client_transaction.specs.declared.reply.TransactionOutcome.TheVariants.{Acknowledged, Failed, FewCopies, NoQuorum, SplitBrain}
use Rattle.afr_client_transaction.specs.declared.stage.Stage.{Stage}
use Rattle.afr_client_transaction.specs.declared.stage.Stage.TheVariants.{Applying, Beginning, Closing, Locking, Looking, Posting, Preparing}
use Rattle.afr_client_transaction.proofs.Parts.{some_of_most}

-- a majority of no bricks
none_posted : (n : ℕ) (s : List ℕ) → s ≡ [] → is_majority n s ≡ true → ⊥
none_posted n s e h = let one = some_of_most n (member []) (subst (λ (s : List ℕ). is_majority n s ≡ true) e h) in cc one.2

with_quorum : (c : Change) (r : Register) → HasQuorum c r.shape r.looked → is_majority r.shape.n r.post ≡ true → outcome_of c r ≡ Acknowledged
with_quorum c r q h = rw (q.reached, q.copies, q.clean, h) refl

posted_is : (stage : Stage) (m : TransactionProgress) → Posted stage m → is_majority m.register.shape.n m.register.post ≡ true → outcome_of m.change m.register ≡ Acknowledged
posted_is Locking m p h = absurd (none_posted m.register.shape.n m.register.post p h)
posted_is Looking m p h = absurd (none_posted m.register.shape.n m.register.post p h)
posted_is Beginning m p h = absurd (none_posted m.register.shape.n m.register.post p h)
posted_is Preparing m p h = with_quorum m.change m.register p h
posted_is Applying m p h = with_quorum m.change m.register p h
posted_is Posting m p h = with_quorum m.change m.register p h
posted_is Closing m (inl p) h = absurd (none_posted m.register.shape.n m.register.post p h)
posted_is Closing m (inr p) h = with_quorum m.change m.register p h

only_posted : (reached copies split most : Bool) (views : List (Option View))
    → (if not reached then NoQuorum else (if not copies then FewCopies else (if split then SplitBrain views else (if most then Acknowledged else Failed)))) ≡ Acknowledged → most ≡ true
only_posted false copies split most views h = absurd (cc h)
only_posted true false split most views h = absurd (cc h)
only_posted true true true most views h = absurd (cc h)
only_posted true true false true views h = refl
only_posted true true false false views h = absurd (cc h)

pub acknowledged_exactly : AcknowledgedExactly
acknowledged_exactly m s =
    let r = m.register in
    (posted_is m.stage m s.posted, only_posted (is_majority r.shape.n r.looked.reached) (is_majority r.shape.n (holders_of r.looked)) (is_nothing (good_copies r.shape r.looked (kind_for m.change))) (is_majority r.shape.n r.post) r.looked.views)
