-- Where the discipline's test lets an attempt begin, the views have a quorum with a good copy.
use Rattle.std.proofs.Common.{◌≡◌, ◌≤◌, ◌&&◌, true, false, refl, ◌∙◌, subst, arith}
use Rattle.afr_base.specs.Bricks.{is_nothing, member}
use Rattle.afr_base.specs.Majority.{is_majority, is_most}
use Rattle.afr_base.specs.SetLemmas.{most_same, some_member}
use Rattle.afr_base.specs.declared.ids.Kind.{Kind}
use Rattle.afr_base.specs.declared.ids.Shape.{Shape}
use Rattle.afr_object.specs.declared.change.Change.{Change}
use Rattle.afr_choice.proofs.Agreement.{good_tells, holders_tell}
use Rattle.afr_choice.specs.Verdict.{good_copies, holders_of}
use Rattle.afr_choice.specs.declared.looked.Looked.{Looked}
use Rattle.afr_lines.specs.Areas.{kind_for}
use Rattle.afr_model_moves.specs.Honest.{plane_kind}
use Rattle.afr_model_moves.specs.Keeps.{keeps_in}
use Rattle.afr_model_moves.specs.Register.{good, holder}
use Rattle.afr_model_moves.specs.Sets.{any}
use Rattle.afr_model_moves.proofs.Tests.{some_yes}
use Rattle.afr_model_moves.proofs.Changes.{kind_same}
use Rattle.afr_discipline.specs.Stands.{views_of}
use Rattle.afr_discipline.specs.Tests.{suffices_by}
use Rattle.afr_client_transaction.specs.Sound.{HasQuorum, Shown}
use Rattle.afr_client_transaction.proofs.Parts.{answered_by, both}

module _ (shape : Shape) (looked : Looked) (kind : Kind) (few : shape.n ≤ 5) (shown : Shown shape.n looked) where
  pub copies_there : is_most shape.n (holder (views_of looked)) ≡ true → is_majority shape.n (holders_of looked) ≡ true
  copies_there h = most_same shape.n (member (holders_of looked)) (holder (views_of looked)) (λ b l. holders_tell shape.n looked few (answered_by shape.n looked shown) b (omega (arith, few, l))) ∙ h

  pub clean_there : any shape.n (λ s. holder (views_of looked) s && good shape.n (keeps_in shape) kind (views_of looked) s) ≡ true → is_nothing (good_copies shape looked kind) ≡ false
  clean_there h =
      let one = some_yes shape.n (λ s. holder (views_of looked) s && good shape.n (keeps_in shape) kind (views_of looked) s) h in
      some_member (good_copies shape looked kind) one.0 (good_tells shape looked kind few (answered_by shape.n looked shown) one.0 (omega (arith, few, one.1)) ∙ (both (holder (views_of looked) one.0) _ one.2).1)

-- the views of an attempt that may begin
pub quorum_there : (c : Change) (shape : Shape) (looked : Looked) → shape.n ≤ 5 → Shown shape.n looked → is_majority shape.n looked.reached ≡ true
    → suffices_by shape.n (keeps_in shape) (plane_kind c) (views_of looked) (holder (views_of looked)) ≡ true → HasQuorum c shape looked
quorum_there c shape looked few shown reached h =
    let two = both (is_most shape.n (holder (views_of looked))) _ (subst (λ (kind : Kind). suffices_by shape.n (keeps_in shape) kind (views_of looked) (holder (views_of looked)) ≡ true) (kind_same c) h) in
    record { reached = reached; copies = copies_there shape looked (kind_for c) few shown two.0; clean = clean_there shape looked (kind_for c) few shown two.1 }
