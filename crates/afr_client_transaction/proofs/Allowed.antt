-- The next line of a transaction is one that the discipline allows.
use Rattle.std.proofs.Common.{◌≡◌, ℕ, zero, suc, ◌<◌, ◌≤◌, ◌&&◌, ◌||◌, not, ◌==◌, nat_le, nat_lt, Bool, true, false, List, [], ◌∷◌, refl, sym, ◌∙◌, ap, subst, arith, Option, None, Some, if◌then◌else◌}
use Rattle.std.proofs.lemmas.Bool.Decides.{nat_tests}
use Rattle.std.proofs.lemmas.Bool.{or_right}
use Rattle.afr_base.specs.Bricks.{below, lowest, member, minus, is_nothing}
use Rattle.afr_base.specs.Majority.{is_most, is_majority}
use Rattle.afr_base.specs.SetLemmas.{lowest_in, lowest_left, within_below, member_minus, below_all}
use Rattle.afr_base.specs.declared.ids.Kind.{Kind}
use Rattle.afr_object.specs.Tables.{object_of}
use Rattle.afr_object.specs.declared.change.Change.{Change}
use Rattle.afr_object.specs.declared.change.Change.TheVariants as change
use Rattle.afr_choice.specs.Verdict.{holders_of, good_copies}
use Rattle.afr_object.specs.declared.entry.View.{View}
use Rattle.afr_base.specs.declared.ids.Gfid.{Gfid}
use Rattle.afr_base.specs.declared.ids.NameId.{NameId}
use Rattle.afr_base.specs.declared.ids.What.{What}
use Rattle.afr_model_moves.specs.Honest.{plane_kind}
use Rattle.afr_choice.specs.VerdictLemmas.{holders_below}
use Rattle.afr_lines.specs.Areas.{area_for, kind_for}
use Rattle.afr_lines.specs.declared.request.Area.{Area}
use Rattle.afr_lines.specs.declared.request.Area.TheVariants.{Range, Name}
use Rattle.afr_base.specs.Kinds.{same_kind}
use Rattle.afr_base.proofs.TestLemmas.{unless_then, and_swapped}
use Rattle.afr_model_moves.specs.Sets.{any}
use Rattle.afr_model_moves.specs.Rules.{area_object, busy}
use Rattle.afr_lines.specs.declared.line.Next.TheVariants as next
use Rattle.afr_model_moves.specs.Lines.{is_ok}
use Rattle.afr_model_moves.specs.Register.{all, area_kind, asked_in, holder, kind_in, rank, same_step}
use Rattle.afr_discipline.specs.declared.register.Register.{Register}
use Rattle.afr_discipline.specs.declared.register.Step.{Step}
use Rattle.afr_discipline.specs.declared.register.Step.TheVariants as step
use Rattle.afr_discipline.specs.Notes.{asked_at}
use Rattle.afr_model_moves.specs.Keeps.{keeps_in}
use Rattle.afr_model_moves.proofs.AreaLemmas.{own_area}
use Rattle.afr_model_moves.proofs.Tests.{same_self, same_kind_self}
use Rattle.afr_discipline.specs.Stands.{number_of, seen_as, step_of, views_of}
use Rattle.afr_discipline.specs.Tests.{suffices_by, fits_view, lies_in, last_posted, may_end, misses, once, one_of, plane_in, same_flag, may_move_outside}
use Rattle.afr_client_transaction.specs.declared.stage.Stage.{Stage}
use Rattle.afr_client_transaction.specs.declared.stage.Stage.TheVariants.{Locking, Looking, Beginning, Preparing, Applying, Posting, Closing}
use Rattle.afr_client_transaction.specs.Progress.{TransactionProgress, left, next_at, allowed, gfid_at, number_in, numbered, enough, may_start, asks}
use Rattle.afr_client_transaction.specs.Outcome.{reply_for, reply_of}
use Rattle.afr_client_transaction.specs.declared.reply.TransactionOutcome.TheVariants.{Acknowledged, NoQuorum, FewCopies, SplitBrain, Failed}
use Rattle.afr_discipline.specs.Inside.{may_move, may_move_inside}
use Rattle.afr_discipline.specs.declared.register.Move.{Move}
use Rattle.afr_discipline.proofs.Decisions.{same_flag_no}
use Rattle.afr_discipline.specs.declared.register.Move.TheVariants as move
use Rattle.afr_lines.specs.declared.line.Next.{Next}
use Rattle.afr_client_transaction.specs.Laws.{AllowedMoves, AllowedNext, IsMoveOf}
use Rattle.afr_client_transaction.specs.Sound.{IsBase, Suits, HasBegun, During, Ready}
use Rattle.afr_client_transaction.proofs.Parts.{pair, deny, lt_test, any_nothing, holder_shows, any_member}

object_named : (c : Change) → area_object (area_for c) ≡ (object_of c).0
object_named (change.Write g at bytes) = refl
object_named (change.Cut g len) = refl
object_named (change.SetAttr g key value) = refl
object_named (change.Make dir name g what) = refl
object_named (change.Remove dir name what) = refl

-- the object and kind of a change are those of its area
pub on_plane : (c : Change) (of : Option Area) → Suits c → of ≡ Some (area_for c) → plane_in of (object_of c).0 (kind_for c) ≡ true
on_plane c of k e =
    subst (λ (o : Option Area). plane_in o (object_of c).0 (kind_for c) ≡ true) (sym e)
    (pair ((object_of c).0 == area_object (area_for c)) (same_kind (kind_for c) (area_kind (area_for c))) (rw (object_named c) (same_self (object_of c).0)) (rw k.kind (same_kind_self (kind_for c))))

-- the bricks that were asked in a step
asked_same : (r : Register) (s : Step) (b : ℕ) → asked_in (seen_as r) (step_of s) b ≡ member (asked_at r s) b
asked_same r s b = go (same_step (step_of r.step) (step_of s))
  where
    go : (x : Bool) → (if x then member r.asked else (λ c. false)) b ≡ member (if x then r.asked else []) b
    go true = refl
    go false = refl

pub once_is : (most : ℕ) (c : Change) (r : Register) (s : Step) (b : ℕ) → HasBegun most c r → most ≡ rank (step_of s) → member (asked_at r s) b ≡ false → once (seen_as r) (step_of s) b ≡ true
once_is most c r s b k e new =
    pair _ _ (pair _ _ low (deny _ (asked_same r s b ∙ new))) (deny _ k.open_still)
  where
    low : nat_le (rank (step_of r.step)) (rank (step_of s)) ≡ true
    low = let o = k.order in grind (arith, nat_tests, o, e)

pub some_number : (q : ℕ) (o : Option ℕ) → o ≡ Some q → (not (number_of o == 0) ≡ true) × ((number_of o == suc (number_in o)) ≡ true)
some_number q None e = absurd (cc e)
some_number q (Some x) e = (grind (arith, nat_tests), same_self (suc x))

-- the missed bricks are the others
pub others_missed : (n : ℕ) (done : List ℕ) → n ≤ 5 → misses n (member done) (minus (below n) done) ≡ true
others_missed n done few = pair _ _ (none_past (minus (below n) done) (λ b m. inside b m)) (each 5 (omega arith))
  where
    inside : (b : ℕ) → member (minus (below n) done) b ≡ true → b < 5
    inside b m = let l : b < n = within_below n b (unless_then (member done b) (member (below n) b) (sym (member_minus (below n) done b) ∙ m)) in omega (arith, l, few)

    none_past : (s : List ℕ) → ((b : ℕ) → member s b ≡ true → b < 5) → is_nothing (minus s (below 5)) ≡ true
    none_past [] h = refl
    none_past (x ∷ xs) h =
        let here : member (below 5) x ≡ true = below_all 5 x (omega arith) (h x (rw (same_self x) refl)) in
        rw here (none_past xs (λ b m. h b (or_right (x == b) (member xs b) m)))

    in_below : (c : ℕ) → member (below n) c ≡ nat_lt c n
    in_below c = go (nat_lt c n) refl (member (below n) c) refl
      where
        go : (x : Bool) → nat_lt c n ≡ x → (y : Bool) → member (below n) c ≡ y → y ≡ x
        go true e true f = refl
        go true e false f = sym f ∙ below_all n c few (let l : c < n = grind (arith, nat_tests, e) in l)
        go false e true f = let l : c < n = within_below n c f in absurd (grind (arith, nat_tests, e, l))
        go false e false f = refl

    each : (k : ℕ) → k ≤ 5 → all k (λ c. same_flag (member (minus (below n) done) c) (nat_lt c n && not (member done c))) ≡ true
    each zero l = refl
    each (suc k) l = pair _ _ (same_flag_no _ _ (member_minus (below n) done k ∙ rw (in_below k) (and_swapped (not (member done k)) (nat_lt k n)))) (each k (omega (arith, l)))

-- ---- the number of a new object plays no part in the test of a Begin
module _ (dir : Gfid) (name : NameId) (one other : Gfid) (what : What) where
  same_place : (of : Option Area) → lies_in of (change.Make dir name one what) ≡ lies_in of (change.Make dir name other what)
  same_place None = refl
  same_place (Some (Range g from to)) = refl
  same_place (Some (Name g n)) = refl

  same_fit : (view : Option View) → fits_view view (change.Make dir name one what) ≡ fits_view view (change.Make dir name other what)
  same_fit None = refl
  same_fit (Some view) = refl

  same_fits : (k : ℕ) (views : ℕ → Option View) → all k (λ x. fits_view (views x) (change.Make dir name one what)) ≡ all k (λ x. fits_view (views x) (change.Make dir name other what))
  same_fits zero views = refl
  same_fits (suc k) views =
      ap (λ (x : Bool). x && all k (λ x. fits_view (views x) (change.Make dir name one what))) (same_fit (views k))
      ∙ ap (λ (x : Bool). fits_view (views k) (change.Make dir name other what) && x) (same_fits k views)

  same_start : (r : Register) → may_start r (change.Make dir name other what) ≡ true → may_start r (change.Make dir name one what) ≡ true
  same_start r h =
      subst (λ (x : Bool). whole x (all r.shape.n (λ x. fits_view ((seen_as r).views x) (change.Make dir name one what))) ≡ true) (sym (same_place (seen_as r).law.area))
      (subst (λ (y : Bool). whole (lies_in (seen_as r).law.area (change.Make dir name other what)) y ≡ true) (sym (same_fits r.shape.n (seen_as r).views)) h)
    where
      whole : Bool → Bool → Bool
      whole x y =
          ((seen_as r).law.number == 0) && not (seen_as r).unlocked && x && true && y && is_most r.shape.n (seen_as r).reached
          && suffices_by r.shape.n (keeps_in r.shape) (plane_kind (change.Make dir name other what)) (seen_as r).views (holder (seen_as r).views)

numbered_may : (at : ℕ) (r : Register) (c : Change) → may_start r c ≡ true → may_start r (numbered at c) ≡ true
numbered_may at r (change.Write g start bytes) h = h
numbered_may at r (change.Cut g len) h = h
numbered_may at r (change.SetAttr g key value) h = h
numbered_may at r (change.Make dir name g what) h = same_start dir name (gfid_at at g) g what r h
numbered_may at r (change.Remove dir name what) h = h

-- ---- each stage
module _ (m : TransactionProgress) (suits : Suits m.change) (base : IsBase m.change m.register) (at : ℕ) where
  abbrev r : Register
  r = m.register

  abbrev n : ℕ
  n = r.shape.n

  lock_allowed : During Locking m → Ready Locking m → allowed r (next_at Locking at m) ≡ true
  lock_allowed k ready = pair _ _ (lt_test _ _ small) (pair _ _ suits.valid (by_busy (busy n (seen_as r).law) refl))
    where
      small : lowest (left Locking m) < n
      small = within_below n _ (lowest_left (below n) m.asked.lock_asked ready).1

      first : (o : Option ℕ) → o ≡ None → (number_of o == 0) ≡ true
      first None e = refl
      first (Some q) e = absurd (cc e)

      held_some : (x y : Bool) → y ≡ false → (x || y) ≡ true → x ≡ true
      held_some true y e h = refl
      held_some false y e h = absurd (cc (e, h))

      by_busy : (x : Bool) → busy n (seen_as r).law ≡ x → (if x then not r.unlocked && one_of (seen_as r).law (area_for m.change) else last_posted n (seen_as r).law) ≡ true
      by_busy true e =
          let none : any n (member r.second_held) ≡ false = subst (λ (s : List ℕ). any n (member s) ≡ false) (sym base.none_second) (any_nothing n) in
          let some : is_nothing r.held ≡ false = any_member n r.held (held_some (any n (member r.held)) (any n (member r.second_held)) none e) in
          pair _ _ (deny _ k.0.open_still) (rw (own_area r.area (area_for m.change) (base.of_held some)) refl)
      by_busy false e = rw (first r.begun k.0.first) refl

  look_allowed : During Looking m → Ready Looking m → allowed r (next_at Looking at m) ≡ true
  look_allowed k ready = pair _ _ (lt_test _ _ (k.within _ (lowest_left m.asked.locked_on m.asked.looked_at ready).1)) refl

  pre_allowed : During Preparing m → Ready Preparing m → allowed r (next_at Preparing at m) ≡ true
  pre_allowed k ready =
      let asked = lowest_left (holders_of r.looked) (asked_at r step.Pres) ready in
      let shows = holder_shows _ r.looked asked.1 (holders_below r.looked _ asked.1) in
      pair _ _ (lt_test _ _ (base.shown.reached _ shows.1))
      (pair _ _ (pair _ _ (pair _ _ (some_number k.number r.begun k.is_begun).0 (on_plane m.change r.area suits k.named)) shows.0) (once_is 2 m.change r step.Pres _ k refl asked.0))

  kind_named : r.area ≡ Some (area_for m.change) → (s : List ℕ) → enough r (kind_for m.change) s ≡ true → suffices_by n (keeps_in r.shape) (kind_in r.area) (views_of r.looked) (member s) ≡ true
  kind_named e s h =
      let kind : kind_in r.area ≡ kind_for m.change = ap kind_in e ∙ suits.kind in
      subst (λ (k : Kind). suffices_by n (keeps_in r.shape) k (views_of r.looked) (member s) ≡ true) (sym kind) h

  apply_allowed : During Applying m → Ready Applying m → allowed r (next_at Applying at m) ≡ true
  apply_allowed k ready =
      let asked = lowest_left r.pre (asked_at r step.Applies) ready in
      pair _ _ (lt_test _ _ (base.pre_within _ asked.1))
      (pair _ _ (pair _ _ (pair _ _ (some_number k.0.number r.begun k.0.is_begun).1 asked.1) (kind_named k.0.named r.pre k.1)) (once_is 3 m.change r step.Applies _ k.0 refl asked.0))

  post_allowed : During Posting m → Ready Posting m → allowed r (next_at Posting at m) ≡ true
  post_allowed k ready =
      let asked = lowest_left r.done (asked_at r step.Posts) ready in
      pair _ _ (lt_test _ _ (base.done_within _ asked.1))
      (pair _ _ (pair _ _ (pair _ _ (pair _ _ (pair _ _ (some_number k.0.number r.begun k.0.is_begun).1 (on_plane m.change r.area suits k.0.named)) asked.1) k.1) (once_is 4 m.change r step.Posts _ k.0 refl asked.0))
      (others_missed n r.done base.few))

  -- nothing is held at the end, and an ok is one of a majority
  pub end_allowed : is_nothing r.held ≡ true → may_end n (seen_as r) (is_ok (reply_of m.change r)) ≡ true
  end_allowed h = pair _ _ (pair _ _ (deny _ free) (deny _ (subst (λ (s : List ℕ). any n (member s) ≡ false) (sym base.none_healing) (any_nothing n)))) (either_way (is_majority n r.looked.reached) (is_majority n (holders_of r.looked)) (is_nothing (good_copies r.shape r.looked (kind_for m.change))) (is_majority n r.post) (number_of r.begun == 0) r.looked.views)
    where
      none : (s : List ℕ) → is_nothing s ≡ true → any n (member s) ≡ false
      none [] h = any_nothing n
      none (x ∷ xs) h = absurd (cc h)

      neither : (x y : Bool) → x ≡ false → y ≡ false → (x || y) ≡ false
      neither true y e f = absurd (cc e)
      neither false y e f = f

      free : busy n (seen_as r).law ≡ false
      free = neither _ _ (none r.held h) (subst (λ (s : List ℕ). any n (member s) ≡ false) (sym base.none_second) (any_nothing n))

      either_way : (reached copies split most first : Bool) (views : List (Option View))
          → (not (is_ok (reply_for (if not reached then NoQuorum else (if not copies then FewCopies else (if split then SplitBrain views else (if most then Acknowledged else Failed)))))) || (first || most)) ≡ true
      either_way false copies split most first views = refl
      either_way true false split most first views = refl
      either_way true true true most first views = refl
      either_way true true false true true views = refl
      either_way true true false true false views = refl
      either_way true true false false first views = refl

  close_allowed : allowed r (next_at Closing at m) ≡ true
  close_allowed = go (is_nothing r.held) refl
    where
      go : (x : Bool) → is_nothing r.held ≡ x → allowed r (if x then next.End (reply_of m.change r) else asks Closing m) ≡ true
      go true e = end_allowed e
      go false e = pair _ _ (lt_test _ _ (base.held_within _ (lowest_in r.held e))) refl

  pub allowed_at : (stage : Stage) → During stage m → Ready stage m → allowed r (next_at stage at m) ≡ true
  allowed_at Locking k ready = lock_allowed k ready
  allowed_at Looking k ready = look_allowed k ready
  allowed_at Beginning k ready = numbered_may at r m.change k.1
  allowed_at Preparing k ready = pre_allowed k ready
  allowed_at Applying k ready = apply_allowed k ready
  allowed_at Posting k ready = post_allowed k ready
  allowed_at Closing k ready = close_allowed

-- whatever the bricks have answered so far, the next line is allowed
pub allowed_next : AllowedNext
allowed_next m s at = allowed_at m s.suits s.base at m.stage s.during s.ready

-- outside a heal an allowed line is one that the test of a move passes
pub moves_of : (r : Register) (line : Next) (step : Move) → r.inside ≡ false → allowed r line ≡ true → IsMoveOf line step → may_move r.shape.n (keeps_in r.shape) (seen_as r) step ≡ true
moves_of r line step outside h is = pick r.inside (may_move_inside r.shape.n (keeps_in r.shape) (seen_as r) step) (may_move_outside r.shape.n (keeps_in r.shape) (seen_as r) step) outside (by line step h is)
  where
    pick : (x p q : Bool) → x ≡ false → q ≡ true → (if x then p else q) ≡ true
    pick true p q e f = absurd (cc e)
    pick false p q e f = f

    by : (line : Next) (step : Move) → allowed r line ≡ true → IsMoveOf line step → may_move_outside r.shape.n (keeps_in r.shape) (seen_as r) step ≡ true
    by (next.Ask b request) (move.Ask c asked) h e = rw (e.0, e.1) h
    by (next.Ask b request) (move.Begin change) h e = absurd e
    by (next.Ask b request) (move.HealBegin g kind) h e = absurd e
    by (next.Ask b request) (move.End ok) h e = absurd e
    by (next.Begin change) (move.Ask c asked) h e = absurd e
    by (next.Begin change) (move.Begin begun) h e = rw e h
    by (next.Begin change) (move.HealBegin g kind) h e = absurd e
    by (next.Begin change) (move.End ok) h e = absurd e
    by (next.HealBegin g kind) step h e = absurd (cc h)
    by (next.End said) (move.Ask c asked) h e = absurd e
    by (next.End said) (move.Begin change) h e = absurd e
    by (next.End said) (move.HealBegin g kind) h e = absurd e
    by (next.End said) (move.End ok) h e = rw e h
    by (next.HealEnd g kind said) step h e = absurd (cc h)

-- the test of a move passes the next line
pub allowed_moves : AllowedMoves
allowed_moves m s at step is = moves_of m.register (next_at m.stage at m) step s.base.outside (allowed_next m s at) is
