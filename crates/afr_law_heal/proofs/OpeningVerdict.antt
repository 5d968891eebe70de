-- A heal that its first looks end has its reply by what they show.
use Rattle.std.proofs.Common.{◌≡◌, ℕ, ◌<◌, ◌≤◌, ◌==◌, ◌&&◌, ◌||◌, not, Bool, true, false, List, [], ◌∷◌, Option, Some, None, length, is_some, refl, sym, ◌∙◌, ap, subst, arith, if◌then◌else◌}
use Rattle.std.proofs.lemmas.Bool.Decides.{nat_tests}
use Rattle.std.specs.List.{list_all}
use Rattle.std.proofs.lemmas.Bool.{or_right}
use Rattle.afr_base.specs.Bricks.{below, lowest, member, minus, is_nothing}
use Rattle.afr_base.specs.Majority.{is_majority}
use Rattle.afr_base.specs.Marks.{is_zero_marks, marks_of}
use Rattle.afr_base.specs.SetLemmas.{lowest_in}
use Rattle.afr_base.specs.declared.ids.ActorId.{ActorId}
use Rattle.afr_base.specs.declared.ids.Gfid.{Gfid}
use Rattle.afr_base.specs.declared.ids.Kind.{Kind}
use Rattle.afr_base.specs.declared.ids.Kind.TheVariants.{Attrs, Bytes, Names}
use Rattle.afr_base.specs.declared.ids.Shape.{Shape}
use Rattle.afr_choice.proofs.Agreement.{IsAnswered, good_low, good_tells, holders_tell}
use Rattle.afr_choice.specs.Looks.{view_at}
use Rattle.afr_choice.specs.Verdict.{good_copies, holders_of}
use Rattle.afr_choice.specs.VerdictLemmas.{good_below, holders_below, member_holders}
use Rattle.afr_choice.specs.declared.looked.Looked.{Looked}
use Rattle.afr_discipline.specs.Turns.{candidate}
use Rattle.afr_heal.proofs.Finding.{over_asked}
use Rattle.afr_heal.proofs.Parts.{both, not_both, pair}
use Rattle.afr_law_heal.proofs.OpeningParts.{left_most, most_more}
use Rattle.afr_law_heal.specs.Stages.{IsReached, TellsLooks, ViewsAreWhole}
use Rattle.afr_lines.specs.Work.{Work}
use Rattle.afr_lines.specs.declared.reply.HealReply.{HealReply}
use Rattle.afr_lines.specs.declared.reply.HealReply.TheVariants as healed
use Rattle.afr_model.specs.Healing.{First, busy_by, first_by, marks_in, whole_of}
use Rattle.afr_model.specs.HealReplies.{IsHealAnswered, by_first, by_owner, is_clean, or_else}
use Rattle.afr_model.specs.Showing.{among}
use Rattle.afr_model.specs.Standing.{getting}
use Rattle.afr_model_moves.proofs.Tests.{some_no}
use Rattle.afr_model_moves.specs.Keeps.{keeps_in}
use Rattle.afr_model_moves.specs.Ranges.{MarksInRange}
use Rattle.afr_model_moves.specs.Register.{Exact, HealPart, Opening, good, has_number, holder, over, shows_number}
use Rattle.afr_model_moves.specs.Sets.{any}
use Rattle.afr_model_moves.specs.Steps.{goes_on_at}
use Rattle.afr_object.specs.declared.entry.View.{View}
use Rattle.afr_heal_machine.specs.Outcome.{by_looks, reply_of}
use Rattle.afr_heal_machine.specs.declared.outcome.HealOutcome.TheVariants.{Nothing, Short, Split}

-- ---- views and numbers
-- a brick that fails a test that not all pass
some_fails : (p : ℕ → Bool) (s : List ℕ) → list_all p s ≡ false → (x : ℕ) × (member s x ≡ true) × (p x ≡ false)
some_fails p [] h = absurd (cc h)
some_fails p (y ∷ ys) h = go (p y) refl h (some_fails p ys)
  where
    go : (f : Bool) → p y ≡ f → (f && list_all p ys) ≡ false → (list_all p ys ≡ false → (x : ℕ) × (member ys x ≡ true) × (p x ≡ false)) → (x : ℕ) × (member (y ∷ ys) x ≡ true) × (p x ≡ false)
    go false e h rest = (y, (let same : (y == y) ≡ true = grind (arith, nat_tests) in rw same refl), e)
    go true e h rest = let one = rest h in (one.0, or_right (y == one.0) (member ys one.0) one.1, one.2)

-- numbers that aren't all zero have one above zero
some_number : (dirty : ℕ) (pending : List ℕ) → length pending ≡ 5 → is_zero_marks (record { dirty = dirty; pending = pending }) ≡ false → has_number (record { dirty = dirty; pending = pending }) ≡ true
some_number d (p0 ∷ p1 ∷ p2 ∷ p3 ∷ p4 ∷ []) five h = go (d == 0) (p0 == 0) (p1 == 0) (p2 == 0) (p3 == 0) (p4 == 0) h
  where
    go : (x a b c d e : Bool) → (x && (a && (b && (c && (d && (e && true)))))) ≡ false → (not x || (not e || (not d || (not c || (not b || (not a || false)))))) ≡ true
    go false a b c d e h = refl
    go true a b c d false h = refl
    go true a b c false true h = refl
    go true a b false true true h = refl
    go true a false true true true h = refl
    go true false true true true true h = refl
    go true true true true true true h = absurd (cc h)
some_number d [] five h = absurd (cc five)
some_number d (a ∷ []) five h = absurd (cc five)
some_number d (a ∷ b ∷ []) five h = absurd (cc five)
some_number d (a ∷ b ∷ c ∷ []) five h = absurd (cc five)
some_number d (a ∷ b ∷ c ∷ e ∷ []) five h = absurd (cc five)
some_number d (a ∷ b ∷ c ∷ e ∷ f ∷ k ∷ more) five h = absurd (omega (arith, five))

-- looks whose views are of bricks below n that answered
module _ (shape : Shape) (kind : Kind) (seen : Looked) (few : shape.n ≤ 5) (low : (x : ℕ) → member seen.reached x ≡ true → x < shape.n) (shown : IsReached seen)
    (numbers : ViewsAreWhole seen) where
  abbrev views : ℕ → Option View
  views x = view_at x seen

  -- a holder has a view
  pub holder_seen : (b : ℕ) → member (holders_of seen) b ≡ true → (member seen.reached b ≡ true) × (is_some (view_at b seen) ≡ true)
  holder_seen b m = both (member seen.reached b) (is_some (view_at b seen)) (sym (member_holders seen b (holders_below seen b m)) ∙ m)

  answered : IsAnswered shape.n seen
  answered = record { low = low; shown = shown }

  pub holds : (b : ℕ) → member (holders_of seen) b ≡ true → holder views b ≡ true
  holds b m = sym (holders_tell shape.n seen few answered b (holders_below seen b m)) ∙ m

  -- a good copy is good by the discipline's test
  pub good_seen : (s : ℕ) → member (good_copies shape seen kind) s ≡ true → (s < shape.n) × (good shape.n (keeps_in shape) kind views s ≡ true)
  good_seen s m = (good_low shape seen kind answered s m, sym (good_tells shape seen kind few answered s (good_below shape seen kind s m)) ∙ m)

  -- where not all is clean, a view shows a number
  pub number_seen : is_clean kind seen ≡ false → any shape.n (λ x. shows_number kind (views x)) ≡ true
  number_seen h =
      let one = some_fails (λ b. is_zero_marks (marks_in kind (view_at b seen))) (holders_of seen) h in
      let held = holder_seen one.0 one.1 in
      some_no shape.n (λ x. shows_number kind (views x)) one.0 (low one.0 held.0) (by one.0 (view_at one.0 seen) refl held.1 one.2)
    where
      in_kind : (kind : Kind) (view : View) → MarksInRange view.marks.bytes × MarksInRange view.marks.attrs × MarksInRange view.marks.names → is_zero_marks (marks_of kind view.marks) ≡ false → has_number (marks_of kind view.marks) ≡ true
      in_kind Bytes view k h = some_number view.marks.bytes.dirty view.marks.bytes.pending k.0.1 h
      in_kind Attrs view k h = some_number view.marks.attrs.dirty view.marks.attrs.pending k.1.1 h
      in_kind Names view k h = some_number view.marks.names.dirty view.marks.names.pending k.2.1 h

      by : (b : ℕ) (v : Option View) → view_at b seen ≡ v → is_some v ≡ true → is_zero_marks (marks_in kind (view_at b seen)) ≡ false → shows_number kind (view_at b seen) ≡ true
      by b None e some h = absurd (cc some)
      by b (Some view) e some h =
          let nonzero : is_zero_marks (marks_of kind view.marks) ≡ false = subst (λ (v : Option View). is_zero_marks (marks_in kind v) ≡ false) e h in
          subst (λ (v : Option View). shows_number kind v ≡ true) (sym e) (in_kind kind view (numbers b view e) nonzero)

-- the reply by the lines is that of the first looks
module _ (shape : Shape) (g : Gfid) (kind : Kind) (q : Exact) (seen : Looked) (w : Work) (few : shape.n ≤ 5) (t : TellsLooks shape q seen g kind w) (reached : q.first_reached ≡ member seen.reached) (views : q.first_views ≡ (λ x. view_at x seen))
    (is_kind : q.law.kind ≡ kind) (opening : q.part ≡ Opening) (all_asked : over shape.n q.law.held q.asked ≡ true) (every : (x : ℕ) → x < shape.n → q.possible x ≡ true)
    (stops : any shape.n (candidate shape.n (keeps_in shape) q) ≡ false) where
  missing_is : (x : ℕ) → x < shape.n → member (first_by w).missing x ≡ not (member seen.reached x)
  missing_is x l = t.missing x l ∙ go (member seen.reached x) (q.law.held x) (q.asked x) (over_asked shape.n q.law.held q.asked all_asked x l)
    where
      go : (m h a : Bool) → (h ≡ true → a ≡ true) → not (m || (h && not a)) ≡ not m
      go true h a e = refl
      go false true true e = refl
      go false true false e = absurd (cc (e refl))
      go false false a e = refl

  answered_most : is_majority shape.n (minus (below shape.n) (first_by w).missing) ≡ is_majority shape.n seen.reached
  answered_most = left_most shape.n (first_by w).missing (member seen.reached) few missing_is

  -- enough bricks, a number and a good copy: the heal would go on
  no_good : is_majority shape.n seen.reached ≡ true → is_majority shape.n (holders_of seen) ≡ true → is_clean kind seen ≡ false → is_nothing (good_copies shape seen kind) ≡ true
  no_good most held dirty = go (is_nothing (good_copies shape seen kind)) refl
    where
      go : (f : Bool) → is_nothing (good_copies shape seen kind) ≡ f → f ≡ true
      go true e = refl
      go false e =
          let one = good_seen shape kind seen few t.low t.shown t.numbers (lowest (good_copies shape seen kind)) (lowest_in (good_copies shape seen kind) e) in
          absurd (not_both (any shape.n (candidate shape.n (keeps_in shape) q)) (some_no shape.n (candidate shape.n (keeps_in shape) q) (lowest (good_copies shape seen kind)) one.0 (pair _ _ (every _ one.0) (pair _ _ (is_good one.1) onward))) stops)
        where
          is_good : good shape.n (keeps_in shape) kind (λ x. view_at x seen) (lowest (good_copies shape seen kind)) ≡ true → good shape.n (keeps_in shape) q.law.kind q.first_views (lowest (good_copies shape seen kind)) ≡ true
          is_good h = rw (is_kind, views) h

          by_opening : goes_on_at shape.n (keeps_in shape) q (lowest (good_copies shape seen kind)) Opening ≡ true
          by_opening = rw (reached, views, is_kind) (pair _ _ (pair _ _ most (most_more shape.n (member (holders_of seen)) (holder (λ x. view_at x seen)) (λ x l m. holds shape kind seen few t.low t.shown t.numbers x m) held))
              (number_seen shape kind seen few t.low t.shown t.numbers dirty))

          onward : goes_on_at shape.n (keeps_in shape) q (lowest (good_copies shape seen kind)) q.part ≡ true
          onward = subst (λ (part : HealPart). goes_on_at shape.n (keeps_in shape) q (lowest (good_copies shape seen kind)) part ≡ true) (sym opening) by_opening

  first_says : by_first shape kind (first_by w) ≡ Some (reply_of (by_looks shape kind seen) seen)
  first_says = rw (ap (λ (z : First). z.looked) t.first, answered_most) (go (is_majority shape.n seen.reached) (is_majority shape.n (holders_of seen)) (is_clean kind seen) (is_nothing (good_copies shape seen kind)) no_good)
    where
      go : (a b c d : Bool) → (a ≡ true → b ≡ true → c ≡ false → d ≡ true)
          → (if not a then Some healed.Short else (if not b then Some healed.Short else (if c then Some healed.Nothing else (if d then Some (healed.Split seen.views) else None)))) ≡ Some (reply_of (if not (a && b) then Short else (if c then Nothing else Split)) seen)
      go false b c d h = refl
      go true false c d h = refl
      go true true true d h = refl
      go true true false true h = refl
      go true true false false h = absurd (cc (h refl refl refl))

  -- the first looks end the heal
  pub ended_by_looks : IsHealAnswered shape g kind w (reply_of (by_looks shape kind seen) seen)
  ended_by_looks = record {
    caused = go (busy_by w) (by_first shape kind (first_by w)) _ t.free first_says;
    failed = λ h. absurd (never (is_majority shape.n seen.reached && is_majority shape.n (holders_of seen)) (is_clean kind seen) h);
    asked = λ free. record { locked = t.asked; worked = λ most b m. t.worked b m; looked = λ most b m. watched b m };
  }
    where
      go : (busy : Option ActorId) (first rest : Option HealReply) → busy ≡ None → first ≡ Some (reply_of (by_looks shape kind seen) seen) → or_else (by_owner busy) (or_else first rest) ≡ Some (reply_of (by_looks shape kind seen) seen)
      go None (Some r) rest e f = f
      go None None rest e f = absurd (cc f)
      go (Some x) first rest e f = absurd (cc e)

      never : (e c : Bool) → reply_of (if not e then Short else (if c then Nothing else Split)) seen ≡ healed.Failed → ⊥
      never false c h = cc h
      never true true h = cc h
      never true false h = cc h

      watched : (b : ℕ) → member (among (getting (whole_of g kind)) w) b ≡ true → (member (first_by w).looked.reached b || member (first_by w).missing b) ≡ true
      watched b m = rw (ap (λ (z : First). z.looked) t.first, missing_is b (t.locked b m).0) (one (member seen.reached b))
        where
          one : (f : Bool) → (f || not f) ≡ true
          one true = refl
          one false = refl
